use Rattle.std.proofs.Common.{◌≡◌, take}
use Rattle.si_parcel.proofs.parcel.Parcel.+same.Given as goal

abbrev pub decreases-same : goal.decreases-same
decreases-same l = goal.size-same l

abbrev pub invariant-items : goal.invariant-items
invariant-items l = take l.i l.parts ≡ take l.i l.others
