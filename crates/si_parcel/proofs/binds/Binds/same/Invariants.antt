use Rattle.std.proofs.Common.{◌≡◌, take}
use Rattle.si_parcel.proofs.binds.Binds.same.Given as goal

abbrev pub invariant-pairs : goal.invariant-pairs
invariant-pairs l = take l.i l.pairs ≡ take l.i l.others
