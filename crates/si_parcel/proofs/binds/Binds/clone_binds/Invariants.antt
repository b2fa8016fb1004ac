use Rattle.std.proofs.Common.{◌≡◌, take}
use Rattle.si_parcel.proofs.binds.Binds.clone_binds.Given as goal

abbrev pub invariant-pairs : goal.invariant-pairs
invariant-pairs l = l.pairs.items ≡ take l.name-index l.name-items
