use Rattle.std.proofs.Common.{◌≡◌, take}
use Rattle.si_parcel.proofs.parcel.Parcel.+clone_tree.Given as goal

abbrev pub invariant-copies : goal.invariant-copies
invariant-copies l = l.copies.items ≡ take l.item-index l.item-items
