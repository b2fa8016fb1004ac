use Rattle.std.proofs.Common.{◌≡◌, ◌++◌, drop, string_bytes, encode_utf8_all}
use Rattle.si_semantics.specs.Parcels.{trees_of, shown_items}
use Rattle.si_parcel.proofs.parcel.Parcel.+show_into.Given as goal

abbrev pub invariant-items : goal.invariant-items
invariant-items l =
    string_bytes l.out ++ encode_utf8_all (shown_items l.at (trees_of (drop l.at l.parts))) ≡ string_bytes l.initial.out ++ encode_utf8_all (shown_items 0 (trees_of l.parts))
