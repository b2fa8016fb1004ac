use Rattle.std.proofs.Common.{◌≡◌, ◌++◌, encode_utf8_all, ap, ◌∙◌, subst, refl, List, ℕ, OnOk, string_bytes, length, arith}
use Rattle.si_semantics.specs.Parcels.{Tree, shown, tuple_of}
use Rattle.si_parcel.proofs.Shows.{item_written, items_written, tuple_written}
use Rattle.si_parcel.proofs.parcel.Parcel.+show_into.Goals as goal

pub items-preserved : goal.items-preserved
items-preserved t c =
    item_written c.as_slice-parts.result.now c.items.at c.index-parts-at.result _ _ _ (omega arith) c.index-parts-at.is c.items.invariant
    (c.in_ok-show_into-in-Tuple.ensures ∙ ap (λ y. y ++ encode_utf8_all (shown c.index-parts-at.result)) c.in_ok-separate-in-Tuple.ensures)

pub returns-after-items : goal.returns-after-items
returns-after-items t c =
    let P : List ℕ → Type 0 = λ bs. OnOk c.close.result (string_bytes c.close.new.out ≡ bs) in
    let parts : List Tree = c.as_slice-parts.result.now in
    let all = items_written parts c.items.at (string_bytes c.items.out) _ (omega arith) c.items.invariant in
    let e = tuple_written parts (string_bytes c.args.out.now) _ (string_bytes c.items.out) _ (length parts) refl c.in_ok-push_str-in-Tuple.ensures.bytes all refl in
    let lies : parts ≡ c.in-Tuple.items.value.items = cc in
    let tree : tuple_of parts ≡ c.args.self.now = ap tuple_of lies ∙ (rw c.in-Tuple.is at c.self.view_is) in
    subst P (e ∙ ap (λ v. string_bytes c.args.out.now ++ encode_utf8_all (shown v)) tree) c.close.ensures
