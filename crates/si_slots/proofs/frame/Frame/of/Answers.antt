use Rattle.std.proofs.Common.{◌≡◌, [], ◌∷◌, ◌++◌, Some, map, take, slice_get, sym, ap, ◌∙◌}
use Rattle.std.specs.Prelude.{string_bytes}
use Rattle.std.proofs.lemmas.List.{map-append}
use Rattle.si_slots.proofs.Taken.{take_get}
use Rattle.si_slots.proofs.frame.Frame.of.Goals as goal

pub loop-slot-preserved : goal.loop-slot-preserved
loop-slot-preserved c =
    let here : slice_get c.args.names.now c.loop-slot.slot ≡ Some c.in-Some.name.now = sym c.in-Some.ensures in
    ap (map string_bytes) c.in_ok-push.ensures.items
    ∙ map-append string_bytes c.loop-slot.copies.items (c.in_ok-from_str.field-0 ∷ [])
    ∙ ap (λ l. l ++ string_bytes c.in_ok-from_str.field-0 ∷ []) c.loop-slot.invariant
    ∙ ap (λ x. take c.loop-slot.slot c.args.names.now ++ x ∷ []) c.in_ok-from_str.ensures.ok
    ∙ sym (take_get c.args.names.now c.loop-slot.slot c.in-Some.name.now here)
