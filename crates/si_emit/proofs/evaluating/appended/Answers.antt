use Rattle.std.proofs.Common.{◌≡◌, None, ap, length, map, string_bytes, ◌∙◌, arith}
use Rattle.std.specs.Option.{option_map}
use Rattle.si_syntax.specs.Trees.{expr_of}
use Rattle.si_slots.specs.Code.{append_in_place}
use Rattle.si_emit.proofs.Appended.{not_one}
use Rattle.si_emit.proofs.Emitted.{call_is}
use Rattle.si_emit.proofs.evaluating.appended.Goals as goal

pub returns-in_err-item-in-Call : goal.returns-in_err-item-in-Call
returns-in_err-item-in-Call c =
    let call = c.in-Call in
    let none : c.from_residual.result ≡ None = grind (arith, c.from_residual.ensures) in
    rw none
    (λ ls.
    ap (λ v. append_in_place ls (expr_of v)) call.is
    ∙ ap (append_in_place ls) (call_is call.object call.names call.arguments)
    ∙ not_one ls (expr_of call.object.value) (option_map string_bytes call.names.value.attribute) call.arguments.items (map string_bytes call.names.value.arguments.items)
    (λ e. c.in_err-item-in-Call.ensures (ap length c.deref-in-Call.ensures.value ∙ e)))
