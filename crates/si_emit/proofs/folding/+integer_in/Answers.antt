use Rattle.std.proofs.Common.{sym, ap, ◌∙◌}
use Rattle.si_syntax.specs.Trees.{expr_of}
use Rattle.si_slots.specs.Code.{folded}
use Rattle.si_emit.specs.inner.Foldings.{between_of, integer_of, signed_of}
use Rattle.si_emit.proofs.Emitted.{unary_is, binary_is}
use Rattle.si_emit.proofs.Foldings.{unary_of, binary_of}
use Rattle.si_emit.proofs.folding.+integer_in.Goals as goal

pub returns-in-Unary : goal.returns-in-Unary
returns-in-Unary t c =
    let o = c.in-Unary.operator in
    let a = c.in-Unary.operand in
    c.integer_before.ensures ∙ ap (signed_of o) (c.integer_in.ensures ∙ ap (λ e. integer_of (folded (expr_of e))) c.deref.ensures) ∙ sym (unary_of o (folded (expr_of a.value)))
    ∙ sym (ap (λ z. integer_of (folded z)) (ap expr_of c.in-Unary.is ∙ unary_is o a))

pub returns-in-Binary : goal.returns-in-Binary
returns-in-Binary t c =
    let o = c.in-Binary.operator in
    let a = c.in-Binary.left in
    let b = c.in-Binary.right in
    c.integer_between.ensures ∙ ap (λ m. between_of o m c.integer_in-in-Binary-2.result) (c.integer_in-in-Binary.ensures ∙ ap (λ e. integer_of (folded (expr_of e))) c.deref-in-Binary.ensures)
    ∙ ap (between_of o (integer_of (folded (expr_of a.value)))) (c.integer_in-in-Binary-2.ensures ∙ ap (λ e. integer_of (folded (expr_of e))) c.deref-in-Binary-2.ensures)
    ∙ sym (binary_of o (folded (expr_of a.value)) (folded (expr_of b.value)))
    ∙ sym (ap (λ z. integer_of (folded z)) (ap expr_of c.in-Binary.is ∙ binary_is o a b))
