use Rattle.std.proofs.Common.{◌≡◌, None, sym, ap, ◌∙◌, arith}
use Rattle.std.specs.Option.{option_map}
use Rattle.si_syntax.specs.Trees.{expr_of}
use Rattle.si_slots.specs.Code.{in_place}
use Rattle.si_slots.specs.Views.{named_of, operand_of}
use Rattle.si_emit.proofs.AssignCode.{not_stored, object_not_stored}
use Rattle.si_emit.proofs.assigning.store_in_place.Goals as goal

pub returns-in_err-object-clause-is : goal.returns-in_err-object-clause-is
returns-in_err-object-clause-is c = λ w e.
    let ls = c.args.locals.now in
    let none : c.from_residual-in_err-object.result ≡ None = grind (arith, c.from_residual-in_err-object.ensures) in
    let object = c.in_err-object.ensures.is w e ∙ ap (λ z. in_place ls (expr_of z)) c.deref.ensures in
    ap (option_map (named_of w)) none ∙ sym (object_not_stored _ _ _ object)

pub returns-in_err-index-clause-is : goal.returns-in_err-index-clause-is
returns-in_err-index-clause-is c = λ w e.
    let ls = c.args.locals.now in
    let none : c.from_residual-in_err-index.result ≡ None = grind (arith, c.from_residual-in_err-index.ensures) in
    let object = c.in_ok-object.ensures.is w e ∙ ap (λ z. in_place ls (expr_of z)) c.deref.ensures in
    let index = c.in_err-index.ensures.is w e ∙ ap (λ z. in_place ls (expr_of z)) c.deref-2.ensures in
    ap (option_map (named_of w)) none ∙ sym (not_stored _ _ _ (operand_of w c.in_ok-operand.operand) (operand_of w c.in_ok-object.object) (c.in_ok-operand.ensures.is w e) object index)
