use Rattle.std.proofs.Common.{◌≡◌, None, true, sym, ap, ◌∙◌, arith}
use Rattle.std.specs.Option.{option_map}
use Rattle.si_syntax.specs.Trees.{expr_of}
use Rattle.si_slots.specs.Code.{append_instr, in_place}
use Rattle.si_slots.specs.Views.{named_of}
use Rattle.si_emit.proofs.evaluating.append_of.Goals as goal

pub returns-in_err-operand-clause-is : goal.returns-in_err-operand-clause-is
returns-in_err-operand-clause-is c = λ w e.
    let ls = c.args.locals.now in
    let none : c.from_residual-in_err-operand.result ≡ None = grind (arith, c.from_residual-in_err-operand.ensures) in
    let object = in_place ls (expr_of c.in_ok-object.object.now) in
    ap (option_map (named_of w)) none
    ∙ sym
    (c.in_ok-object.ensures ls
    ∙ ap (λ o. append_instr true object o) (sym (c.in_err-operand.ensures.is w e))
    ∙ ap (λ o. append_instr true o None) (sym (c.in_ok-list.ensures.is w e)))
