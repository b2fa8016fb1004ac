use Rattle.std.proofs.Common.{◌<◌, ◌+◌, ◌*◌, sym, ◌∙◌, arith}
use Rattle.si_semantics.specs.Literals.{max_int}
use Rattle.si_token.proofs.Digits.{digit_past}
use Rattle.si_token.proofs.numbers.digits_value.Goals as goal

pub returns-in_err-value : goal.returns-in_err-value
returns-in_err-value c =
    let large : max_int < c.loop-c.value * c.args.base + c.in_ok-digit_in.field-0 = omega (arith, c.in_err-value.ensures) in
    c.from_residual-in_err-value.ensures ∙ sym (digit_past c.args.digits.now c.loop-c.c-index c.args.base c.args.first_is_due c.loop-c.due c.loop-c.value c.in_ok-digit_in.field-0 c.requires.some c.requires.small c.loop-c-test.true c.loop-c.invariant.same c.in_ok-digit_in.ensures.0 c.in_ok-digit_in.ensures.1 large)
