use Rattle.std.proofs.Common.{◌≡◌, ◌∙◌, Some, sym, ap, arith, true, ◌+◌}
use Rattle.std.specs.Prelude.{◌==◌}
use Rattle.std.proofs.lemmas.Bool.Decides.{nat_tests}
use Rattle.si_token.specs.inner.Reading.{plus}
use Rattle.si_token.proofs.Texts.{body_over}
use Rattle.si_token.proofs.words.body_length.Goals as goal

pub returns-clause-gives : goal.returns-clause-gives
returns-clause-gives c =
    let over : (c.loop-row.row == c.args.count) ≡ true = grind (arith, nat_tests, c.loop-row-test.false) in
    let none : c.loop-row.i ≡ c.loop-row.i + 0 = omega arith in
    ap Some none ∙ sym (ap (plus c.loop-row.i) (body_over c.args.count c.args.quote c.loop-row.row c.loop-row.joins _ over)) ∙ sym c.loop-row.invariant.same
