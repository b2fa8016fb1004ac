use Rattle.std.proofs.Common.{◌≡◌, []}
use Rattle.si_parse.specs.inner.Expressions.{strings_by}
use Rattle.si_parse.specs.inner.Gives.{from}
use Rattle.si_parse.proofs.expression.strings.Given as goal

abbrev pub invariant-loop-place : goal.invariant-loop-place
invariant-loop-place l = strings_by l.text (from l.tokens l.place) ≡ strings_by [] (from l.tokens l.at)
