use Rattle.std.proofs.Common.{◌≡◌, []}
use Rattle.si_parse.specs.inner.Expressions.{octets_by}
use Rattle.si_parse.specs.inner.Gives.{from}
use Rattle.si_parse.proofs.octets.octets.Given as goal

abbrev pub invariant-loop-place : goal.invariant-loop-place
invariant-loop-place l = octets_by l.bytes.items (from l.tokens l.place) ≡ octets_by [] (from l.tokens l.at)
