use Rattle.std.proofs.Common.{◌≡◌, replicate}
use Rattle.si_semantics.specs.Tokens.{Dedent}
use Rattle.si_token.specs.inner.Laying.{Adds}
use Rattle.si_token.proofs.layout.dedents.Given as goal

abbrev pub invariant-loop : goal.invariant-loop
invariant-loop l = record {
  source : l.all.source ≡ l.fn.all.source;
  adds : Adds l.place.at l.place.line (replicate l.counter Dedent) l.fn.all.items l.all.items;
}
