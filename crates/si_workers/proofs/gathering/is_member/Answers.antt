use Rattle.std.proofs.Common.{◌∙◌, ap, arith}
use Rattle.si_plain.specs.Ranges.{Numbers}
use Rattle.si_world.specs.Legal.{exchanges}
use Rattle.si_workers.proofs.gathering.is_member.Goals as goal

pub returns-clause-yes : goal.returns-clause-yes
returns-clause-yes c = λ t. record {
  id = c.requires.id;
  shows = c.facts.ensures.shows;
  log = c.has_calls.ensures.yes t ∙ ap exchanges c.log.ensures;
  taken = c.facts.ensures.free;
  locals =
      let a = c.if-locals-turns.false in
      let b = c.locals.ensures in
      let d = c.turns.ensures.value in
      let e = ap (λ (l : Numbers). l.turns) c.limits.ensures in
      omega arith;
}
