use Rattle.std.proofs.Common.{arith, ap, sym, refl, ◌∙◌}
use Rattle.si_semantics.specs.Shared.{Queue}
use Rattle.si_semantics.proofs.Firsts.{opened}
use Rattle.si_queues.proofs.queue.Queue.first.Goals as goal

pub returns-in-Some : goal.returns-in-Some
returns-in-Some c =
    let o = opened c.self.inside.items.items c.in-Some.item.now (omega (arith, c.in-Some.ensures.variant.0 refl)) c.in-Some.ensures.lookup in
    (o.0, sym (ap (λ (q : Queue). q.items) c.self.view_is) ∙ o.1)
