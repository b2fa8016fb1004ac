use Rattle.std.proofs.Common.{◌≡◌, ◌∙◌, sym, ap}
use Rattle.si_hub.specs.HubCode.{Past}
use Rattle.si_world.specs.Worlds.{created, first_views}
use Rattle.si_world.proofs.Firsts.{world_first, created_first}
use Rattle.si_world.proofs.world.World.new.Goals as goal

pub invariant_of-result : goal.invariant_of-result
invariant_of-result c =
    let e = c.in_ok-hub.ensures in
    let one : created c.in_ok-hub.hub.past ≡ 1 = created_first c.in_ok-hub.hub.past (ap (λ (p : Past). p.journal) e) in
    let n : c.interpreters.result ≡ c.in_ok-hub.hub.past.limits.interpreters = c.interpreters.ensures.value ∙ sym (ap (λ (p : Past). p.limits.interpreters) e) in (
      world_first c.in_ok-hub.hub.past c.in_ok-interps.interps.items c.facts.ensures.told one c.facts.ensures.few (ap (λ (p : Past). p.journal) e)
          (c.in_ok-interps.ensures.views ∙ ap (first_views 0) n) c.in_ok-interps.ensures.show,
      sym one,
    )
