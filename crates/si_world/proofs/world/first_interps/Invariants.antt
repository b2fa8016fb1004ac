use Rattle.std.proofs.Common.{◌≡◌}
use Rattle.si_world.specs.Worlds.{first_views}
use Rattle.si_world.specs.inner.Firsts.{AllShow}
use Rattle.si_world.proofs.world.first_interps.Given as goal

abbrev pub invariant-loop-i : goal.invariant-loop-i
invariant-loop-i l = record {
  views : l.interps.items ≡ first_views 0 l.i;
  show : AllShow l.interps.items;
}
