use Rattle.std.proofs.Common.{ap, subst}
use Rattle.si_world.specs.Legal.{Legal}
use Rattle.si_world.specs.Worlds.{WorldView}
use Rattle.si_world.specs.Core.{NoneStarved, IsOfCore}
use Rattle.si_world.proofs.Coring.{of_core}
use Rattle.si_world.proofs.Turning.{legal}
use Rattle.si_world.proofs.world.World.facts.Goals as goal

pub returns-clause-legal : goal.returns-clause-legal
returns-clause-legal c = subst Legal (ap (λ (w : WorldView). w.past) c.self.view_is) (legal _ c.self.invariant.0)

pub returns-clause-core : goal.returns-clause-core
returns-clause-core c = subst (λ (w : WorldView). NoneStarved w → IsOfCore w) c.self.view_is (of_core _ c.self.invariant.0)
