use Rattle.si_semantics.specs.World.{World}
use Rattle.si_steps.proofs.state.State.raise.Given as goal

abbrev pub ghost-leave_raised : goal.ghost-leave_raised
ghost-leave_raised g a = record g.p { w = let w : World = record g.p.w { store = a.self.now.arena.store } in w }
