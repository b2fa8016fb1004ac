use Rattle.si_arena.proofs.Growing.{text_kept, text_placed}
use Rattle.si_arena.proofs.arena.Arena.join.Goals as goal

pub invariant_of-self : goal.invariant_of-self
invariant_of-self c = text_kept _ _ _ _ _ _ _ _ _ _ c.join.ensures.text c.self.invariant

pub returns-clause-text : goal.returns-clause-text
returns-clause-text c = rw (← c.self.view_is) (text_placed _ _ _ _ _ _ _ _ _ _ c.join.ensures.text c.self.invariant)
