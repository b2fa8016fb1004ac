use Rattle.std.proofs.Math.Facts.{to_z-of_z}
use Rattle.si_arena.proofs.Growing.{text_kept, text_placed}
use Rattle.si_arena.proofs.arena.Arena.repeat.Goals as goal

pub invariant_of-self : goal.invariant_of-self
invariant_of-self c = text_kept _ _ _ _ _ _ _ _ _ _ c.repeat.ensures.text c.self.invariant

pub returns-clause-text : goal.returns-clause-text
returns-clause-text c =
    let added = rw (to_z-of_z c.ranges.count) at c.repeat.ensures.text in
    rw (← c.self.view_is) (text_placed _ _ _ _ _ _ _ _ _ _ added c.self.invariant)
