use Rattle.std.proofs.Common.{Ok}
use Rattle.si_arena.proofs.Growing.{text_kept, bytes_placed}
use Rattle.si_arena.proofs.arena.Arena.place_bytes.Goals as goal

pub invariant_of-self-2 : goal.invariant_of-self-2
invariant_of-self-2 c = text_kept _ _ _ _ _ _ _ _ _ (Ok c.in_ok-placed.placed) c.in_ok-placed.ensures.text c.self.invariant

pub returns-clause-bytes : goal.returns-clause-bytes
returns-clause-bytes c =
    rw c.bytes_of_text.ensures (rw (← c.self.view_is) (bytes_placed _ _ _ _ _ _ _ _ _ c.in_ok-placed.placed c.in_ok-placed.ensures.text c.in_ok-placed.ensures.narrow c.self.invariant))
