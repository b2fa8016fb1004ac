use Rattle.std.proofs.Common.{Ok, sym, subst}
use Rattle.si_arena.specs.Texts.{IsNarrow}
use Rattle.si_arena.proofs.Growing.{text_kept, bytes_placed, bytes_text_narrow}
use Rattle.si_arena.proofs.arena.Arena.join_bytes.Goals as goal

pub invariant_of-self-2 : goal.invariant_of-self-2
invariant_of-self-2 c = text_kept _ _ _ _ _ _ _ _ _ (Ok c.in_ok-joined.joined) c.in_ok-joined.ensures.text c.self.invariant

pub returns-clause-bytes : goal.returns-clause-bytes
returns-clause-bytes c =
    let left = rw c.text_of_bytes.ensures at c.in_ok-joined.ensures.text in
    let added = rw c.text_of_bytes-2.ensures at left in
    let narrow = c.in_ok-joined.ensures.narrow (subst IsNarrow (sym c.text_of_bytes.ensures) (bytes_text_narrow c.args.left)) (subst IsNarrow (sym c.text_of_bytes-2.ensures) (bytes_text_narrow c.args.right)) in
    rw c.bytes_of_text.ensures (rw (← c.self.view_is) (bytes_placed _ _ _ _ _ _ _ _ _ c.in_ok-joined.joined added narrow c.self.invariant))
