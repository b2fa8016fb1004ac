use Rattle.std.proofs.Common.{◌≡◌, length, arith}
use Rattle.si_arena.proofs.Growing.{range_kept, range_placed}
use Rattle.si_arena.proofs.arena.Arena.place_range.Goals as goal

pub invariant_of-self-2 : goal.invariant_of-self-2
invariant_of-self-2 c = rw c.in_ok-push.ensures.items (range_kept _ _ _ _ _ _ _ c.self.invariant _)

pub returns-clause-ok : goal.returns-clause-ok
returns-clause-ok c =
    let l : c.len-place.result ≡ length c.self.inside.ranges.items = (let a : c.len-place.result ≡ c.self.inside.ranges.len = c.len-place.ensures in let b = c.self.inside.ranges.ok in omega (arith, a, b)) in
    rw (c.in_ok-push.ensures.items, ← c.self.view_is) (range_placed _ _ _ _ _ _ _ c.self.invariant _ _ l)
