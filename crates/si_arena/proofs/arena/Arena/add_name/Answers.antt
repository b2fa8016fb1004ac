use Rattle.std.proofs.Common.{◌≡◌, length, arith}
use Rattle.si_arena.proofs.Growing.{name_kept, name_added}
use Rattle.si_arena.proofs.arena.Arena.add_name.Goals as goal

pub invariant_of-self-2 : goal.invariant_of-self-2
invariant_of-self-2 c = rw c.in_ok-push.ensures.items (name_kept _ _ _ _ _ _ _ c.self.invariant _)

pub returns-clause-ok : goal.returns-clause-ok
returns-clause-ok c =
    let l : c.len-number.result ≡ length c.self.inside.names.items = (let a : c.len-number.result ≡ c.self.inside.names.len = c.len-number.ensures in let b = c.self.inside.names.ok in omega (arith, a, b)) in
    rw (c.in_ok-push.ensures.items, c.in_ok-name.ensures, ← c.self.view_is) (name_added _ _ _ _ _ _ _ c.self.invariant _ _ l)
