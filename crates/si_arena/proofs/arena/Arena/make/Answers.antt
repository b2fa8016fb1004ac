use Rattle.std.proofs.Common.{◌≡◌, length, arith}
use Rattle.si_arena.proofs.Changed.{arena_made, object_made}
use Rattle.si_arena.proofs.arena.Arena.make.Goals as goal

pub invariant_of-self-2 : goal.invariant_of-self-2
invariant_of-self-2 c =
    rw c.in_ok-push.ensures.items
    (arena_made c.args.self.now _ _ _ _ _ _ _ c.self.view_is c.self.invariant c.plain.result (c.plain.ensures.lies c.args.self.now c.requires) (c.plain.ensures.means c.args.self.now _))

pub returns-clause-ok : goal.returns-clause-ok
returns-clause-ok c =
    let i = c.self.inside in
    let l : c.len-address.result ≡ length i.objects.items = (let a : c.len-address.result ≡ i.objects.len = c.len-address.ensures in let b = i.objects.ok in omega (arith, a, b)) in
    rw c.in_ok-push.ensures.items
    (object_made c.args.self.now i.texts i.names.items i.ranges.items i.tuples.items i.tuples.tuples i.objects.items c.self.view_is c.plain.result _ (c.plain.ensures.is c.args.self.now) c.len-address.result l)
