use Rattle.std.proofs.Common.{subst, sym}
use Rattle.si_arena.specs.declared.held.Held.TheVariants as held
use Rattle.si_arena.specs.Memory.{AllLie}
use Rattle.si_arena.proofs.Changed.{arena_made}
use Rattle.si_arena.proofs.arena.Arena.make_list.Goals as goal

pub invariant_of-self-2 : goal.invariant_of-self-2
invariant_of-self-2 c =
    let m = c.args.self.now in
    rw c.in_ok-push.ensures.items
    (arena_made m _ _ _ _ _ _ _ c.self.view_is c.self.invariant (held.List c.in_ok-cells.cells) (subst (AllLie m) (sym c.in_ok-cells.ensures) c.requires) tt)
