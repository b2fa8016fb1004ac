use Rattle.std.proofs.Common.{refl}
use Rattle.si_semantics.specs.Value as pure
use Rattle.si_arena.specs.declared.held.Held.TheVariants as held
use Rattle.si_arena.proofs.Changed.{arena_changed, changed_is}
use Rattle.si_arena.proofs.arena.Arena.start.Goals as goal

pub invariant_of-self : goal.invariant_of-self
invariant_of-self c = arena_changed c.args.self.now _ _ _ _ _ _ _ c.self.view_is c.self.invariant c.args.address (held.Started c.args.run) tt tt

pub returns : goal.returns
returns c =
    let i = c.self.inside in
    changed_is c.args.self.now i.texts i.names.items i.ranges.items i.tuples.items i.tuples.tuples i.objects.items c.self.view_is c.args.address (held.Started c.args.run) (pure.Started c.args.run) refl
