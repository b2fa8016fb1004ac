use Rattle.std.proofs.Common.{sym}
use Rattle.si_semantics.specs.Value as pure
use Rattle.si_semantics.specs.Operations as operations
use Rattle.si_arena.specs.Memory.{list_at}
use Rattle.si_ops.proofs.Holding.{list_is}
use Rattle.si_ops.proofs.lists.items_at.Goals as goal

pub returns : goal.returns
returns c =
    let m = c.args.arena.now in
    record { items = sym (list_is m c.args.address _ c.in-Some.ensures.some.0); lie = c.in-Some.ensures.some.1 }

pub unreachable-requires : goal.unreachable-requires
unreachable-requires c = c.in-None.ensures.none (list_at c.args.arena.now c.args.address) c.requires.list
