use Rattle.std.proofs.Common.{◌<◌, length, ap, arith}
use Rattle.si_semantics.specs.Operations as operations
use Rattle.si_semantics.specs.Operations.{next_item}
use Rattle.si_arena.specs.Memory.{value_of}
use Rattle.si_arena.proofs.Sizes.{lies_at}
use Rattle.si_ops.specs.Operands.{members_of}
use Rattle.si_ops.proofs.Tupled.{item_there}
use Rattle.si_ops.proofs.items.next_member.Goals as goal

pub returns : goal.returns
returns c =
    let m = c.args.arena.now in
    let rs = c.members-all.result.now in
    let vs = members_of (value_of m c.args.tuple) in
    let there : c.args.given < length rs = omega arith in
    let next = item_there m rs vs c.args.given c.index-all-given.result c.members-all.ensures.items there c.index-all-given.is in
    ((λ w e. ap (λ xs. next_item (operations.Items xs) w) next), lies_at m rs c.args.given _ _ c.index-all-given.is there c.members-all.ensures.lie, c.requires)
