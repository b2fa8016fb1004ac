use Rattle.std.proofs.Common.{refl, sym, arith, ◌∙◌}
use Rattle.si_arena.specs.Memory.{all_of}
use Rattle.si_semantics.specs.Operations.{bytes_in}
use Rattle.si_arena.proofs.Sizes.{lies_at}
use Rattle.si_ops.proofs.Gathered.{byte_next, byte_none, bytes_first, bytes_end}
use Rattle.si_ops.proofs.bytes.bytes_meant.Goals as goal

pub byte_meant-requires : goal.byte_meant-requires
byte_meant-requires c = lies_at c.args.arena.now c.args.items.now c.loop-i.i _ _ c.index-items-i.is c.loop-i-test.true c.requires

pub loop-i-init : goal.loop-i-init
loop-i-init c = bytes_first (bytes_in (all_of c.args.arena.now c.args.items.now)) c.new-bytes.result.items c.new-bytes.ensures.items

pub loop-i-preserved : goal.loop-i-preserved
loop-i-preserved c =
    byte_next c.args.arena.now c.args.items.now c.loop-i.i _ c.loop-i.bytes.items _ c.loop-i-test.true c.index-items-i.is c.loop-i.invariant _ _ (sym c.byte_meant.ensures ∙ c.in-Some.is) c.in_ok-keep.ensures

pub returns-in_default-clause-err : goal.returns-in_default-clause-err
returns-in_default-clause-err c =
    (byte_none c.args.arena.now c.args.items.now c.loop-i.i _ c.loop-i.bytes.items _ c.loop-i-test.true c.index-items-i.is c.loop-i.invariant (sym c.byte_meant.ensures ∙ c.in_default.is), refl)

pub returns-clause-ok : goal.returns-clause-ok
returns-clause-ok c = bytes_end c.args.arena.now c.args.items.now c.loop-i.i c.loop-i.bytes.items _ (omega arith) c.loop-i.invariant
