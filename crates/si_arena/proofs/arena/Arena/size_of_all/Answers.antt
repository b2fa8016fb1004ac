use Rattle.std.proofs.Common.{◌+◌, ◌<◌, arith}
use Rattle.si_semantics.specs.Value.{tuple_of, values_of}
use Rattle.si_semantics.specs.Tuples.{counts_of}
use Rattle.si_arena.specs.Memory.{all_of}
use Rattle.si_arena.proofs.Sizes.{counts_step, deepest_step, lies_at, many_values}
use Rattle.si_arena.proofs.arena.Arena.size_of_all.Goals as goal

pub size-more-requires : goal.size-more-requires
size-more-requires c = lies_at c.args.self.now c.args.items.now c.loop-i.i _ _ c.index-items-i.is c.loop-i-test.true c.requires

pub returns-then-more-values : goal.returns-then-more-values
returns-then-more-values c =
    let e = counts_step c.args.self.now c.args.items.now c.loop-i.i _ _ c.index-items-i.is c.loop-i-test.true in
    let over : 65536 < 1 + counts_of (values_of (all_of c.args.self.now c.args.items.now)) = omega (arith, e, c.loop-i.invariant.count, c.loop-i.invariant.within, c.size-more.ensures.values, c.if-more-values.true) in
    many_values (tuple_of (all_of c.args.self.now c.args.items.now)) over

pub loop-i-preserved : goal.loop-i-preserved
loop-i-preserved c =
    let e = counts_step c.args.self.now c.args.items.now c.loop-i.i _ _ c.index-items-i.is c.loop-i-test.true in
    let d = deepest_step c.args.self.now c.args.items.now c.loop-i.i _ _ c.index-items-i.is c.loop-i-test.true in record {
      count = omega (arith, e, c.loop-i.invariant.count, c.size-more.ensures.values);
      levels = omega (arith, d, c.loop-i.invariant.levels, c.size-more.ensures.levels, c.max-levels.ensures);
      within = omega (arith, c.if-more-values.false, c.loop-i.invariant.within);
    }
