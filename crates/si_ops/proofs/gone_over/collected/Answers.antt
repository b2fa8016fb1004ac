use Rattle.std.proofs.Common.{arith, sym, ap, subst, ◌∙◌}
use Rattle.std.proofs.lemmas.List.{take_all}
use Rattle.si_arena.specs.Memory.{value_of, all_of, AllLie}
use Rattle.si_ops.specs.Items.{gone_over}
use Rattle.si_ops.proofs.GoneOver.{collected_more, collected_lie}
use Rattle.si_ops.proofs.gone_over.collected.Goals as goal

pub loop-i-init : goal.loop-i-init
loop-i-init c =
    let m = c.args.arena.now in
    record { all = ap (all_of m) c.new-all.ensures.items; lie = subst (AllLie m) (sym c.new-all.ensures.items) tt }

pub loop-i-preserved : goal.loop-i-preserved
loop-i-preserved c =
    let m = c.args.arena.now in
    let vs = gone_over m (value_of m c.args.value) in
    record {
      all = collected_more m vs c.loop-i.all.items c.keep.new.values.items c.loop-i.i c.nth_item.result c.loop-i.invariant.all c.nth_item.ensures.item c.in_ok-keep.ensures;
      lie = collected_lie m c.loop-i.all.items c.keep.new.values.items c.nth_item.result c.loop-i.invariant.lie c.nth_item.ensures.lies c.in_ok-keep.ensures;
    }

pub returns-clause-all : goal.returns-clause-all
returns-clause-all c =
    let m = c.args.arena.now in
    let vs = gone_over m (value_of m c.args.value) in
    let n = c.requires.count in
    c.loop-i.invariant.all ∙ take_all c.loop-i.i vs (omega (arith, n))
