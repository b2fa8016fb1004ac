use Rattle.std.proofs.Common.{◌≡◌, ◌<◌, ◌≤◌, arith, sym, ap, subst, ◌++◌, ◌∙◌, append-nil, to_z, of_z, w64, rules}
use Rattle.si_semantics.specs.Operations.{range_length}
use Rattle.si_semantics.specs.Value.{Int}
use Rattle.si_arena.specs.Memory.{all_of, AllLie}
use Rattle.si_ops.proofs.Gathered.{one_more, lie_joined, integers_left, integers_none, step_at}
use Rattle.si_ops.proofs.tuples.numbers_of.Goals as goal

pub loop-i-preserved : goal.loop-i-preserved
loop-i-preserved c =
    let s = c.args.steps.now in
    let more : c.loop-i.i < range_length s.start s.stop s.step = omega (arith, c.loop-i-test.true, c.items_in-i-end.ensures) in
    let value : to_z w64 (of_z w64 c.item_of.result) ≡ c.item_of.result = search rules in
    let there : c.item_of.result ≡ step_at s.start s.step c.loop-i.i = search (rules, c.item_of.ensures) in
    record {
      all = λ m. one_more m c.loop-i.all.items c.keep.new.values.items _ _ _ _ c.in_ok-keep.ensures (ap Int (value ∙ there)) (sym (ap (λ vs. all_of m c.loop-i.all.items ++ vs) (integers_left s.start s.stop s.step c.loop-i.i more)) ∙ c.loop-i.invariant.all m);
      lie = λ m. subst (AllLie m) (sym c.in_ok-keep.ensures) (lie_joined m _ _ (c.loop-i.invariant.lie m) (tt, tt));
    }

pub returns-clause-all : goal.returns-clause-all
returns-clause-all c = λ m.
    let s = c.args.steps.now in
    let over : range_length s.start s.stop s.step ≤ c.loop-i.i = omega (arith, c.loop-i-test.false, c.items_in-i-end.ensures) in
    sym (append-nil (all_of m c.loop-i.all.items)) ∙ ap (λ vs. all_of m c.loop-i.all.items ++ vs) (sym (integers_none s.start s.stop s.step c.loop-i.i over)) ∙ c.loop-i.invariant.all m
