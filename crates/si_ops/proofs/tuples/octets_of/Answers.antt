use Rattle.std.proofs.Common.{◌≡◌, arith, sym, ap, subst, ◌++◌, ◌∙◌, append-nil, to_z, of_z, w64, rules}
use Rattle.si_semantics.specs.Value.{Int}
use Rattle.si_arena.specs.Memory.{all_of, AllLie}
use Rattle.si_ops.proofs.Gathered.{one_more, lie_joined, numbers_left, no_numbers}
use Rattle.si_ops.proofs.tuples.octets_of.Goals as goal

pub loop-i-preserved : goal.loop-i-preserved
loop-i-preserved c =
    let s = c.args.bytes.now in
    let value : to_z w64 (of_z w64 c.from.result) ≡ c.from.result = search rules in
    record {
      all = λ m. one_more m c.loop-i.all.items c.keep.new.values.items _ _ _ _ c.in_ok-keep.ensures (ap Int (value ∙ c.from.ensures)) (sym (ap (λ vs. all_of m c.loop-i.all.items ++ vs) (numbers_left s c.loop-i.i c.loop-i-test.true)) ∙ c.loop-i.invariant.all m);
      lie = λ m. subst (AllLie m) (sym c.in_ok-keep.ensures) (lie_joined m _ _ (c.loop-i.invariant.lie m) (tt, tt));
    }

pub returns-clause-all : goal.returns-clause-all
returns-clause-all c = λ m.
    let s = c.args.bytes.now in
    sym (append-nil (all_of m c.loop-i.all.items)) ∙ ap (λ vs. all_of m c.loop-i.all.items ++ vs) (sym (no_numbers s c.loop-i.i (omega arith))) ∙ c.loop-i.invariant.all m
