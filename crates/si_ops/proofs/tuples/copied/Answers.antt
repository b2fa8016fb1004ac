use Rattle.std.proofs.Common.{◌≡◌, [], ◌∷◌, sym, ap, subst, arith, ◌∙◌}
use Rattle.si_semantics.specs.Tuples.{copies}
use Rattle.si_arena.specs.Memory.{value_of, all_of, Lies, AllLie}
use Rattle.si_ops.proofs.Calling.{sole}
use Rattle.si_ops.proofs.Gathered.{all_filled, copy_more, lie_filled, lie_joined, ok_to}
use Rattle.si_ops.proofs.Lines.{lies_at}
use Rattle.si_ops.proofs.tuples.copied.Goals as goal

pub loop-turn-preserved : goal.loop-turn-preserved
loop-turn-preserved c = record {
  all = λ m. copy_more m c.args.items.now c.loop-turn.all.items c.extend_from_slice.new.self.items c.loop-turn._turn c.in_ok-extend_from_slice.ensures.items (c.loop-turn.invariant.all m);
  lie = λ m h. subst (AllLie m) (sym c.in_ok-extend_from_slice.ensures.items) (lie_joined m c.loop-turn.all.items c.args.items.now (c.loop-turn.invariant.lie m h) h);
}

pub returns-clause-all : goal.returns-clause-all
returns-clause-all c = λ m.
    let all : c.loop-turn._turn ≡ c.args.count = omega arith in
    c.loop-turn.invariant.all m ∙ ap (λ n. copies n (all_of m c.args.items.now)) all

pub returns-in-len1-clause-all : goal.returns-in-len1-clause-all
returns-in-len1-clause-all c = λ m.
    let same : all_of m c.args.items.now ≡ value_of m c.item-item.result ∷ [] = sole m c.args.items.now c.item-item.result c.in-len1.len_at_least c.in-len1.len_below c.item-item.is in
    ok_to c.filled.result _ _ (λ all h. ap (λ rs. all_of m rs) h ∙ all_filled m c.item-item.result c.args.count ∙ ap (copies c.args.count) (sym same)) c.filled.ensures

pub returns-in-len1-clause-lie : goal.returns-in-len1-clause-lie
returns-in-len1-clause-lie c = λ m h.
    ok_to c.filled.result _ _ (λ all e. subst (AllLie m) (sym e) (lie_filled m c.item-item.result c.args.count (subst (Lies m) (sym c.item-item.is) (lies_at m c.args.items.now 0 c.item-item.result h c.in-len1.len_at_least)))) c.filled.ensures
