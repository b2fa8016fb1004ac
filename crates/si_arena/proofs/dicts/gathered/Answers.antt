use Rattle.std.proofs.Common.{◌∙◌, ◌+◌, ◌*◌, ◌<◌, true, false, drop, length, ap, subst, arith}
use Rattle.si_semantics.specs.Dicts.{with_pairs}
use Rattle.si_arena.specs.declared.dict.Pair.{Pair}
use Rattle.si_arena.specs.inner.Words.{words_of}
use Rattle.si_arena.specs.inner.Keys.{AddsPair}
use Rattle.si_arena.specs.Memory.{value_of, all_of, pairs_of}
use Rattle.si_arena.proofs.Sizes.{lies_at}
use Rattle.si_arena.proofs.Wording.{grown_more}
use Rattle.si_arena.proofs.Gathering.{Making, pair_step, no_key, making_more, agrees_at, text_lies_at, at_end}
use Rattle.si_arena.proofs.dicts.gathered.Goals as goal

pub add_pair-requires-clause-key : goal.add_pair-requires-clause-key
add_pair-requires-clause-key c = text_lies_at c.args.texts.now c.args.operands.now (2 * c.loop-i.i) _ _ c.index-operands-i.is (omega (arith, c.loop-i-test.true)) c.requires.operands

pub returns-in-Ok-false-clause-ok : goal.returns-in-Ok-false-clause-ok
returns-in-Ok-false-clause-ok c =
    let rows = c.args.texts.now in
    let ops = c.args.operands.now in
    let n = c.loop-i.i in
    let p : Pair = record { key = c.index-operands-i.result; value = c.index-operands-i-in-loop-i.result } in
    let told = c.in-Ok-false.ensures.ok in
    let s : AddsPair rows p c.loop-i.words c.add_pair.new.words c.loop-i.dict c.add_pair.new.dict false = subst (λ b. AddsPair rows p c.loop-i.words c.add_pair.new.words c.loop-i.dict c.add_pair.new.dict b) c.in-Ok-false.field-0-test told in (
      grown_more rows c.args.words.now c.loop-i.words c.add_pair.new.words c.loop-i.invariant.grown s.2,
      λ m ka al.
          let made = c.loop-i.invariant.made m ka al in
          let lt : 2 * n < length ops = omega (arith, c.loop-i-test.true) in
          made.pairs
          ∙ ap (with_pairs (pairs_of m c.loop-i.dict)) (pair_step m ops n p.key p.value _ _ c.index-operands-i.is c.index-operands-i-in-loop-i.is c.loop-i-test.true)
          ∙ no_key (pairs_of m c.loop-i.dict) (value_of m p.key) (value_of m p.value) (drop (2 * (n + 1)) (all_of m ops)) (agrees_at m rows ops (2 * n) p.key _ c.index-operands-i.is lt ka ∙ s.0),
    )

pub loop-i-preserved : goal.loop-i-preserved
loop-i-preserved c =
    let rows = c.args.texts.now in
    let ops = c.args.operands.now in
    let n = c.loop-i.i in
    let p : Pair = record { key = c.index-operands-i.result; value = c.index-operands-i-in-loop-i.result } in
    let told = c.in-Ok-true.ensures.ok in
    let s : AddsPair rows p c.loop-i.words c.add_pair.new.words c.loop-i.dict c.add_pair.new.dict true = subst (λ b. AddsPair rows p c.loop-i.words c.add_pair.new.words c.loop-i.dict c.add_pair.new.dict b) c.in-Ok-true.field-0-test told in record {
      grown = grown_more rows c.args.words.now c.loop-i.words c.add_pair.new.words c.loop-i.invariant.grown s.1.2;
      made = λ m ka al.
          let made = c.loop-i.invariant.made m ka al in
          let lt : 2 * n < length ops = omega (arith, c.loop-i-test.true) in
          let step = pair_step m ops n p.key p.value _ _ c.index-operands-i.is c.index-operands-i-in-loop-i.is c.loop-i-test.true in
          making_more m rows c.loop-i.words c.add_pair.new.words p ops (drop (2 * (n + 1)) (all_of m ops)) c.loop-i.dict c.add_pair.new.dict s
          (agrees_at m rows ops (2 * n) p.key _ c.index-operands-i.is lt ka)
          (lies_at m ops (2 * n) p.key _ c.index-operands-i.is lt al)
          (lies_at m ops (2 * n + 1) p.value _ c.index-operands-i-in-loop-i.is (omega (arith, c.loop-i-test.true)) al)
          (subst (λ l. Making m (words_of rows c.loop-i.words) ops l c.loop-i.dict) step made);
    }

pub returns-clause-ok : goal.returns-clause-ok
returns-clause-ok c = (
  c.loop-i.invariant.grown,
  λ m ka al.
      let k = c.loop-i.invariant.made m ka al in record {
        pairs = k.pairs ∙ at_end m c.args.operands.now c.loop-i.i (pairs_of m c.loop-i.dict) (omega (arith, c.loop-i-test.false));
        lie = k.lie;
        mean = k.mean;
      },
)
