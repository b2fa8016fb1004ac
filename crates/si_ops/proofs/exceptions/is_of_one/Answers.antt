use Rattle.std.proofs.Common.{◌≡◌, ◌+◌, Some, drop, sym, ap, arith, ◌∙◌}
use Rattle.std.specs.Prelude.{◌||◌, option_map}
use Rattle.si_semantics.specs.Operations.{is_of, is_of_one}
use Rattle.si_arena.specs.Memory.{all_of, contents_of, value_of}
use Rattle.si_arena.proofs.Sizes.{lies_at}
use Rattle.si_ops.proofs.Gathered.{kind_next, kind_none, no_class, kinds_end}
use Rattle.si_ops.proofs.exceptions.is_of_one.Goals as goal
use Rattle.si_ops.proofs.exceptions.is_of_one.Goals.{then-matches, else-matches}

pub view-requires : goal.view-requires
view-requires c = lies_at c.args.arena.now c.args.kinds.now c.loop-i.i _ _ c.index-kinds-i.is c.loop-i-test.true c.requires

pub returns-in_default : goal.returns-in_default
returns-in_default c =
    let m = c.args.arena.now in
    sym (kind_none m c.args.kinds.now c.loop-i.i c.index-kinds-i.result c.loop-i.matches (contents_of m c.args.contents) _ c.loop-i-test.true c.index-kinds-i.is c.loop-i.invariant (no_class m c.view.result (value_of m c.index-kinds-i.result) c.view.ensures.value c.in_default.not-Kind))

pub loop-i-preserved : goal.loop-i-preserved
loop-i-preserved c =
    let m = c.args.arena.now in
    let o = contents_of m c.args.contents in
    let top = c.in-Kind.top in
    let next = kind_next m c.args.kinds.now c.loop-i.i c.index-kinds-i.result c.loop-i.matches (contents_of m c.args.contents) _ c.loop-i-test.true c.index-kinds-i.is c.loop-i.invariant top c.in-Kind.ensures.value in
    let same : c.if-matches.matches ≡ (c.loop-i.matches || is_of top (Some o)) =
    elim c.if-matches.branch [
      | then-matches w ↦ w.matches-is ∙ w.if-matches.true ∙ ap (λ b. b || is_of top (Some o)) (sym w.if-matches.true)
      | else-matches w ↦ w.matches-is ∙ w.is_of-matches.ensures m ∙ ap (λ b. b || is_of top (Some o)) (sym w.if-matches.false)
    ] in
    let rest = is_of_one (all_of m (drop (c.loop-i.i + 1) c.args.kinds.now)) (Some o) in
    ap (λ z. option_map (λ b. z || b) rest) same ∙ next

pub returns : goal.returns
returns c =
    let m = c.args.arena.now in
    kinds_end m c.args.kinds.now c.loop-i.i c.loop-i.matches (contents_of m c.args.contents) _ (omega arith) c.loop-i.invariant
