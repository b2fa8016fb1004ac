use Rattle.std.proofs.Common.{Result, ◌∙◌, sym, ap, cond, subst, arith}
use Rattle.std.proofs.Math.ListN.{drop_of_length-le}
use Rattle.si_semantics.specs.Operations as operations
use Rattle.si_arena.specs.declared.value.Ref.{Ref}
use Rattle.si_arena.specs.declared.cause.Cause.{Cause}
use Rattle.si_arena.specs.Memory.{value_of, all_of, Lies}
use Rattle.si_ops.specs.Runs.{Tells}
use Rattle.si_ops.proofs.Ends.{passed}
use Rattle.si_ops.proofs.Lines.{lies_at}
use Rattle.si_ops.proofs.Providing.{greatest_step, greatest_throws}
use Rattle.si_ops.proofs.provided.greatest.Goals as goal
use Rattle.si_ops.proofs.provided.greatest.Goals.{then-branch, else-branch}

pub compare-requires-clause-left : goal.compare-requires-clause-left
compare-requires-clause-left c =
    let m = c.args.arena.now in
    subst (Lies m) (sym c.value-item.is) (lies_at m c.args.others.now c.loop-value.value-index c.value-item.result c.requires.others c.loop-value-test.true)

pub returns-in_err-compare : goal.returns-in_err-compare
returns-in_err-compare c =
    let m = c.args.arena.now in
    let cause = c.in_err-compare.field-0.0 in
    let P : Result Ref Cause → Type 0 = λ r. Tells (λ w. operations.greatest (value_of m c.args.first) (all_of m c.args.others.now) w) m r in
    passed c.from_residual.result P cause c.from_residual.ensures.1
    (greatest_throws m c.args.others.now c.loop-value.value-index c.loop-value.greatest c.value-item.result cause (λ w. operations.greatest (value_of m c.args.first) (all_of m c.args.others.now) w) c.loop-value-test.true c.value-item.is c.loop-value.invariant.rest c.in_err-compare.ensures)

pub loop-value-preserved : goal.loop-value-preserved
loop-value-preserved c =
    let m = c.args.arena.now in
    let rs = c.args.others.now in
    let i = c.loop-value.value-index in
    let x = c.value-item.result in
    let lies = subst (Lies m) (sym c.value-item.is) (lies_at m rs i x c.requires.others c.loop-value-test.true) in
    elim c.if-branch.branch [
      | then-branch w ↦ record {
        lies = subst (Lies m) (sym w.greatest-is) lies;
        rest = λ v e. c.loop-value.invariant.rest v e ∙ greatest_step m rs i c.loop-value.greatest x c.if-branch.greatest c.in_ok-compare.field-0 c.loop-value-test.true c.value-item.is c.in_ok-compare.ensures (w.greatest-is ∙ ap (λ b. cond b x c.loop-value.greatest) (sym w.if-branch.true)) v e;
      }
      | else-branch w ↦ record {
        lies = subst (Lies m) (sym w.greatest-is) c.loop-value.invariant.lies;
        rest = λ v e. c.loop-value.invariant.rest v e ∙ greatest_step m rs i c.loop-value.greatest x c.if-branch.greatest c.in_ok-compare.field-0 c.loop-value-test.true c.value-item.is c.in_ok-compare.ensures (w.greatest-is ∙ ap (λ b. cond b x c.loop-value.greatest) (sym w.if-branch.false)) v e;
      }
    ]

pub returns : goal.returns
returns c =
    let m = c.args.arena.now in
    ((λ w e. c.loop-value.invariant.rest w e ∙ ap (λ rs. operations.greatest (value_of m c.loop-value.greatest) (all_of m rs) w) (drop_of_length-le c.args.others.now (omega arith))), c.loop-value.invariant.lies)
