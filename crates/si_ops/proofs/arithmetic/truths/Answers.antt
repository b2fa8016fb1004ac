use Rattle.std.proofs.Common.{ap, sym, ◌∙◌, to_z, of_z, w64}
use Rattle.si_semantics.specs.Value as pure
use Rattle.si_semantics.specs.Operations.{int_of_truth, operate, operate_truths}
use Rattle.si_ops.proofs.Running.{runs_as, truths_count, count_fits}
use Rattle.si_ops.proofs.arithmetic.truths.Goals as goal

pub returns-in_default-clause-runs : goal.returns-in_default-clause-runs
returns-in_default-clause-runs c = λ m.
    let o = c.args.operator in
    let i = to_z w64 (of_z w64 c.int_of_truth.result) in
    let j = to_z w64 (of_z w64 c.int_of_truth-in_default.result) in
    runs_as (λ w. operate_truths o c.args.x c.args.y w) (λ w. operate o (pure.Int i) (pure.Int j) w) m m c.integers.result
    (λ w. truths_count c.args.operator c.args.x c.args.y w c.in_default.not-BitOr c.in_default.not-BitXor c.in_default.not-BitAnd
    ∙ ap (λ k. operate o (pure.Int k) (pure.Int (int_of_truth c.args.y)) w) (sym (count_fits c.args.x c.int_of_truth.result c.int_of_truth.ensures))
    ∙ ap (λ k. operate o (pure.Int i) (pure.Int k) w) (sym (count_fits c.args.y c.int_of_truth-in_default.result c.int_of_truth-in_default.ensures)))
    (c.integers.ensures.runs m)
