use Rattle.std.proofs.Common.{◌≡◌, sym, ap, subst, ◌∙◌}
use Rattle.si_semantics.specs.Operations.{compare, truth, opposite}
use Rattle.si_plain.specs.declared.operators.ComparisonOperator.{ComparisonOperator}
use Rattle.si_arena.specs.Memory.{value_of}
use Rattle.si_ops.specs.Runs.{decided}
use Rattle.si_ops.proofs.comparison.answer.Goals as goal

pub returns-in-Equal : goal.returns-in-Equal
returns-in-Equal c = λ w e.
    let m = c.args.arena.now in
    let P : ComparisonOperator → Type 0 = λ o. compare o (value_of m c.args.left) (value_of m c.args.right) w ≡ truth (decided c.are_equal.result) w in
    subst P (sym c.in-Equal.is) (ap (λ r. truth r w) (c.are_equal.ensures w e))

pub returns-in-NotEqual : goal.returns-in-NotEqual
returns-in-NotEqual c = λ w e.
    let m = c.args.arena.now in
    let P : ComparisonOperator → Type 0 = λ o. compare o (value_of m c.args.left) (value_of m c.args.right) w ≡ truth (decided c.opposite-in-NotEqual.result) w in
    subst P (sym c.in-NotEqual.is) (ap (λ r. truth (opposite r) w) (c.are_equal-in-NotEqual.ensures w e) ∙ ap (λ r. truth r w) (sym c.opposite-in-NotEqual.ensures))
