use Rattle.std.proofs.Common.{to_z, of_z, w64}
use Rattle.si_ops.proofs.Running.{truth_tells, count_fits}
use Rattle.si_ops.proofs.arithmetic.of_truth.Goals as goal

pub returns-in_default : goal.returns-in_default
returns-in_default c = λ m.
    truth_tells c.args.operator c.args.truth (to_z w64 (of_z w64 c.int_of_truth.result)) m c.of_integer.result c.in_default.not-Not
    (count_fits c.args.truth c.int_of_truth.result c.int_of_truth.ensures) (c.of_integer.ensures m)
