use Rattle.std.proofs.Common.{pos, ap, ◌∙◌, to_z-of_z}
use Rattle.si_plain.specs.Integers.{in_range}
use Rattle.si_ops.proofs.provided.absolute.Goals as goal

pub returns : goal.returns
returns c = c.with_sign.ensures ∙ ap (λ n. in_range (pos n)) (rw (to_z-of_z c.ranges.n) at c.unsigned_abs.ensures.value)
