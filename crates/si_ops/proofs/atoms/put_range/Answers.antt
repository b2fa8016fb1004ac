use Rattle.std.proofs.Common.{◌++◌, encode_utf8_all, ◌∙◌}
use Rattle.std.proofs.Math.Facts.{to_z-of_z}
use Rattle.std.specs.Prelude.{codes}
use Rattle.si_semantics.specs.Text.{decimal}
use Rattle.si_ops.specs.Writing.{step_bytes}
use Rattle.si_ops.proofs.Spelling.{ap₃, range_is}
use Rattle.si_ops.proofs.Adding.{ok_as, err_as}
use Rattle.si_ops.proofs.atoms.put_range.Goals as goal

pub returns-clause-ok : goal.returns-clause-ok
returns-clause-ok c = ok_as c.put_steps.result c.args.out.now c.put_steps.new.out (ap₃ (λ a b d. (codes "range(" ++ encode_utf8_all (decimal a)) ++ ((codes ", " ++ encode_utf8_all (decimal b)) ++ step_bytes d)) (to_z-of_z c.ranges.start) (to_z-of_z c.ranges.stop) (to_z-of_z c.ranges.step) ∙ range_is c.args.start c.args.stop c.args.step) c.put_steps.ensures.ok

pub returns-clause-err : goal.returns-clause-err
returns-clause-err c = err_as c.put_steps.result c.args.out.now c.put_steps.new.out (ap₃ (λ a b d. (codes "range(" ++ encode_utf8_all (decimal a)) ++ ((codes ", " ++ encode_utf8_all (decimal b)) ++ step_bytes d)) (to_z-of_z c.ranges.start) (to_z-of_z c.ranges.stop) (to_z-of_z c.ranges.step) ∙ range_is c.args.start c.args.stop c.args.step) c.put_steps.ensures.err
