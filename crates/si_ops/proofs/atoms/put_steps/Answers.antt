use Rattle.std.proofs.Common.{◌++◌, encode_utf8_all, ap}
use Rattle.std.proofs.Math.Facts.{to_z-of_z}
use Rattle.std.specs.Prelude.{codes}
use Rattle.si_semantics.specs.Text.{decimal}
use Rattle.si_ops.specs.Writing.{step_bytes}
use Rattle.si_ops.proofs.Adding.{on_err, adds_as, lacks_as, adds_more, lacks_first, lacks_next}
use Rattle.si_ops.proofs.atoms.put_steps.Goals as goal

pub returns-in_err-put_stop-clause-err : goal.returns-in_err-put_stop-clause-err
returns-in_err-put_stop-clause-err c =
    on_err _ _ (lacks_next (adds_as (ap (λ z. codes "range(" ++ encode_utf8_all (decimal z)) (to_z-of_z c.ranges.start)) c.in_ok-put_start.ensures.ok) (lacks_first (step_bytes c.args.step) (lacks_as (ap (λ z. codes ", " ++ encode_utf8_all (decimal z)) (to_z-of_z c.ranges.stop)) c.in_err-put_stop.ensures.err)))

pub returns-in_err-put_step-clause-err : goal.returns-in_err-put_step-clause-err
returns-in_err-put_step-clause-err c =
    on_err _ _ (lacks_next (adds_as (ap (λ z. codes "range(" ++ encode_utf8_all (decimal z)) (to_z-of_z c.ranges.start)) c.in_ok-put_start.ensures.ok) (lacks_next (adds_as (ap (λ z. codes ", " ++ encode_utf8_all (decimal z)) (to_z-of_z c.ranges.stop)) c.in_ok-put_stop.ensures.ok) (lacks_as (ap step_bytes (to_z-of_z c.ranges.step)) c.in_err-put_step.ensures.err)))

pub returns-clause-ok : goal.returns-clause-ok
returns-clause-ok c = adds_more (adds_as (ap (λ z. codes "range(" ++ encode_utf8_all (decimal z)) (to_z-of_z c.ranges.start)) c.in_ok-put_start.ensures.ok) (adds_more (adds_as (ap (λ z. codes ", " ++ encode_utf8_all (decimal z)) (to_z-of_z c.ranges.stop)) c.in_ok-put_stop.ensures.ok) (adds_as (ap step_bytes (to_z-of_z c.ranges.step)) c.in_ok-put_step.ensures.ok))
