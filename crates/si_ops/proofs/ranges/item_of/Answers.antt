use Rattle.std.proofs.Common.{rules, ◌*◌, ◌<◌, ◌^◌, ◌+ℤ◌, pos, unsigned_abs, w64, FitsSigned, to_z-of_z, ap, sym, subst, ◌∙◌}
use Rattle.std.specs.Prelude.{◌-ℤ◌, int_le}
use Rattle.si_ops.proofs.Reached.{item_reached, steps_up, steps_down}
use Rattle.si_ops.proofs.ranges.item_of.Goals as goal

pub overflow_mul-distance : goal.overflow_mul-distance
overflow_mul-distance c =
    let s = c.args.steps.now in
    let fa : FitsSigned w64 s.start = search rules in
    let fb : FitsSigned w64 s.stop = search rules in
    let fc : FitsSigned w64 s.step = search rules in
    let size = c.unsigned_abs.ensures.value ∙ ap unsigned_abs (to_z-of_z fc) in
    let r = item_reached s.start s.stop s.step c.args.place fa fb c.requires in
    record { fits = subst (λ m. c.args.place * m < 2 ^ 64) (sym size) r.distance }

pub above-requires : goal.above-requires
above-requires c =
    let s = c.args.steps.now in
    let k = c.args.place in
    let fa : FitsSigned w64 s.start = search rules in
    let fb : FitsSigned w64 s.stop = search rules in
    let fc : FitsSigned w64 s.step = search rules in
    let size = c.unsigned_abs.ensures.value ∙ ap unsigned_abs (to_z-of_z fc) in
    let r = item_reached s.start s.stop s.step k fa fb c.requires in
    let up = steps_up k s.step (ap (int_le (pos 0)) (sym (to_z-of_z fc)) ∙ c.if-steps-ge0.true) in
    let same = ap (λ z. z +ℤ pos (k * c.unsigned_abs.result)) (to_z-of_z fa) ∙ ap (λ m. s.start +ℤ pos (k * m)) size ∙ ap (λ z. s.start +ℤ z) up in
    subst (FitsSigned w64) (sym same) r.fits

pub below-requires : goal.below-requires
below-requires c =
    let s = c.args.steps.now in
    let k = c.args.place in
    let fa : FitsSigned w64 s.start = search rules in
    let fb : FitsSigned w64 s.stop = search rules in
    let fc : FitsSigned w64 s.step = search rules in
    let size = c.unsigned_abs.ensures.value ∙ ap unsigned_abs (to_z-of_z fc) in
    let r = item_reached s.start s.stop s.step k fa fb c.requires in
    let down = steps_down k s.step (ap (int_le (pos 0)) (sym (to_z-of_z fc)) ∙ c.if-steps-ge0.false) in
    let same = ap (λ z. z -ℤ pos (k * c.unsigned_abs.result)) (to_z-of_z fa) ∙ ap (λ m. s.start -ℤ pos (k * m)) size ∙ ap (λ z. s.start +ℤ z) down in
    subst (FitsSigned w64) (sym same) r.fits
