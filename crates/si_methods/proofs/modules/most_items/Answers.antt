use Rattle.std.proofs.Common.{◌≡◌, ℤ, pos, true, false, subst, ap, ◌∙◌}
use Rattle.std.specs.Prelude.{unsigned_abs}
use Rattle.std.specs.Int.Signed.{lt_z}
use Rattle.std.proofs.Math.Facts.{to_z-of_z}
use Rattle.si_semantics.specs.World as world
use Rattle.si_semantics.specs.World.{Asked}
use Rattle.si_methods.proofs.Calling.{below_bound, within_bound}
use Rattle.si_methods.proofs.modules.most_items.Goals as goal

pub returns-then-n-lt0 : goal.returns-then-n-lt0
returns-then-n-lt0 c = λ w.
    let P : ℤ → Type 0 = λ z. lt_z z (pos 0) ≡ true in
    below_bound c.args.n w (subst P (to_z-of_z c.ranges.n) c.if-n-lt0.true)

pub returns-else-n-lt0 : goal.returns-else-n-lt0
returns-else-n-lt0 c = λ w.
    let P : ℤ → Type 0 = λ z. lt_z z (pos 0) ≡ false in
    let e : unsigned_abs c.args.n ≡ c.unsigned_abs.result = cc (to_z-of_z c.ranges.n, c.unsigned_abs.ensures.value) in
    within_bound c.args.n w (subst P (to_z-of_z c.ranges.n) c.if-n-lt0.false) ∙ ap (λ k. Asked (world.CreateQueue k) w) e
