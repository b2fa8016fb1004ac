use Rattle.std.proofs.Common.{◌≡◌, ℤ, Some, refl, subst}
use Rattle.std.proofs.Math.Facts.{to_z-of_z}
use Rattle.si_semantics.specs.World as world
use Rattle.si_semantics.specs.World.{World, Asked}
use Rattle.si_semantics.specs.Attributes as attributes
use Rattle.si_methods.proofs.modules.queue_of.Goals as goal

pub returns : goal.returns
returns c = λ m own.
    let P : World → ℤ → Type 0 = λ w z. attributes.queue_of (Some z) w ≡ Asked (world.CreateQueue c.most_items-most.result) w in
    (record { request = world.CreateQueue c.most_items-most.result; asks = λ w e. subst (P w) (to_z-of_z c.ranges.n) (c.most_items-most.ensures w); made_by = refl; kept_is = refl; lies = tt }, refl)
