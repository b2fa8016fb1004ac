use Rattle.std.proofs.Common.{refl, ap}
use Rattle.si_semantics.specs.World as world
use Rattle.si_semantics.specs.World.{Asked}
use Rattle.si_semantics.specs.Attributes.{alone}
use Rattle.si_arena.specs.Memory.{all_of}
use Rattle.si_methods.proofs.Passed.{no_values}
use Rattle.si_methods.proofs.modules.list_all.Goals as goal

pub returns : goal.returns
returns c = λ m own v names.
    let none = no_values c.args.arguments.now c.is_empty.result c.is_empty.ensures c.if-not-is_empty.false in
    (record { request = world.ListAll; asks = λ w e. ap (λ xs. alone (all_of m xs) (Asked world.ListAll w) w) none; made_by = refl; kept_is = refl; lies = tt }, refl)
