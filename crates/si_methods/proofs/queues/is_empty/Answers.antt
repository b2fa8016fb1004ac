use Rattle.std.proofs.Common.{refl}
use Rattle.si_semantics.specs.World as world
use Rattle.si_methods.proofs.queues.is_empty.Goals as goal

pub returns-in-Ok : goal.returns-in-Ok
returns-in-Ok c = λ own names. (record { request = world.IsEmpty c.in-Ok.queue.0; asks = λ w e. c.in-Ok.ensures (λ q m. world.IsEmpty q) w; made_by = refl; kept_is = refl; lies = tt }, refl)

pub returns-in-Err : goal.returns-in-Err
returns-in-Err c = λ own names. (c.in-Err.ensures (λ q m. world.IsEmpty q), refl)
