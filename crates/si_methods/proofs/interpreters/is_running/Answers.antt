use Rattle.std.proofs.Common.{refl}
use Rattle.si_semantics.specs.World as world
use Rattle.si_methods.proofs.interpreters.is_running.Goals as goal

pub returns-in-Ok : goal.returns-in-Ok
returns-in-Ok c = λ own names. (record { request = world.IsRunning c.in-Ok.id; asks = λ w e. c.in-Ok.ensures world.IsRunning w; made_by = refl; kept_is = refl; lies = tt }, refl)

pub returns-in-Err : goal.returns-in-Err
returns-in-Err c = λ own names. (c.in-Err.ensures world.IsRunning, refl)
