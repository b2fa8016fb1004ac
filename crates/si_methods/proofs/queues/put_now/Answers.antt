use Rattle.std.proofs.Common.{refl}
use Rattle.std.specs.Prelude.{codes}
use Rattle.si_semantics.specs.World as world
use Rattle.si_semantics.specs.Attributes.{one_argument}
use Rattle.si_arena.specs.Memory.{value_of, all_of}
use Rattle.si_methods.proofs.Calling.{puts_as}
use Rattle.si_methods.proofs.queues.put_now.Goals as goal

pub returns-in-Ok-clause-answers : goal.returns-in-Ok-clause-answers
returns-in-Ok-clause-answers c = λ own. (record { request = world.PutNow c.in-Ok.put.0 c.in-Ok.put.1; asks = λ w e. c.in-Ok.ensures.puts world.PutNow w; made_by = refl; kept_is = refl; lies = tt }, refl)

pub returns-in-Err-clause-answers : goal.returns-in-Err-clause-answers
returns-in-Err-clause-answers c = λ own.
    let m = c.args.arena.now in
    puts_as (λ does w. one_argument (codes "obj") (all_of m c.args.arguments.now) c.args.names.now does w) (value_of m c.args.object) own m c.in-Err.fault world.PutNow c.in-Err.ensures.puts

pub returns-in-Err-clause-memory : goal.returns-in-Err-clause-memory
returns-in-Err-clause-memory c = λ h. c.in-Err.ensures.memory h
