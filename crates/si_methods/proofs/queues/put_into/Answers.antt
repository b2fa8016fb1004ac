use Rattle.std.proofs.Common.{ap, ◌∙◌}
use Rattle.si_semantics.specs.World.{Asked}
use Rattle.si_semantics.specs.Attributes.{puts, shared}
use Rattle.si_arena.specs.Memory.{value_of}
use Rattle.si_methods.proofs.Sending.{sent_told}
use Rattle.si_methods.proofs.Calling.{not_put}
use Rattle.si_methods.proofs.Otherwise.{puts_no_queue}
use Rattle.si_methods.proofs.queues.put_into.Goals as goal

pub returns-in-Ok-clause-puts : goal.returns-in-Ok-clause-puts
returns-in-Ok-clause-puts c = λ request w.
    let u = value_of c.args.arena.now c.args.item in
    ap (λ x. puts request x u w) c.in-Some.ensures
    ∙ ap (λ o. shared o (λ p. Asked (request c.in-Some.queue.0 p) w) w) c.in-Ok.ensures

pub returns-in-Err-clause-puts : goal.returns-in-Err-clause-puts
returns-in-Err-clause-puts c =
    let m = c.args.arena.now in
    not_put (value_of m c.args.object) (value_of m c.args.item) c.in-Some.queue.0 c.in-Some.queue.1 m c.in-Err.fault c.in-Some.ensures c.in-Err.ensures

pub returns-in-None-clause-puts : goal.returns-in-None-clause-puts
returns-in-None-clause-puts c = λ request.
    let m = c.args.arena.now in
    ((λ w e. puts_no_queue (value_of m c.args.object) (value_of m c.args.item) request w c.in-None.ensures), tt)

pub returns-in-Err-clause-memory : goal.returns-in-Err-clause-memory
returns-in-Err-clause-memory c = λ h. sent_told (value_of c.args.arena.now c.args.item) c.in-Err.fault c.in-Err.ensures h
