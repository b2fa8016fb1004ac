use Rattle.std.proofs.Common.{◌≡◌, map, take}
use Rattle.si_semantics.specs.Shared.{Queue}
use Rattle.si_hub.specs.Hubs.{state_of}
use Rattle.si_world.proofs.recording.copy_queues.Given as goal

abbrev pub invariant-loop-id : goal.invariant-loop-id
invariant-loop-id l = l.copy.items ≡ map (λ (q : Queue). q.items) (take l.id (state_of l.hub.past).queues)
