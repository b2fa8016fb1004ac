use Rattle.std.proofs.Common.{◌++◌, ◌∷◌, [], ◌∙◌, List, ap₂, sym}
use Rattle.si_semantics.specs.Parcels.{Tree}
use Rattle.si_hub.specs.Hubs.{state_of}
use Rattle.si_world.proofs.Copying.{items_more}
use Rattle.si_world.proofs.recording.copy_queues.Goals as goal

pub loop-id-preserved : goal.loop-id-preserved
loop-id-preserved c =
    c.in_ok-push-in-Some.ensures.items ∙ ap₂ (λ (xs : List (List Tree)) (q : List Tree). xs ++ q ∷ []) c.loop-id.invariant c.in_ok-of-in-Some.ensures
    ∙ sym (items_more (state_of c.args.hub.now.past).queues c.loop-id.id c.in-Some.queue.now c.in-Some.ensures)
