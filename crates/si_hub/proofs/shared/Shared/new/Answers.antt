use Rattle.std.proofs.Common.{◌≡◌, List, [], ◌∷◌, ◌++◌, refl, ap, ◌∙◌}
use Rattle.si_semantics.specs.Value.{Text}
use Rattle.si_semantics.specs.Shared.{Queue, State, idle_interpreter, first_state}
use Rattle.si_registry.specs.RegistryCode.{Registered}
use Rattle.si_registry.specs.Registers.{with_run}
use Rattle.si_hub.proofs.shared.Shared.new.Goals as goal

-- one idle interpreter, and no run
abbrev one_idle : Registered
one_idle = record { interpreters = idle_interpreter ∷ []; runs = [] }

state_is : (q : List Queue) (r : Registered) (text : Text) → q ≡ [] → r ≡ with_run 0 idle_interpreter text one_idle
    → (let x : State = record { queues = q; interpreters = r.interpreters; runs = r.runs } in x ≡ first_state text)
state_is q r text e f = rw (e, f) refl

pub returns : goal.returns
returns c =
    let made : c.create.new.self ≡ one_idle
    = (rw c.in-Some.is at c.in_ok-create.ensures.made).2
    ∙ ap (λ (r : Registered). let x : Registered = record { interpreters = r.interpreters ++ idle_interpreter ∷ []; runs = r.runs } in x) c.new-registry.ensures in
    let started = c.in_ok-start-in-Some.ensures.ok idle_interpreter (rw made refl) in
    state_is _ _ _ c.new.ensures (started ∙ ap (λ (r : Registered). with_run 0 idle_interpreter c.args.script r) made)
