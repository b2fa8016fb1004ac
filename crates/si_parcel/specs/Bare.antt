-- What holds neither a text, nor a parcel, nor a list: a copy of it takes no memory (this project's own).
use Rattle.std.specs.Prelude.{Bool, true, false}
use Rattle.si_semantics.specs.Life.{Outcome, Returned, Raised}
use Rattle.si_semantics.specs.Actions as shared
use Rattle.si_semantics.specs.Actions.{Action, Job, Answer}

abbrev pub is_bare_outcome : Outcome → Bool
is_bare_outcome Returned = true
is_bare_outcome (Raised kind message) = false

abbrev pub is_bare_job : Job → Bool
is_bare_job (shared.Bind binds) = false
is_bare_job (shared.Run run text) = false
is_bare_job shared.Closing = true

abbrev pub is_bare_action : Action → Bool
is_bare_action (shared.Put queue parcel) = false
is_bare_action (shared.PutNow queue parcel) = false
is_bare_action (shared.Prepare id binds) = false
is_bare_action (shared.Start id text) = false
is_bare_action (shared.End o) = is_bare_outcome o
is_bare_action _ = true

abbrev pub is_bare_answer : Answer → Bool
is_bare_answer (shared.Item parcel) = false
is_bare_answer (shared.Ids ids) = false
is_bare_answer (shared.Ended o) = is_bare_outcome o
is_bare_answer (shared.Given j) = is_bare_job j
is_bare_answer _ = true
