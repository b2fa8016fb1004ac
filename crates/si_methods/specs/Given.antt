-- The answers of what all share, as the language takes them.
use Rattle.std.specs.Prelude.{Option, Some, None}
use Rattle.si_semantics.specs.Value.{Value, Nothing}
use Rattle.si_semantics.specs.Shareable.{value_of_parcel}
use Rattle.si_semantics.specs.World as language
use Rattle.si_semantics.specs.Actions as shared
use Rattle.si_semantics.specs.Actions.{Answer}

-- the value of an item; each parcel has one
abbrev pub item_in : Option Value → language.Answer
item_in (Some v) = language.Item v
item_in None = language.Item Nothing

-- an answer to a request, as the language takes it: with the value of a parcel. No request is answered a job; it would be as
-- Done
abbrev pub answer_in : Answer → language.Answer
answer_in (shared.Given job) = language.Done
answer_in shared.Done = language.Done
answer_in shared.Limit = language.Limit
answer_in (shared.Created i) = language.Created i
answer_in (shared.QueueMade q) = language.QueueMade q
answer_in (shared.Started r) = language.Started r
answer_in shared.Full = language.Full
answer_in shared.Empty = language.Empty
answer_in (shared.Item p) = item_in (value_of_parcel p)
answer_in (shared.Count n) = language.Count n
answer_in shared.NotFound = language.NotFound
answer_in shared.Running = language.Running
answer_in shared.Current = language.Current
answer_in shared.Main = language.Main
answer_in (shared.Ended o) = language.Ended o
answer_in (shared.Truth b) = language.Truth b
answer_in (shared.Ids is) = language.Ids is
