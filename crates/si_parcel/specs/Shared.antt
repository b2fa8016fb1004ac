-- The shared actions, answers and jobs for which values of this crate's types stand.
use Rattle.si_semantics.specs.Life as life
use Rattle.si_semantics.specs.Actions as shared
use Rattle.si_parcel.specs.declared.outcome.Outcome.{Outcome}
use Rattle.si_parcel.specs.declared.outcome.Outcome.TheVariants as outcome
use Rattle.si_parcel.specs.declared.job.Job.{Job}
use Rattle.si_parcel.specs.declared.job.Job.TheVariants as job
use Rattle.si_parcel.specs.declared.action.Action.{Action}
use Rattle.si_parcel.specs.declared.action.Action.TheVariants as action
use Rattle.si_parcel.specs.declared.answer.Answer.{Answer}
use Rattle.si_parcel.specs.declared.answer.Answer.TheVariants as answer

abbrev pub outcome_of : Outcome → life.Outcome
outcome_of outcome.Returned = life.Returned
outcome_of (outcome.Raised kind message) = life.Raised kind message

abbrev pub job_of : Job → shared.Job
job_of (job.Bind binds) = shared.Bind binds
job_of (job.Run run text) = shared.Run run text
job_of job.Closing = shared.Closing

abbrev pub action_of : Action → shared.Action
action_of action.Create = shared.Create
action_of (action.CreateQueue maxsize) = shared.CreateQueue maxsize
action_of (action.Put queue parcel) = shared.Put queue parcel
action_of (action.PutNow queue parcel) = shared.PutNow queue parcel
action_of (action.Get queue) = shared.Get queue
action_of (action.GetNow queue) = shared.GetNow queue
action_of (action.Size queue) = shared.Size queue
action_of (action.Prepare id binds) = shared.Prepare id binds
action_of (action.Start id text) = shared.Start id text
action_of (action.Await run) = shared.Await run
action_of (action.IsRunning id) = shared.IsRunning id
action_of (action.Close id) = shared.Close id
action_of action.ListAll = shared.ListAll
action_of action.Take = shared.Take
action_of (action.End o) = shared.End (outcome_of o)

abbrev pub answer_of : Answer → shared.Answer
answer_of answer.Limit = shared.Limit
answer_of (answer.Created id) = shared.Created id
answer_of (answer.QueueMade id) = shared.QueueMade id
answer_of (answer.Started run) = shared.Started run
answer_of answer.Done = shared.Done
answer_of answer.Full = shared.Full
answer_of answer.Empty = shared.Empty
answer_of (answer.Item parcel) = shared.Item parcel
answer_of (answer.Count count) = shared.Count count
answer_of answer.NotFound = shared.NotFound
answer_of answer.Running = shared.Running
answer_of answer.Current = shared.Current
answer_of answer.Main = shared.Main
answer_of (answer.Ended o) = shared.Ended (outcome_of o)
answer_of (answer.Truth truth) = shared.Truth truth
answer_of (answer.Ids ids) = shared.Ids ids
answer_of (answer.Given j) = shared.Given (job_of j)
