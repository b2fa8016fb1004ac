use Rattle.std.proofs.Common.{ap}
use Rattle.si_semantics.specs.Actions.{Action, Done}
use Rattle.si_semantics.specs.History.{answer_in}
use Rattle.si_parcel.specs.Shared.{action_of}
use Rattle.si_hub.specs.HubCode.{Past, HubView}
use Rattle.si_hub.proofs.Histories as history
use Rattle.si_hub.proofs.Histories.{done_so, row_enabled, keeps, acts_so}
use Rattle.si_hub.proofs.hub.Hub.put.Goals as goal

pub put_copy-requires : goal.put_copy-requires
put_copy-requires c =
    let enabled = row_enabled c.self.inside.shared _ _ c.args.by (action_of c.args.action) (ap (λ (v : HubView). v.past) c.self.view_is) c.self.invariant c.requires.enabled in
    rw c.in-Put.is at enabled

-- the past before the call, by the fields of the open value
abbrev past_of : goal.After-push_reserved → Past
past_of c = record { script = c.self.inside.script; limits = c.self.inside.limits; journal = c.self.inside.journal.items }

abbrev asked : goal.After-push_reserved → Action
asked c = action_of c.args.action

done : (c : goal.After-push_reserved) → history.Done c.self.inside.shared c.put_copy.new.self c.args.self.now.past (past_of c) c.push_reserved.new.self.items c.args.by (past_of c).limits.interpreters
    (asked c) (asked c) Done Done
done c =
    done_so c.self.inside.shared _ _ (past_of c) _ c.args.by (asked c) _ _ (ap (λ (v : HubView). v.past) c.self.view_is) c.self.invariant c.requires.enabled
    (rw c.in-Put.is c.in-Ok.ensures.ok) (rw c.in-Put.is (ap answer_in c.in-Ok.ensures.ok)) c.push_reserved.ensures.items

pub invariant_of-self-in-Ok : goal.invariant_of-self-in-Ok
invariant_of-self-in-Ok c = keeps _ _ _ _ _ _ _ _ _ _ _ (done c) c.self.invariant

pub returns-in-Ok-clause-ok : goal.returns-in-Ok-clause-ok
returns-in-Ok-clause-ok c = acts_so _ _ _ _ _ _ _ _ _ _ _ (done c) c.self.invariant
