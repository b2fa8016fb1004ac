use Rattle.std.proofs.Common.{ap}
use Rattle.si_semantics.specs.Actions.{Action, Size, Answer, Count}
use Rattle.si_semantics.specs.History.{answer_in}
use Rattle.si_hub.specs.HubCode.{Past, HubView}
use Rattle.si_hub.proofs.Histories.{Done, done_so, row_enabled, keeps, acts_so}
use Rattle.si_hub.proofs.hub.Hub.size.Goals as goal

pub size-count-requires : goal.size-count-requires
size-count-requires c = row_enabled c.self.inside.shared _ _ c.args.by (Size c.args.queue) (ap (λ (v : HubView). v.past) c.self.view_is) c.self.invariant c.requires.enabled

-- the past before the call, by the fields of the open value
abbrev past_of : goal.After-push_reserved → Past
past_of c = record { script = c.self.inside.script; limits = c.self.inside.limits; journal = c.self.inside.journal.items }

abbrev asked : goal.After-push_reserved → Action
asked c = Size c.args.queue

abbrev counted : goal.After-push_reserved → Answer
counted c = Count c.size-count.result

done : (c : goal.After-push_reserved) → Done c.self.inside.shared c.self.inside.shared c.args.self.now.past (past_of c) c.push_reserved.new.self.items c.args.by (past_of c).limits.interpreters
    (asked c) (asked c) (counted c) (counted c)
done c =
    done_so c.self.inside.shared _ _ (past_of c) _ c.args.by (asked c) _ (counted c) (ap (λ (v : HubView). v.past) c.self.view_is) c.self.invariant c.requires.enabled
    c.size-count.ensures (ap answer_in c.size-count.ensures) c.push_reserved.ensures.items

pub invariant_of-self : goal.invariant_of-self
invariant_of-self c = keeps _ _ _ _ _ _ _ _ _ _ _ (done c) c.self.invariant

pub returns-clause-ok : goal.returns-clause-ok
returns-clause-ok c = acts_so _ _ _ _ _ _ _ _ _ _ _ (done c) c.self.invariant
