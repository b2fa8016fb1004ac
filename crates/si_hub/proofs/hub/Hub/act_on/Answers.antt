use Rattle.std.proofs.Common.{ap}
use Rattle.si_parcel.specs.Shared.{action_of, answer_of}
use Rattle.si_hub.specs.HubCode.{Past, HubView}
use Rattle.si_hub.proofs.Histories.{Done, keeps, acts_so}
use Rattle.si_hub.proofs.hub.Hub.act_on.Goals as goal

-- the past before the call, by the fields of the open value
abbrev past_of : goal.After-push_reserved → Past
past_of c = record { script = c.self.inside.script; limits = c.self.inside.limits; journal = c.self.inside.journal.items }

done : (c : goal.After-push_reserved) → Done c.self.inside.shared c.act.new.self c.args.self.now.past (past_of c) c.push_reserved.new.self.items c.args.by c.interpreters.result
    (action_of c.args.action) (action_of c.in-Ok.stock.action) (answer_of c.in-Ok-act.told) (answer_of c.in-Ok.stock.answer)
done c = record {
  same = ap (λ (v : HubView). v.past) c.self.view_is;
  most_is = c.interpreters.ensures.value;
  stock_is = ap action_of c.in-Ok.ensures.action;
  kept_is = c.in-Ok.ensures.answer;
  replied = c.in-Ok-act.ensures.ok;
  push = c.push_reserved.ensures.items;
}

pub invariant_of-self-in-Ok-act : goal.invariant_of-self-in-Ok-act
invariant_of-self-in-Ok-act c = keeps _ _ _ _ _ _ _ _ _ _ _ (done c) c.self.invariant

pub returns-in-Ok-act-clause-ok : goal.returns-in-Ok-act-clause-ok
returns-in-Ok-act-clause-ok c = acts_so _ _ _ _ _ _ _ _ _ _ _ (done c) c.self.invariant
