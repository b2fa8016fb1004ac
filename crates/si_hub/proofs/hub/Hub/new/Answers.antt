use Rattle.std.proofs.Common.{sym, ◌∙◌}
use Rattle.si_hub.proofs.Histories.{replay_first}
use Rattle.si_hub.proofs.hub.Hub.new.Goals as goal

pub invariant_of-result : goal.invariant_of-result
invariant_of-result c = replay_first _ _ _ c.new-3.ensures.items c.in_ok-shared.ensures (c.in_ok-first.ensures.text ∙ c.in_ok-from_str.ensures ∙ sym c.in_ok-text.ensures)
