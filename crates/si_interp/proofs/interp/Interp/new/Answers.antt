use Rattle.std.proofs.Common.{◌∙◌, arith}
use Rattle.si_semantics.specs.Actions.{Take}
use Rattle.si_interp.specs.Meaning.{At}
use Rattle.si_interp.proofs.Keeping.{keeps_new, new_view, no_text}
use Rattle.si_interp.proofs.interp.Interp.new.Goals as goal

pub invariant_of-result : goal.invariant_of-result
invariant_of-result c = keeps_new _ _ _ _ (c.reserve.ensures.items ∙ c.new-log.ensures.items) c.new.ensures.waits c.new.ensures.table c.new.ensures.printed (omega (arith, c.in_ok-reserve.ensures.ok))

pub returns : goal.returns
returns c = new_view c.args.id _ c.reserve.new.self.items (At Take) (no_text c.new.result c.new.ensures.printed) (c.reserve.ensures.items ∙ c.new-log.ensures.items)
