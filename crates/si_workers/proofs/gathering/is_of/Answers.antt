use Rattle.std.proofs.Common.{◌∙◌, sym, inl}
use Rattle.si_workers.proofs.Scripts.{texts_differ}
use Rattle.si_workers.proofs.gathering.is_of.Goals as goal

pub returns-else-eq-clause-no : goal.returns-else-eq-clause-no
returns-else-eq-clause-no c = λ f. inl (λ e. texts_differ c.script.result.now c.args.script.now c.script.utf8 c.utf8.script (sym c.eq.ensures ∙ f) (c.script.ensures ∙ e))
