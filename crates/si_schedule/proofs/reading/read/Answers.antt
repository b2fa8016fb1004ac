use Rattle.std.proofs.Common.{◌≡◌, ℕ, List, Result, Ok, Err, IfOk, IfErr, sym, ◌∙◌}
use Rattle.si_schedule.specs.declared.fault.ReadFault.{ReadFault}
use Rattle.si_schedule.specs.declared.fault.ReadFault.TheVariants as faults
use Rattle.si_schedule.specs.Schedules.{Schedule, IsSchedule, text_of}
use Rattle.si_schedule.specs.BadLines.{IsReadFault, IsNoMemory}
use Rattle.si_schedule.proofs.Schedules.{one_schedule}
use Rattle.si_schedule.proofs.reading.read.Goals as goal

only_one : (text : List ℕ) (r : Result Schedule ReadFault) → IfOk r (λ s. text ≡ text_of s) → IfOk r IsSchedule → IfOk r (λ s. (t : Schedule) → IsSchedule t → text ≡ text_of t → s ≡ t)
only_one text (Ok s) h is = λ t is_t e. one_schedule s t is is_t (sym h ∙ e)
only_one text (Err f) h is = tt

has_none : (text : List ℕ) (f : ReadFault) → IsReadFault text f → (t : Schedule) → IsSchedule t → text ≡ text_of t → IsNoMemory f
has_none text (faults.BadLine k) h = h.none
has_none text faults.NoMemory h = λ t is e. tt

only_memory : (text : List ℕ) (r : Result Schedule ReadFault) → IfErr r (IsReadFault text) → IfErr r (λ f. (t : Schedule) → IsSchedule t → text ≡ text_of t → IsNoMemory f)
only_memory text (Ok s) h = tt
only_memory text (Err f) h = has_none text f h

pub returns-clause-only : goal.returns-clause-only
returns-clause-only c = only_one c.args.text.now c.read_text.result c.read_text.ensures.ok c.read_text.ensures.is

pub returns-clause-memory : goal.returns-clause-memory
returns-clause-memory c = only_memory c.args.text.now c.read_text.result c.read_text.ensures.err
