use Rattle.si_methods.specs.Given.{answer_in}
use Rattle.si_parcel.specs.Shared.{answer_of}
use Rattle.si_slots.specs.Code.{compiled}
use Rattle.si_slots.specs.Laws.{with_answer}
use Rattle.si_slots.specs.Machine.{next}
use Rattle.si_interp.proofs.taking.replied.Given as goal

abbrev pub ghost-answer : goal.ghost-answer
ghost-answer g a = g.c

abbrev pub ghost-led : goal.ghost-led
ghost-led g a = next compiled (with_answer (answer_in (answer_of a.answer.now)) g.c)
