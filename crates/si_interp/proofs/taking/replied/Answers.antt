use Rattle.std.proofs.Common.{◌∙◌}
use Rattle.si_methods.specs.Given.{answer_in}
use Rattle.si_parcel.specs.Shared.{answer_of}
use Rattle.si_interp.proofs.Answering.{replied_led, replied_silent}
use Rattle.si_interp.proofs.taking.replied.Goals as goal

pub answer-came-requires : goal.answer-came-requires
answer-came-requires g c = (c.requires.stands, c.requires.waiting)

pub led-requires : goal.led-requires
led-requires g c =
    replied_led g.c (answer_in (answer_of c.args.answer.now)) c.args.machine.now c.answer-came.new.self c.answer-came.result c.requires
    c.answer-came.ensures

pub returns-clause-printed : goal.returns-clause-printed
returns-clause-printed g c =
    c.led.ensures.printed
    ∙ replied_silent g.c (answer_in (answer_of c.args.answer.now)) c.args.machine.now c.answer-came.new.self c.answer-came.result c.requires
    c.answer-came.ensures
