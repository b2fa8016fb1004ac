use Rattle.si_interp.specs.inner.Keeps.{moment_of}
use Rattle.si_interp.proofs.interp.Interp.answer.Given as goal

abbrev pub ghost-answered : goal.ghost-answered
ghost-answered a = moment_of a.id a.log.now a.locals
