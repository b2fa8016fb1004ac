use Rattle.si_interp.proofs.Lines.{stepped_once, stepped_told}
use Rattle.si_interp.proofs.interp.Interp.step.Goals as goal

pub returns-in-Ready-clause-ready : goal.returns-in-Ready-clause-ready
returns-in-Ready-clause-ready c = λ _. stepped_once c.lines.result.0 c.args.self.now c.lines.new.self c.lines.result.1 c.lines.ensures

pub returns-in-Ready-clause-told : goal.returns-in-Ready-clause-told
returns-in-Ready-clause-told c = stepped_told c.lines.result.0 c.args.self.now c.lines.new.self c.lines.result.1 c.lines.ensures
