use Rattle.si_semantics.specs.Value as pure
use Rattle.si_arena.specs.Texts.{text_of}
use Rattle.si_methods.proofs.Calling.{places}
use Rattle.si_methods.proofs.threads.made.Goals as goal

pub returns-in-Ok : goal.returns-in-Ok
returns-in-Ok c = λ own.
    let m = c.args.arena.now in
    places (pure.Thread c.args.interpreter (text_of m.texts c.args.text)) own m c.make.new.self c.in-Ok.thread c.in-Ok.ensures.ok

pub returns-in-Err : goal.returns-in-Err
returns-in-Err c = λ own. c.in-Err.ensures.err
