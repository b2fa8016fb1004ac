use Rattle.std.proofs.Common.{ap}
use Rattle.si_semantics.specs.Value as pure
use Rattle.si_semantics.specs.Operations.{placed}
use Rattle.si_semantics.specs.Attributes.{thread_of}
use Rattle.si_arena.specs.Memory.{value_of}
use Rattle.si_arena.specs.Texts.{text_of}
use Rattle.si_arena.specs.declared.cause.Cause.TheVariants.{WrongType}
use Rattle.si_methods.proofs.Calling.{answers_as, throws}
use Rattle.si_methods.proofs.threads.thread_in.Goals as goal

pub made-requires-clause-lies : goal.made-requires-clause-lies
made-requires-clause-lies c = c.in-Some.ensures.0

pub made-requires-clause-text : goal.made-requires-clause-text
made-requires-clause-text c = c.in-Some.ensures.1

pub returns-in-Some : goal.returns-in-Some
returns-in-Some c = λ own.
    let m = c.args.arena.now in
    answers_as (λ w. thread_of (pure.Exec c.args.interpreter) (value_of m c.args.args) w) (λ w. placed (pure.Thread c.args.interpreter (text_of m.texts c.in-Some.text)) w) own m c.made.new.arena c.made.result
    (λ w e. ap (λ v. thread_of (pure.Exec c.args.interpreter) v w) c.in-Some.ensures.2)
    (c.made.ensures own)

pub returns-in-None : goal.returns-in-None
returns-in-None c = λ own.
    let m = c.args.arena.now in
    throws (λ w. thread_of (pure.Exec c.args.interpreter) (value_of m c.args.args) w) own m WrongType tt
    (λ w e. c.in-None.ensures c.args.interpreter w)
