use Rattle.std.proofs.Common.{ap}
use Rattle.si_semantics.specs.Value as pure
use Rattle.si_semantics.specs.Attributes.{thread_of}
use Rattle.si_arena.specs.Memory.{value_of}
use Rattle.si_arena.specs.declared.cause.Cause.TheVariants.{WrongType}
use Rattle.si_methods.proofs.Calling.{answers_as, throws}
use Rattle.si_methods.proofs.Otherwise.{threads_nothing}
use Rattle.si_methods.proofs.threads.thread_of.Goals as goal

pub returns-in-Some : goal.returns-in-Some
returns-in-Some c = λ own.
    let m = c.args.arena.now in
    answers_as (λ w. thread_of (value_of m c.args.target) (value_of m c.args.args) w) (λ w. thread_of (pure.Exec c.in-Some.interpreter) (value_of m c.args.args) w) own m c.thread_in.new.arena c.thread_in.result
    (λ w e. ap (λ v. thread_of v (value_of m c.args.args) w) c.in-Some.ensures)
    (c.thread_in.ensures own)

pub returns-in-None : goal.returns-in-None
returns-in-None c = λ own.
    let m = c.args.arena.now in
    throws (λ w. thread_of (value_of m c.args.target) (value_of m c.args.args) w) own m WrongType tt
    (λ w e. threads_nothing (value_of m c.args.target) (value_of m c.args.args) w c.in-None.ensures)
