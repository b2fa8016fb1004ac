use Rattle.si_semantics.specs.Attributes as attributes
use Rattle.si_semantics.specs.Attributes.{call_method, thread_of}
use Rattle.si_arena.specs.Memory.{value_of, all_of}
use Rattle.si_arena.specs.declared.cause.Cause.TheVariants.{WrongArguments}
use Rattle.si_methods.proofs.Calling.{answers_as, throws}
use Rattle.si_methods.proofs.threads.make_thread.Goals as goal

pub thread_of-requires-clause-target : goal.thread_of-requires-clause-target
thread_of-requires-clause-target c = (c.in-Some.ensures c.args.arena.now c.requires).0

pub thread_of-requires-clause-args : goal.thread_of-requires-clause-args
thread_of-requires-clause-args c = (c.in-Some.ensures c.args.arena.now c.requires).1

pub returns-in-Some : goal.returns-in-Some
returns-in-Some c = λ own v.
    let m = c.args.arena.now in
    let p = c.in-Some.ensures m c.requires in
    answers_as (λ w. call_method attributes.MakeThread v (all_of m c.args.arguments.now) c.args.names.now w) (λ w. thread_of (value_of m c.in-Some.pair.0) (value_of m c.in-Some.pair.1) w) own m c.thread_of.new.arena c.thread_of.result
    (λ w e. p.2 w)
    (c.thread_of.ensures own)

pub returns-in-None : goal.returns-in-None
returns-in-None c = λ own v.
    let m = c.args.arena.now in
    throws (λ w. call_method attributes.MakeThread v (all_of m c.args.arguments.now) c.args.names.now w) own m WrongArguments tt
    (λ w e. c.in-None.ensures m w)
