use Rattle.si_semantics.specs.Attributes as attributes
use Rattle.si_semantics.specs.Attributes.{call_method, executes_in}
use Rattle.si_arena.specs.Memory.{value_of, all_of}
use Rattle.si_arena.specs.declared.cause.Cause.TheVariants.{WrongArguments}
use Rattle.si_methods.proofs.Calling.{answers_as, throws}
use Rattle.si_methods.proofs.interpreters.execute.Goals as goal

pub run_in-requires-clause-text : goal.run_in-requires-clause-text
run_in-requires-clause-text c = (c.in-Some.ensures c.args.arena.now c.requires.arguments).0

pub returns-in-Some : goal.returns-in-Some
returns-in-Some c = λ own.
    let m = c.args.arena.now in
    let v = value_of m c.args.object in
    let p = c.in-Some.ensures m c.requires.arguments in
    answers_as (λ w. call_method attributes.Execute v (all_of m c.args.arguments.now) c.args.names.now w) (λ w. executes_in v (value_of m c.in-Some.text) w) own m m c.run_in.result
    (λ w e. p.1 (λ u. executes_in v u w) w)
    (c.run_in.ensures own)

pub returns-in-None : goal.returns-in-None
returns-in-None c = λ own.
    let m = c.args.arena.now in
    let v = value_of m c.args.object in
    throws (λ w. call_method attributes.Execute v (all_of m c.args.arguments.now) c.args.names.now w) own m WrongArguments tt
    (λ w e. c.in-None.ensures m (λ u. executes_in v u w) w)
