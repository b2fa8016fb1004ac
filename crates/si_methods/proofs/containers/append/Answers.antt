use Rattle.si_semantics.specs.Attributes as attributes
use Rattle.si_semantics.specs.Attributes.{call_method, appends}
use Rattle.si_arena.specs.Memory.{value_of, all_of}
use Rattle.si_arena.specs.declared.cause.Cause.TheVariants.{WrongArguments}
use Rattle.si_methods.proofs.Calling.{answers_as, throws}
use Rattle.si_methods.proofs.containers.append.Goals as goal

pub append_to-requires-clause-value : goal.append_to-requires-clause-value
append_to-requires-clause-value c = (c.in-Some.ensures c.args.arena.now c.requires.arguments).0

pub returns-in-Some : goal.returns-in-Some
returns-in-Some c = λ own.
    let m = c.args.arena.now in
    let v = value_of m c.args.object in
    let p = c.in-Some.ensures m c.requires.arguments in
    answers_as (λ w. call_method attributes.Append v (all_of m c.args.arguments.now) c.args.names.now w) (λ w. appends v (value_of m c.in-Some.value) w) own m c.append_to.new.arena c.append_to.result
    (λ w e. p.1 (λ u. appends v u w) w)
    (c.append_to.ensures own)

pub returns-in-None : goal.returns-in-None
returns-in-None c = λ own.
    let m = c.args.arena.now in
    let v = value_of m c.args.object in
    throws (λ w. call_method attributes.Append v (all_of m c.args.arguments.now) c.args.names.now w) own m WrongArguments tt
    (λ w e. c.in-None.ensures m (λ u. appends v u w) w)
