use Rattle.si_semantics.specs.Attributes as attributes
use Rattle.si_semantics.specs.Attributes.{call_method, pops_value}
use Rattle.si_arena.specs.Memory.{value_of, all_of}
use Rattle.si_arena.specs.declared.cause.Cause.TheVariants.{WrongArguments}
use Rattle.si_methods.proofs.Calling.{answers_as, throws}
use Rattle.si_methods.specs.Answering.{told_of}
use Rattle.si_methods.proofs.containers.pop_value.Goals as goal

pub pop_key-requires-clause-key : goal.pop_key-requires-clause-key
pop_key-requires-clause-key c = (c.in-Some.ensures c.args.arena.now c.requires.arguments).0

pub returns-in-Some : goal.returns-in-Some
returns-in-Some c = λ own.
    let m = c.args.arena.now in
    let v = value_of m c.args.object in
    let p = c.in-Some.ensures m c.requires.arguments in
    answers_as (λ w. call_method attributes.PopValue v (all_of m c.args.arguments.now) c.args.names.now w) (λ w. pops_value v (value_of m c.in-Some.key) w) own m c.pop_key.new.arena (told_of c.pop_key.result)
    (λ w e. p.1 (λ u. pops_value v u w) w)
    (c.pop_key.ensures own)

pub returns-in-None : goal.returns-in-None
returns-in-None c = λ own.
    let m = c.args.arena.now in
    let v = value_of m c.args.object in
    throws (λ w. call_method attributes.PopValue v (all_of m c.args.arguments.now) c.args.names.now w) own m WrongArguments tt
    (λ w e. c.in-None.ensures m (λ u. pops_value v u w) w)
