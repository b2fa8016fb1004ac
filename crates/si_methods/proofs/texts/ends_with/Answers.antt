use Rattle.si_semantics.specs.Attributes as attributes
use Rattle.si_semantics.specs.Attributes.{call_method, tested_texts, ends_with}
use Rattle.si_arena.specs.Memory.{value_of, all_of}
use Rattle.si_arena.specs.declared.cause.Cause.TheVariants.{WrongArguments}
use Rattle.si_methods.specs.Answering.{told_of}
use Rattle.si_methods.proofs.Calling.{answers_as, throws}
use Rattle.si_methods.proofs.texts.ends_with.Goals as goal

pub ends-requires-clause-part : goal.ends-requires-clause-part
ends-requires-clause-part c = (c.in-Some.ensures c.args.arena.now c.requires.arguments).0

pub returns-in-Some : goal.returns-in-Some
returns-in-Some c = λ own.
    let m = c.args.arena.now in
    let v = value_of m c.args.object in
    let p = c.in-Some.ensures m c.requires.arguments in
    answers_as (λ w. call_method attributes.EndsWith v (all_of m c.args.arguments.now) c.args.names.now w) (λ w. tested_texts ends_with v (value_of m c.in-Some.part) w) own m m (told_of c.ends.result)
    (λ w e. p.1 (λ u. tested_texts ends_with v u w) w)
    (c.ends.ensures own)

pub returns-in-None : goal.returns-in-None
returns-in-None c = λ own.
    let m = c.args.arena.now in
    let v = value_of m c.args.object in
    throws (λ w. call_method attributes.EndsWith v (all_of m c.args.arguments.now) c.args.names.now w) own m WrongArguments tt
    (λ w e. c.in-None.ensures m (λ u. tested_texts ends_with v u w) w)
