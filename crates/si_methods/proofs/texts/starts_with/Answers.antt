use Rattle.si_semantics.specs.Parts.{begins_with}
use Rattle.si_semantics.specs.Attributes as attributes
use Rattle.si_semantics.specs.Attributes.{call_method, tested_texts}
use Rattle.si_arena.specs.Memory.{value_of, all_of}
use Rattle.si_arena.specs.declared.cause.Cause.TheVariants.{WrongArguments}
use Rattle.si_methods.specs.Answering.{told_of}
use Rattle.si_methods.proofs.Calling.{answers_as, throws}
use Rattle.si_methods.proofs.texts.starts_with.Goals as goal

pub begins-requires-clause-part : goal.begins-requires-clause-part
begins-requires-clause-part c = (c.in-Some.ensures c.args.arena.now c.requires.arguments).0

pub returns-in-Some : goal.returns-in-Some
returns-in-Some c = λ own.
    let m = c.args.arena.now in
    let v = value_of m c.args.object in
    let p = c.in-Some.ensures m c.requires.arguments in
    answers_as (λ w. call_method attributes.StartsWith v (all_of m c.args.arguments.now) c.args.names.now w) (λ w. tested_texts begins_with v (value_of m c.in-Some.part) w) own m m (told_of c.begins.result)
    (λ w e. p.1 (λ u. tested_texts begins_with v u w) w)
    (c.begins.ensures own)

pub returns-in-None : goal.returns-in-None
returns-in-None c = λ own.
    let m = c.args.arena.now in
    let v = value_of m c.args.object in
    throws (λ w. call_method attributes.StartsWith v (all_of m c.args.arguments.now) c.args.names.now w) own m WrongArguments tt
    (λ w e. c.in-None.ensures m (λ u. tested_texts begins_with v u w) w)
