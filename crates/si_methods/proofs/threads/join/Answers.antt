use Rattle.std.proofs.Common.{ap, ◌∙◌}
use Rattle.std.specs.Prelude.{slice_get}
use Rattle.si_semantics.specs.Attributes as attributes
use Rattle.si_semantics.specs.Attributes.{call_method, alone, joins_at, joins}
use Rattle.si_arena.specs.Memory.{value_of, all_of}
use Rattle.si_arena.specs.declared.cause.Cause.TheVariants.{WrongArguments, WrongType}
use Rattle.si_methods.specs.Answering.{told_of}
use Rattle.si_methods.proofs.Passed.{alone_refuses, no_values}
use Rattle.si_methods.proofs.Calling.{answers_as, throws}
use Rattle.si_methods.proofs.Otherwise.{joins_nothing}
use Rattle.si_methods.proofs.threads.join.Goals as goal

pub returns-then-not-is_empty : goal.returns-then-not-is_empty
returns-then-not-is_empty c = λ own names.
    let m = c.args.arena.now in
    let v = value_of m c.args.object in
    throws (λ w. call_method attributes.Join v (all_of m c.args.arguments.now) names w) own m WrongArguments tt
    (λ w e. alone_refuses m c.args.arguments.now c.is_empty.result (joins_at v w) w c.is_empty.ensures c.if-not-is_empty.true)

pub returns-in-Some : goal.returns-in-Some
returns-in-Some c = λ own names.
    let m = c.args.arena.now in
    let v = value_of m c.args.object in
    let none = no_values c.args.arguments.now c.is_empty.result c.is_empty.ensures c.if-not-is_empty.false in
    answers_as (λ w. call_method attributes.Join v (all_of m c.args.arguments.now) names w) (λ w. joins (slice_get w.store c.in-Some.thread) w) own m m (told_of c.end_of.result)
    (λ w e. ap (λ xs. alone (all_of m xs) (joins_at v w) w) none ∙ ap (λ u. joins_at u w) c.in-Some.ensures.address)
    (c.end_of.ensures own)

pub returns-in-None : goal.returns-in-None
returns-in-None c = λ own names.
    let m = c.args.arena.now in
    let v = value_of m c.args.object in
    let none = no_values c.args.arguments.now c.is_empty.result c.is_empty.ensures c.if-not-is_empty.false in
    throws (λ w. call_method attributes.Join v (all_of m c.args.arguments.now) names w) own m WrongType tt
    (λ w e. ap (λ xs. alone (all_of m xs) (joins_at v w) w) none ∙ joins_nothing v w c.in-None.ensures.address)
