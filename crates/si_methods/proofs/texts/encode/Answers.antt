use Rattle.std.proofs.Common.{ap}
use Rattle.si_semantics.specs.Attributes as attributes
use Rattle.si_semantics.specs.Attributes.{call_method, alone, encodes}
use Rattle.si_arena.specs.Memory.{value_of, all_of}
use Rattle.si_arena.specs.declared.cause.Cause.TheVariants.{WrongArguments}
use Rattle.si_methods.proofs.Passed.{alone_refuses, no_values}
use Rattle.si_methods.proofs.Calling.{answers_as, throws}
use Rattle.si_methods.proofs.texts.encode.Goals as goal

pub returns-then-not-is_empty : goal.returns-then-not-is_empty
returns-then-not-is_empty c = λ own names.
    let m = c.args.arena.now in
    let v = value_of m c.args.object in
    throws (λ w. call_method attributes.Encode v (all_of m c.args.arguments.now) names w) own m WrongArguments tt
    (λ w e. alone_refuses m c.args.arguments.now c.is_empty.result (encodes v w) w c.is_empty.ensures c.if-not-is_empty.true)

pub returns : goal.returns
returns c = λ own names.
    let m = c.args.arena.now in
    let v = value_of m c.args.object in
    let none = no_values c.args.arguments.now c.is_empty.result c.is_empty.ensures c.if-not-is_empty.false in
    answers_as (λ w. call_method attributes.Encode v (all_of m c.args.arguments.now) names w) (λ w. encodes v w) own m c.encoded.new.arena c.encoded.result
    (λ w e. ap (λ xs. alone (all_of m xs) (encodes v w) w) none)
    (c.encoded.ensures own)
