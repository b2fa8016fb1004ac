use Rattle.si_semantics.specs.Attributes as attributes
use Rattle.si_semantics.specs.Attributes.{call_method, joins_texts, texts_in}
use Rattle.si_arena.specs.Memory.{value_of, all_of}
use Rattle.si_arena.specs.declared.cause.Cause.TheVariants.{WrongArguments}
use Rattle.si_methods.proofs.Calling.{answers_as, throws}
use Rattle.si_methods.proofs.joining.join_texts.Goals as goal

pub join_items-requires-clause-items : goal.join_items-requires-clause-items
join_items-requires-clause-items c = (c.in-Some.ensures c.args.arena.now c.requires.arguments).0

pub returns-in-Some : goal.returns-in-Some
returns-in-Some c = λ own.
    let m = c.args.arena.now in
    let v = value_of m c.args.object in
    let p = c.in-Some.ensures m c.requires.arguments in
    answers_as (λ w. call_method attributes.JoinTexts v (all_of m c.args.arguments.now) c.args.names.now w) (λ w. joins_texts v (texts_in (value_of m c.in-Some.items) w) w) own m c.join_items.new.arena c.join_items.result
    (λ w e. p.1 (λ u. joins_texts v (texts_in u w) w) w)
    (c.join_items.ensures own)

pub returns-in-None : goal.returns-in-None
returns-in-None c = λ own.
    let m = c.args.arena.now in
    let v = value_of m c.args.object in
    throws (λ w. call_method attributes.JoinTexts v (all_of m c.args.arguments.now) c.args.names.now w) own m WrongArguments tt
    (λ w e. c.in-None.ensures m (λ u. joins_texts v (texts_in u w) w) w)
