use Rattle.std.proofs.Common.{pos, Ok, Some, sym, ap, ◌∙◌}
use Rattle.std.specs.Prelude.{codes}
use Rattle.si_semantics.specs.Value as pure
use Rattle.si_semantics.specs.Operations.{integer_in}
use Rattle.si_semantics.specs.Attributes as attributes
use Rattle.si_semantics.specs.Attributes.{call_method, queue_of, one_argument}
use Rattle.si_arena.specs.Memory.{value_of, all_of}
use Rattle.si_arena.specs.declared.cause.Cause.TheVariants.{WrongArguments}
use Rattle.si_methods.specs.Answering.{told_of}
use Rattle.si_methods.proofs.Words.{maxsize_word}
use Rattle.si_methods.proofs.Passed.{no_values, optional_is}
use Rattle.si_methods.proofs.Calling.{answers_as, throws}
use Rattle.si_methods.proofs.modules.create_queue.Goals as goal

pub returns-then-is_empty : goal.returns-then-is_empty
returns-then-is_empty c = λ own v.
    let m = c.args.arena.now in
    let none = no_values c.args.arguments.now c.is_empty.result c.is_empty.ensures c.if-is_empty.true in
    answers_as (λ w. call_method attributes.CreateQueue v (all_of m c.args.arguments.now) c.args.names.now w) (λ w. queue_of (Some (pos 0)) w) own m m (Ok c.queue_of.result)
    (λ w e. ap (λ xs. call_method attributes.CreateQueue v (all_of m xs) c.args.names.now w) none)
    (c.queue_of.ensures m own)

pub queue_within-requires : goal.queue_within-requires
queue_within-requires c = (c.in-Some.ensures c.args.arena.now c.requires).0

pub returns-in-Some : goal.returns-in-Some
returns-in-Some c = λ own v.
    let m = c.args.arena.now in
    let p = c.in-Some.ensures m c.requires in
    answers_as (λ w. call_method attributes.CreateQueue v (all_of m c.args.arguments.now) c.args.names.now w) (λ w. queue_of (integer_in (value_of m c.in-Some.maxsize)) w) own m m (told_of c.queue_within.result)
    (λ w e.
    optional_is m (codes "maxsize") (pure.Int (pos 0)) c.args.arguments.now c.args.names.now (λ u. queue_of (integer_in u) w) w c.is_empty.result c.is_empty.ensures c.if-is_empty.false
    ∙ ap (λ x. one_argument x (all_of m c.args.arguments.now) c.args.names.now (λ u. queue_of (integer_in u) w) w) (sym maxsize_word)
    ∙ p.1 (λ u. queue_of (integer_in u) w) w)
    (c.queue_within.ensures own)

pub returns-in-None : goal.returns-in-None
returns-in-None c = λ own v.
    let m = c.args.arena.now in
    throws (λ w. call_method attributes.CreateQueue v (all_of m c.args.arguments.now) c.args.names.now w) own m WrongArguments tt
    (λ w e.
    optional_is m (codes "maxsize") (pure.Int (pos 0)) c.args.arguments.now c.args.names.now (λ u. queue_of (integer_in u) w) w c.is_empty.result c.is_empty.ensures c.if-is_empty.false
    ∙ ap (λ x. one_argument x (all_of m c.args.arguments.now) c.args.names.now (λ u. queue_of (integer_in u) w) w) (sym maxsize_word)
    ∙ c.in-None.ensures m (λ u. queue_of (integer_in u) w) w)
