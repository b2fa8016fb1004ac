use Rattle.std.proofs.Common.{Some, ap, ◌∙◌}
use Rattle.std.specs.Prelude.{slice_get}
use Rattle.si_semantics.specs.Attributes.{starts}
use Rattle.si_arena.specs.Memory.{object_of, contents_of}
use Rattle.si_arena.specs.declared.cause.Cause.TheVariants.{WrongType}
use Rattle.si_methods.proofs.Calling.{answers_as, throws}
use Rattle.si_methods.proofs.threads.run_of.Goals as goal

pub returns-in-Plain : goal.returns-in-Plain
returns-in-Plain c = λ own.
    let m = c.args.arena.now in
    answers_as (λ w. starts c.args.thread (slice_get w.store c.args.thread) w) (λ w. starts c.args.thread (Some (object_of m c.in-Plain.object)) w) own m m c.run_of_object.result
    (λ w e. ap (λ s. starts c.args.thread (slice_get s c.args.thread) w) e ∙ ap (λ o. starts c.args.thread o w) c.object.ensures.object ∙ ap (λ o. starts c.args.thread (Some (contents_of m o)) w) c.in-Plain.is)
    (c.run_of_object.ensures own)

pub returns-in-List : goal.returns-in-List
returns-in-List c = λ own.
    let m = c.args.arena.now in
    throws (λ w. starts c.args.thread (slice_get w.store c.args.thread) w) own m WrongType tt
    (λ w e. ap (λ s. starts c.args.thread (slice_get s c.args.thread) w) e ∙ ap (λ o. starts c.args.thread o w) c.object.ensures.object ∙ ap (λ o. starts c.args.thread (Some (contents_of m o)) w) c.in-List.is)

pub returns-in-Dict : goal.returns-in-Dict
returns-in-Dict c = λ own.
    let m = c.args.arena.now in
    throws (λ w. starts c.args.thread (slice_get w.store c.args.thread) w) own m WrongType tt
    (λ w e. ap (λ s. starts c.args.thread (slice_get s c.args.thread) w) e ∙ ap (λ o. starts c.args.thread o w) c.object.ensures.object ∙ ap (λ o. starts c.args.thread (Some (contents_of m o)) w) c.in-Dict.is)

pub run_of_object-requires-clause-lies : goal.run_of_object-requires-clause-lies
run_of_object-requires-clause-lies c = rw c.in-Plain.is at c.object.ensures.lies
