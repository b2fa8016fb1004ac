use Rattle.std.proofs.Common.{Some, ap, ◌∙◌}
use Rattle.std.specs.Prelude.{slice_get}
use Rattle.si_semantics.specs.Attributes.{joins}
use Rattle.si_arena.specs.Memory.{object_of, contents_of}
use Rattle.si_arena.specs.declared.cause.Cause.TheVariants.{WrongType}
use Rattle.si_methods.specs.Answering.{told_of}
use Rattle.si_methods.proofs.Calling.{answers_as, throws}
use Rattle.si_methods.proofs.threads.end_of.Goals as goal

pub returns-in-Plain : goal.returns-in-Plain
returns-in-Plain c = λ own.
    let m = c.args.arena.now in
    answers_as (λ w. joins (slice_get w.store c.args.thread) w) (λ w. joins (Some (object_of m c.in-Plain.object)) w) own m m (told_of c.end_of_object.result)
    (λ w e. ap (λ s. joins (slice_get s c.args.thread) w) e ∙ ap (λ o. joins o w) c.object.ensures.object ∙ ap (λ o. joins (Some (contents_of m o)) w) c.in-Plain.is)
    (c.end_of_object.ensures m own)

pub returns-in-List : goal.returns-in-List
returns-in-List c = λ own.
    let m = c.args.arena.now in
    throws (λ w. joins (slice_get w.store c.args.thread) w) own m WrongType tt
    (λ w e. ap (λ s. joins (slice_get s c.args.thread) w) e ∙ ap (λ o. joins o w) c.object.ensures.object ∙ ap (λ o. joins (Some (contents_of m o)) w) c.in-List.is)

pub returns-in-Dict : goal.returns-in-Dict
returns-in-Dict c = λ own.
    let m = c.args.arena.now in
    throws (λ w. joins (slice_get w.store c.args.thread) w) own m WrongType tt
    (λ w e. ap (λ s. joins (slice_get s c.args.thread) w) e ∙ ap (λ o. joins o w) c.object.ensures.object ∙ ap (λ o. joins (Some (contents_of m o)) w) c.in-Dict.is)
