use Rattle.std.proofs.Common.{Err, ap, ◌∙◌}
use Rattle.std.specs.Prelude.{slice_get}
use Rattle.si_semantics.specs.Containers as containers
use Rattle.si_semantics.specs.Attributes.{appends}
use Rattle.si_arena.specs.Memory.{value_of}
use Rattle.si_arena.specs.declared.cause.Cause.TheVariants.{WrongType}
use Rattle.si_methods.proofs.Calling.{answers_as, unchanged, throws}
use Rattle.si_methods.proofs.Otherwise.{appends_nothing}
use Rattle.si_methods.proofs.containers.append_to.Goals as goal

pub returns-in-Ok : goal.returns-in-Ok
returns-in-Ok c = λ own.
    let u = value_of c.args.arena.now c.args.value in
    ((λ w e o. ap (λ v. appends v u w) c.in-Some.ensures.address ∙ c.in-Ok.ensures.0 w e), tt, c.in-Ok.ensures.1)

pub returns-in-Err : goal.returns-in-Err
returns-in-Err c = λ own.
    let m = c.args.arena.now in
    let x = c.in-Some.address in
    let u = value_of m c.args.value in
    answers_as (λ w. appends (value_of m c.args.object) u w) (λ w. containers.append x (slice_get w.store x) u w) own m c.append.new.arena (Err c.in-Err.fault)
    (λ w e. ap (λ v. appends v u w) c.in-Some.ensures.address)
    (unchanged (λ w. containers.append x (slice_get w.store x) u w) own m c.append.new.arena c.in-Err.fault c.in-Err.ensures)

pub returns-in-None : goal.returns-in-None
returns-in-None c = λ own.
    let m = c.args.arena.now in
    throws (λ w. appends (value_of m c.args.object) (value_of m c.args.value) w) own m WrongType tt
    (λ w e. appends_nothing (value_of m c.args.object) (value_of m c.args.value) w c.in-None.ensures.address)
