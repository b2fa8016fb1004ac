use Rattle.std.proofs.Common.{Result, sym, subst, ap, ◌∙◌}
use Rattle.std.specs.Prelude.{slice_get}
use Rattle.si_semantics.specs.Containers as containers
use Rattle.si_semantics.specs.Attributes.{pops_value}
use Rattle.si_arena.specs.declared.cause.Cause.{Cause}
use Rattle.si_arena.specs.declared.cause.Cause.TheVariants.{WrongType}
use Rattle.si_arena.specs.Memory.{value_of}
use Rattle.si_methods.specs.declared.request.Answered.{Answered}
use Rattle.si_methods.specs.Answering.{Answers, told_of, lacking_of}
use Rattle.si_methods.proofs.Calling.{answers_as, untaken, throws}
use Rattle.si_methods.proofs.Otherwise.{pops_no_value}
use Rattle.si_methods.proofs.containers.pop_key.Goals as goal

pub returns-in-Ok : goal.returns-in-Ok
returns-in-Ok c = λ own.
    let u = value_of c.args.arena.now c.args.key in
    ((λ w e o. ap (λ v. pops_value v u w) c.in-Some.ensures.address ∙ c.in-Ok.ensures.0 w e), c.in-Ok.ensures.1, c.in-Ok.ensures.2)

pub returns-in-Err : goal.returns-in-Err
returns-in-Err c = λ own.
    let m = c.args.arena.now in
    let n = c.pop_value.new.arena in
    let x = c.in-Some.address in
    let u = value_of m c.args.key in
    let P : Result Answered Cause → Type 0 = λ r. Answers (λ w. pops_value (value_of m c.args.object) u w) own m n (told_of r) in
    subst P (sym c.lacking.ensures)
    (answers_as (λ w. pops_value (value_of m c.args.object) u w) (λ w. containers.pop_value x (slice_get w.store x) u w) own m n (told_of (lacking_of c.args.key c.in-Err.lack))
    (λ w e. ap (λ v. pops_value v u w) c.in-Some.ensures.address)
    (untaken (λ w. containers.pop_value x (slice_get w.store x) u w) own m n c.args.key c.in-Err.lack c.requires.key c.in-Err.ensures))

pub returns-in-None : goal.returns-in-None
returns-in-None c = λ own.
    let m = c.args.arena.now in
    throws (λ w. pops_value (value_of m c.args.object) (value_of m c.args.key) w) own m WrongType tt
    (λ w e. pops_no_value (value_of m c.args.object) (value_of m c.args.key) w c.in-None.ensures.address)
