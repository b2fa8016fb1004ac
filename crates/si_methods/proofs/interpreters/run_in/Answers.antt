use Rattle.std.proofs.Common.{ap}
use Rattle.si_semantics.specs.Attributes.{executes_in, executes}
use Rattle.si_arena.specs.Memory.{value_of}
use Rattle.si_arena.specs.declared.cause.Cause.TheVariants.{WrongType}
use Rattle.si_methods.proofs.Calling.{answers_as, throws}
use Rattle.si_methods.proofs.Otherwise.{executes_nowhere}
use Rattle.si_methods.proofs.interpreters.run_in.Goals as goal

pub returns-in-Some : goal.returns-in-Some
returns-in-Some c = λ own.
    let m = c.args.arena.now in
    let u = value_of m c.args.text in
    answers_as (λ w. executes_in (value_of m c.args.object) u w) (λ w. executes c.in-Some.id u w) own m m c.run_text.result
    (λ w e. ap (λ v. executes_in v u w) c.in-Some.ensures)
    (c.run_text.ensures own)

pub returns-in-None : goal.returns-in-None
returns-in-None c = λ own.
    let m = c.args.arena.now in
    throws (λ w. executes_in (value_of m c.args.object) (value_of m c.args.text) w) own m WrongType tt
    (λ w e. executes_nowhere (value_of m c.args.object) (value_of m c.args.text) w c.in-None.ensures)
