use Rattle.std.proofs.Common.{ap}
use Rattle.si_semantics.specs.Value as pure
use Rattle.si_semantics.specs.Attributes as attributes
use Rattle.si_semantics.specs.Attributes.{call_method, pops}
use Rattle.si_arena.specs.Memory.{value_of, all_of}
use Rattle.si_arena.specs.declared.cause.Cause.TheVariants.{WrongType}
use Rattle.si_methods.proofs.Calling.{answers_as, throws}
use Rattle.si_methods.specs.Answering.{told_of}
use Rattle.si_methods.proofs.Otherwise.{pops_nothing}
use Rattle.si_methods.proofs.containers.pop_item.Goals as goal

pub returns-in-Some : goal.returns-in-Some
returns-in-Some c = λ own.
    let m = c.args.arena.now in
    let vs = all_of m c.args.arguments.now in
    let names = c.args.names.now in
    answers_as (λ w. call_method attributes.PopItem (value_of m c.args.object) vs names w) (λ w. pops (pure.Address c.in-Some.address) vs names w) own m c.pop_at.new.arena (told_of c.pop_at.result)
    (λ w e. ap (λ v. pops v vs names w) c.in-Some.ensures.address)
    (c.pop_at.ensures own)

pub returns-in-None : goal.returns-in-None
returns-in-None c = λ own.
    let m = c.args.arena.now in
    let vs = all_of m c.args.arguments.now in
    let names = c.args.names.now in
    throws (λ w. call_method attributes.PopItem (value_of m c.args.object) vs names w) own m WrongType tt
    (λ w e. pops_nothing (value_of m c.args.object) vs names w c.in-None.ensures.address)
