use Rattle.std.proofs.Common.{ap}
use Rattle.si_semantics.specs.Value as pure
use Rattle.si_semantics.specs.Attributes as attributes
use Rattle.si_semantics.specs.Attributes.{call_method, prepares_in}
use Rattle.si_arena.specs.Memory.{value_of, all_of}
use Rattle.si_arena.specs.declared.cause.Cause.TheVariants.{WrongType}
use Rattle.si_methods.proofs.Calling.{answers_as, throws}
use Rattle.si_methods.proofs.Otherwise.{prepares_nowhere}
use Rattle.si_methods.proofs.interpreters.prepare_main.Goals as goal

pub returns-in-Some : goal.returns-in-Some
returns-in-Some c = λ own.
    let m = c.args.arena.now in
    let vs = all_of m c.args.arguments.now in
    let names = c.args.names.now in
    answers_as (λ w. call_method attributes.PrepareMain (value_of m c.args.object) vs names w) (λ w. prepares_in (pure.Interpreter c.in-Some.id) vs names w) own m m c.prepare.result
    (λ w e. ap (λ u. prepares_in u vs names w) c.in-Some.ensures)
    (c.prepare.ensures own)

pub returns-in-None : goal.returns-in-None
returns-in-None c = λ own.
    let m = c.args.arena.now in
    let vs = all_of m c.args.arguments.now in
    let names = c.args.names.now in
    throws (λ w. call_method attributes.PrepareMain (value_of m c.args.object) vs names w) own m WrongType tt
    (λ w e. prepares_nowhere (value_of m c.args.object) vs names w c.in-None.ensures)
