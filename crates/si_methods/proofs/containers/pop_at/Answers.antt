use Rattle.std.proofs.Common.{◌∙◌}
use Rattle.si_semantics.specs.Value as pure
use Rattle.si_semantics.specs.Attributes.{pops}
use Rattle.si_arena.specs.Memory.{all_of}
use Rattle.si_arena.specs.declared.cause.Cause.TheVariants.{WrongArguments}
use Rattle.si_methods.proofs.Calling.{throws}
use Rattle.si_methods.proofs.containers.pop_at.Goals as goal

pub pop_item-requires-clause-index : goal.pop_item-requires-clause-index
pop_item-requires-clause-index c = (c.in-Some.ensures c.args.arena.now c.requires.arguments).0

pub returns-in-Ok : goal.returns-in-Ok
returns-in-Ok c = λ own.
    let p = c.in-Some.ensures c.args.arena.now c.requires.arguments in
    ((λ w e o. p.1 c.args.address w ∙ c.in-Ok.ensures.0 w e), c.in-Ok.ensures.1, c.in-Ok.ensures.2)

pub returns-in-Err : goal.returns-in-Err
returns-in-Err c = λ own.
    let p = c.in-Some.ensures c.args.arena.now c.requires.arguments in
    (((λ w e. p.1 c.args.address w ∙ c.in-Err.ensures.0.0 w e), c.in-Err.ensures.0.1), c.in-Err.ensures.1)

pub returns-in-None : goal.returns-in-None
returns-in-None c = λ own.
    let m = c.args.arena.now in
    throws (λ w. pops (pure.Address c.args.address) (all_of m c.args.arguments.now) c.args.names.now w) own m WrongArguments tt
    (λ w e. c.in-None.ensures m c.args.address w)
