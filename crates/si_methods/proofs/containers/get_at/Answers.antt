use Rattle.std.proofs.Common.{◌∙◌}
use Rattle.si_semantics.specs.Value as pure
use Rattle.si_semantics.specs.Attributes.{gets_value}
use Rattle.si_arena.specs.Memory.{all_of}
use Rattle.si_arena.specs.declared.cause.Cause.TheVariants.{WrongArguments}
use Rattle.si_methods.proofs.Calling.{gives, throws}
use Rattle.si_methods.proofs.containers.get_at.Goals as goal

pub get_value-requires-clause-key : goal.get_value-requires-clause-key
get_value-requires-clause-key c = (c.in-Some.ensures c.args.arena.now c.requires.arguments).0

pub get_value-requires-clause-other : goal.get_value-requires-clause-other
get_value-requires-clause-other c = (c.in-Some.ensures c.args.arena.now c.requires.arguments).1

pub returns-in-Ok : goal.returns-in-Ok
returns-in-Ok c = λ own.
    let m = c.args.arena.now in
    let p = c.in-Some.ensures m c.requires.arguments in
    gives (λ w. gets_value (pure.Address c.args.address) (all_of m c.args.arguments.now) c.args.names.now w) own m c.in-Ok.value c.in-Ok.ensures.1
    (λ w e. p.2 c.args.address w ∙ c.in-Ok.ensures.0 w e)

pub returns-in-Err : goal.returns-in-Err
returns-in-Err c = λ own.
    let m = c.args.arena.now in
    let p = c.in-Some.ensures m c.requires.arguments in
    throws (λ w. gets_value (pure.Address c.args.address) (all_of m c.args.arguments.now) c.args.names.now w) own m c.in-Err.cause c.in-Err.ensures.1
    (λ w e. p.2 c.args.address w ∙ c.in-Err.ensures.0 w e)

pub returns-in-None : goal.returns-in-None
returns-in-None c = λ own.
    let m = c.args.arena.now in
    throws (λ w. gets_value (pure.Address c.args.address) (all_of m c.args.arguments.now) c.args.names.now w) own m WrongArguments tt
    (λ w e. c.in-None.ensures m c.args.address w)
