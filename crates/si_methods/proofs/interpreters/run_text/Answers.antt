use Rattle.std.proofs.Common.{ap, sym, refl, ◌∙◌}
use Rattle.si_semantics.specs.World as world
use Rattle.si_semantics.specs.World.{Asked}
use Rattle.si_semantics.specs.Attributes.{executes}
use Rattle.si_arena.specs.Memory.{value_of}
use Rattle.si_arena.specs.declared.cause.Cause.TheVariants.{WrongType}
use Rattle.si_methods.proofs.Calling.{throws}
use Rattle.si_methods.proofs.Otherwise.{executes_nothing}
use Rattle.si_methods.proofs.interpreters.run_text.Goals as goal

pub returns-in-Ok : goal.returns-in-Ok
returns-in-Ok c = λ own. (record { request = world.Exec c.args.id c.in-Ok.text; asks = λ w e. ap (λ u. executes c.args.id u w) c.in-Some.ensures.characters ∙ ap (λ t. Asked (world.Exec c.args.id t) w) (sym c.in-Ok.ensures); made_by = refl; kept_is = refl; lies = tt }, refl)

pub returns-in-None : goal.returns-in-None
returns-in-None c = λ own.
    let m = c.args.arena.now in
    throws (λ w. executes c.args.id (value_of m c.args.text) w) own m WrongType tt
    (λ w e. executes_nothing c.args.id (value_of m c.args.text) w c.in-None.ensures.characters)
