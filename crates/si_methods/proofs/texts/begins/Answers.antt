use Rattle.std.proofs.Common.{[], sym, ap, ap₂, ◌∙◌}
use Rattle.si_semantics.specs.Value as pure
use Rattle.si_semantics.specs.Parts.{begins_with}
use Rattle.si_semantics.specs.Operations.{gave}
use Rattle.si_semantics.specs.Attributes.{tested_texts}
use Rattle.si_arena.specs.Memory.{value_of}
use Rattle.si_arena.specs.declared.value.Ref.TheVariants.{Truth}
use Rattle.si_arena.specs.declared.cause.Cause.TheVariants.{WrongType}
use Rattle.si_methods.proofs.Calling.{gives, throws}
use Rattle.si_methods.proofs.texts.begins.Goals as goal

pub returns-in-Some : goal.returns-in-Some
returns-in-Some c = λ own.
    let m = c.args.arena.now in
    gives (λ w. tested_texts begins_with (value_of m c.args.whole) (value_of m c.args.part) w) own m (Truth [] c.begins_at.result) tt
    (λ w e.
    ap₂ (λ u v. tested_texts begins_with u v w) c.in-Some.ensures.0 c.in-Some.ensures.1
    ∙ ap (λ b. gave (pure.Truth b) w) (sym c.begins_at.ensures))

pub returns-in-None : goal.returns-in-None
returns-in-None c = λ own.
    let m = c.args.arena.now in
    throws (λ w. tested_texts begins_with (value_of m c.args.whole) (value_of m c.args.part) w) own m WrongType tt
    (λ w e. c.in-None.ensures begins_with w)
