use Rattle.std.proofs.Common.{◌<◌, ◌^◌, pos, Some, Ok, arith, sym, subst, ap, ◌∙◌}
use Rattle.std.specs.Prelude.{codes}
use Rattle.si_arena.specs.declared.value.Ref.{Ref}
use Rattle.si_methods.specs.Methods.{HasAttribute}
use Rattle.si_semantics.specs.Value as pure
use Rattle.si_semantics.specs.Attributes.{attribute_of}
use Rattle.si_methods.proofs.Words.{id_word, exec_word, spelled}
use Rattle.si_methods.proofs.Attributed.{picks_first, picks_second, picks_none, is_integer}
use Rattle.si_methods.proofs.values.attribute_of_interpreter.Goals as goal

pub returns-then-is_spelled : goal.returns-then-is_spelled
returns-then-is_spelled c = λ m.
    let x = c.args.name.now in
    let id = spelled x (codes "id") c.is_spelled.result _ c.is_spelled.ensures id_word c.if-is_spelled.true in
    let small : c.args.id < 2 ^ 63 = omega (arith, c.ranges.id.fits) in
    let P : Ref → Type 0 = λ r. HasAttribute (pure.Interpreter c.args.id) x m (Ok (Some r)) in
    subst P (sym c.number.ensures) (
      (λ w e.
          ap (λ o. attribute_of x o w) (picks_first x (codes "id") (codes "exec") (pure.Int (pos c.args.id)) (pure.Exec c.args.id) id)
          ∙ is_integer (pos c.args.id) w (record { sfits = small })),
      tt,
    )

pub returns-then-is_spelled-2 : goal.returns-then-is_spelled-2
returns-then-is_spelled-2 c = λ m.
    let x = c.args.name.now in
    let id = spelled x (codes "id") c.is_spelled.result _ c.is_spelled.ensures id_word c.if-is_spelled.false in
    let exec = spelled x (codes "exec") c.is_spelled-2.result _ c.is_spelled-2.ensures exec_word c.if-is_spelled-2.true in
    ((λ w e. ap (λ o. attribute_of x o w) (picks_second x (codes "id") (codes "exec") (pure.Int (pos c.args.id)) (pure.Exec c.args.id) id exec)), tt)

pub returns : goal.returns
returns c = λ m.
    let x = c.args.name.now in
    let id = spelled x (codes "id") c.is_spelled.result _ c.is_spelled.ensures id_word c.if-is_spelled.false in
    let exec = spelled x (codes "exec") c.is_spelled-2.result _ c.is_spelled-2.ensures exec_word c.if-is_spelled-2.false in
    λ w. ap (λ o. attribute_of x o w) (picks_none x (codes "id") (codes "exec") (pure.Int (pos c.args.id)) (pure.Exec c.args.id) id exec)
