use Rattle.std.proofs.Common.{◌<◌, ◌^◌, pos, Some, Ok, arith, sym, subst, ap, ◌∙◌}
use Rattle.std.specs.Prelude.{codes}
use Rattle.si_arena.specs.declared.value.Ref.{Ref}
use Rattle.si_methods.specs.Methods.{HasAttribute}
use Rattle.si_semantics.specs.Value as pure
use Rattle.si_semantics.specs.Operations.{integer, refused, arithmetic_message}
use Rattle.si_semantics.specs.Attributes.{attribute_of}
use Rattle.si_methods.proofs.Words.{id_word, maxsize_word, spelled}
use Rattle.si_methods.proofs.Attributed.{picks_first, picks_second, picks_none, is_integer, overflows, within}
use Rattle.std.proofs.Math.Facts.{to_z-of_z}
use Rattle.si_arena.specs.declared.value.Ref.TheVariants as value
use Rattle.std.proofs.Common.{refl}
use Rattle.si_methods.proofs.values.attribute_of_queue.Goals as goal

pub returns-then-is_spelled : goal.returns-then-is_spelled
returns-then-is_spelled c = λ m.
    let x = c.args.name.now in
    let id = spelled x (codes "id") c.is_spelled.result _ c.is_spelled.ensures id_word c.if-is_spelled.true in
    let small : c.args.id < 2 ^ 63 = omega (arith, c.ranges.id.fits) in
    let P : Ref → Type 0 = λ r. HasAttribute (pure.Queue c.args.id c.args.maxsize) x m (Ok (Some r)) in
    subst P (sym c.number.ensures) (
      (λ w e.
          ap (λ o. attribute_of x o w) (picks_first x (codes "id") (codes "maxsize") (pure.Int (pos c.args.id)) (pure.Int (pos c.args.maxsize)) id)
          ∙ is_integer (pos c.args.id) w (record { sfits = small })),
      tt,
    )

pub returns-in-Ok : goal.returns-in-Ok
returns-in-Ok c = λ m.
    let x = c.args.name.now in
    let id = spelled x (codes "id") c.is_spelled.result _ c.is_spelled.ensures id_word c.if-is_spelled.false in
    let maxsize = spelled x (codes "maxsize") c.is_spelled-2.result _ c.is_spelled-2.ensures maxsize_word c.if-is_spelled-2.true in
    let P : Ref → Type 0 = λ r. HasAttribute (pure.Queue c.args.id c.args.maxsize) x m (Ok (Some r)) in
    subst P (sym (c.integer.ensures ∙ ap value.Int (to_z-of_z (within c.args.maxsize c.in-Ok.n c.in-Ok.ensures)))) (
      (λ w e.
          ap (λ o. attribute_of x o w) (picks_second x (codes "id") (codes "maxsize") (pure.Int (pos c.args.id)) (pure.Int (pos c.args.maxsize)) id maxsize)
          ∙ ap (λ r. integer r w) (sym c.in-Ok.ensures)),
      tt,
    )

pub returns-in-Err : goal.returns-in-Err
returns-in-Err c = λ m.
    let x = c.args.name.now in
    let id = spelled x (codes "id") c.is_spelled.result _ c.is_spelled.ensures id_word c.if-is_spelled.false in
    let maxsize = spelled x (codes "maxsize") c.is_spelled-2.result _ c.is_spelled-2.ensures maxsize_word c.if-is_spelled-2.true in (
      (
        (λ w e.
            ap (λ o. attribute_of x o w) (picks_second x (codes "id") (codes "maxsize") (pure.Int (pos c.args.id)) (pure.Int (pos c.args.maxsize)) id maxsize)
            ∙ ap (λ r. integer r w) (sym c.in-Err.ensures)
            ∙ ap (λ k. refused k (arithmetic_message k) w) (overflows (pos c.args.maxsize) c.in-Err.field-0 c.in-Err.ensures)),
        tt,
      ),
      refl,
    )

pub returns : goal.returns
returns c = λ m.
    let x = c.args.name.now in
    let id = spelled x (codes "id") c.is_spelled.result _ c.is_spelled.ensures id_word c.if-is_spelled.false in
    let maxsize = spelled x (codes "maxsize") c.is_spelled-2.result _ c.is_spelled-2.ensures maxsize_word c.if-is_spelled-2.false in
    λ w. ap (λ o. attribute_of x o w) (picks_none x (codes "id") (codes "maxsize") (pure.Int (pos c.args.id)) (pure.Int (pos c.args.maxsize)) id maxsize)
