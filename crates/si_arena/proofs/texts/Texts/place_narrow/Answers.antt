use Rattle.std.proofs.Common.{◌≡◌, ◌≤◌, length, refl, ap, arith, List, ℕ}
use Rattle.si_semantics.specs.Text.{max_length}
use Rattle.si_arena.specs.Texts.{Rows}
use Rattle.si_arena.specs.declared.value.Width.TheVariants as width
use Rattle.si_arena.proofs.Rows.{pushed_stands, stands_added}
use Rattle.si_arena.proofs.texts.Texts.place_narrow.Goals as goal

pub returns-clause-text : goal.returns-clause-text
returns-clause-text c =
    let t = c.args.characters.now in
    let old : Rows = record { narrow = c.self.inside.narrow.items; wide = c.self.inside.wide.items } in
    let within : length t ≤ max_length = omega (arith, c.if-characters-gt-MAX_STR_LENGTH.false) in
    let grown = ap (λ (xs : List ℕ). let rows : Rows = record old { narrow = xs } in rows) c.in_ok-extend_from_slice.ensures.items in
    let start : c.len-start.result ≡ length c.self.inside.narrow.items = omega (arith, c.len-start.ensures, ap (λ (rows : Rows). length rows.narrow) c.self.view_is) in
    let stands = pushed_stands width.Narrow t old _ _ grown start in
    (within, rw (c.slice.ensures.is, ← c.self.view_is) (stands_added _ _ _ _ _ _ stands refl))
