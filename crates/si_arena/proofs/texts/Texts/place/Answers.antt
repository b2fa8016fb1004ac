use Rattle.std.proofs.Common.{◌≤◌, ◌++◌, length, ap, ◌∙◌, arith, cond}
use Rattle.si_semantics.specs.Text.{max_length}
use Rattle.si_plain.specs.Characters.{characters_of}
use Rattle.si_arena.specs.Texts.{with_row}
use Rattle.si_arena.specs.declared.value.Width.TheVariants as width
use Rattle.si_arena.proofs.Rows.{pushed_stands, stands_added}
use Rattle.si_arena.proofs.texts.Texts.place.Goals as goal

pub returns-then-branch-clause-text : goal.returns-then-branch-clause-text
returns-then-branch-clause-text c =
    let t = characters_of c.args.text.now in
    let within : length t ≤ max_length = omega (arith, c.count_of-count.ensures) in
    let old = c.args.self.now in
    let all = c.in_ok-push_narrow_str.ensures.ok ∙ ap (λ b. cond b (with_row width.Narrow (old.narrow ++ t) old) old) c.if-branch.true in
    let stands = pushed_stands width.Narrow t _ _ _ all c.end-start.ensures in
    (within, rw c.slice.ensures.is (stands_added _ _ _ _ _ _ stands c.count_of-count.ensures))

pub returns-clause-text : goal.returns-clause-text
returns-clause-text c =
    let t = characters_of c.args.text.now in
    let within : length t ≤ max_length = omega (arith, c.count_of-count.ensures) in
    let old = c.args.self.now in
    let none = c.in_ok-push_narrow_str.ensures.ok ∙ ap (λ b. cond b (with_row width.Narrow (old.narrow ++ t) old) old) c.if-branch.false in
    let stands = pushed_stands width.Wide t old _ _ (c.in_ok-push_wide_str.ensures.ok ∙ ap (λ rows. with_row width.Wide (rows.wide ++ t) rows) none) (c.end-start-2.ensures ∙ ap (λ rows. length rows.wide) none) in
    (within, rw c.slice-2.ensures.is (stands_added _ _ _ _ _ _ stands c.count_of-count.ensures))
