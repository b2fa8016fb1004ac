use Rattle.std.proofs.Common.{◌≡◌, sym, ◌∙◌}
use Rattle.si_semantics.specs.Text.{same_text}
use Rattle.si_arena.proofs.Compared.{same_bytes, same_points, same_parts}
use Rattle.si_arena.proofs.characters.are_same.Goals as goal

pub returns-in-Narrow-Narrow : goal.returns-in-Narrow-Narrow
returns-in-Narrow-Narrow c =
    let k = c.in-Narrow-Narrow in
    let points = same_points k.left.now k.right.now in
    let bytes = same_bytes k.left.now k.right.now in
    let told = c.eq.ensures in
    let h : c.eq.result ≡ same_text k.left.now k.right.now = cc in
    h ∙ sym (same_parts c.args.left c.args.right _ _ k.is-0 k.is-1)

pub returns-in-Wide-Wide : goal.returns-in-Wide-Wide
returns-in-Wide-Wide c =
    let k = c.in-Wide-Wide in
    let points = same_points k.left.now k.right.now in
    let bytes = same_bytes k.left.now k.right.now in
    let told = c.eq-in-Wide-Wide.ensures in
    let h : c.eq-in-Wide-Wide.result ≡ same_text k.left.now k.right.now = cc in
    h ∙ sym (same_parts c.args.left c.args.right _ _ k.is-0 k.is-1)
