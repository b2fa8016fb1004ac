use Rattle.std.proofs.Common.{IsAscii, to_z-of_z, ap, subst, ◌∙◌}
use Rattle.std.proofs.lemmas.Str.{chars-IsAscii}
use Rattle.si_plain.specs.Characters.{characters_of}
use Rattle.si_semantics.specs.Value as pure
use Rattle.si_semantics.specs.Text.{decimal}
use Rattle.si_arena.specs.Memory.{PlacesText}
use Rattle.si_ops.proofs.calls.place_int.Goals as goal

pub returns-in-None-clause-text : goal.returns-in-None-clause-text
returns-in-None-clause-text c =
    let e = c.format-digits.ensures.text ∙ ap decimal (to_z-of_z c.ranges.n) in
    let P : pure.Text → Type 0 = λ t. PlacesText t c.args.arena.now c.place_text.new.self c.place_text.result in
    subst P (ap characters_of e ∙ chars-IsAscii (decimal c.args.n) (subst IsAscii e c.format-digits.ensures.ascii)) c.place_text.ensures.text
