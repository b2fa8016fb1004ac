use Rattle.std.proofs.Common.{◌∙◌, ap, sym, subst}
use Rattle.si_plain.specs.Characters.{characters_of}
use Rattle.si_plain.proofs.TextFacts.{chars-encode}
use Rattle.si_semantics.specs.Value as pure
use Rattle.si_arena.specs.Memory.{PlacesText}
use Rattle.si_arena.specs.Short.{FitsShort}
use Rattle.si_ops.proofs.Providing.{told_ok, byte_fits}
use Rattle.si_ops.proofs.provided.place_character.Goals as goal

pub returns-clause-text : goal.returns-clause-text
returns-clause-text c =
    let P : pure.Text → Type 0 = λ t. PlacesText t c.args.arena.now c.place_text.new.self c.place_text.result in
    subst P (ap characters_of c.encode_utf8.ensures.value ∙ chars-encode c.args.character c.ranges.character.0) c.place_text.ensures.text

pub returns-clause-memory : goal.returns-clause-memory
returns-clause-memory c = λ h.
    let is = ap characters_of c.encode_utf8.ensures.value ∙ chars-encode c.args.character c.ranges.character.0 in
    told_ok c.place_text.result (c.place_text.ensures.short (subst FitsShort (sym is) (byte_fits c.args.character h))).1
