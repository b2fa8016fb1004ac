use Rattle.std.proofs.Common.{◌≡◌, ℕ, List, subst, ap, ◌∙◌}
use Rattle.std.proofs.lemmas.Str.{chars-IsAscii}
use Rattle.si_plain.specs.Characters.{characters_of}
use Rattle.si_arena.specs.Memory.{PlacesText}
use Rattle.si_methods.proofs.joining.place_narrow.Goals as goal

pub returns-in-Ok : goal.returns-in-Ok
returns-in-Ok c =
    let same : characters_of c.in-Ok.ascii.now ≡ c.args.characters.now = ap characters_of c.in-Ok.ensures.cases.0 ∙ chars-IsAscii c.args.characters.now c.if-is_ascii.ensures.cases in
    let P : List ℕ → Type 0 = λ s. PlacesText s c.args.arena.now c.place_text.new.self c.place_text.result in
    subst P same c.place_text.ensures.text
