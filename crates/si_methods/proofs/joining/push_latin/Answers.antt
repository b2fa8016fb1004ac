use Rattle.std.proofs.Common.{◌≡◌, ◌++◌, ℕ, List, subst, ap, ◌∙◌}
use Rattle.std.specs.Prelude.{OnOk}
use Rattle.std.proofs.lemmas.Str.{chars-IsAscii}
use Rattle.si_plain.specs.Characters.{characters_of}
use Rattle.si_methods.proofs.joining.push_latin.Goals as goal

pub returns-in-Ok : goal.returns-in-Ok
returns-in-Ok c =
    let same : characters_of c.in-Ok.ascii.now ≡ c.args.characters.now = ap characters_of c.in-Ok.ensures.cases.0 ∙ chars-IsAscii c.args.characters.now c.if-is_ascii.ensures.cases in
    let P : List ℕ → Type 0 = λ s. OnOk c.push_str.result (c.push_str.new.self ≡ c.args.text.now ++ s) in
    subst P same c.push_str.ensures.ok
