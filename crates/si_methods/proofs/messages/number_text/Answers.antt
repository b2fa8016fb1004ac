use Rattle.std.proofs.Common.{List, ℕ, pos, ◌≡◌, IfOk, IsAscii, arith, ap, subst, ◌∙◌}
use Rattle.std.specs.Fmt.{signed_decimal}
use Rattle.std.proofs.lemmas.Fmt.{IsAscii-signed}
use Rattle.std.proofs.lemmas.Str.{chars-IsAscii}
use Rattle.si_plain.specs.Characters.{characters_of}
use Rattle.si_methods.proofs.messages.number_text.Goals as goal

pub returns : goal.returns
returns c =
    let d : List ℕ = signed_decimal (pos c.args.id) in
    let ascii : IsAscii d = IsAscii-signed (pos c.args.id) (omega (arith, c.ranges.id.fits)) in
    let P : List ℕ → Type 0 = λ x. IfOk c.from_str.result (λ t. t ≡ x) in
    subst P (ap characters_of (c.as_str.ensures.value ∙ c.in_ok-digits.ensures.ok) ∙ chars-IsAscii d ascii) c.from_str.ensures
