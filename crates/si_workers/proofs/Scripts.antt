-- Texts that differ in their bytes differ in their characters.
use Rattle.std.proofs.Common.{◌≡◌, ◌≢◌, ℕ, List, [], ◌∷◌, true, false, encode_utf8_all, refl, ap, sym, ◌∙◌}
use Rattle.std.specs.Prelude.{bytes_eq, ◌&&◌}
use Rattle.std.specs.Str.{IsUtf8}
use Rattle.std.proofs.lemmas.Bool.{eq-eqb}
use Rattle.std.proofs.lemmas.Str.{chars-encodes}
use Rattle.si_plain.specs.Characters.{characters_of}

encoded : (bs : List ℕ) → IsUtf8 bs → encode_utf8_all (characters_of bs) ≡ bs
encoded bs u = ap encode_utf8_all (ap characters_of (sym u.1.1) ∙ chars-encodes u.0 u.1.0) ∙ u.1.1

same_self : (s : List ℕ) → bytes_eq s s ≡ true
same_self [] = refl
same_self (c ∷ cs) = ap (λ b. b && bytes_eq cs cs) (eq-eqb c c refl) ∙ same_self cs

pub texts_differ : (s t : List ℕ) → IsUtf8 s → IsUtf8 t → bytes_eq s t ≡ false → characters_of s ≢ characters_of t
texts_differ s t u v f = λ e.
    let p : s ≡ t = sym (encoded s u) ∙ ap encode_utf8_all e ∙ encoded t v in
    let b : true ≡ false = sym (same_self s) ∙ ap (bytes_eq s) p ∙ f in
    absurd (cc b)
