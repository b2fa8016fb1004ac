-- The place of a name.
use Rattle.std.proofs.Common.{◌≡◌, ℕ, suc, ◌+◌, List, [], ◌∷◌, Bool, true, false, Option, Some, None, refl, sym, ap, ◌∙◌, add-one}
use Rattle.std.specs.Prelude.{option_map, if◌then◌else◌, nat_eq, ◌&&◌}
use Rattle.std.specs.Str.{bytes_eq}
use Rattle.std.proofs.lemmas.Slice.Eq.{bytes_eq-Decides}
use Rattle.si_semantics.specs.Value.{Text}
use Rattle.si_semantics.specs.Text.{same_text}
use Rattle.si_semantics.specs.Scope.{place_of}
use Rattle.si_plain.specs.Names.{place_in}
use Rattle.si_slots.specs.Views.{text_at}

-- the name stands at its place
pub place_text : (x : Text) (ls : List Text) (k : ℕ) → place_in x ls ≡ Some k → text_at ls k ≡ x
place_text x [] k h = absurd cc
place_text x (y ∷ ys) k h = by (bytes_eq x y) refl (place_in x ys) refl h (place_text x ys)
  where
    by : (b : Bool) → bytes_eq x y ≡ b → (o : Option ℕ) → place_in x ys ≡ o → (if b then Some 0 else option_map (λ place. place + 1) o) ≡ Some k → ((j : ℕ) → place_in x ys ≡ Some j → text_at ys j ≡ x) → text_at (y ∷ ys) k ≡ x
    by true e o f g rest = let first : 0 ≡ k = cc in ap (text_at (y ∷ ys)) (sym first) ∙ sym ((bytes_eq-Decides x y).0 e)
    by false e None f g rest = absurd cc
    by false e (Some j) f g rest = let later : j + 1 ≡ k = cc in let next : suc j ≡ k = sym (add-one j) ∙ later in ap (text_at (y ∷ ys)) (sym next) ∙ rest j f

-- two lists compared as bytes are
same_bytes : (s t : List ℕ) → bytes_eq s t ≡ same_text s t
same_bytes [] [] = refl
same_bytes [] (d ∷ ds) = refl
same_bytes (c ∷ cs) [] = refl
same_bytes (c ∷ cs) (d ∷ ds) = ap (λ b. nat_eq c d && b) (same_bytes cs ds)

-- the place among the slots is the place among the locals
pub place_same : (x : Text) (ls : List Text) → place_in x ls ≡ place_of x ls
place_same x [] = refl
place_same x (y ∷ ys) =
    ap (λ b. if b then Some 0 else option_map (λ k. k + 1) (place_in x ys)) (same_bytes x y)
    ∙ ap (λ o. if same_text x y then Some 0 else option_map (λ k. k + 1) o) (place_same x ys)
