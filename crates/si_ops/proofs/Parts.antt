-- Parts of texts, looked for character by character.
use Rattle.std.proofs.Common.{◌≡◌, ◌≢◌, ℕ, suc, ◌+◌, ◌<◌, ◌≤◌, List, [], ◌∷◌, Bool, true, false, length, drop, get_or, refl, sym, ap, ◌∙◌, arith, ne_eqb}
use Rattle.std.specs.Prelude.{nat_eq, ◌&&◌, ◌||◌}
use Rattle.std.proofs.lemmas.Bool.{eq-eqb}
use Rattle.std.proofs.lemmas.Bool.Decides.{nat_tests}
use Rattle.std.proofs.Math.ListN.{drop_of_length-le}
use Rattle.si_semantics.specs.Parts.{begins_with, is_part}
use Rattle.si_ops.proofs.Compared.{after, both}

begins_empty : (s : List ℕ) → begins_with s [] ≡ true
begins_empty [] = refl
begins_empty (c ∷ s) = refl

-- the same character at two indices
pub begins_next : (s t : List ℕ) (k i : ℕ) → k < length s → i < length t → get_or s k 0 ≡ get_or t i 0 → begins_with (drop (k + 1) s) (drop (i + 1) t) ≡ begins_with (drop k s) (drop i t)
begins_next s t k i h l e =
    sym
    (both begins_with (drop k s) (drop i t) _ _ (after s k h) (after t i l)
    ∙ ap (λ b. b && begins_with (drop (k + 1) s) (drop (i + 1) t)) (eq-eqb (get_or s k 0) (get_or t i 0) e))

-- another character at two indices
pub begins_apart : (s t : List ℕ) (k i : ℕ) → k < length s → i < length t → get_or s k 0 ≢ get_or t i 0 → begins_with (drop k s) (drop i t) ≡ false
begins_apart s t k i h l e =
    both begins_with (drop k s) (drop i t) _ _ (after s k h) (after t i l)
    ∙ ap (λ b. b && begins_with (drop (k + 1) s) (drop (i + 1) t)) (ne_eqb (get_or s k 0) (get_or t i 0) e)

-- the text ends first
pub begins_short : (s t : List ℕ) (k i : ℕ) → length s ≤ k → i < length t → begins_with (drop k s) (drop i t) ≡ false
begins_short s t k i h l = both begins_with (drop k s) (drop i t) [] _ (drop_of_length-le s h) (after t i l)

-- the part ends
pub begins_end : (s t : List ℕ) (k i : ℕ) → length t ≤ i → begins_with (drop k s) (drop i t) ≡ true
begins_end s t k i h = ap (begins_with (drop k s)) (drop_of_length-le t h) ∙ begins_empty (drop k s)

part_from : (s t : List ℕ) (k : ℕ) (b : Bool) → k < length s → begins_with (drop k s) t ≡ b → is_part (drop k s) t ≡ (b || is_part (drop (k + 1) s) t)
part_from s t k b h e =
    ap (λ x. is_part x t) (after s k h)
    ∙ ap (λ x. x || is_part (drop (k + 1) s) t) (ap (λ x. begins_with x t) (sym (after s k h)) ∙ e)

-- it does not begin at an index
pub part_next : (s t : List ℕ) (k : ℕ) → k < length s → begins_with (drop k s) t ≡ false → is_part (drop (k + 1) s) t ≡ is_part (drop k s) t
part_next s t k h e = sym (part_from s t k false h e)

-- it begins at an index
pub part_found : (s t : List ℕ) (k : ℕ) → k < length s → begins_with (drop k s) t ≡ true → is_part (drop k s) t ≡ true
part_found s t k h e = part_from s t k true h e

not_empty : (n : ℕ) → false ≡ nat_eq (suc n) 0
not_empty n = grind (arith, nat_tests)

empty_part : (t : List ℕ) → is_part [] t ≡ nat_eq (length t) 0
empty_part [] = refl
empty_part (d ∷ t) = not_empty (length t)

-- at the end only the empty text is left
pub part_end : (s t : List ℕ) (k : ℕ) → length s ≤ k → is_part (drop k s) t ≡ nat_eq (length t) 0
part_end s t k h = ap (λ x. is_part x t) (drop_of_length-le s h) ∙ empty_part t
