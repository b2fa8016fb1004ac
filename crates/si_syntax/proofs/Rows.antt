-- Rows of trees, one after another.
use Rattle.std.proofs.Common.{◌≡◌, ℕ, suc, ◌+◌, ◌<◌, List, ◌∷◌, length, drop, get_or, sym, ap, ◌∙◌, drop-cons, add-one}

-- one of several, and then the rest
pub rest_is : {A : Type 0} (xs : List A) (i : ℕ) (x : A) → i < length xs → get_or xs i x ≡ x → drop i xs ≡ x ∷ drop (i + 1) xs
rest_is xs i x lt at = drop-cons xs i x lt ∙ ap (λ y. y ∷ drop (suc i) xs) at ∙ ap (λ k. x ∷ drop k xs) (sym (add-one i))
