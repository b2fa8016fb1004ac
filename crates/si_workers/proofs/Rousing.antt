-- Pages that are roused one after the other.
use Rattle.std.proofs.Common.{◌≡◌, ℕ, zero, suc, ◌+◌, ◌<◌, ◌≤◌, List, [], ◌∷◌, length, set, refl, ap, sym, ◌∙◌, arith, add-one, slice_get, Some}
use Rattle.si_hub.specs.HubCode.{Past}
use Rattle.si_workers.specs.Books.{Page, roused, roused_from}
use Rattle.si_workers.specs.inner.Pages.{roused_first}

pub first_count : (p : Past) (i k : ℕ) (ss : List Page) → length (roused_first p i k ss) ≡ length ss
first_count p i zero ss = refl
first_count p i (suc k) [] = refl
first_count p i (suc k) (s ∷ ss) = ap suc (first_count p (i + 1) k ss)

-- page k is as it was
first_get : (p : Past) (i k : ℕ) (ss : List Page) → slice_get (roused_first p i k ss) k ≡ slice_get ss k
first_get p i zero ss = refl
first_get p i (suc k) [] = refl
first_get p i (suc k) (s ∷ ss) = first_get p (i + 1) k ss

first_set : (p : Past) (i k : ℕ) (ss : List Page) (s : Page) → slice_get ss k ≡ Some s → set (roused_first p i k ss) k (roused p (i + k) s) ≡ roused_first p i (suc k) ss
first_set p i k [] s e = cc
first_set p i zero (x ∷ ss) s e =
    let h : x ≡ s = cc in
    let n : i + 0 ≡ i = omega arith in
    ap (λ (j : ℕ). roused p j s ∷ ss) n ∙ ap (λ (y : Page). roused p i y ∷ ss) (sym h)
first_set p i (suc k) (x ∷ ss) s e =
    let n : i + suc k ≡ (i + 1) + k = omega arith in
    ap (λ (j : ℕ). roused p i x ∷ set (roused_first p (i + 1) k ss) k (roused p j s)) n ∙ ap (λ (ys : List Page). roused p i x ∷ ys) (first_set p (i + 1) k ss s e)

found : (xs : List Page) (i : ℕ) → i < length xs → (s : Page) × (slice_get xs i ≡ Some s)
found [] i lt = absurd (omega arith)
found (x ∷ xs) zero lt = (x, refl)
found (x ∷ xs) (suc i) lt = found xs i (omega arith)

-- one more
pub first_more : (p : Past) (k : ℕ) (old mid new : List Page) → k < length old → mid ≡ roused_first p 0 k old
    → ((s : Page) → slice_get mid k ≡ Some s → new ≡ set mid k (roused p k s)) → new ≡ roused_first p 0 (k + 1) old
first_more p k old mid new lt e f =
    let s = found old k lt in
    let n : k ≡ 0 + k = omega arith in
    f s.0 (ap (λ (xs : List Page). slice_get xs k) e ∙ first_get p 0 k old ∙ s.1)
    ∙ ap (λ (xs : List Page). set xs k (roused p k s.0)) e
    ∙ ap (λ (j : ℕ). set (roused_first p 0 k old) k (roused p j s.0)) n
    ∙ first_set p 0 k old s.0 s.1
    ∙ ap (λ (m : ℕ). roused_first p 0 m old) (sym (add-one k))

-- all
pub first_all : (p : Past) (i k : ℕ) (ss : List Page) → length ss ≤ k → roused_first p i k ss ≡ roused_from p i ss
first_all p i zero [] h = refl
first_all p i zero (s ∷ ss) h = absurd (omega arith)
first_all p i (suc k) [] h = refl
first_all p i (suc k) (s ∷ ss) h = ap (λ (ys : List Page). roused p i s ∷ ys) (first_all p (i + 1) k ss (omega arith))
