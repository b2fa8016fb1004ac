-- Texts that are compared character by character.
use Rattle.std.proofs.Common.{◌≡◌, ◌≢◌, ℕ, suc, ◌+◌, ◌<◌, ◌≤◌, List, [], ◌∷◌, Bool, true, false, length, drop, get_or, refl, sym, ap, ap₂, ◌∙◌, arith, add-one, drop-cons, nat_lt, ne_eqb, lt-ltb, le-ltb, length-drop, ◌-◌}
use Rattle.std.specs.Prelude.{nat_eq, ◌&&◌, ◌||◌, bytes_eq}
use lib.Pointwise.{pointwise}
use Rattle.std.proofs.lemmas.Bool.{eq-eqb}
use Rattle.std.proofs.lemmas.Bool.Decides.{nat_tests}
use Rattle.std.proofs.Math.ListN.{drop_of_length-le}
use Rattle.si_semantics.specs.Text.{same_text}
use Rattle.si_arena.specs.declared.characters.Characters.{Characters}
use Rattle.si_arena.specs.Texts.{characters_in}
use Rattle.si_semantics.specs.Operations.{is_before}

-- two lists compared as bytes are
pub same_bytes : (s t : List ℕ) → bytes_eq s t ≡ same_text s t
same_bytes [] [] = refl
same_bytes [] (d ∷ ds) = refl
same_bytes (c ∷ cs) [] = refl
same_bytes (c ∷ cs) (d ∷ ds) = ap (λ b. nat_eq c d && b) (same_bytes cs ds)

pub same_points : (s t : List ℕ) → pointwise nat_eq s t ≡ same_text s t
same_points [] [] = refl
same_points [] (d ∷ ds) = refl
same_points (c ∷ cs) [] = refl
same_points (c ∷ cs) (d ∷ ds) = ap (λ b. nat_eq c d && b) (same_points cs ds)

-- two texts by their parts
pub same_parts : (left right x y : Characters) → left ≡ x → right ≡ y → same_text (characters_in left) (characters_in right) ≡ same_text (characters_in x) (characters_in y)
same_parts left right x y e f = ap (λ z. same_text (characters_in z) (characters_in right)) e ∙ ap (λ z. same_text (characters_in x) (characters_in z)) f

-- texts of different lengths
pub differ_long : (s t : List ℕ) → length s ≢ length t → same_text s t ≡ false
differ_long [] [] h = absurd (h refl)
differ_long [] (d ∷ ds) h = refl
differ_long (c ∷ cs) [] h = refl
differ_long (c ∷ cs) (d ∷ ds) h = elim (nat_eq c d) as (λ b. (b && same_text cs ds) ≡ false) [ true ↦ differ_long cs ds (λ e. h (ap suc e)) | false ↦ refl ]

-- from one index on
pub after : (s : List ℕ) (i : ℕ) → i < length s → drop i s ≡ get_or s i 0 ∷ drop (i + 1) s
after s i h = drop-cons s i 0 h ∙ ap (λ k. get_or s i 0 ∷ drop k s) (sym (add-one i))

pub both : {B : Type 0} (f : List ℕ → List ℕ → B) (s t x y : List ℕ) → s ≡ x → t ≡ y → f s t ≡ f x y
both f s t x y e k = ap (λ z. f z t) e ∙ ap (f x) k

same_heads : (c d : ℕ) (s t : List ℕ) → c ≡ d → same_text (c ∷ s) (d ∷ t) ≡ same_text s t
same_heads c d s t e = ap (λ b. b && same_text s t) (eq-eqb c d e)

other_heads : (c d : ℕ) (s t : List ℕ) → c ≢ d → same_text (c ∷ s) (d ∷ t) ≡ false
other_heads c d s t e = ap (λ b. b && same_text s t) (ne_eqb c d e)

-- the same character at an index
pub same_next : (s t : List ℕ) (i : ℕ) → i < length s → i < length t → get_or s i 0 ≡ get_or t i 0 → same_text (drop (i + 1) s) (drop (i + 1) t) ≡ same_text (drop i s) (drop i t)
same_next s t i h k e =
    sym (both same_text (drop i s) (drop i t) _ _ (after s i h) (after t i k) ∙ same_heads (get_or s i 0) (get_or t i 0) (drop (i + 1) s) (drop (i + 1) t) e)

-- another character at an index
pub same_not : (s t : List ℕ) (i : ℕ) → i < length s → i < length t → get_or s i 0 ≢ get_or t i 0 → same_text (drop i s) (drop i t) ≡ false
same_not s t i h k e =
    both same_text (drop i s) (drop i t) _ _ (after s i h) (after t i k) ∙ other_heads (get_or s i 0) (get_or t i 0) (drop (i + 1) s) (drop (i + 1) t) e

-- the end of both
pub same_end : (s t : List ℕ) (i : ℕ) → length s ≤ i → length t ≤ i → same_text (drop i s) (drop i t) ≡ true
same_end s t i h k = both same_text (drop i s) (drop i t) [] [] (drop_of_length-le s h) (drop_of_length-le t k)

or_false : (b : Bool) → (b || false) ≡ b
or_false true = refl
or_false false = refl

before_heads : (c d : ℕ) (s t : List ℕ) → c ≡ d → is_before (c ∷ s) (d ∷ t) ≡ is_before s t
before_heads c d s t e = ap₂ (λ x y. x || (y && is_before s t)) (le-ltb c d (omega (arith, e))) (eq-eqb c d e)

apart_heads : (c d : ℕ) (s t : List ℕ) → c ≢ d → is_before (c ∷ s) (d ∷ t) ≡ nat_lt c d
apart_heads c d s t e = ap (λ y. nat_lt c d || (y && is_before s t)) (ne_eqb c d e) ∙ or_false (nat_lt c d)

pub before_next : (s t : List ℕ) (i : ℕ) → i < length s → i < length t → get_or s i 0 ≡ get_or t i 0 → is_before (drop (i + 1) s) (drop (i + 1) t) ≡ is_before (drop i s) (drop i t)
before_next s t i h k e =
    sym (both is_before (drop i s) (drop i t) _ _ (after s i h) (after t i k) ∙ before_heads (get_or s i 0) (get_or t i 0) (drop (i + 1) s) (drop (i + 1) t) e)

pub before_apart : (s t : List ℕ) (i : ℕ) → i < length s → i < length t → get_or s i 0 ≢ get_or t i 0 → is_before (drop i s) (drop i t) ≡ nat_lt (get_or s i 0) (get_or t i 0)
before_apart s t i h k e =
    both is_before (drop i s) (drop i t) _ _ (after s i h) (after t i k) ∙ apart_heads (get_or s i 0) (get_or t i 0) (drop (i + 1) s) (drop (i + 1) t) e

none_before : (s : List ℕ) → is_before s [] ≡ false
none_before [] = refl
none_before (c ∷ s) = refl

-- the other text ends first
pub before_end : (s t : List ℕ) (i : ℕ) → length t ≤ i → is_before (drop i s) (drop i t) ≡ false
before_end s t i k = ap (is_before (drop i s)) (drop_of_length-le t k) ∙ none_before (drop i s)

empty_before : (t : List ℕ) → is_before [] t ≡ nat_lt 0 (length t)
empty_before [] = refl
empty_before (d ∷ ds) = sym (lt-ltb 0 (suc (length ds)) (omega arith))

-- something is left of one number above another
left_over : (a b : ℕ) → nat_lt 0 (b - a) ≡ nat_lt a b
left_over a b = grind (arith, nat_tests)

-- a text ends: the other goes on or not
pub before_last : (s t : List ℕ) (i : ℕ) → i ≡ length s → is_before (drop i s) (drop i t) ≡ nat_lt (length s) (length t)
before_last s t i h =
    ap (λ x. is_before x (drop i t)) (drop_of_length-le s (omega (arith, h)))
    ∙ empty_before (drop i t)
    ∙ ap (nat_lt 0) (length-drop i t)
    ∙ ap (λ k. nat_lt 0 (length t - k)) h
    ∙ left_over (length s) (length t)
