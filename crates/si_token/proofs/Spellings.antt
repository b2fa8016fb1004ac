-- Keywords, looked up among those of the word's length.
use Rattle.std.proofs.Common.{◌≡◌, ℕ, suc, ◌<◌, List, [], ◌∷◌, length, map, drop, get_or, ◌+◌, Bool, true, false, refl, sym, ap, ◌∙◌, arith, Option, Some, None, Bor}
use Rattle.std.specs.Prelude.{◌&&◌, ◌==◌, if◌then◌else◌, nat_le, nat_eq}
use Rattle.std.specs.Cmp.Lexicographic.{pointwise}
use Rattle.std.specs.List.{filter}
use Rattle.std.proofs.Math.Seq.{drop-cons}
use Rattle.std.proofs.lemmas.Bool.Decides.{nat_tests}
use Rattle.si_semantics.specs.Tokens.{Keyword}
use Rattle.si_semantics.specs.Words.{same, spelled, keywords}
use Rattle.si_token.specs.declared.token.Keyword as declared
use Rattle.si_token.specs.Views.{keyword_of, entry_of}
use Rattle.si_token.proofs.Runs.{same_is, spelled_test}

false_apart : (a b : ℕ) → (a == b) ≡ false → a ≡ b → ⊥
false_apart a b f e = grind (arith, nat_tests)

-- only entries of the word's length spell it
pub spelled_of_length : {A : Type 0} (table : List (List ℕ × A)) (w : List ℕ) (n : ℕ) → length w ≡ n → spelled table w ≡ spelled (filter (λ (e : List ℕ × A). length e.0 == n) table) w
spelled_of_length [] w n h = refl
spelled_of_length {A = A} (e ∷ table) w n h = by (spelled_of_length table w n h) (length e.0 == n) refl (same e.0 w) refl
  where
    apart : (length e.0 == n) ≡ false → same e.0 w ≡ true → ⊥
    apart f i = let l : length e.0 ≡ n = ap length (same_is e.0 w i) ∙ h in false_apart (length e.0) n f l

    by : spelled table w ≡ spelled (filter (λ (e : List ℕ × A). length e.0 == n) table) w → (t : Bool) → (length e.0 == n) ≡ t → (u : Bool) → same e.0 w ≡ u
        → (if u then Some e.1 else spelled table w) ≡ spelled (if t then e ∷ filter (λ (e : List ℕ × A). length e.0 == n) table else filter (λ (e : List ℕ × A). length e.0 == n) table) w
    by later true f true i = ap (λ u. if u then Some e.1 else spelled (filter (λ (e : List ℕ × A). length e.0 == n) table) w) (sym i)
    by later true f false i = later ∙ ap (λ u. if u then Some e.1 else spelled (filter (λ (e : List ℕ × A). length e.0 == n) table) w) (sym i)
    by later false f true i = absurd (apart f i)
    by later false f false i = later

abbrev has_length : List ℕ → Bool
has_length w = nat_le 2 (length w) && nat_le (length w) 8

keywords_length : (w : List ℕ) (k : Keyword) → spelled keywords w ≡ Some k → has_length w ≡ true
unfolding keywords
keywords_length w k h = spelled_test has_length keywords refl w k h

-- no keyword is shorter or longer
pub keywords_none : (w : List ℕ) → (nat_le 2 (length w) && nat_le (length w) 8) ≡ false → None ≡ spelled keywords w
keywords_none w h = by (spelled keywords w) refl
  where
    by : (o : Option Keyword) → spelled keywords w ≡ o → None ≡ o
    by None e = refl
    by (Some k) e = let bad : true ≡ false = sym (keywords_length w k e) ∙ h in cc

same_refl : (w : List ℕ) → same w w ≡ true
same_refl [] = refl
same_refl (b ∷ w) = ap (λ t. t && (b == b)) (same_refl w) ∙ eq_refl b
  where
    eq_refl : (b : ℕ) → (b == b) ≡ true
    eq_refl b = grind (arith, nat_tests)

same_by : (v w : List ℕ) → v ≡ w → same v w ≡ true
same_by v w e = ap (λ x. same x w) e ∙ same_refl w

-- ---- a look-up in a table, entry by entry

pointwise_refl : (w : List ℕ) → pointwise nat_eq w w ≡ true
pointwise_refl [] = refl
pointwise_refl (b ∷ w) = ap (λ t. t && pointwise nat_eq w w) (eq_refl b) ∙ pointwise_refl w
  where
    eq_refl : (b : ℕ) → (b == b) ≡ true
    eq_refl b = grind (arith, nat_tests)

-- what a test of two texts has told
pub texts_differ : (v w : List ℕ) → false ≡ pointwise nat_eq v w → v ≡ w → ⊥
texts_differ v w h e = let bad : false ≡ true = h ∙ ap (λ x. pointwise nat_eq x w) e ∙ pointwise_refl w in cc

abbrev Entry : Type 0
Entry = Bor (List ℕ) × declared.Keyword

at_entry : (table : List Entry) (i : ℕ) (d : Entry) (w : List ℕ) → i < length table
    → spelled (map entry_of (drop i table)) w ≡ (if same (get_or table i d).0.now w then Some (keyword_of (get_or table i d).1) else spelled (map entry_of (drop (suc i) table)) w)
at_entry table i d w lt = ap (λ t. spelled (map entry_of t) w) (drop-cons table i d lt)

-- the entry spells the word
pub found_at : (table : List Entry) (i : ℕ) (d : Entry) (w : List ℕ) → i < length table → spelled (map entry_of table) w ≡ spelled (map entry_of (drop i table)) w → (get_or table i d).0.now ≡ w
    → ◌≡◌ {A = Option Keyword} (Some (keyword_of (get_or table i d).1)) (spelled (map entry_of table) w)
found_at table i d w lt before e =
    sym (before ∙ at_entry table i d w lt
    ∙ ap (λ t. if t then Some (keyword_of (get_or table i d).1) else spelled (map entry_of (drop (suc i) table)) w) (same_by (get_or table i d).0.now w e))

-- it doesn't, and a later one may
pub passed_at : (table : List Entry) (i : ℕ) (d : Entry) (w : List ℕ) → i < length table → spelled (map entry_of table) w ≡ spelled (map entry_of (drop i table)) w → ((get_or table i d).0.now ≡ w → ⊥)
    → spelled (map entry_of table) w ≡ spelled (map entry_of (drop (i + 1) table)) w
passed_at table i d w lt before ne =
    before ∙ at_entry table i d w lt
    ∙ by (same (get_or table i d).0.now w) refl
    ∙ ap (λ n. spelled (map entry_of (drop n table)) w) one_more
  where
    one_more : suc i ≡ i + 1
    one_more = omega arith

    by : (t : Bool) → same (get_or table i d).0.now w ≡ t → (if t then Some (keyword_of (get_or table i d).1) else spelled (map entry_of (drop (suc i) table)) w) ≡ spelled (map entry_of (drop (suc i) table)) w
    by true e = absurd (ne (same_is (get_or table i d).0.now w e))
    by false e = refl
