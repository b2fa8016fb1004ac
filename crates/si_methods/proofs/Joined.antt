-- Texts that are joined, one after the other.
use Rattle.std.proofs.Common.{◌≡◌, ℕ, zero, suc, ◌+◌, ◌<◌, ◌≤◌, List, [], ◌∷◌, ◌++◌, length, drop, Option, Some, None, refl, sym, ap, ◌∙◌, arith, add-one, append_assoc, append-nil}
use Rattle.std.specs.Prelude.{option_map, slice_get}
use Rattle.std.proofs.lemmas.List.{drop_all}
use Rattle.si_semantics.specs.Value as pure
use Rattle.si_semantics.specs.Value.{Text, Value}
use Rattle.si_semantics.specs.Tuples as tuples
use Rattle.si_semantics.specs.Attributes.{joined_texts, joined_after}
use Rattle.si_methods.specs.Shown.{IsNoStr}
use Rattle.si_methods.specs.Joining.{told, ComesTo}
use Rattle.std.proofs.Common.{length-append, inl, inr}
use Rattle.std.specs.Prelude.{min}
use Rattle.std.proofs.Math.Nat.{min-eq_left, min-le_left, le-min}
use Rattle.std.proofs.lemmas.Bool.Decides.{leb_tells}
use Rattle.si_semantics.specs.Text.{max_length}

-- the first of what is left
pub first_left : {A : Type 0} (xs : List A) (i : ℕ) (x : A) → slice_get xs i ≡ Some x → drop i xs ≡ x ∷ drop (suc i) xs
first_left [] i x e = absurd cc
first_left (y ∷ xs) zero x e = let same : y ≡ x = cc in ap (λ z. z ∷ xs) same
first_left (y ∷ xs) (suc i) x e = first_left xs i x e

no_text : (v : Value) (vs : List Value) (s : Text) → IsNoStr v → joined_after s (v ∷ vs) ≡ None
no_text (pure.Str t) vs s h = absurd h
no_text _ vs s h = refl

no_first : (v : Value) (vs : List Value) (s : Text) → IsNoStr v → joined_texts s (v ∷ vs) ≡ None
no_first (pure.Str t) vs s h = absurd h
no_first _ vs s h = refl

-- the first text
pub first_joined : (s t : Text) (v : Value) (vs : List Value) → slice_get vs 0 ≡ Some v → v ≡ pure.Str t → joined_texts s vs ≡ told t (joined_after s (drop 1 vs))
first_joined s t v vs e f = ap (joined_texts s) (first_left vs 0 v e) ∙ ap (λ u. joined_texts s (u ∷ drop 1 vs)) f

pub first_other : (s : Text) (v : Value) (vs : List Value) → slice_get vs 0 ≡ Some v → IsNoStr v → joined_texts s vs ≡ None
first_other s v vs e h = ap (joined_texts s) (first_left vs 0 v e) ∙ no_first v (drop 1 vs) s h

told_more : (done s t : Text) (left : Option Text) → told done (option_map (λ u. s ++ (t ++ u)) left) ≡ told ((done ++ s) ++ t) left
told_more done s t (Some u) = ap (λ x. Some x) (sym (append_assoc (done ++ s) t u ∙ append_assoc done s (t ++ u)))
told_more done s t None = refl

-- the next text
pub next_joined : (s t done : Text) (v : Value) (vs : List Value) (i : ℕ) (whole : Option Text) → slice_get vs i ≡ Some v → v ≡ pure.Str t → whole ≡ told done (joined_after s (drop i vs)) → whole ≡ told ((done ++ s) ++ t) (joined_after s (drop (i + 1) vs))
next_joined s t done v vs i whole e f h =
    h
    ∙ ap (λ us. told done (joined_after s us)) (first_left vs i v e ∙ ap (λ u. u ∷ drop (suc i) vs) f)
    ∙ told_more done s t (joined_after s (drop (suc i) vs))
    ∙ ap (λ j. told ((done ++ s) ++ t) (joined_after s (drop j vs))) (sym (add-one i))

-- the next is none
pub next_other : (s done : Text) (v : Value) (vs : List Value) (i : ℕ) (whole : Option Text) → slice_get vs i ≡ Some v → IsNoStr v → whole ≡ told done (joined_after s (drop i vs)) → whole ≡ None
next_other s done v vs i whole e f h =
    h
    ∙ ap (λ us. told done (joined_after s us)) (first_left vs i v e)
    ∙ ap (told done) (no_text v (drop (suc i) vs) s f)

-- none is left
pub all_joined : (s done : Text) (vs : List Value) (i : ℕ) (whole : Option Text) → length vs ≤ i → whole ≡ told done (joined_after s (drop i vs)) → whole ≡ Some done
all_joined s done vs i whole l h =
    h ∙ ap (λ us. told done (joined_after s us)) (drop_all i vs l) ∙ ap (λ x. Some x) (append-nil done)

-- ---- the characters of a text

pub characters_count : (cs : Text) → length (tuples.characters_in cs) ≡ length cs
characters_count [] = refl
characters_count (c ∷ cs) = ap suc (characters_count cs)

pub character_there : (cs : Text) (i c : ℕ) → slice_get cs i ≡ Some c → slice_get (tuples.characters_in cs) i ≡ Some (pure.Str (c ∷ []))
character_there [] i c e = absurd cc
character_there (d ∷ cs) zero c e = let same : d ≡ c = cc in ap (λ x. Some (pure.Str (x ∷ []))) same
character_there (d ∷ cs) (suc i) c e = character_there cs i c e

-- the items of a tuple
pub items_back : (vs : List Value) → pure.items_of (pure.values_of vs) ≡ vs
items_back [] = refl
items_back (v ∷ vs) = ap (λ us. v ∷ us) (items_back vs)

-- how many characters a text comes to
pub begins_so : (t text : Text) (count : ℕ) → count ≡ length t → text ≡ t → ComesTo t text count
begins_so t text count e f = record { counted = λ l. e; past = λ l. omega arith; stands = λ l. f }

pub goes_on : (done s t old new : Text) (count more : ℕ) → (more ≤ max_length → more ≡ (count + length s) + length t) → (max_length < more → max_length < (count + length s) + length t) → (more ≤ max_length → new ≡ (old ++ s) ++ t) → ComesTo done old count → ComesTo ((done ++ s) ++ t) new more
goes_on done s t old new count more exact past pushed h = record {
  counted = λ l.
      let e = exact l in
      let less : count ≤ max_length = omega arith in
      let f = h.counted less in
      omega (arith, length-append (done ++ s) t, length-append done s);
  past = λ l.
      let e = past l in
      elim (leb_tells count max_length) as (λ _. max_length < length ((done ++ s) ++ t)) [
        | inl k ↦ let f = h.counted k.1 in omega (arith, e, f, length-append (done ++ s) t, length-append done s)
        | inr k ↦ let f = h.past k.1 in omega (arith, f, length-append (done ++ s) t, length-append done s)
      ];
  stands = λ l.
      let e = exact l in
      let less : count ≤ max_length = omega arith in
      pushed l ∙ ap (λ x. (x ++ s) ++ t) (h.stands less);
}

-- a sum that stops at a bound, where it is below it
min_small : (a b : ℕ) → min a b < b → min a b ≡ a
min_small a b l = elim (leb_tells a b) [
  | inl h ↦ min-eq_left h.1
  | inr h ↦
      let above : b ≤ a = omega (arith, h.1) in
      let same : b ≤ b = omega arith in
      let least : b ≤ min a b = le-min above same in
      absurd (omega (arith, least, l))
]

pub counts_exactly : (a b c x y bound : ℕ) → x ≡ min (a + b) bound → y ≡ min (x + c) bound → max_length < bound → y ≤ max_length → y ≡ (a + b) + c
counts_exactly a b c x y bound e f l small =
    let below : min (x + c) bound < bound = omega (arith, f, l, small) in
    let g : min (x + c) bound ≡ x + c = min_small (x + c) bound below in
    let lower : min (a + b) bound < bound = omega (arith, e, f, g, l, small) in
    let h : min (a + b) bound ≡ a + b = min_small (a + b) bound lower in
    omega (arith, e, f, g, h)

pub counts_past : (a b c x y bound : ℕ) → x ≡ min (a + b) bound → y ≡ min (x + c) bound → max_length < y → max_length < (a + b) + c
counts_past a b c x y bound e f l = omega (arith, e, f, l, min-le_left (x + c) bound, min-le_left (a + b) bound)
