-- Dicts by their keys: what is looked up and changed in the code, is so in what it denotes.
use Rattle.std.proofs.Common.{◌≡◌, ◌⊎◌, inl, inr, ℕ, zero, suc, Bool, true, false, cond, is_eq, Less, Greater, Equal, nat_lt, nat_le, ◌&&◌, ℤ, pos, negsuc, if◌then◌else◌, List, [], ◌∷◌, slice_get, Some, None, option_map, ap, ap₂, refl, sym, subst, ◌∙◌, arith, true≢false}
use Rattle.std.specs.Prelude.{nat_eq, bytes_eq}
use Rattle.std.specs.Map.{lookup}
use Rattle.std.specs.Ordering.{int_eq}
use Rattle.std.specs.Cmp.{signed_Decides, unsigned_Decides}
use Rattle.std.specs.Cmp.Lexicographic.{bytes_decides}
use Rattle.std.proofs.lemmas.Bool.{cases_Bool, cases_eq}
use Rattle.std.proofs.lemmas.Bool.Decides.{nat_tests}
use Rattle.si_semantics.specs.Value as pure
use Rattle.si_semantics.specs.Text.{same_text, same_int}
use Rattle.si_semantics.specs.Dicts.{same_key, value_at, with_pair, without_key}
use Rattle.si_arena.specs.declared.value.Ref.{Ref}
use Rattle.si_arena.specs.declared.atom.Atom.{Atom}
use Rattle.si_arena.specs.declared.atom.Atom.TheVariants as atom
use Rattle.si_arena.specs.contracts.atom.AtomPartialEq.TheImpl as atoms
use Rattle.si_arena.specs.declared.dict.Pair.{Pair}
use Rattle.si_arena.specs.Short.{FitsShort}
use Rattle.si_arena.specs.inner.Words.{AreWords}
use Rattle.si_arena.specs.inner.Keys.{one_key, found, inserted, removed, Means, EntriesMean}
use Rattle.si_arena.specs.Memory.{Memory, value_of, key_meant, pair_of, pairs_of, Lies, PairLies, PairsLie}
use Rattle.std.proofs.lemmas.Option.{none-some}
use Rattle.si_arena.proofs.Wording.{same_some}

-- ---- when two keys are one

eq-one : (k l : Atom) → (atoms.eq-value).it k l ≡ one_key k l
eq-one (atom.Int m) (atom.Int n) = refl
eq-one (atom.Int m) (atom.Short t) = refl
eq-one (atom.Int m) (atom.Word j) = refl
eq-one (atom.Short s) (atom.Int n) = refl
eq-one (atom.Short s) (atom.Short t) = refl
eq-one (atom.Short s) (atom.Word j) = refl
eq-one (atom.Word i) (atom.Int n) = refl
eq-one (atom.Word i) (atom.Short t) = refl
eq-one (atom.Word i) (atom.Word j) = refl

-- the derived `==` of atoms
pub atom_eq : (atoms.eq-value).it ≡ one_key
atom_eq = λ i k l. eq-one k l i

pub same_text-bytes : (s t : List ℕ) → same_text s t ≡ bytes_eq s t
same_text-bytes [] [] = refl
same_text-bytes [] (d ∷ ds) = refl
same_text-bytes (c ∷ cs) [] = refl
same_text-bytes (c ∷ cs) (d ∷ ds) = rw (same_text-bytes cs ds) refl

both : (m n : ℕ) → (nat_le m n && nat_le n m) ≡ is_eq (cond (nat_lt m n) Less (cond (nat_lt n m) Greater Equal))
both m n = grind (arith, nat_tests)

same_int-eq : (m n : ℤ) → same_int m n ≡ int_eq m n
same_int-eq (pos m) (pos n) = both m n
same_int-eq (pos m) (negsuc n) = refl
same_int-eq (negsuc m) (pos n) = refl
same_int-eq (negsuc m) (negsuc n) = both n m

pub text_same : (t u : List ℕ) → same_text t u ≡ true → t ≡ u
text_same t u e = (bytes_decides t u).0 (sym (same_text-bytes t u) ∙ e)

pub text_apart : (t u : List ℕ) → same_text t u ≡ false → t ≡ u → ⊥
text_apart t u e h = true≢false (sym ((bytes_decides t u).1 h) ∙ sym (same_text-bytes t u) ∙ e)

pub text_differs : (t u : List ℕ) → (t ≡ u → ⊥) → same_text t u ≡ false
text_differs t u h = by (cases_Bool (same_text t u))
  where
    by : (same_text t u ≡ true) ⊎ (same_text t u ≡ false) → same_text t u ≡ false
    by (inl e) = absurd (h (text_same t u e))
    by (inr e) = e

-- two keys that are one are the same
pub key_same : (k l : pure.Key) → same_key k l ≡ true → k ≡ l
key_same (pure.Number i) (pure.Number j) e = ap pure.Number ((signed_Decides i j).0 (sym (same_int-eq i j) ∙ e))
key_same (pure.Number i) (pure.Word t) e = absurd (true≢false (sym e))
key_same (pure.Word s) (pure.Number j) e = absurd (true≢false (sym e))
key_same (pure.Word s) (pure.Word t) e = ap pure.Word (text_same s t e)

module _ {first : List (ℕ × ℕ)} {us : List (List ℕ)} (w : AreWords first us) where
  words_agree : (x y : ℕ) (t u : List ℕ) → slice_get us x ≡ Some t → slice_get us y ≡ Some u → nat_eq x y ≡ same_text t u
  words_agree x y t u p q = by (cases_eq x y)
    where
      by : (x ≡ y) ⊎ (x ≡ y → ⊥) → nat_eq x y ≡ same_text t u
      by (inl e) =
          let same : t ≡ u = same_some t u (sym p ∙ ap (slice_get us) e ∙ q) in
          (unsigned_Decides x y).1 e ∙ sym (same_text-bytes t u ∙ (bytes_decides t u).1 same)
      by (inr h) = other (cases_Bool (nat_eq x y))
        where
          other : (nat_eq x y ≡ true) ⊎ (nat_eq x y ≡ false) → nat_eq x y ≡ same_text t u
          other (inl e) = absurd (h ((unsigned_Decides x y).0 e))
          other (inr e) = e ∙ sym (text_differs t u (λ same. h (w.apart x y u (p ∙ ap (λ s. Some s) same) q)))

  -- atoms are one where their keys are
  pub agree : (a b : Atom) (k l : pure.Key) → Means us a k → Means us b l → one_key a b ≡ same_key k l
  agree (atom.Int m) (atom.Int n) (pure.Number i) (pure.Number j) p q = ap₂ int_eq p q ∙ sym (same_int-eq i j)
  agree (atom.Int m) (atom.Short s) (pure.Number i) (pure.Word t) p q = refl
  agree (atom.Int m) (atom.Word y) (pure.Number i) (pure.Word t) p q = refl
  agree (atom.Int m) (atom.Int n) (pure.Number i) (pure.Word t) p q = absurd q
  agree (atom.Int m) (atom.Short s) (pure.Number i) (pure.Number j) p q = absurd q
  agree (atom.Int m) (atom.Word y) (pure.Number i) (pure.Number j) p q = absurd q
  agree (atom.Int m) b (pure.Word t) l p q = absurd p
  agree (atom.Short s) (atom.Int n) (pure.Word t) (pure.Number j) p q = refl
  agree (atom.Short s) (atom.Short r) (pure.Word t) (pure.Word u) p q = ap₂ bytes_eq p.0 q.0 ∙ sym (same_text-bytes t u)
  agree (atom.Short s) (atom.Word y) (pure.Word t) (pure.Word u) p q = sym (text_differs t u (λ e. w.long y u q (subst FitsShort e p.1)))
  agree (atom.Short s) (atom.Int n) (pure.Word t) (pure.Word u) p q = absurd q
  agree (atom.Short s) (atom.Short r) (pure.Word t) (pure.Number j) p q = absurd q
  agree (atom.Short s) (atom.Word y) (pure.Word t) (pure.Number j) p q = absurd q
  agree (atom.Short s) b (pure.Number i) l p q = absurd p
  agree (atom.Word x) (atom.Int n) (pure.Word t) (pure.Number j) p q = refl
  agree (atom.Word x) (atom.Short r) (pure.Word t) (pure.Word u) p q = sym (text_differs t u (λ e. w.long x t p (subst FitsShort (sym e) q.1)))
  agree (atom.Word x) (atom.Word y) (pure.Word t) (pure.Word u) p q = words_agree x y t u p q
  agree (atom.Word x) (atom.Int n) (pure.Word t) (pure.Word u) p q = absurd q
  agree (atom.Word x) (atom.Short r) (pure.Word t) (pure.Number j) p q = absurd q
  agree (atom.Word x) (atom.Word y) (pure.Word t) (pure.Number j) p q = absurd q
  agree (atom.Word x) b (pure.Number i) l p q = absurd p

-- ---- a dict by its entries

-- the key of an entry
abbrev key_at : Memory → Atom × Pair → pure.Key
key_at m e = key_meant (value_of m e.1.key)

either : {A : Type 0} (P : A → Type 0) (b : Bool) (x y : A) → (b ≡ true → P x) → (b ≡ false → P y) → P (if b then x else y)
either P true x y h k = h refl
either P false x y h k = k refl

-- two tests that agree choose alike
alike : {A B : Type 0} (f : A → B) (b c : Bool) (x y : A) (v w : B) → b ≡ c → (c ≡ true → f x ≡ v) → (c ≡ false → f y ≡ w) → f (if b then x else y) ≡ (if c then v else w)
alike f true true x y v w e h k = h refl
alike f true false x y v w e h k = absurd (true≢false e)
alike f false true x y v w e h k = absurd (true≢false (sym e))
alike f false false x y v w e h k = k refl

pub pair_lies-at : (m : Memory) (es : List (Atom × Pair)) (k : ℕ) (e : Atom × Pair) → PairsLie m es → slice_get es k ≡ Some e → PairLies m e.1
pair_lies-at m [] k e h f = absurd (none-some e f)
pair_lies-at m (x ∷ es) zero e h f = subst (λ (q : Atom × Pair). PairLies m q.1) (same_some x e f) h.0
pair_lies-at m (x ∷ es) (suc k) e h f = pair_lies-at m es k e h.1 f

pub found_lies : (m : Memory) (a : Atom) (es : List (Atom × Pair)) (r : Ref) → PairsLie m es → found a es ≡ Some r → Lies m r
found_lies m a [] r h e = absurd (none-some r e)
found_lies m a (x ∷ es) r h e = by (one_key a x.0) e (found_lies m a es r h.1)
  where
    by : (b : Bool) → option_map (λ (p : Pair). p.value) (if b then Some x.1 else lookup (one_key a) es) ≡ Some r → (found a es ≡ Some r → Lies m r) → Lies m r
    by true f rest = subst (Lies m) (same_some x.1.value r f) h.0.value
    by false f rest = rest f

module _ (m : Memory) {first : List (ℕ × ℕ)} {us : List (List ℕ)} (w : AreWords first us) (a : Atom) (k : pure.Key) (means : Means us a k) where
  pub found_is : (es : List (Atom × Pair)) → EntriesMean m us es → option_map (value_of m) (found a es) ≡ value_at k (pairs_of m es)
  found_is [] h = refl
  found_is (e ∷ es) h =
      alike (λ o. option_map (value_of m) (option_map (λ (p : Pair). p.value) o)) (one_key a e.0) (same_key k (key_at m e)) (Some e.1) (lookup (one_key a) es) (Some (value_of m e.1.value)) (value_at k (pairs_of m es))
      (agree w a e.0 k (key_at m e) means h.0) (λ t. refl) (λ t. found_is es h.1)

  pub removed_is : (es : List (Atom × Pair)) → EntriesMean m us es → pairs_of m (removed a es) ≡ without_key k (pairs_of m es)
  removed_is [] h = refl
  removed_is (e ∷ es) h =
      alike (pairs_of m) (one_key a e.0) (same_key k (key_at m e)) es (e ∷ removed a es) (pairs_of m es) (pair_of m e.1 ∷ without_key k (pairs_of m es))
      (agree w a e.0 k (key_at m e) means h.0) (λ t. refl) (λ t. ap (λ ps. pair_of m e.1 ∷ ps) (removed_is es h.1))

  pub inserted_is : (p : Pair) → key_meant (value_of m p.key) ≡ k → (es : List (Atom × Pair)) → EntriesMean m us es → pairs_of m (inserted a p es) ≡ with_pair k (value_of m p.value) (pairs_of m es)
  inserted_is p same [] h = ap (λ l. (l, value_of m p.value) ∷ []) same
  inserted_is p same (e ∷ es) h =
      alike (pairs_of m) (one_key a e.0) (same_key k (key_at m e)) ((e.0, p) ∷ es) (e ∷ inserted a p es) ((key_at m e, value_of m p.value) ∷ pairs_of m es) (pair_of m e.1 ∷ with_pair k (value_of m p.value) (pairs_of m es))
      (agree w a e.0 k (key_at m e) means h.0)
      (λ t. ap (λ l. (l, value_of m p.value) ∷ pairs_of m es) (same ∙ key_same k (key_at m e) t))
      (λ t. ap (λ ps. pair_of m e.1 ∷ ps) (inserted_is p same es h.1))

  pub removed_mean : (es : List (Atom × Pair)) → EntriesMean m us es → EntriesMean m us (removed a es)
  removed_mean [] h = tt
  removed_mean (e ∷ es) h = either (EntriesMean m us) (one_key a e.0) es (e ∷ removed a es) (λ t. h.1) (λ t. (h.0, removed_mean es h.1))

  pub removed_lie : (es : List (Atom × Pair)) → PairsLie m es → PairsLie m (removed a es)
  removed_lie [] h = tt
  removed_lie (e ∷ es) h = either (PairsLie m) (one_key a e.0) es (e ∷ removed a es) (λ t. h.1) (λ t. (h.0, removed_lie es h.1))

  pub inserted_mean : (p : Pair) → key_meant (value_of m p.key) ≡ k → (es : List (Atom × Pair)) → EntriesMean m us es → EntriesMean m us (inserted a p es)
  inserted_mean p same [] h = (subst (Means us a) (sym same) means, tt)
  inserted_mean p same (e ∷ es) h =
      either (EntriesMean m us) (one_key a e.0) ((e.0, p) ∷ es) (e ∷ inserted a p es)
      (λ t. (subst (Means us e.0) (sym (same ∙ key_same k (key_at m e) (sym (agree w a e.0 k (key_at m e) means h.0) ∙ t))) h.0, h.1))
      (λ t. (h.0, inserted_mean p same es h.1))

  pub inserted_lie : (p : Pair) → PairLies m p → (es : List (Atom × Pair)) → PairsLie m es → PairsLie m (inserted a p es)
  inserted_lie p lies [] h = (lies, tt)
  inserted_lie p lies (e ∷ es) h = either (PairsLie m) (one_key a e.0) ((e.0, p) ∷ es) (e ∷ inserted a p es) (λ t. (lies, h.1)) (λ t. (h.0, inserted_lie p lies es h.1))

-- a key that no atom means is not there
module _ (m : Memory) (us : List (List ℕ)) (k : pure.Key) (strange : (b : Atom) → Means us b k → ⊥) where
  differs : (e : Atom × Pair) → Means us e.0 (key_at m e) → same_key k (key_at m e) ≡ false
  differs e h = by (cases_Bool (same_key k (key_at m e)))
    where
      by : (same_key k (key_at m e) ≡ true) ⊎ (same_key k (key_at m e) ≡ false) → same_key k (key_at m e) ≡ false
      by (inl t) = absurd (strange e.0 (subst (Means us e.0) (sym (key_same k (key_at m e) t)) h))
      by (inr t) = t

  pub strange_value : (es : List (Atom × Pair)) → EntriesMean m us es → value_at k (pairs_of m es) ≡ None
  strange_value [] h = refl
  strange_value (e ∷ es) h = ap (λ b. if b then Some (value_of m e.1.value) else value_at k (pairs_of m es)) (differs e h.0) ∙ strange_value es h.1

  pub strange_rest : (es : List (Atom × Pair)) → EntriesMean m us es → without_key k (pairs_of m es) ≡ pairs_of m es
  strange_rest [] h = refl
  strange_rest (e ∷ es) h =
      ap (λ b. if b then pairs_of m es else pair_of m e.1 ∷ without_key k (pairs_of m es)) (differs e h.0) ∙ ap (λ ps. pair_of m e.1 ∷ ps) (strange_rest es h.1)
