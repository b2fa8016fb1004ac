-- The words of an arena, and what the keys of its dicts mean, where it goes on.
use Rattle.std.proofs.Common.{append-nil, append_assoc, ◌≡◌, ◌⊎◌, inl, inr, ℕ, zero, suc, ◌+◌, ◌<◌, ◌≤◌, Bool, true, false, cond, List, [], ◌∷◌, ◌++◌, map, length, get_or, slice_get, Option, Some, None, option_map, unwrap_or, is_some, ap, ap₂, refl, sym, subst, ◌∙◌, arith, true≢false, length-append}
use Rattle.std.specs.Prelude.{◌≢◌, nat_eq, slice_set}
use Rattle.std.specs.Map.{lookup}
use Rattle.std.proofs.lemmas.List.{get_or_append_left, get_or_push, length-map, length_push, map-append}
use Rattle.std.proofs.lemmas.Bool.{cases_lt}
use Rattle.std.proofs.lemmas.Option.{none-some, slice_get_within, slice_get-get_or, get_or_from_slice_get, slice_get-map}
use Rattle.si_semantics.specs.Value as pure
use Rattle.si_arena.specs.declared.value.Ref.{Ref}
use Rattle.si_arena.specs.declared.atom.Atom.{Atom}
use Rattle.si_arena.specs.declared.atom.Atom.TheVariants as atom
use Rattle.si_arena.specs.declared.dict.Pair.{Pair}
use Rattle.si_arena.specs.declared.held.Held.{Held}
use Rattle.si_arena.specs.declared.held.Held.TheVariants as held
use Rattle.si_arena.specs.Short.{FitsShort}
use Rattle.si_arena.specs.Texts.{Rows, text_of, TextLies, Grows}
use Rattle.si_arena.specs.inner.Words.{Words, words_of, number_of, TextsLie, AreWords, WordsLie, Grown, IsNext, IsStrange}
use Rattle.si_arena.specs.inner.Keys.{Means, EntriesMean, HeldMeans, KeysMean}
use Rattle.si_arena.specs.Memory.{Memory, value_of, key_meant, PairsLie, HeldLies, ObjectsLie, Lasts}
use Rattle.si_arena.proofs.Rows.{text-grows, text_lies-grows}
use Rattle.si_arena.proofs.Lying.{value-lasts}

-- ---- the rows go on

pub words-grow : (old new : Rows) (rs : List Ref) → Grows old new → TextsLie old rs → map (text_of new) rs ≡ map (text_of old) rs
words-grow old new [] g h = refl
words-grow old new (r ∷ rs) g h = ap₂ (λ t ts. t ∷ ts) (text-grows old new r g h.0.1) (words-grow old new rs g h.1)

texts_lie-grow : (old new : Rows) (rs : List Ref) → Grows old new → TextsLie old rs → TextsLie new rs
texts_lie-grow old new [] g h = h
texts_lie-grow old new (r ∷ rs) g h = ((h.0.0, text_lies-grows old new r g h.0.1), texts_lie-grow old new rs g h.1)

pub words_lie-grow : (old new : Rows) (ws : Words) → Grows old new → WordsLie old ws → WordsLie new ws
words_lie-grow old new ws g h = record { lie = texts_lie-grow old new ws.texts g h.lie; are = subst (AreWords ws.first) (sym (words-grow old new ws.texts g h.lie)) h.are }

entries-last : {old new : Memory} (us : List (List ℕ)) (es : List (Atom × Pair)) → Lasts old new → PairsLie old es → EntriesMean old us es → EntriesMean new us es
entries-last us [] l h k = k
entries-last us (e ∷ es) l h k = (subst (λ v. Means us e.0 (key_meant v)) (sym (value-lasts e.1.key l h.0.key)) k.0, entries-last us es l h.1 k.1)

pub held_means-last : {old new : Memory} (us : List (List ℕ)) (o : Held) → Lasts old new → HeldLies old o → HeldMeans old us o → HeldMeans new us o
held_means-last us (held.Bare k) l h m = tt
held_means-last us (held.Made k r) l h m = tt
held_means-last us (held.Caused c) l h m = tt
held_means-last us (held.Thread i r) l h m = tt
held_means-last us (held.Started r) l h m = tt
held_means-last us (held.List rs) l h m = tt
held_means-last us (held.Dict es) l h m = entries-last us es l h m

pub keys-last : {old new : Memory} (us : List (List ℕ)) (os : List Held) → Lasts old new → ObjectsLie old os → KeysMean old us os → KeysMean new us os
keys-last us [] l h k = k
keys-last us (o ∷ os) l h k = (held_means-last us o l h.0 k.0, keys-last us os l h.1 k.1)

-- ---- an object more, and another one

pub keys-push : (m : Memory) (us : List (List ℕ)) (os : List Held) (o : Held) → KeysMean m us os → HeldMeans m us o → KeysMean m us (os ++ o ∷ [])
keys-push m us [] o k h = (h, tt)
keys-push m us (q ∷ os) o k h = (k.0, keys-push m us os o k.1 h)

pub keys-set : (m : Memory) (us : List (List ℕ)) (os : List Held) (x : ℕ) (o : Held) → KeysMean m us os → HeldMeans m us o → KeysMean m us (slice_set os x o)
keys-set m us [] x o k h = k
keys-set m us (q ∷ os) zero o k h = (h, k.1)
keys-set m us (q ∷ os) (suc x) o k h = (k.0, keys-set m us os x o k.1 h)

pub means_at : (m : Memory) (us : List (List ℕ)) (os : List Held) (x : ℕ) (o : Held) → KeysMean m us os → x < length os → o ≡ get_or os x o → HeldMeans m us o
means_at m us [] x o k lt e = absurd (omega arith)
means_at m us (q ∷ os) zero o k lt e = subst (HeldMeans m us) (sym e) k.0
means_at m us (q ∷ os) (suc x) o k lt e = means_at m us os x o k.1 (omega arith) e

-- ---- more words

some_left : {A : Type 0} (xs ys : List A) (i : ℕ) (x : A) → slice_get xs i ≡ Some x → slice_get (xs ++ ys) i ≡ Some x
some_left xs ys i x e =
    let lt = slice_get_within xs i x e in
    slice_get-get_or (xs ++ ys) i x (omega (arith, lt, length-append xs ys)) ∙ ap (λ y. Some y) (get_or_append_left xs ys x i lt ∙ get_or_from_slice_get xs i x x e)

means-more : (us more : List (List ℕ)) (a : Atom) (k : pure.Key) → Means us a k → Means (us ++ more) a k
means-more us more (atom.Int n) (pure.Number i) h = h
means-more us more (atom.Int n) (pure.Word t) h = absurd h
means-more us more (atom.Short s) (pure.Number i) h = absurd h
means-more us more (atom.Short s) (pure.Word t) h = h
means-more us more (atom.Word x) (pure.Number i) h = absurd h
means-more us more (atom.Word x) (pure.Word t) h = some_left us more x t h

entries-more : (m : Memory) (us more : List (List ℕ)) (es : List (Atom × Pair)) → EntriesMean m us es → EntriesMean m (us ++ more) es
entries-more m us more [] k = k
entries-more m us more (e ∷ es) k = (means-more us more e.0 (key_meant (value_of m e.1.key)) k.0, entries-more m us more es k.1)

held_means-more : (m : Memory) (us more : List (List ℕ)) (o : Held) → HeldMeans m us o → HeldMeans m (us ++ more) o
held_means-more m us more (held.Bare k) h = tt
held_means-more m us more (held.Made k r) h = tt
held_means-more m us more (held.Caused c) h = tt
held_means-more m us more (held.Thread i r) h = tt
held_means-more m us more (held.Started r) h = tt
held_means-more m us more (held.List rs) h = tt
held_means-more m us more (held.Dict es) h = entries-more m us more es h

keys-more : (m : Memory) (us more : List (List ℕ)) (os : List Held) → KeysMean m us os → KeysMean m (us ++ more) os
keys-more m us more [] k = k
keys-more m us more (o ∷ os) k = (held_means-more m us more o k.0, keys-more m us more os k.1)

grown-words : (rows : Rows) (old new : Words) → ((more : List Ref) × (new.texts ≡ old.texts ++ more)) → (more : List (List ℕ)) × (words_of rows new ≡ words_of rows old ++ more)
grown-words rows old new g = (map (text_of rows) g.0, ap (map (text_of rows)) g.1 ∙ map-append (text_of rows) old.texts g.0)

pub keys-grown : (m : Memory) (rows : Rows) (old new : Words) (os : List Held) → Grown rows old new → KeysMean m (words_of rows old) os → KeysMean m (words_of rows new) os
keys-grown m rows old new os g k = let w = grown-words rows old new g.texts in subst (λ us. KeysMean m us os) (sym w.1) (keys-more m (words_of rows old) w.0 os k)

pub entries-grown : (m : Memory) (rows : Rows) (old new : Words) (es : List (Atom × Pair)) → Grown rows old new → EntriesMean m (words_of rows old) es → EntriesMean m (words_of rows new) es
entries-grown m rows old new es g k = let w = grown-words rows old new g.texts in subst (λ us. EntriesMean m us es) (sym w.1) (entries-more m (words_of rows old) w.0 es k)

pub grown_same : (rows : Rows) (ws : Words) → WordsLie rows ws → Grown rows ws ws
grown_same rows ws h = record { texts = ([], sym (append-nil ws.texts)); lie = h }

pub grown_more : (rows : Rows) (a b c : Words) → Grown rows a b → Grown rows b c → Grown rows a c
grown_more rows a b c p q = record { texts = (p.texts.0 ++ q.texts.0, q.texts.1 ∙ ap (λ xs. xs ++ q.texts.0) p.texts.1 ∙ append_assoc a.texts p.texts.0 q.texts.0); lie = q.lie }

pub grown_next : (rows : Rows) (text : Ref) (old new : Words) (word : ℕ) → IsNext rows text old new word → Grown rows old new
grown_next rows text old new word n = record { texts = (text ∷ [], n.texts); lie = n.lie }

-- the next word is there
pub next_is : (rows : Rows) (text : Ref) (old new : Words) (word : ℕ) → IsNext rows text old new word → slice_get (words_of rows new) word ≡ Some (text_of rows text)
next_is rows text old new word n =
    let xs = old.texts ++ text ∷ [] in
    let l : length old.texts ≡ word = sym n.number in
    ap (λ rs. slice_get (map (text_of rows) rs) word) n.texts
    ∙ slice_get-map (text_of rows) xs word
    ∙ ap (option_map (text_of rows)) (slice_get-get_or xs word text (omega (arith, l, length_push old.texts text)) ∙ ap (λ r. Some r) (get_or_push old.texts text text word l))

-- ---- one word more

module _ {A : Type 0} where
  pub same_some : (x y : A) → Some x ≡ Some y → x ≡ y
  same_some x y e = ap (λ o. unwrap_or o x) e

  pushed_at : (us : List A) (t s : A) (i : ℕ) → slice_get (us ++ t ∷ []) i ≡ Some s → (slice_get us i ≡ Some s) ⊎ ((i ≡ length us) × (t ≡ s))
  pushed_at [] t s zero e = inr (refl, same_some t s e)
  pushed_at [] t s (suc i) e = absurd (none-some s e)
  pushed_at (u ∷ us) t s zero e = inl e
  pushed_at (u ∷ us) t s (suc i) e = by (pushed_at us t s i e)
    where
      by : (slice_get us i ≡ Some s) ⊎ ((i ≡ length us) × (t ≡ s)) → (slice_get us i ≡ Some s) ⊎ ((suc i ≡ length (u ∷ us)) × (t ≡ s))
      by (inl h) = inl h
      by (inr h) = inr (ap suc h.0, h.1)

pub some_there : (o : Option ℕ) → is_some o ≡ true → (k : ℕ) × (o ≡ Some k)
some_there (Some k) e = (k, refl)
some_there None e = absurd (true≢false (sym e))

module _ (first more : List (ℕ × ℕ)) (us : List (List ℕ)) (t : List ℕ) (w : AreWords first us) (long : ¬ FitsShort t) (strange : (i : ℕ) → slice_get us i ≢ Some t)
    (there : (k : ℕ) × (lookup (nat_eq (number_of t)) more ≡ Some k))
    (keeps : (n k : ℕ) → lookup (nat_eq n) first ≡ Some k → (l : ℕ) × (lookup (nat_eq n) more ≡ Some l))
    (within : (n k : ℕ) → lookup (nat_eq n) more ≡ Some k → k < length us + 1) where
  long_at : (i : ℕ) (s : List ℕ) → (slice_get us i ≡ Some s) ⊎ ((i ≡ length us) × (t ≡ s)) → ¬ FitsShort s
  long_at i s (inl e) = w.long i s e
  long_at i s (inr e) = subst (λ r. ¬ FitsShort r) e.1 long

  apart_at : (i j : ℕ) (s : List ℕ) → (slice_get us i ≡ Some s) ⊎ ((i ≡ length us) × (t ≡ s)) → (slice_get us j ≡ Some s) ⊎ ((j ≡ length us) × (t ≡ s)) → i ≡ j
  apart_at i j s (inl e) (inl f) = w.apart i j s e f
  apart_at i j s (inl e) (inr f) = absurd (strange i (e ∙ ap (λ r. Some r) (sym f.1)))
  apart_at i j s (inr e) (inl f) = absurd (strange j (f ∙ ap (λ r. Some r) (sym e.1)))
  apart_at i j s (inr e) (inr f) = e.0 ∙ sym f.0

  known_at : (i : ℕ) (s : List ℕ) → (slice_get us i ≡ Some s) ⊎ ((i ≡ length us) × (t ≡ s)) → (k : ℕ) × (lookup (nat_eq (number_of s)) more ≡ Some k)
  known_at i s (inl e) = let k = w.known i s e in keeps (number_of s) k.0 k.1
  known_at i s (inr e) = subst (λ r. (k : ℕ) × (lookup (nat_eq (number_of r)) more ≡ Some k)) e.1 there

  pub words_more : AreWords more (us ++ t ∷ [])
  words_more = record {
    long = λ i s e. long_at i s (pushed_at us t s i e);
    apart = λ i j s e f. apart_at i j s (pushed_at us t s i e) (pushed_at us t s j f);
    known = λ i s e. known_at i s (pushed_at us t s i e);
    within = λ n k e. omega (arith, within n k e, length_push us t);
  }

cond_some : (b : Bool) (l k : ℕ) (o : Option ℕ) → o ≡ Some k → (j : ℕ) × (cond b (Some l) o ≡ Some j)
cond_some true l k o e = (l, refl)
cond_some false l k o e = (k, e)

cond_within : (b : Bool) (l n k : ℕ) (o : Option ℕ) → ((j : ℕ) → o ≡ Some j → j < n) → l < n → cond b (Some l) o ≡ Some k → k < n
cond_within true l n k o h lt e = subst (λ j. j < n) (same_some l k e) lt
cond_within false l n k o h lt e = h k e

texts_lie-push : (rows : Rows) (rs : List Ref) (r : Ref) → TextsLie rows rs → TextsLie rows (r ∷ []) → TextsLie rows (rs ++ r ∷ [])
texts_lie-push rows [] r h k = k
texts_lie-push rows (q ∷ rs) r h k = (h.0, texts_lie-push rows rs r h.1 k)

-- a text whose number was there already is the next word
pub word_kept : (rows : Rows) (ws new : Words) (text : Ref) (word k : ℕ) → WordsLie rows ws → TextsLie rows (text ∷ []) → ¬ FitsShort (text_of rows text) → IsStrange rows ws (text_of rows text)
    → word ≡ length ws.texts → new.texts ≡ ws.texts ++ text ∷ [] → new.first ≡ ws.first → lookup (nat_eq (number_of (text_of rows text))) ws.first ≡ Some k → IsNext rows text ws new word
word_kept rows ws new text word k h lie long strange n e f there = record {
  number = n;
  texts = e;
  lie = subst (WordsLie rows) (λ i. record { first = sym f i; texts = sym e i }) (record {
    lie = texts_lie-push rows ws.texts text h.lie lie;
    are = subst (AreWords ws.first) (sym (map-append (text_of rows) ws.texts (text ∷ [])))
        (words_more ws.first ws.first (words_of rows ws) (text_of rows text) h.are long strange (k, there) (λ m l p. (l, p)) (λ m l p. omega (arith, h.are.within m l p)));
  });
}

-- a text whose number is new is the next word
pub word_known : (rows : Rows) (ws new : Words) (text : Ref) (word : ℕ) → WordsLie rows ws → TextsLie rows (text ∷ []) → ¬ FitsShort (text_of rows text) → IsStrange rows ws (text_of rows text)
    → word ≡ length ws.texts → new.texts ≡ ws.texts ++ text ∷ []
    → ((n : ℕ) → lookup (nat_eq n) new.first ≡ cond (nat_eq (number_of (text_of rows text)) n) (Some word) (lookup (nat_eq n) ws.first)) → lookup (nat_eq (number_of (text_of rows text))) new.first ≡ Some word
    → IsNext rows text ws new word
word_known rows ws new text word h lie long strange n e f there =
    let t = text_of rows text in
    let l : length (words_of rows ws) ≡ length ws.texts = length-map ws.texts (text_of rows) in record {
      number = n;
      texts = e;
      lie = subst (WordsLie rows) (λ i. record { first = new.first; texts = sym e i }) (record {
        lie = texts_lie-push rows ws.texts text h.lie lie;
        are = subst (AreWords new.first) (sym (map-append (text_of rows) ws.texts (text ∷ [])))
            (words_more ws.first new.first (words_of rows ws) t h.are long strange (word, there)
            (λ m k p. let c = cond_some (nat_eq (number_of t) m) word k (lookup (nat_eq m) ws.first) p in (c.0, f m ∙ c.1))
            (λ m k p. cond_within (nat_eq (number_of t) m) word (length (words_of rows ws) + 1) k (lookup (nat_eq m) ws.first) (λ j q. omega (arith, h.are.within m j q)) (omega (arith, n, l)) (sym (f m) ∙ p)));
      });
    }

-- ---- a word that is looked at

pub text_at : (rows : Rows) (rs : List Ref) (i : ℕ) (r d : Ref) → TextsLie rows rs → i < length rs → r ≡ get_or rs i d → TextLies rows r
text_at rows [] i r d h lt e = absurd (omega arith)
text_at rows (q ∷ rs) zero r d h lt e = subst (TextLies rows) (sym e) h.0.1
text_at rows (q ∷ rs) (suc i) r d h lt e = text_at rows rs i r d h.1 (omega arith) e

pub word_at : (rows : Rows) (ws : Words) (i : ℕ) (r d : Ref) → i < length ws.texts → r ≡ get_or ws.texts i d → slice_get (words_of rows ws) i ≡ Some (text_of rows r)
word_at rows ws i r d lt e = slice_get-map (text_of rows) ws.texts i ∙ ap (option_map (text_of rows)) (slice_get-get_or ws.texts i d lt ∙ ap (λ q. Some q) (sym e))

-- another word than the one that is looked at
pub not_word : (rows : Rows) (ws : Words) (i : ℕ) (r d : Ref) (t : List ℕ) → i < length ws.texts → r ≡ get_or ws.texts i d → (text_of rows r ≡ t → ⊥) → slice_get (words_of rows ws) i ≢ Some t
not_word rows ws i r d t lt e differ same = differ (same_some (text_of rows r) t (sym (word_at rows ws i r d lt e) ∙ same))

-- what holds below an index, and there, holds below the next
pub below_next : (P : ℕ → Type 0) (i k : ℕ) → ((j : ℕ) → j < i → P j) → P i → k < i + 1 → P k
below_next P i k h p lt = by (cases_lt k i)
  where
    by : (k < i) ⊎ (i ≤ k) → P k
    by (inl e) = h k e
    by (inr e) = subst P (omega (arith, lt, e)) p
