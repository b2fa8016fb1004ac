-- Items with commas between them, up to a closed bracket: what is read is spelled, and what is spelled is read. Each has a depth, and
-- all have the greatest; what is collected are their parts.
use Rattle.std.proofs.Common.{◌≡◌, ℕ, ◌+◌, ◌<◌, ◌≤◌, List, [], ◌∷◌, ◌++◌, length, Option, Some, None, refl, sym, ap, ◌∙◌, subst, max, map, arith, append_assoc}
use Rattle.std.specs.Prelude.{flat_map}
use Rattle.std.proofs.lemmas.List.{append-nil}
use Rattle.si_semantics.specs.Tokens.{Symbol}
use Rattle.si_semantics.specs.Tokens as token
use Rattle.si_semantics.specs.Grammar.{Terminal, Sign, Following, Separated}
use Rattle.si_parse.specs.declared.fault.ParseFault.{ParseFault}
use Rattle.si_parse.specs.inner.Lookahead.{after}
use Rattle.si_parse.specs.inner.Lists.{closing, Measured, alone, with_item, enclosed_by}
use Rattle.si_parse.specs.inner.Gives.{Fails}
use Rattle.si_parse.proofs.Laws.{Items, after_comma_some}
use Rattle.si_parse.proofs.Lists.{added, Pairwise, separated_sound, separated_complete}
use Rattle.si_parse.proofs.Turns.{separated_fails, separated_last, separated_on, separated_stuck}

-- items that are collected as they are
pub alone_are : {A : Type 0} (xs : List A) → flat_map alone xs ≡ xs
alone_are [] = refl
alone_are (x ∷ xs) = ap (λ l. x ∷ l) (alone_are xs)

module _ {A : Type 0} where
  abbrev first : Measured A → A
  first r = r.0

  abbrev deepest : ℕ → List (Measured A) → ℕ
  deepest d [] = d
  deepest d (x ∷ xs) = deepest (max d x.1) xs

  deepest_least : (d : ℕ) (xs : List (Measured A)) → d ≤ deepest d xs
  deepest_least d [] = omega arith
  deepest_least d (x ∷ xs) = omega (arith, deepest_least (max d x.1) xs)

  some_first : (xs : List (Measured A)) → 0 < length xs → 0 < length (map first xs)
  some_first [] some = some
  some_first (x ∷ xs) some = omega arith

module _ {A X : Type 0} (parts : A → List X) (item : List Terminal → Option (Measured A)) (bracket : Symbol) where
  added_is : (before : List X) (d : ℕ) (xs : List (Measured A)) → added (with_item parts) (before, d) xs ≡ (before ++ flat_map parts (map first xs), deepest d xs)
  added_is before d [] = ap (λ l. (l, d)) (sym (append-nil before))
  added_is before d (x ∷ xs) = added_is (before ++ parts x.0) (max d x.1) xs ∙ ap (λ l. (l, deepest (max d x.1) xs)) (append_assoc before (parts x.0) (flat_map parts (map first xs)))

  -- ---- what is read is spelled

  module _ (I : ℕ → Items A) (n : ℕ)
      (deeper : (c d : ℕ) → c ≤ d → (x : A) (f : List Terminal) → I c x f → I d x f)
      (item_sound : (ts : List Terminal) (r : Measured A) → item ts ≡ Some r → (f : List Terminal) × (ts ≡ f ++ r.2) × (I r.1 r.0 f × (r.1 ≤ n)))
      (close_sound : (ts rest : List Terminal) → after (Sign bracket) ts ≡ Some rest → ts ≡ Sign bracket ∷ rest) where
    abbrev Each : Items (Measured A)
    Each r f = I r.1 r.0 f × (r.1 ≤ n)

    following_trees : (d top : ℕ) (xs : List (Measured A)) (g : List Terminal) → deepest d xs ≤ top → Following Each token.Comma xs g → Following (I top) token.Comma (map first xs) g
    following_trees d top [] g le h = h
    following_trees d top (x ∷ xs) g le h =
        (h.0, h.1, h.2, deeper x.1 top (omega (arith, deepest_least (max d x.1) xs)) x.0 h.0 h.3.0, following_trees (max d x.1) top xs h.1 le h.4)

    separated_trees : (d top : ℕ) (xs : List (Measured A)) (g : List Terminal) → deepest d xs ≤ top → Separated Each token.Comma xs g → Separated (I top) token.Comma (map first xs) g
    separated_trees d top [] g le h = h
    separated_trees d top (x ∷ xs) g le h =
        (h.0, h.1, h.2, deeper x.1 top (omega (arith, deepest_least (max d x.1) xs)) x.0 h.0 h.3.0, following_trees (max d x.1) top xs h.1 le h.4)

    following_low : (d : ℕ) (xs : List (Measured A)) (g : List Terminal) → d ≤ n → Following Each token.Comma xs g → deepest d xs ≤ n
    following_low d [] g le h = le
    following_low d (x ∷ xs) g le h = following_low (max d x.1) xs h.1 (omega (arith, h.3.1)) h.4

    separated_low : (d : ℕ) (xs : List (Measured A)) (g : List Terminal) → d ≤ n → Separated Each token.Comma xs g → deepest d xs ≤ n
    separated_low d [] g le h = le
    separated_low d (x ∷ xs) g le h = following_low (max d x.1) xs h.1 (omega (arith, h.3.1)) h.4

    abbrev pub EnclosedRead : List X → ℕ → List Terminal → (List X × ℕ) × List Terminal → Type 0
    EnclosedRead before d ts r =
        (xs : List A) × (f : List Terminal) × (r.0.0 ≡ before ++ flat_map parts xs) × (0 < length xs) × (d ≤ r.0.1) × (r.0.1 ≤ n) × (ts ≡ f ++ Sign bracket ∷ r.1) × Separated (I r.0.1) token.Comma xs f

    pub enclosed_sound : (k : ℕ) (before : List X) (d : ℕ) (ts : List Terminal) (r : (List X × ℕ) × List Terminal) → d ≤ n → enclosed_by parts item bracket k (before, d) ts ≡ Some r → EnclosedRead before d ts r
    enclosed_sound k before d ts r low h =
        let s = separated_sound (with_item parts) (λ r. r.2) item (after (Sign token.Comma)) (after (Sign bracket)) token.Comma (Sign bracket) Each item_sound after_comma_some close_sound k (before, d) ts r h in
        let all : r.0 ≡ (before ++ flat_map parts (map first s.0), deepest d s.0) = s.2 ∙ added_is before d s.0 in
        let P : List X × ℕ → Type 0 = λ c. (c.0 ≡ before ++ flat_map parts (map first s.0)) × (d ≤ c.1) × (c.1 ≤ n) × Separated (I c.1) token.Comma (map first s.0) s.1 in
        let p = subst P (sym all) (refl, deepest_least d s.0, separated_low d s.0 s.1 low s.5, separated_trees d (deepest d s.0) s.0 s.1 (omega arith) s.5) in
        (map first s.0, s.1, p.0, some_first s.0 s.3, p.1, p.2, s.4, p.3)

  -- ---- what is spelled is read

  module _ (I : Items A) (m : ℕ) (Ends : List Terminal → Type 0)
      (item_complete : (x : A) (f more : List Terminal) → I x f → Ends more → (d : ℕ) × (d ≤ m) × (item (f ++ more) ≡ Some (x, d, more)))
      (begins : (x : A) (f more : List Terminal) → I x f → after (Sign bracket) (f ++ more) ≡ None)
      (no_comma : (ts : List Terminal) → after (Sign token.Comma) (Sign bracket ∷ ts) ≡ None)
      (is_closed : (ts : List Terminal) → after (Sign bracket) (Sign bracket ∷ ts) ≡ Some ts)
      (ends_comma : (ts : List Terminal) → Ends (Sign token.Comma ∷ ts))
      (ends_close : (ts : List Terminal) → Ends (Sign bracket ∷ ts)) where
    abbrev Read : A → Measured A → Type 0
    Read x r = (x ≡ r.0) × (r.1 ≤ m)

    item_read : (x : A) (f more : List Terminal) → I x f → Ends more → (r : Measured A) × (item (f ++ more) ≡ Some r) × (r.2 ≡ more) × Read x r
    item_read x f more h ends = let c = item_complete x f more h ends in ((x, c.0, more), c.2, refl, (refl, c.1))

    collected : (before : List X) (xs : List A) (d : ℕ) (rs : List (Measured A)) → d ≤ m → Pairwise Read xs rs → (top : ℕ) × (top ≤ m) × (added (with_item parts) (before, d) rs ≡ (before ++ flat_map parts xs, top))
    collected before [] d [] low h = (d, low, ap (λ l. (l, d)) (sym (append-nil before)))
    collected before [] d (r ∷ rs) low h = absurd h
    collected before (x ∷ xs) d [] low h = absurd h
    collected before (x ∷ xs) d (r ∷ rs) low h =
        let c = collected (before ++ parts r.0) xs (max d r.1) rs (omega (arith, h.0.1)) h.1 in
        (c.0, c.1, c.2 ∙ ap (λ l. (l, c.0)) (append_assoc before (parts r.0) (flat_map parts xs) ∙ ap (λ y. before ++ (parts y ++ flat_map parts xs)) (sym h.0.0)))

    pub enclosed_complete : (k : ℕ) (before : List X) (d : ℕ) (xs : List A) (g rest : List Terminal) → length g < k → 0 < length xs → d ≤ m → Separated I token.Comma xs g
        → (top : ℕ) × (top ≤ m) × (enclosed_by parts item bracket k (before, d) (g ++ Sign bracket ∷ rest) ≡ Some ((before ++ flat_map parts xs, top), rest))
    enclosed_complete k before d xs g rest fuel some low h =
        let s = separated_complete (with_item parts) (λ r. r.2) item (after (Sign token.Comma)) (after (Sign bracket)) token.Comma (Sign bracket) I Read Ends item_read
        begins (λ ts. refl) no_comma is_closed ends_comma ends_close k (before, d) xs g rest fuel some h in
        let c = collected before xs d s.0 low s.1 in
        (c.0, c.1, s.2 ∙ ap (λ b. Some (b, rest)) c.2)

  -- ---- what one turn of the loop over them does

  module _ (k j : ℕ) (b : List X × ℕ) (ts : List Terminal) (one : k ≡ j + 1) where
    pub enclosed_fails : (f : ParseFault) → Fails f (item ts) → Fails f (enclosed_by parts item bracket k b ts)
    enclosed_fails f h = separated_fails (with_item parts) (λ r. r.2) item (after (Sign token.Comma)) (after (Sign bracket)) k j b ts one f h

    module _ (x : A) (d : ℕ) (rest : List Terminal) (read : item ts ≡ Some (x, d, rest)) where
      pub enclosed_stuck : closing (after (Sign token.Comma)) (after (Sign bracket)) rest ≡ None → after (Sign token.Comma) rest ≡ None → enclosed_by parts item bracket k b ts ≡ None
      enclosed_stuck h i = separated_stuck (with_item parts) (λ r. r.2) item (after (Sign token.Comma)) (after (Sign bracket)) k j b ts one (x, d, rest) read h i

      -- the items with this one, and the greatest depth
      module _ (items : List X) (top : ℕ) (pushed : items ≡ b.0 ++ parts x) (greatest : top ≡ max b.1 d) where
        with_this : (items, top) ≡ with_item parts b (x, d, rest)
        with_this = ap (λ l. (l, top)) pushed ∙ ap (λ t. (b.0 ++ parts x, t)) greatest

        pub enclosed_last : (end : List Terminal) → closing (after (Sign token.Comma)) (after (Sign bracket)) rest ≡ Some end → enclosed_by parts item bracket k b ts ≡ Some ((items, top), end)
        enclosed_last end h =
            separated_last (with_item parts) (λ r. r.2) item (after (Sign token.Comma)) (after (Sign bracket)) k j b ts one (x, d, rest) read end h ∙ ap (λ c. Some (c, end)) (sym with_this)

        pub enclosed_on : (more : List Terminal) → closing (after (Sign token.Comma)) (after (Sign bracket)) rest ≡ None → after (Sign token.Comma) rest ≡ Some more
            → enclosed_by parts item bracket j (items, top) more ≡ enclosed_by parts item bracket k b ts
        enclosed_on more h i =
            ap (λ c. enclosed_by parts item bracket j c more) with_this
            ∙ sym (separated_on (with_item parts) (λ r. r.2) item (after (Sign token.Comma)) (after (Sign bracket)) k j b ts one (x, d, rest) read more h i)
