-- The loop over a text: what was made, and what is left.
use Rattle.std.proofs.Common.{◌≡◌, ℕ, ◌<◌, List, [], ◌∷◌, ◌++◌, length, take, drop, refl, sym, ap, ◌∙◌, subst, arith, Option, Some, None, append_assoc, true}
use Rattle.si_semantics.specs.Tokens.{Token}
use Rattle.std.specs.Option.{option_map, option_and_then}
use Rattle.si_semantics.specs.Words.{Sort, Word, IsCut, IsWord, IsLongest, is_allowed}
use Rattle.si_semantics.specs.Layout.{ending, HasTokens}
use Rattle.si_token.specs.inner.Reading.{word_at}
use Rattle.si_token.specs.Views.{Place}
use Rattle.si_token.specs.inner.Laying.{line_start, stepped, missing_newline, laid_all, Reads}
use Rattle.si_token.proofs.Lines.{has_tokens, reads}
use Rattle.si_token.proofs.Runs.{Found, word_found, word_only, nonempty, take_append, drop_append}

-- The text has these tokens and those of what is left, and no others.
pub record AreBefore (made : List Token) (p : Place) (blocks : List ℕ) (rest text : List ℕ) : Type 0 where
  pub right : (more : List Token) → Reads p blocks more rest → HasTokens (made ++ more) text
  pub only : (ts : List Token) → HasTokens ts text → (more : List Token) × (ts ≡ made ++ more) × Reads p blocks more rest

start : (text : List ℕ) → AreBefore [] (line_start 0) [] text text
start text = record { right = λ more h. has_tokens more text h; only = λ ts h. (ts, refl, reads ts text h) }

pub at_start : (made : List Token) (p : Place) (blocks : List ℕ) (text : List ℕ) → made ≡ [] → p ≡ line_start 0 → blocks ≡ [] → AreBefore made p blocks text text
at_start made p blocks text e f g =
    subst (λ made. AreBefore made p blocks text text) (sym e)
    (subst (λ p. AreBefore [] p blocks text text) (sym f)
    (subst (λ blocks. AreBefore [] (line_start 0) blocks text text) (sym g) (start text)))

-- the first word that is read, and what follows it
pub record First (p : Place) (blocks : List ℕ) (ts : List Token) (front after : List ℕ) (k : Sort) : Type 0 where
  pub made : List Token
  pub more : List Token
  pub next : Place
  pub open_blocks : List ℕ
  pub lays : stepped p blocks k front ≡ Some (made, next, open_blocks)
  pub whole : ts ≡ made ++ more
  pub reads : Reads next open_blocks more after

empty_front : (bs : List ℕ) → length bs ≡ 0 → bs ≡ []
empty_front [] h = refl
empty_front (b ∷ bs) h = absurd (omega (arith, h))

no_more : (front after : List ℕ) → 0 < length front → front ++ after ≡ [] → ⊥
no_more [] after pos e = omega (arith, pos)
no_more (b ∷ front) after pos e = cc

same_parts : (w rest front after : List ℕ) → (w ++ rest) ≡ (front ++ after) → length w ≡ length front → (w ≡ front) × (rest ≡ after)
same_parts w rest front after e l =
    (sym (take_append w rest) ∙ (λ i. take (l i) (e i)) ∙ take_append front after, sym (drop_append w rest) ∙ (λ i. drop (l i) (e i)) ∙ drop_append front after)

some_inj : {A : Type 0} (x y : A) → ◌≡◌ {A = Option A} (Some x) (Some y) → x ≡ y
some_inj x y h = cc

-- what the tokens after a word come from
then_of : (ws : List Word) (o : Option (List Token × Place × List ℕ)) (ts : List Token) → option_and_then (λ (r : List Token × Place × List ℕ). option_map (λ more. r.0 ++ more) (laid_all r.1 r.2 ws)) o ≡ Some ts
    → (made more : List Token) × (next : Place) × (open_blocks : List ℕ) × (o ≡ Some (made, next, open_blocks)) × (ts ≡ made ++ more) × (laid_all next open_blocks ws ≡ Some more)
then_of ws None ts h = cc
then_of ws (Some (made, next, open_blocks)) ts h = by (laid_all next open_blocks ws) refl h
  where
    by : (o : Option (List Token)) → laid_all next open_blocks ws ≡ o → option_map (λ more. made ++ more) o ≡ Some ts
        → (made2 more : List Token) × (next2 : Place) × (open2 : List ℕ) × (◌≡◌ {A = Option (List Token × Place × List ℕ)} (Some (made, next, open_blocks)) (Some (made2, next2, open2))) × (ts ≡ made2 ++ more) × (laid_all next2 open2 ws ≡ Some more)
    by None e h = cc
    by (Some more) e h = (made, more, next, open_blocks, refl, (let s : made ++ more ≡ ts = cc in sym s), e)

-- whoever reads on reads the word at the front
pub first_of : (p : Place) (blocks : List ℕ) (ts : List Token) (front after : List ℕ) (k : Sort) → 0 < length front → word_at (front ++ after) ≡ Some (k, length front) → Reads p blocks ts (front ++ after)
    → First p blocks ts front after k
first_of p blocks ts front after k pos found ([], cut, lays) = absurd (no_more front after pos cut)
first_of p blocks ts front after k pos found (w ∷ ws, cut, lays) =
    let one : word_at (front ++ after) ≡ Some (w.sort, length w.text) = ap word_at cut.1 ∙ word_only w.text cut.0 w.sort cut.2 cut.3 cut.4 in
    let same : (w.sort, length w.text) ≡ (k, length front) = some_inj (w.sort, length w.text) (k, length front) (sym one ∙ found) in
    let sorts : w.sort ≡ k = ap (λ x. x.0) same in
    let lengths : length w.text ≡ length front = ap (λ x. x.1) same in
    let parts = same_parts w.text cut.0 front after (sym cut.1) lengths in
    let step = then_of ws (stepped p blocks w.sort w.text) ts lays in
    record {
      made = step.0;
      more = step.1;
      next = step.2;
      open_blocks = step.3;
      lays = sym ((λ i. stepped p blocks (sorts i) (parts.0 i))) ∙ step.4;
      whole = step.5;
      reads = (ws, subst (IsCut ws) parts.1 cut.5, step.6);
    }

-- a word that is read, and the tokens that it makes
pub next_word : (made : List Token) (p : Place) (blocks : List ℕ) (text front after : List ℕ) (k : Sort) (ts : List Token) (q : Place) (open_blocks : List ℕ) → 0 < length front → word_at (front ++ after) ≡ Some (k, length front)
    → stepped p blocks k front ≡ Some (ts, q, open_blocks) → AreBefore made p blocks (front ++ after) text → AreBefore (made ++ ts) q open_blocks after text
next_word made p blocks text front after k ts q open_blocks pos found lays before =
    let f = word_found (front ++ after) k (length front) found in
    record {
      right = λ more h.
          subst (λ l. HasTokens l text) (sym (append_assoc made ts more))
          (before.right (ts ++ more) (
            record { sort = k; text = front } ∷ h.0,
            (after, refl, subst (IsWord k) (take_append front after) f.word, is_longest f, is_right f, h.1),
            ap (option_and_then (λ (r : List Token × Place × List ℕ). option_map (λ more. r.0 ++ more) (laid_all r.1 r.2 h.0))) lays ∙ ap (option_map (λ more. ts ++ more)) h.2,
          ));
      only = λ us h.
          let b = before.only us h in
          let r = first_of p blocks b.0 front after k pos found b.2 in
          let same : (r.made, r.next, r.open_blocks) ≡ (ts, q, open_blocks) = some_inj (r.made, r.next, r.open_blocks) (ts, q, open_blocks) (sym r.lays ∙ lays) in
          let parts : r.made ≡ ts = ap (λ x. x.0) same in
          let places : r.next ≡ q = ap (λ x. x.1) same in
          let opens : r.open_blocks ≡ open_blocks = ap (λ x. x.2) same in
          (r.more, b.1 ∙ ap (λ l. made ++ l) (r.whole ∙ ap (λ l. l ++ r.more) parts) ∙ sym (append_assoc made ts r.more), subst (λ x. Reads x open_blocks r.more after) places (subst (λ x. Reads r.next x r.more after) opens r.reads));
    }
  where
    is_longest : Found (front ++ after) k (length front) → IsLongest front after
    is_longest f = subst (IsLongest front) (drop_append front after) (subst (λ v. IsLongest v (drop (length front) (front ++ after))) (take_append front after) f.longest)

    is_right : Found (front ++ after) k (length front) → is_allowed k front after ≡ true
    is_right f = sym ((λ i. is_allowed k (take_append front after i) (drop_append front after i))) ∙ f.allowed

-- no word stands at the front
pub no_word : (made : List Token) (p : Place) (blocks : List ℕ) (rest text : List ℕ) → 0 < length rest → word_at rest ≡ None → AreBefore made p blocks rest text → (ts : List Token) → HasTokens ts text → ⊥
no_word made p blocks rest text pos none before ts h = by rest pos none (before.only ts h).2
  where
    more : List Token
    more = (before.only ts h).0

    by : (rest : List ℕ) → 0 < length rest → word_at rest ≡ None → Reads p blocks more rest → ⊥
    by rest pos none ([], cut, lays) = let l = ap length cut in omega (arith, pos, l)
    by rest pos none (w ∷ ws, cut, lays) =
        let bad : ◌≡◌ {A = Option (Sort × ℕ)} None (Some (w.sort, length w.text)) = sym none ∙ ap word_at cut.1 ∙ word_only w.text cut.0 w.sort cut.2 cut.3 cut.4 in cc

-- the word at the front may not stand there
pub no_place : (made : List Token) (p : Place) (blocks : List ℕ) (text front after : List ℕ) (k : Sort) → 0 < length front → word_at (front ++ after) ≡ Some (k, length front) → stepped p blocks k front ≡ None
    → AreBefore made p blocks (front ++ after) text → (ts : List Token) → HasTokens ts text → ⊥
no_place made p blocks text front after k pos found none before ts h =
    let b = before.only ts h in
    let r = first_of p blocks b.0 front after k pos found b.2 in
    let bad : ◌≡◌ {A = Option (List Token × Place × List ℕ)} None (Some (r.made, r.next, r.open_blocks)) = sym none ∙ r.lays in cc

-- the tokens at the end of the text
abbrev pub all_ending : Place → List ℕ → List Token
all_ending p blocks = missing_newline p ++ ending blocks p.at

-- nothing is left
pub over_right : (made : List Token) (p : Place) (blocks text : List ℕ) → AreBefore made p blocks [] text → HasTokens (made ++ all_ending p blocks) text
over_right made p blocks text before = before.right (all_ending p blocks) ([], refl, refl)

pub over_only : (made : List Token) (p : Place) (blocks text : List ℕ) → AreBefore made p blocks [] text → (ts : List Token) → HasTokens ts text → ts ≡ made ++ all_ending p blocks
over_only made p blocks text before ts h =
    let b = before.only ts h in b.1 ∙ ap (λ l. made ++ l) (by b.0 b.2)
  where
    by : (more : List Token) → Reads p blocks more [] → more ≡ all_ending p blocks
    by more ([], cut, lays) = let e : all_ending p blocks ≡ more = cc in sym e
    by more (w ∷ ws, cut, lays) = absurd (no_more w.text cut.0 (nonempty w.sort w.text cut.2) (sym cut.1))
