-- Items one after the other, and items with separators: what is read is spelled, and what is spelled is read.
use Rattle.std.proofs.Common.{◌≡◌, ℕ, zero, suc, ◌+◌, ◌<◌, ◌≤◌, List, [], ◌∷◌, ◌++◌, ◌⊎◌, inl, inr, length, Option, Some, None, Bool, true, false, refl, sym, ap, ◌∙◌, subst, ⊎_elim, arith, append_assoc, length-append}
use Rattle.std.specs.Prelude.{nat_le, if◌then◌else◌}
use Rattle.std.proofs.lemmas.Bool.Decides.{nat_tests}
use Rattle.si_semantics.specs.Tokens.{Symbol}
use Rattle.si_semantics.specs.Grammar.{Terminal, Sign, Many, Following, Separated}
use Rattle.si_parse.specs.inner.Lookahead.{Step}
use Rattle.si_parse.specs.inner.Lists.{then_read, closing_from, closing, after_item, separated_by, many_by}
use Rattle.si_parse.proofs.Laws.{then_read_some, some_inj, Items}

-- which way a test went
pub chosen : {A : Type 0} (b : Bool) (x y z : A) → (if b then x else y) ≡ z → ((b ≡ true) × (x ≡ z)) ⊎ ((b ≡ false) × (y ≡ z))
chosen true x y z h = inl (refl, h)
chosen false x y z h = inr (refl, h)

pub le_from : (a b : ℕ) → nat_le a b ≡ true → a ≤ b
le_from a b h = grind (arith, nat_tests)

pub le_to : (a b : ℕ) → a ≤ b → nat_le a b ≡ true
le_to a b h = grind (arith, nat_tests)

-- all added, from the left
abbrev pub added : {R B : Type 0} → (B → R → B) → B → List R → B
added add b [] = b
added add b (x ∷ xs) = added add (add b x) xs

-- two lists of one length, pair by pair
abbrev pub Pairwise : {A R : Type 0} → (A → R → Type 0) → List A → List R → Type 0
Pairwise P [] [] = Unit {0}
Pairwise P [] (r ∷ rs) = ⊥
Pairwise P (x ∷ xs) [] = ⊥
Pairwise P (x ∷ xs) (r ∷ rs) = P x r × Pairwise P xs rs

module _ {R B : Type 0} (add : B → R → B) (rest : R → List Terminal) (item : List Terminal → Option R) (separator close : Step) (s : Symbol) (closer : Terminal) where
  abbrev Go : ℕ → B → List Terminal → Option (B × List Terminal)
  Go k b ts = separated_by add rest item separator close k b ts

  module _ (J : Items R)
      (item_sound : (ts : List Terminal) (r : R) → item ts ≡ Some r → (f : List Terminal) × (ts ≡ f ++ rest r) × J r f)
      (separator_sound : (ts more : List Terminal) → separator ts ≡ Some more → ts ≡ Sign s ∷ more)
      (close_sound : (ts more : List Terminal) → close ts ≡ Some more → ts ≡ closer ∷ more) where
    abbrev Tail : List Terminal → List Terminal → Type 0
    Tail ts after = (g : List Terminal) × (ts ≡ g ++ closer ∷ after) × Following J s [] g

    closing_sound : (ts : List Terminal) (o : Option (List Terminal)) → separator ts ≡ o → (after : List Terminal) → closing_from close ts o ≡ Some after → Tail ts after
    closing_sound ts None is after h = ([], close_sound ts after h, inl refl)
    closing_sound ts (Some more) is after h =
        (Sign s ∷ [], separator_sound ts more is ∙ ap (λ l. Sign s ∷ l) (close_sound more after h), inr refl)

    abbrev Spelled : B → List Terminal → B × List Terminal → Type 0
    Spelled b ts r = (xs : List R) × (f : List Terminal) × (r.0 ≡ added add b xs) × (0 < length xs) × (ts ≡ f ++ closer ∷ r.1) × Separated J s xs f

    -- items after a separator are following ones
    to_following : (xs : List R) (f : List Terminal) → 0 < length xs → Separated J s xs f → Following J s xs (Sign s ∷ f)
    to_following [] f some h = absurd (omega arith)
    to_following (x ∷ xs) f some h = (h.0, h.1, ap (λ l. Sign s ∷ l) h.2, h.3, h.4)

    after_sound : (go : B → List Terminal → Option (B × List Terminal)) → ((b : B) (ts : List Terminal) (r : B × List Terminal) → go b ts ≡ Some r → Spelled b ts r)
        → (b : B) (x : R) (f ts : List Terminal) → J x f
        → (o p : Option (List Terminal)) → closing separator close ts ≡ o → separator ts ≡ p
        → (r : B × List Terminal) → after_item go (add b x) o p ≡ Some r → Spelled b (f ++ ts) r
    after_sound go sound b x f ts j (Some after) p is with r h =
        let t = closing_sound ts (separator ts) refl after is in
        let P : B × List Terminal → Type 0 = Spelled b (f ++ ts) in
        subst P (some_inj (add b x, after) r h) (
          x ∷ [],
          f ++ t.0,
          refl,
          omega arith,
          ap (λ l. f ++ l) t.1 ∙ sym (append_assoc f t.0 (closer ∷ after)),
          (f, t.0, refl, j, t.2),
        )
    after_sound go sound b x f ts j None (Some more) is with r h =
        let y = sound (add b x) more r h in (
          x ∷ y.0,
          f ++ Sign s ∷ y.1,
          y.2,
          omega arith,
          ap (λ l. f ++ l) (separator_sound ts more with ∙ ap (λ l. Sign s ∷ l) y.4) ∙ sym (append_assoc f (Sign s ∷ y.1) (closer ∷ r.1)),
          (f, Sign s ∷ y.1, refl, j, to_following y.0 y.1 y.3 y.5),
        )
    after_sound go sound b x f ts j None None is with r h = cc

    pub separated_sound : (k : ℕ) (b : B) (ts : List Terminal) (r : B × List Terminal) → separated_by add rest item separator close k b ts ≡ Some r → Spelled b ts r
    unfolding separated_by
    separated_sound zero b ts r h = cc
    separated_sound (suc k) b ts r h =
        let x = then_read_some (item ts) (λ r. after_item (Go k) (add b r) (closing separator close (rest r)) (separator (rest r))) r h in
        let f = item_sound ts x.0 x.1 in
        let P : List Terminal → Type 0 = λ l. Spelled b l r in
        subst P (sym f.1) (after_sound (Go k) (separated_sound k) b x.0 f.0 (rest x.0) f.2 (closing separator close (rest x.0)) (separator (rest x.0)) refl refl r x.2)

  module _ {A : Type 0} (I : Items A) (P : A → R → Type 0) (Ends : List Terminal → Type 0)
      (item_complete : (x : A) (f more : List Terminal) → I x f → Ends more → (r : R) × (item (f ++ more) ≡ Some r) × (rest r ≡ more) × P x r)
      (begins : (x : A) (f more : List Terminal) → I x f → close (f ++ more) ≡ None)
      (separator_is : (ts : List Terminal) → separator (Sign s ∷ ts) ≡ Some ts)
      (separator_not : (ts : List Terminal) → separator (closer ∷ ts) ≡ None)
      (close_is : (ts : List Terminal) → close (closer ∷ ts) ≡ Some ts)
      (ends_separator : (ts : List Terminal) → Ends (Sign s ∷ ts))
      (ends_close : (ts : List Terminal) → Ends (closer ∷ ts)) where
    ends_following : (xs : List A) (g more : List Terminal) → Following I s xs g → Ends (g ++ closer ∷ more)
    ends_following [] g more (inl h) = subst (λ l. Ends (l ++ closer ∷ more)) (sym h) (ends_close more)
    ends_following [] g more (inr h) = subst (λ l. Ends (l ++ closer ∷ more)) (sym h) (ends_separator (closer ∷ more))
    ends_following (x ∷ xs) g more h = subst (λ l. Ends (l ++ closer ∷ more)) (sym h.2) (ends_separator ((h.0 ++ h.1) ++ closer ∷ more))

    abbrev After : ℕ → B → List Terminal → Option (B × List Terminal)
    After k b ts = after_item (Go k) b (closing separator close ts) (separator ts)

    -- one item is read
    one_read : (k j : ℕ) (b : B) (x : A) (f more : List Terminal) → k ≡ suc j → I x f → Ends more → (r : R) × P x r × (Go k b (f ++ more) ≡ After j (add b r) more)
    unfolding separated_by
    one_read zero j b x f more one h e = absurd (omega arith)
    one_read (suc k) j b x f more one h e =
        let c = item_complete x f more h e in
        let same : k ≡ j = omega arith in (
          c.0,
          c.3,
          ap (λ o. then_read o (λ r. after_item (Go k) (add b r) (closing separator close (rest r)) (separator (rest r)))) c.1
              ∙ ap (λ l. After k (add b c.0) l) c.2
              ∙ ap (λ i. After i (add b c.0) more) same,
        )

    following_complete : (k : ℕ) (b : B) (xs : List A) (g more : List Terminal) → length g ≤ k → Following I s xs g
        → (rs : List R) × Pairwise P xs rs × (After k b (g ++ closer ∷ more) ≡ Some (added add b rs, more))
    following_complete k b [] g more fuel (inl h) = (
      [],
      tt,
      ap (λ l. After k b (l ++ closer ∷ more)) h
          ∙ ap (λ o. after_item (Go k) b (closing_from close (closer ∷ more) o) (separator (closer ∷ more))) (separator_not more)
          ∙ ap (λ o. after_item (Go k) b o (separator (closer ∷ more))) (close_is more),
    )
    following_complete k b [] g more fuel (inr h) = (
      [],
      tt,
      ap (λ l. After k b (l ++ closer ∷ more)) h
          ∙ ap (λ o. after_item (Go k) b (closing_from close (Sign s ∷ (closer ∷ more)) o) (separator (Sign s ∷ (closer ∷ more)))) (separator_is (closer ∷ more))
          ∙ ap (λ o. after_item (Go k) b o (separator (Sign s ∷ (closer ∷ more)))) (close_is more),
    )
    following_complete zero b (x ∷ xs) g more fuel h = let long = ap length h.2 in absurd (omega arith)
    following_complete (suc k) b (x ∷ xs) g more fuel h =
        let long : length g ≡ length (h.0 ++ h.1) + 1 = omega (arith, ap length h.2) in
        let parts : length (h.0 ++ h.1) ≡ length h.0 + length h.1 = length-append h.0 h.1 in
        let rest = h.0 ++ (h.1 ++ closer ∷ more) in
        let split : g ++ closer ∷ more ≡ Sign s ∷ rest = ap (λ l. l ++ closer ∷ more) h.2 ∙ ap (λ l. Sign s ∷ l) (append_assoc h.0 h.1 (closer ∷ more)) in
        let one = one_read (suc k) k b x h.0 (h.1 ++ closer ∷ more) refl h.3 (ends_following xs h.1 more h.4) in
        let next = following_complete k (add b one.0) xs h.1 more (omega arith) h.4 in (
          one.0 ∷ next.0,
          (one.1, next.1),
          ap (After (suc k) b) split
              ∙ ap (λ o. after_item (Go (suc k)) b (closing_from close (Sign s ∷ rest) o) (separator (Sign s ∷ rest))) (separator_is rest)
              ∙ ap (λ o. after_item (Go (suc k)) b o (separator (Sign s ∷ rest))) (begins x h.0 (h.1 ++ closer ∷ more) h.3)
              ∙ ap (λ o. after_item (Go (suc k)) b None o) (separator_is rest)
              ∙ one.2
              ∙ next.2,
        )

    pub separated_complete : (k : ℕ) (b : B) (xs : List A) (f more : List Terminal) → length f < k → 0 < length xs → Separated I s xs f
        → (rs : List R) × Pairwise P xs rs × (separated_by add rest item separator close k b (f ++ closer ∷ more) ≡ Some (added add b rs, more))
    separated_complete k b [] f more fuel some h = absurd (omega arith)
    separated_complete zero b (x ∷ xs) f more fuel some h = absurd (omega arith)
    separated_complete (suc k) b (x ∷ xs) f more fuel some h =
        let long : length f ≡ length (h.0 ++ h.1) = ap length h.2 in
        let parts : length (h.0 ++ h.1) ≡ length h.0 + length h.1 = length-append h.0 h.1 in
        let split : f ++ closer ∷ more ≡ h.0 ++ (h.1 ++ closer ∷ more) = ap (λ l. l ++ closer ∷ more) h.2 ∙ append_assoc h.0 h.1 (closer ∷ more) in
        let one = one_read (suc k) k b x h.0 (h.1 ++ closer ∷ more) refl h.3 (ends_following xs h.1 more h.4) in
        let next = following_complete k (add b one.0) xs h.1 more (omega arith) h.4 in
        (one.0 ∷ next.0, (one.1, next.1), ap (Go (suc k) b) split ∙ one.2 ∙ next.2)

module _ {A B : Type 0} (add : B → A → B) (item : B → List Terminal → Option (B × List Terminal)) (ends : List Terminal → Bool) (I : Items A) where
  pub many_sound : ((b : B) (ts : List Terminal) (r : B × List Terminal) → item b ts ≡ Some r → (x : A) × (f : List Terminal) × (r.0 ≡ add b x) × (ts ≡ f ++ r.1) × I x f)
      → (k : ℕ) (b : B) (ts : List Terminal) (r : B × List Terminal) → many_by item ends k b ts ≡ Some r
      → (xs : List A) × (f : List Terminal) × (r.0 ≡ added add b xs) × (ts ≡ f ++ r.1) × Many I xs f × (ends r.1 ≡ true)
  unfolding many_by
  many_sound sound zero b ts r h = cc
  many_sound sound (suc k) b ts r h =
      let P : B × List Terminal → Type 0 = λ r. (xs : List A) × (f : List Terminal) × (r.0 ≡ added add b xs) × (ts ≡ f ++ r.1) × Many I xs f × (ends r.1 ≡ true) in
      ⊎_elim
      (λ stop. subst P (some_inj (b, ts) r stop.1) ([], [], refl, refl, refl, stop.0))
      (λ go.
      let s = then_read_some (item b ts) (λ r. many_by item ends k r.0 r.1) r go.1 in
      let x = sound b ts s.0 s.1 in
      let y = many_sound sound k s.0.0 s.0.1 r s.2 in
      (x.0 ∷ y.0, x.1 ++ y.1, y.2 ∙ ap (λ c. added add c y.0) x.2, x.3 ∙ ap (λ t. x.1 ++ t) y.3 ∙ sym (append_assoc x.1 y.1 r.1), (x.1, y.1, refl, x.4, y.4), y.5))
      (chosen (ends ts) (Some (b, ts)) (then_read (item b ts) (λ r. many_by item ends k r.0 r.1)) (Some r) h)

  module _ (Good : List Terminal → Type 0) where
    pub many_good : ((x : A) (f more : List Terminal) → I x f → Good more → Good (f ++ more)) → (xs : List A) (f more : List Terminal) → Many I xs f → Good more → Good (f ++ more)
    many_good good [] f more h g = subst (λ f. Good (f ++ more)) (sym h) g
    many_good good (x ∷ xs) f more h g =
        subst Good (sym (ap (λ t. t ++ more) h.2 ∙ append_assoc h.0 h.1 more)) (good x h.0 (h.1 ++ more) h.3 (many_good good xs h.1 more h.4 g))

    pub many_complete : ((x : A) (f more : List Terminal) → I x f → Good more → Good (f ++ more))
        → ((b : B) (x : A) (f more : List Terminal) → I x f → Good more → (item b (f ++ more) ≡ Some (add b x, more)) × (ends (f ++ more) ≡ false) × (0 < length f))
        → (k : ℕ) (b : B) (xs : List A) (f more : List Terminal) → length f < k → Many I xs f → Good more → ends more ≡ true → many_by item ends k b (f ++ more) ≡ Some (added add b xs, more)
    unfolding many_by
    many_complete good complete zero b xs f more fuel h g e = absurd (omega arith)
    many_complete good complete (suc k) b [] f more fuel h g e =
        let P : List Terminal → Type 0 = λ f. many_by item ends (suc k) b (f ++ more) ≡ Some (b, more) in
        subst P (sym h) (ap (λ t. if t then Some (b, more) else then_read (item b more) (λ r. many_by item ends k r.0 r.1)) e)
    many_complete good complete (suc k) b (x ∷ xs) f more fuel h g e =
        let P : List Terminal → Type 0 = λ t. many_by item ends (suc k) b t ≡ Some (added add (add b x) xs, more) in
        let c = complete b x h.0 (h.1 ++ more) h.3 (many_good good xs h.1 more h.4 g) in
        let long : length f ≡ length h.0 + length h.1 = ap length h.2 ∙ length-append h.0 h.1 in
        let same : f ++ more ≡ h.0 ++ (h.1 ++ more) = ap (λ t. t ++ more) h.2 ∙ append_assoc h.0 h.1 more in
        subst P (sym same) (
        ap (λ t. if t then Some (b, h.0 ++ (h.1 ++ more)) else then_read (item b (h.0 ++ (h.1 ++ more))) (λ r. many_by item ends k r.0 r.1)) c.1
        ∙ ap (λ r. then_read r (λ r. many_by item ends k r.0 r.1)) c.0
        ∙ many_complete good complete k (add b x) xs h.1 more (omega (arith, c.2)) h.4 g e)
