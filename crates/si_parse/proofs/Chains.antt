-- Operands after operators: what is read is spelled, and what is spelled is read.
use Rattle.std.proofs.Common.{◌≡◌, ℕ, zero, suc, ◌*◌, ◌<◌, ◌≤◌, List, [], ◌∷◌, ◌++◌, length, Option, Some, None, false, refl, sym, ap, ◌∙◌, subst, max, arith, append_assoc, length-append}
use Rattle.std.proofs.lemmas.List.{append-nil}
use Rattle.si_semantics.specs.Tree.{Expr}
use Rattle.si_semantics.specs.Grammar.{Terminal, Many}
use Rattle.si_parse.specs.inner.Lookahead.{strength_at, begins_literal}
use Rattle.si_parse.specs.inner.Lists.{then_read, Found, Parsed, chain_from, chain_by}
use Rattle.si_parse.proofs.Laws.{then_read_some, some_inj, Items}

-- an operator stands first, so an item is read
pub some_items : {O X : Type 0} (next : List Terminal → Option (O × List Terminal)) (I : Items X) (xs : List X) (f ts rest : List Terminal) (o : O × List Terminal) → next ts ≡ Some o → ts ≡ f ++ rest → Many I xs f → next rest ≡ None → 0 < length xs
some_items next I [] f ts rest o is split h over =
    let same : ts ≡ rest = split ∙ ap (λ t. t ++ rest) h in let bad : None ≡ Some o = sym over ∙ ap next (sym same) ∙ is in cc
some_items next I (x ∷ xs) f ts rest o is split h over = omega arith

-- items of two terminals or more are fewer than these
pub many_long : {X : Type 0} (I : Items X) → ((x : X) (f : List Terminal) → I x f → 2 ≤ length f) → (xs : List X) (f : List Terminal) → Many I xs f → 2 * length xs ≤ length f
many_long I long [] f h = omega arith
many_long I long (x ∷ xs) f h = omega (arith, ap length h.2, length-append h.0 h.1, long x h.0 h.3, many_long I long xs h.1 h.4)

module _ {O X : Type 0} (make : O → Expr → X) (next : List Terminal → Option (O × List Terminal)) (item : O → List Terminal → Parsed) where
  module _ (I : ℕ → Items X) (n level : ℕ)
      (deeper : (c d : ℕ) → c ≤ d → (x : X) (f : List Terminal) → I c x f → I d x f)
      (item_sound : (ts : List Terminal) (o : O) (rest : List Terminal) (r : Found) → next ts ≡ Some (o, rest) → item o rest ≡ Some r
      → (f : List Terminal) × (ts ≡ f ++ r.2) × I r.1 (make o r.0) f × (r.1 ≤ n) × (strength_at r.2 < level)) where
    abbrev pub Chain : List X × ℕ → List Terminal → (List X × ℕ) × List Terminal → Type 0
    Chain b ts r =
        (xs : List X) × (f : List Terminal) × (r.0.0 ≡ b.0 ++ xs) × (ts ≡ f ++ r.1) × (b.1 ≤ r.0.1) × (r.0.1 ≤ n) × Many (I r.0.1) xs f × (strength_at r.1 < level) × (next r.1 ≡ None)

    link_sound : (go : List X × ℕ → List Terminal → Option ((List X × ℕ) × List Terminal)) → ((b : List X × ℕ) (ts : List Terminal) (r : (List X × ℕ) × List Terminal) → b.1 ≤ n → strength_at ts < level → go b ts ≡ Some r → Chain b ts r)
        → (b : List X × ℕ) (ts : List Terminal) → b.1 ≤ n → strength_at ts < level → (o : Option (O × List Terminal)) → next ts ≡ o → (r : (List X × ℕ) × List Terminal) → chain_from make item go b ts o ≡ Some r → Chain b ts r
    link_sound go sound b ts low weak None is r h =
        let P : (List X × ℕ) × List Terminal → Type 0 = Chain b ts in
        subst P (some_inj (b, ts) r h) ([], [], sym (append-nil b.0), refl, omega arith, low, refl, weak, is)
    link_sound go sound b ts low weak (Some o) is r h =
        let x = then_read_some (item o.0 o.1) (λ r. go (b.0 ++ make o.0 r.0 ∷ [], max b.1 r.1) r.2) r h in
        let a = item_sound ts o.0 o.1 x.0 is x.1 in
        let y = sound (b.0 ++ make o.0 x.0.0 ∷ [], max b.1 x.0.1) x.0.2 r (omega (arith, a.3)) a.4 x.2 in (
          make o.0 x.0.0 ∷ y.0,
          a.0 ++ y.1,
          y.2 ∙ append_assoc b.0 (make o.0 x.0.0 ∷ []) y.0,
          a.1 ∙ ap (λ t. a.0 ++ t) y.3 ∙ sym (append_assoc a.0 y.1 r.1),
          omega (arith, y.4),
          y.5,
          (a.0, y.1, refl, deeper x.0.1 r.0.1 (omega (arith, y.4)) (make o.0 x.0.0) a.0 a.2, y.6),
          y.7,
          y.8,
        )

    pub chain_sound : (k : ℕ) (b : List X × ℕ) (ts : List Terminal) (r : (List X × ℕ) × List Terminal) → b.1 ≤ n → strength_at ts < level → chain_by make next item k b ts ≡ Some r → Chain b ts r
    unfolding chain_by
    chain_sound zero b ts r low weak h = cc
    chain_sound (suc k) b ts r low weak h = link_sound (chain_by make next item k) (chain_sound k) b ts low weak (next ts) refl r h

  module _ (I : Items X) (m level : ℕ)
      (item_complete : (x : X) (f more : List Terminal) → I x f → strength_at more < level → begins_literal more ≡ false
      → (o : O) × (rest : List Terminal) × (e : Expr) × (d : ℕ) × (next (f ++ more) ≡ Some (o, rest)) × (item o rest ≡ Some (e, d, more)) × (make o e ≡ x) × (d ≤ m))
      (item_begins : (x : X) (f more : List Terminal) → I x f → (strength_at (f ++ more) < level) × (begins_literal (f ++ more) ≡ false)) where
    abbrev Follows : List Terminal → Type 0
    Follows more = (strength_at more < level) × (begins_literal more ≡ false)

    chain_begins : (xs : List X) (f more : List Terminal) → Many I xs f → Follows more → Follows (f ++ more)
    chain_begins [] f more h ends = let P : List Terminal → Type 0 = λ f. Follows (f ++ more) in subst P (sym h) ends
    chain_begins (x ∷ xs) f more h ends = subst Follows (sym (ap (λ t. t ++ more) h.2 ∙ append_assoc h.0 h.1 more)) (item_begins x h.0 (h.1 ++ more) h.3)

    pub chain_complete : (k : ℕ) (b : List X × ℕ) (xs : List X) (f more : List Terminal) → length xs < k → b.1 ≤ m → Many I xs f → Follows more → next more ≡ None
        → (d : ℕ) × (d ≤ m) × (chain_by make next item k b (f ++ more) ≡ Some ((b.0 ++ xs, d), more))
    unfolding chain_by
    chain_complete zero b xs f more fuel low h ends over = absurd (omega arith)
    chain_complete (suc k) b [] f more fuel low h ends over =
        let P : List Terminal → Type 0 = λ f. chain_by make next item (suc k) b (f ++ more) ≡ Some ((b.0 ++ [], b.1), more) in
        (b.1, low, subst P (sym h) (ap (chain_from make item (chain_by make next item k) b more) over ∙ ap (λ l. Some ((l, b.1), more)) (sym (append-nil b.0))))
    chain_complete (suc k) b (x ∷ xs) f more fuel low h ends over =
        let after = chain_begins xs h.1 more h.4 ends in
        let c = item_complete x h.0 (h.1 ++ more) h.3 after.0 after.1 in
        let y = chain_complete k (b.0 ++ make c.0 c.2 ∷ [], max b.1 c.3) xs h.1 more (omega arith) (omega (arith, c.7)) h.4 ends over in
        let split : f ++ more ≡ h.0 ++ (h.1 ++ more) = ap (λ t. t ++ more) h.2 ∙ append_assoc h.0 h.1 more in (
          y.0,
          y.1,
          ap (chain_by make next item (suc k) b) split
              ∙ ap (chain_from make item (chain_by make next item k) b (h.0 ++ (h.1 ++ more))) c.4
              ∙ ap (λ r. then_read r (λ r. chain_by make next item k (b.0 ++ make c.0 r.0 ∷ [], max b.1 r.1) r.2)) c.5
              ∙ y.2
              ∙ ap (λ l. Some ((l, y.0), more)) (append_assoc b.0 (make c.0 c.2 ∷ []) xs ∙ ap (λ z. b.0 ++ z ∷ xs) c.6),
        )
