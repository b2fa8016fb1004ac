-- An expression, or a tuple round which no brackets stand: what is read is in the grammar, and what is in the grammar is read.
use Rattle.std.proofs.Common.{◌≡◌, ℕ, ◌+◌, ◌<◌, ◌≤◌, List, [], ◌∷◌, ◌++◌, ◌⊎◌, inl, inr, length, Bool, Option, Some, None, true, false, refl, ⊎_elim, sym, ap, ◌∙◌, subst, arith, append_assoc, length-append}
use Rattle.std.specs.Prelude.{if◌then◌else◌}
use Rattle.si_semantics.specs.Tree as tree
use Rattle.si_semantics.specs.Tree.{Expr}
use Rattle.si_semantics.specs.Tokens as token
use Rattle.si_semantics.specs.Grammar.{Terminal, Sign, Many, After, Following, Ended, exprs_of, Spells, max_depth, max_item_depth, IsExpression, IsExpressions}
use Rattle.si_parse.specs.inner.Lookahead.{strength_at, begins_literal, after}
use Rattle.si_parse.specs.inner.Lists.{Found, then_read}
use Rattle.si_parse.specs.inner.Expressions.{Parser, expression_at, within}
use Rattle.si_parse.specs.inner.Unbracketed.{ends_items, after_comma, item_follows, further_by, past_from, past_comma, unbracketed, expressions_from, expressions_by}
use Rattle.si_parse.proofs.Laws.{then_read_some, some_inj, spells_deeper, after_mono, many_mono, after_comma_some}
use Rattle.si_parse.proofs.Levels.{Apart, at_condition}
use Rattle.si_parse.proofs.Lists.{chosen}
use Rattle.si_parse.proofs.Chains.{chain_sound, chain_complete, many_long}
use Rattle.si_parse.proofs.Starts.{begins, expression_begins, some_terminals, items_not}
use Rattle.si_parse.proofs.Sound.{within_some, expression_sound}
use Rattle.si_parse.proofs.Complete.{within_ok, expression_complete}

abbrev sub : Parser
sub = expression_at max_depth

-- what stands after the last item
abbrev Last : List Terminal → Type 0
Last ts = (ts ≡ []) ⊎ (ts ≡ Sign token.Comma ∷ [])

after_comma_is : (ts rest : List Terminal) → after_comma ts ≡ Some rest → ts ≡ Sign token.Comma ∷ rest
after_comma_is ts rest h =
    let s = then_read_some (after (Sign token.Comma) ts) (λ rest. if ends_items rest then None else Some rest) rest h in
    ⊎_elim (λ no. let bad : None ≡ Some rest = no.1 in cc) (λ yes. after_comma_some ts s.0 s.1 ∙ ap (λ l. Sign token.Comma ∷ l) (some_inj s.0 rest yes.1))
    (chosen (ends_items s.0) None (Some s.0) (Some rest) s.2)

item_follows_some : (o : Option (List Terminal)) (x : Bool) (rest : List Terminal) → item_follows o ≡ Some (x, rest) → o ≡ Some rest
item_follows_some None x rest h = cc
item_follows_some (Some ts) x rest h = let P : Bool × List Terminal → Type 0 = λ p. Some ts ≡ Some p.1 in subst P (some_inj (true, ts) (x, rest) h) refl

none_many : {A : Type 0} (I : A → List Terminal → Type 0) (xs : List A) (f : List Terminal) → Many I xs f → length xs ≡ 0 → f ≡ []
none_many I [] f h none = h
none_many I (x ∷ xs) f h none = absurd (omega arith)

abbrev PastRead : List Terminal → List Terminal → Type 0
PastRead ts past = (last : List Terminal) × (ts ≡ last ++ past) × Last last × ((rest : List Terminal) → after (Sign token.Comma) ts ≡ Some rest → last ≡ Sign token.Comma ∷ [])

past_reads : (ts : List Terminal) (o : Option (List Terminal)) → after (Sign token.Comma) ts ≡ o → PastRead ts (past_from ts o)
past_reads ts None is = ([], refl, inl refl, λ rest some. let bad : None ≡ Some rest = sym is ∙ some in cc)
past_reads ts (Some rest) is = (Sign token.Comma ∷ [], after_comma_some ts rest is, inr refl, λ rest some. refl)

last_past : (last more : List Terminal) → Last last → after (Sign token.Comma) more ≡ None → past_comma (last ++ more) ≡ more
last_past last more (inl h) none = ap (λ t. past_comma (t ++ more)) h ∙ ap (past_from more) none
last_past last more (inr h) none = ap (λ t. past_comma (t ++ more)) h

last_none : (last more : List Terminal) → Last last → after (Sign token.Comma) more ≡ None → ends_items more ≡ true → item_follows (after_comma (last ++ more)) ≡ None
last_none last more (inl h) none ends =
    ap (λ t. item_follows (after_comma (t ++ more))) h ∙ ap (λ o. item_follows (then_read o (λ rest. if ends_items rest then None else Some rest))) none
last_none last more (inr h) none ends = ap (λ t. item_follows (after_comma (t ++ more))) h ∙ ap (λ b. item_follows (if b then None else Some more)) ends

-- an expression of a level, or a tuple of such round which no brackets stand
abbrev pub AreExpressions : ℕ → Expr → List Terminal → Type 0
AreExpressions l e ts =
    Spells max_depth l e ts
    ⊎ ((items : List Expr) × (e ≡ tree.Tuple (exprs_of items)) × (0 < length items) × Ended (Spells max_item_depth l) token.Comma items ts)

module _ (l : ℕ) (positive : 0 < l) (low : l ≤ 16) (apart : Apart l) where
  -- an item of the level after its comma
  abbrev Item : ℕ → Expr → List Terminal → Type 0
  Item d = After (Sign token.Comma) (Spells d l)

  -- ---- what is read is in the grammar

  item_reads : (ts : List Terminal) (o : Bool) (rest : List Terminal) (r : Found) → item_follows (after_comma ts) ≡ Some (o, rest) → sub l rest ≡ Some r
      → (f : List Terminal) × (ts ≡ f ++ r.2) × Item r.1 r.0 f × (r.1 ≤ max_depth) × (strength_at r.2 < l)
  item_reads ts o rest r is h =
      let a = expression_sound max_depth l low apart rest r h in
      (Sign token.Comma ∷ a.0.front, after_comma_is ts rest (item_follows_some (after_comma ts) o rest is) ∙ ap (λ l. Sign token.Comma ∷ l) a.0.split, (a.0.front, refl, a.0.spelled), a.1, a.0.stops)

  following_items : (d : ℕ) (xs : List Expr) (f last : List Terminal) → Many (Item d) xs f → Last last → Following (Spells d l) token.Comma xs (f ++ last)
  following_items d [] f last h l = subst (λ t. Last (t ++ last)) (sym h) l
  following_items d (x ∷ xs) f last h l = (
    h.3.0,
    h.1 ++ last,
    ap (λ t. t ++ last) (h.2 ∙ ap (λ t. t ++ h.1) h.3.1) ∙ ap (λ t. Sign token.Comma ∷ t) (append_assoc h.3.0 h.1 last),
    h.3.2,
    following_items d xs h.1 last h.4 l,
  )

  ended_items : (d : ℕ) (e : Expr) (xs : List Expr) (front f last : List Terminal) → Spells d l e front → Many (Item d) xs f → Last last → (length xs ≡ 0 → last ≡ Sign token.Comma ∷ []) → Ended (Spells d l) token.Comma (e ∷ xs) (front ++ (f ++ last))
  ended_items d e [] front f last spelled h l only = (front, ap (λ t. front ++ t) (ap (λ t. t ++ last) h ∙ only refl), spelled)
  ended_items d e (x ∷ xs) front f last spelled h l only = (front, f ++ last, refl, spelled, following_items d (x ∷ xs) f last h l)

  abbrev ReadOf : List Terminal → Found → Type 0
  ReadOf ts r = (f : List Terminal) × (ts ≡ f ++ r.2) × AreExpressions l r.0 f

  unbracketed_reads : (e : Expr) (d : ℕ) (front ts rest : List Terminal) → after (Sign token.Comma) ts ≡ Some rest → strength_at ts < l → Spells d l e front → d ≤ max_depth → (r : Found)
      → then_read (further_by sub l (e ∷ [], d) ts) (unbracketed max_depth) ≡ Some r → ReadOf (front ++ ts) r
  unbracketed_reads e d front ts rest is weak spelled le r h =
      let s = then_read_some (further_by sub l (e ∷ [], d) ts) (unbracketed max_depth) r h in
      let c = chain_sound (λ o e. e) (λ ts. item_follows (after_comma ts)) (λ o. sub l) Item max_depth l
      (λ c d le x f h. after_mono (Spells c) (Spells d) (Sign token.Comma) l (spells_deeper c d le) x f h) item_reads (length ts) (e ∷ [], d) ts s.0 le weak s.1 in
      let w = within_some max_depth (tree.Tuple (exprs_of s.0.0.0)) (s.0.0.1 + 1) (past_comma s.0.1) r s.2 in
      let p = past_reads s.0.1 (after (Sign token.Comma) s.0.1) refl in
      let only : length c.0 ≡ 0 → p.0 ≡ Sign token.Comma ∷ []
      = λ none. p.3 rest (ap (after (Sign token.Comma)) (sym (c.3 ∙ ap (λ t. t ++ s.0.1) (none_many (Item s.0.0.1) c.0 c.1 c.6 none))) ∙ is) in
      let first = spells_deeper d max_item_depth (omega (arith, c.4, w.0)) l e front spelled in
      let others = many_mono (Item s.0.0.1) (Item max_item_depth) (after_mono (Spells s.0.0.1) (Spells max_item_depth) (Sign token.Comma) l (spells_deeper s.0.0.1 max_item_depth (omega (arith, w.0)))) c.0 c.1 c.6 in
      let whole = front ++ (c.1 ++ p.0) in
      let Q : List Expr → Type 0 = λ items. (0 < length items) × Ended (Spells max_item_depth l) token.Comma items whole in
      let q = subst Q (sym c.2) (omega arith, ended_items max_item_depth e c.0 front c.1 p.0 first others p.2 only) in
      let P : Found → Type 0 = ReadOf (front ++ ts) in
      subst P w.1 (
        whole,
        ap (λ t. front ++ t) (c.3 ∙ ap (λ t. c.1 ++ t) p.1 ∙ sym (append_assoc c.1 p.0 (past_comma s.0.1))) ∙ sym (append_assoc front (c.1 ++ p.0) (past_comma s.0.1)),
        inr (s.0.0.0, refl, q.0, q.1),
      )

  from_reads : (front : List Terminal) (x : Found) (o : Option (List Terminal)) → after (Sign token.Comma) x.2 ≡ o → Spells x.1 l x.0 front → x.1 ≤ max_depth → strength_at x.2 < l → (r : Found)
      → expressions_from sub l max_depth x o ≡ Some r → ReadOf (front ++ x.2) r
  from_reads front x None is spelled le weak r h =
      let P : Found → Type 0 = ReadOf (front ++ x.2) in subst P (some_inj x r h) (front, refl, inl (spells_deeper x.1 max_depth le l x.0 front spelled))
  from_reads front x (Some rest) is spelled le weak r h = unbracketed_reads x.0 x.1 front x.2 rest is weak spelled le r h

  pub read_of : (ts : List Terminal) (r : Found) → expressions_by sub l ts ≡ Some r → ReadOf ts r
  read_of ts r h =
      let s = then_read_some (sub l ts) (λ r. expressions_from sub l max_depth r (after (Sign token.Comma) r.2)) r h in
      let a = expression_sound max_depth l low apart ts s.0 s.1 in
      let P : List Terminal → Type 0 = λ t. ReadOf t r in
      subst P (sym a.0.split) (from_reads a.0.front s.0 (after (Sign token.Comma) s.0.2) refl a.0.spelled a.1 a.0.stops r s.2)

  -- ---- what is in the grammar is read

  abbrev Weak : List Terminal → Type 0
  Weak more = (strength_at more < l) × (begins_literal more ≡ false)

  last_weak : (last more : List Terminal) → Last last → Weak more → Weak (last ++ more)
  last_weak last more (inl h) weak = subst (λ t. Weak (t ++ more)) (sym h) weak
  last_weak last more (inr h) weak = subst (λ t. Weak (t ++ more)) (sym h) (positive, refl)

  abbrev Parted : ℕ → List Expr → List Terminal → Type 0
  Parted d xs g = (f : List Terminal) × (last : List Terminal) × (g ≡ f ++ last) × Many (Item d) xs f × Last last

  parted : (d : ℕ) (xs : List Expr) (g : List Terminal) → Following (Spells d l) token.Comma xs g → Parted d xs g
  parted d [] g h = ([], g, refl, refl, h)
  parted d (x ∷ xs) g h =
      let r = parted d xs h.1 h.4 in (
        (Sign token.Comma ∷ h.0) ++ r.0,
        r.1,
        h.2 ∙ ap (λ t. Sign token.Comma ∷ (h.0 ++ t)) r.2 ∙ sym (append_assoc (Sign token.Comma ∷ h.0) r.0 r.1),
        (Sign token.Comma ∷ h.0, r.0, refl, (h.0, refl, h.3), r.3),
        r.4,
      )

  -- the first item, and what stands after it, which begins with a comma
  abbrev Opened : ℕ → Expr → List Expr → List Terminal → Type 0
  Opened d x xs ts = (front : List Terminal) × (g : List Terminal) × (rest : List Terminal) × (ts ≡ front ++ g) × (g ≡ Sign token.Comma ∷ rest) × Spells d l x front × Parted d xs g

  opened : (d : ℕ) (x : Expr) (xs : List Expr) (ts : List Terminal) → Ended (Spells d l) token.Comma (x ∷ xs) ts → Opened d x xs ts
  opened d x [] ts h = (h.0, Sign token.Comma ∷ [], [], h.1, refl, h.2, ([], Sign token.Comma ∷ [], refl, refl, inr refl))
  opened d x (y ∷ ys) ts h = (h.0, h.1, h.4.0 ++ h.4.1, h.2, h.4.2, h.3, parted d (y ∷ ys) h.1 h.4)

  item_long : (x : Expr) (f : List Terminal) → Item max_item_depth x f → 2 ≤ length f
  item_long x f h = omega (arith, ap length h.1, some_terminals max_item_depth l x h.0 h.2)

  item_begins : (x : Expr) (f more : List Terminal) → Item max_item_depth x f → Weak (f ++ more)
  item_begins x f more h = subst (λ t. Weak (t ++ more)) (sym h.1) (positive, refl)

  item_complete : (x : Expr) (f more : List Terminal) → Item max_item_depth x f → strength_at more < l → begins_literal more ≡ false
      → (o : Bool) × (rest : List Terminal) × (e : Expr) × (d : ℕ) × (item_follows (after_comma (f ++ more)) ≡ Some (o, rest)) × (sub l rest ≡ Some (e, d, more)) × (e ≡ x) × (d ≤ max_item_depth)
  item_complete x f more h weak plain =
      let c = expression_complete max_depth max_item_depth l x h.0 more (omega arith) low h.2 weak plain in (
        true,
        h.0 ++ more,
        x,
        c.0,
        ap (λ t. item_follows (after_comma (t ++ more))) h.1 ∙ ap (λ b. item_follows (if b then None else Some (h.0 ++ more))) (items_not (h.0 ++ more) (expression_begins max_item_depth l x h.0 h.2 more)),
        c.3,
        refl,
        c.1,
      )

  unbracketed_complete : (items : List Expr) (ts more : List Terminal) → 0 < length items → Ended (Spells max_item_depth l) token.Comma items ts → Weak more → after (Sign token.Comma) more ≡ None → ends_items more ≡ true
      → (d : ℕ) × (expressions_by sub l (ts ++ more) ≡ Some (tree.Tuple (exprs_of items), d, more))
  unbracketed_complete [] ts more some h weak none ends = absurd (omega arith)
  unbracketed_complete (x ∷ xs) ts more some h weak none ends =
      let o = opened max_item_depth x xs ts h in
      let p = o.6 in
      let rest = p.0 ++ (p.1 ++ more) in
      let same : rest ≡ Sign token.Comma ∷ (o.2 ++ more) = sym (append_assoc p.0 p.1 more) ∙ ap (λ t. t ++ more) (sym p.2 ∙ o.4) in
      let split : ts ++ more ≡ o.0 ++ rest = ap (λ t. t ++ more) (o.3 ∙ ap (λ t. o.0 ++ t) p.2) ∙ append_assoc o.0 (p.0 ++ p.1) more ∙ ap (λ t. o.0 ++ t) (append_assoc p.0 p.1 more) in
      let open_yet = subst Weak (sym same) (positive, refl) in
      let first = expression_complete max_depth max_item_depth l x o.0 rest (omega arith) low o.5 open_yet.0 open_yet.1 in
      let fuel : length xs < length rest = omega (arith, ap length same, length-append p.0 (p.1 ++ more), many_long (Item max_item_depth) item_long xs p.0 p.3) in
      let chain = chain_complete (λ o e. e) (λ ts. item_follows (after_comma ts)) (λ o. sub l) (Item max_item_depth) max_item_depth l item_complete item_begins (length rest) (x ∷ [], first.0) xs p.0 (p.1 ++ more)
      fuel first.1 p.3 (last_weak p.1 more p.4 weak) (last_none p.1 more p.4 none ends) in
      let shallow : chain.0 + 1 ≤ max_depth = omega (arith, chain.1) in (
        chain.0 + 1,
        ap (expressions_by sub l) split
            ∙ ap (λ o. then_read o (λ r. expressions_from sub l max_depth r (after (Sign token.Comma) r.2))) first.3
            ∙ ap (expressions_from sub l max_depth (x, first.0, rest)) (ap (after (Sign token.Comma)) same)
            ∙ ap (λ o. then_read o (unbracketed max_depth)) chain.2
            ∙ ap (within max_depth (tree.Tuple (exprs_of (x ∷ xs))) (chain.0 + 1)) (last_past p.1 more p.4 none)
            ∙ within_ok max_depth (tree.Tuple (exprs_of (x ∷ xs))) (chain.0 + 1) more shallow,
      )

  pub alone_of : (e : Expr) (f more : List Terminal) → Spells max_depth l e f → Weak more → after (Sign token.Comma) more ≡ None → (d : ℕ) × (expressions_by sub l (f ++ more) ≡ Some (e, d, more))
  alone_of e f more h weak none =
      let c = expression_complete max_depth max_depth l e f more (omega arith) low h weak.0 weak.1 in
      (c.0, ap (λ o. then_read o (λ r. expressions_from sub l max_depth r (after (Sign token.Comma) r.2))) c.3 ∙ ap (expressions_from sub l max_depth (e, c.0, more)) none)

  pub complete_of : (e : Expr) (f more : List Terminal) → AreExpressions l e f → Weak more → after (Sign token.Comma) more ≡ None → ends_items more ≡ true
      → (d : ℕ) × (expressions_by sub l (f ++ more) ≡ Some (e, d, more))
  complete_of e f more (inl h) weak none ends = alone_of e f more h weak none
  complete_of e f more (inr h) weak none ends =
      let c = unbracketed_complete h.0 f more h.2 h.3 weak none ends in (c.0, c.1 ∙ ap (λ t. Some (t, c.0, more)) (sym h.1))

  ended_begins : (items : List Expr) (ts more : List Terminal) → 0 < length items → Ended (Spells max_item_depth l) token.Comma items ts → begins (ts ++ more) ≡ true
  ended_begins [] ts more some h = absurd (omega arith)
  ended_begins (x ∷ xs) ts more some h =
      let o = opened max_item_depth x xs ts h in ap (λ t. begins (t ++ more)) o.3 ∙ ap begins (append_assoc o.0 o.1 more) ∙ expression_begins max_item_depth l x o.0 o.5 (o.1 ++ more)

  pub begin_of : (e : Expr) (f more : List Terminal) → AreExpressions l e f → begins (f ++ more) ≡ true
  begin_of e f more (inl h) = expression_begins max_depth l e f h more
  begin_of e f more (inr h) = ended_begins h.0 f more h.2 h.3

-- ---- of the loosest level

abbrev pub ExpressionsRead : List Terminal → Found → Type 0
ExpressionsRead ts r = (f : List Terminal) × (ts ≡ f ++ r.2) × IsExpressions r.0 f

pub expressions_reads : (ts : List Terminal) (r : Found) → expressions_by sub 1 ts ≡ Some r → ExpressionsRead ts r
expressions_reads = read_of 1 (omega arith) (omega arith) at_condition

pub expression_alone : (e : Expr) (f more : List Terminal) → IsExpression e f → (strength_at more < 1) × (begins_literal more ≡ false) → after (Sign token.Comma) more ≡ None → (d : ℕ) × (expressions_by sub 1 (f ++ more) ≡ Some (e, d, more))
expression_alone = alone_of 1 (omega arith) (omega arith) at_condition

pub expressions_complete : (e : Expr) (f more : List Terminal) → IsExpressions e f → (strength_at more < 1) × (begins_literal more ≡ false) → after (Sign token.Comma) more ≡ None → ends_items more ≡ true
    → (d : ℕ) × (expressions_by sub 1 (f ++ more) ≡ Some (e, d, more))
expressions_complete = complete_of 1 (omega arith) (omega arith) at_condition

pub expressions_begin : (e : Expr) (f more : List Terminal) → IsExpressions e f → begins (f ++ more) ≡ true
expressions_begin = begin_of 1 (omega arith) (omega arith) at_condition
