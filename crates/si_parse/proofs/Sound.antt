-- What is read is in the grammar.
use Rattle.std.proofs.Common.{◌≡◌, ℕ, zero, suc, ◌+◌, ◌<◌, ◌≤◌, List, [], ◌∷◌, ◌++◌, length, Option, Some, None, Bool, true, false, refl, sym, ap, ◌∙◌, subst, ⊎_elim, max, arith, add-one, append_assoc}
use Rattle.std.specs.Prelude.{nat_lt, nat_le, nat_eq, ◌&&◌, not, flat_map}
use Rattle.std.proofs.lemmas.Bool.Decides.{nat_tests}
use Rattle.std.proofs.lemmas.Option.{cond_some}
use Rattle.std.proofs.lemmas.List.{append-nil}
use Rattle.si_semantics.specs.Value.{Nothing, Truth, Int, Str, Bytes}
use Rattle.si_semantics.specs.Tree.{BinaryOperator, UnaryOperator, ComparisonOperator, BooleanOperator, Expr}
use Rattle.si_semantics.specs.Tree as tree
use Rattle.si_semantics.specs.Tokens.{Symbol, Keyword}
use Rattle.si_semantics.specs.Tokens as token
use Rattle.si_semantics.specs.Text.{max_length}
use Rattle.si_semantics.specs.Grammar.{Terminal, NAME, NUMBER, STRING, Sign, Word, value_of_int, value_of_str, level_of, left_level, right_level, symbol_of, prefix_level, prefix_of, boolean_level, item_level, word_of, comparison_of, is_identity, Many, After, Separated, Ended, Argument, Positional, ByName, Passes, IsPassed, exprs_of, items_of, links_of, chain_of, Compares, PairsOf, Strings, Spells, BYTES, value_of_bytes, Octets}
use Rattle.si_parse.specs.inner.Lookahead.{boolean, continuation_at, strength_of, strength_at, rest_of, after_boolean, after}
use Rattle.si_parse.specs.inner.Lists.{then_read, Found, Measured, alone}
use Rattle.si_parse.specs.inner.Names.{name_at}
use Rattle.si_parse.specs.inner.Expressions.{short, str_by, Argued, named_at, argument_from, argument_by, passed_from, attributed, attribute_by, call_of, called, with_word, comparison_at, Parser, arguments_from, arguments_by, within, binary_by, call_by, indexed, subscript_by, operands_by, boolean_by, is_singleton, compared_to, compared_by, links_by, compare_by, other_by, conditional_by, extended_by, identity_from, continued_by, items_from, items_by, tupled, closed, grouped, bracketed_from, strings_by, prefix_at, unary_by, bracketed_by, atom_by, operand_from, operand_by, expression_at, octets_by, bytes_by, listed, list_by, Pair, both, paired, value_of_key, pair_by, pairs_from, pairs_by, in_dict, dict_by}
use Rattle.si_parse.proofs.Laws.{Items, named_at_some, passes_mono, spells_looser, spells_deeper, node, bracketed, then_read_some, some_inj, name_at_some, after_close_some, after_bracket_some, after_comma_some, after_colon_some, after_brace_some, after_else_some, with_word_some, with_word_none, prefix_at_some, comparison_at_some, links_of_chain, items_of_exprs, separated_mono, many_mono, compares_mono, after_mono}
use Rattle.si_parse.proofs.Levels.{strength_at_most, right_stops, right_bound, level_reached, Apart, high, at_condition, at_disjunction, at_comparison, right_apart, level_apart, prefix_apart, prefix_bound, boolean_apart, item_apart, item_bound, condition_up, condition_down, comparison_up, comparison_down, boolean_up, boolean_down, boolean_strength, after_word, boolean_ends, comparison_ends}
use Rattle.si_parse.proofs.Lists.{le_from, chosen}
use Rattle.si_parse.proofs.Enclosed.{alone_are, enclosed_sound}
use Rattle.si_parse.proofs.Passed.{passed_sound}
use Rattle.si_parse.proofs.Chains.{some_items, chain_sound}

-- what a parser of expressions reads from the terminals
pub record Reads (l : ℕ) (ts : List Terminal) (r : Found) : Type 0 where
  pub front : List Terminal
  pub split : ts ≡ front ++ r.2
  pub spelled : Spells r.1 l r.0 front
  pub stops : strength_at r.2 < l

-- a front that is read, and may be continued by what follows
pub record Stands (l : ℕ) (ts : List Terminal) (r : Found) : Type 0 where
  pub front : List Terminal
  pub split : ts ≡ front ++ r.2
  pub level : ℕ
  pub spelled : Spells r.1 level r.0 front
  pub continues : strength_at r.2 ≤ level
  pub enough : l ≤ level
  pub apart : Apart level

abbrev pub IsSound : ℕ → Parser → Type 0
IsSound n sub = (l : ℕ) → l ≤ 16 → Apart l → (ts : List Terminal) (r : Found) → sub l ts ≡ Some r → Reads l ts r × (r.1 ≤ n)

lt_from : (a b : ℕ) → nat_lt a b ≡ true → a < b
lt_from a b h = grind (arith, nat_tests)

ge_from : (a b : ℕ) → nat_lt a b ≡ false → b ≤ a
ge_from a b h = grind (arith, nat_tests)

pub within_some : (n : ℕ) (e : Expr) (d : ℕ) (ts : List Terminal) (r : Found) → within n e d ts ≡ Some r → (d ≤ n) × ((e, d, ts) ≡ r)
within_some n e d ts r h = let p = cond_some (nat_le d n) (e, d, ts) r h in (le_from d n p.0, p.1)

-- ---- str literals

strings_read : (text : List ℕ) (ts : List Terminal) (r : List ℕ × List Terminal) → strings_by text ts ≡ Some r → (f : List Terminal) × (s : List ℕ) × (r.0 ≡ text ++ s) × (ts ≡ f ++ r.1) × Strings s f
strings_read text [] r h =
    let P : List ℕ × List Terminal → Type 0 = λ r. (f : List Terminal) × (s : List ℕ) × (r.0 ≡ text ++ s) × ([] ≡ f ++ r.1) × Strings s f in
    subst P (some_inj (text, []) r h) ([], [], sym (append-nil text), refl, refl)
strings_read text (STRING literal ∷ ts) r h =
    let s = then_read_some (value_of_str literal) (λ s. strings_by (text ++ s) ts) r h in
    let y = strings_read (text ++ s.0) ts r s.2 in
    (STRING literal ∷ y.0, s.0 ++ y.1, y.2 ∙ append_assoc text s.0 y.1, ap (λ l. STRING literal ∷ l) y.3, (s.0, y.1, refl, s.1, y.4))
strings_read text (t ∷ ts) r h =
    let P : List ℕ × List Terminal → Type 0 = λ r. (f : List Terminal) × (s : List ℕ) × (r.0 ≡ text ++ s) × (t ∷ ts ≡ f ++ r.1) × Strings s f in
    subst P (some_inj (text, t ∷ ts) r h) ([], [], sym (append-nil text), refl, refl)

-- what is short was read, and is no longer than the limit
short_read : (ts : List Terminal) (r : List ℕ × List Terminal) → str_by ts ≡ Some r → (strings_by [] ts ≡ Some r) × (length r.0 ≤ max_length)
short_read ts r h =
    let s = then_read_some (strings_by [] ts) short r h in
    let c = cond_some (nat_le (length s.0.0) max_length) s.0 r s.2 in
    let P : List ℕ × List Terminal → Type 0 = λ r. (strings_by [] ts ≡ Some r) × (length r.0 ≤ max_length) in
    subst P c.1 (s.1, le_from (length s.0.0) max_length c.0)

-- ---- bytes literals

octets_read : (text : List ℕ) (ts : List Terminal) (r : List ℕ × List Terminal) → octets_by text ts ≡ Some r → (f : List Terminal) × (s : List ℕ) × (r.0 ≡ text ++ s) × (ts ≡ f ++ r.1) × Octets s f
octets_read text [] r h =
    let P : List ℕ × List Terminal → Type 0 = λ r. (f : List Terminal) × (s : List ℕ) × (r.0 ≡ text ++ s) × ([] ≡ f ++ r.1) × Octets s f in
    subst P (some_inj (text, []) r h) ([], [], sym (append-nil text), refl, refl)
octets_read text (BYTES literal ∷ ts) r h =
    let s = then_read_some (value_of_bytes literal) (λ s. octets_by (text ++ s) ts) r h in
    let y = octets_read (text ++ s.0) ts r s.2 in
    (BYTES literal ∷ y.0, s.0 ++ y.1, y.2 ∙ append_assoc text s.0 y.1, ap (λ l. BYTES literal ∷ l) y.3, (s.0, y.1, refl, s.1, y.4))
octets_read text (t ∷ ts) r h =
    let P : List ℕ × List Terminal → Type 0 = λ r. (f : List Terminal) × (s : List ℕ) × (r.0 ≡ text ++ s) × (t ∷ ts ≡ f ++ r.1) × Octets s f in
    subst P (some_inj (text, t ∷ ts) r h) ([], [], sym (append-nil text), refl, refl)

-- what is short was read, and is no longer than the limit
few_read : (ts : List Terminal) (r : List ℕ × List Terminal) → bytes_by ts ≡ Some r → (octets_by [] ts ≡ Some r) × (length r.0 ≤ max_length)
few_read ts r h =
    let s = then_read_some (octets_by [] ts) short r h in
    let c = cond_some (nat_le (length s.0.0) max_length) s.0 r s.2 in
    let P : List ℕ × List Terminal → Type 0 = λ r. (octets_by [] ts ≡ Some r) × (length r.0 ≤ max_length) in
    subst P c.1 (s.1, le_from (length s.0.0) max_length c.0)

-- ---- arguments

module _ (n : ℕ) (sub : Parser) (sound : IsSound n sub) where
  abbrev ArgumentRead : Argued → List Terminal → Type 0
  ArgumentRead r f = Passes (Spells r.1) r.0 f × (r.1 ≤ n)

  abbrev Stood : List Terminal → Argued → Type 0
  Stood ts r = (f : List Terminal) × (ts ≡ f ++ r.2) × ArgumentRead r f

  argument_from_sound : (ts : List Terminal) (o : Option (List ℕ × List Terminal)) → named_at ts ≡ o → (r : Argued) → argument_from sub ts o ≡ Some r → Stood ts r
  argument_from_sound ts (Some name) is r h =
      let s = then_read_some (sub 1 name.1) (λ r. Some (ByName name.0 r.0, r.1, r.2)) r h in
      let a = sound 1 (omega arith) at_condition name.1 s.0 s.1 in
      let P : Argued → Type 0 = Stood ts in
      subst P (some_inj (ByName name.0 s.0.0, s.0.1, s.0.2) r s.2) (
        NAME name.0 ∷ (Sign token.Equal ∷ a.0.front),
        named_at_some ts name is ∙ ap (λ l. NAME name.0 ∷ (Sign token.Equal ∷ l)) a.0.split,
        ((a.0.front, refl, a.0.spelled), a.1),
      )
  argument_from_sound ts None is r h =
      let s = then_read_some (sub 1 ts) (λ r. Some (Positional r.0, r.1, r.2)) r h in
      let a = sound 1 (omega arith) at_condition ts s.0 s.1 in
      let P : Argued → Type 0 = Stood ts in
      subst P (some_inj (Positional s.0.0, s.0.1, s.0.2) r s.2) (a.0.front, a.0.split, (a.0.spelled, a.1))

  argument_sound : (ts : List Terminal) (r : Argued) → argument_by sub ts ≡ Some r → Stood ts r
  argument_sound ts r h = argument_from_sound ts (named_at ts) refl r h

  deeper : (c d : ℕ) → c ≤ d → (a : Argument) (f : List Terminal) → Passes (Spells c) a f → Passes (Spells d) a f
  deeper c d le a f h = passes_mono (Spells c) (Spells d) (spells_deeper c d le) a f h

  abbrev ArgumentsRead : List Terminal → (List Argument × ℕ) × List Terminal → Type 0
  ArgumentsRead ts r = (g : List Terminal) × (ts ≡ g ++ Sign token.RightParenthesis ∷ r.1) × (r.0.1 ≤ n) × Separated (Passes (Spells r.0.1)) token.Comma r.0.0 g

  arguments_read : (ts : List Terminal) (o : Option (List Terminal)) → after (Sign token.RightParenthesis) ts ≡ o → (r : (List Argument × ℕ) × List Terminal) → arguments_from sub ts o ≡ Some r → ArgumentsRead ts r
  arguments_read ts (Some rest) is r h =
      let P : (List Argument × ℕ) × List Terminal → Type 0 = ArgumentsRead ts in
      subst P (some_inj (([], 0), rest) r h) ([], after_close_some ts rest is, omega arith, refl)
  arguments_read ts None is r h =
      let s = enclosed_sound alone (argument_by sub) token.RightParenthesis (λ d. Passes (Spells d)) n deeper argument_sound after_close_some (length ts) [] 0 ts r (omega arith) h in
      let P : List Argument → Type 0 = λ xs. Separated (Passes (Spells r.0.1)) token.Comma xs s.1 in
      (s.1, s.6, s.5, subst P (sym (s.2 ∙ alone_are s.0)) s.7)

  -- ---- items of tuples

  item_sound : (ts : List Terminal) (r : Found) → sub 1 ts ≡ Some r → (f : List Terminal) × (ts ≡ f ++ r.2) × (Spells r.1 1 r.0 f × (r.1 ≤ n))
  item_sound ts r h = let a = sound 1 (omega arith) at_condition ts r h in (a.0.front, a.0.split, (a.0.spelled, a.1))

  -- ---- pairs of dicts

  pair_deeper : (c d : ℕ) → c ≤ d → (p : Pair) (f : List Terminal) → PairsOf (Spells c) p f → PairsOf (Spells d) p f
  pair_deeper c d le p f h = (h.0, h.1, h.2, spells_deeper c d le 1 p.0 h.0 h.3, spells_deeper c d le 1 p.1 h.1 h.4)

  abbrev PairRead : List Terminal → Measured Pair → Type 0
  PairRead ts r = (f : List Terminal) × (ts ≡ f ++ r.2) × (PairsOf (Spells r.1) r.0 f × (r.1 ≤ n))

  pair_sound : (ts : List Terminal) (r : Measured Pair) → pair_by sub ts ≡ Some r → PairRead ts r
  pair_sound ts r h =
      let k = then_read_some (sub 1 ts) (λ k. then_read (after (Sign token.Colon) k.2) (value_of_key sub k)) r h in
      let a = sound 1 (omega arith) at_condition ts k.0 k.1 in
      let u = then_read_some (after (Sign token.Colon) k.0.2) (value_of_key sub k.0) r k.2 in
      let v = then_read_some (sub 1 u.0) (paired k.0) r u.2 in
      let b = sound 1 (omega arith) at_condition u.0 v.0 v.1 in
      let top = max k.0.1 v.0.1 in
      let P : Measured Pair → Type 0 = PairRead ts in
      let key = spells_deeper k.0.1 top (omega arith) 1 k.0.0 a.0.front a.0.spelled in
      let value = spells_deeper v.0.1 top (omega arith) 1 v.0.0 b.0.front b.0.spelled in
      subst P (some_inj ((k.0.0, v.0.0), top, v.0.2) r v.2) (
        a.0.front ++ Sign token.Colon ∷ b.0.front,
        a.0.split ∙ ap (λ t. a.0.front ++ t) (after_colon_some k.0.2 u.0 u.1 ∙ ap (λ t. Sign token.Colon ∷ t) b.0.split) ∙ sym (append_assoc a.0.front (Sign token.Colon ∷ b.0.front) v.0.2),
        ((a.0.front, b.0.front, refl, key, value), omega (arith, a.1, b.1)),
      )

  -- one item with others after it
  ended_by : {A : Type 0} (I : Items A) (x : A) (xs : List A) (f g : List Terminal) → I x f → 0 < length xs → Separated I token.Comma xs g → Ended I token.Comma (x ∷ xs) (f ++ Sign token.Comma ∷ g)
  ended_by I x [] f g h some s = absurd (omega arith)
  ended_by I x (y ∷ ys) f g h some s = (f, Sign token.Comma ∷ g, refl, h, (s.0, s.1, ap (λ l. Sign token.Comma ∷ l) s.2, s.3, s.4))

  -- ---- an operand

  module _ (l : ℕ) (low : l ≤ 16) where
    abbrev Begins : List Terminal → Found → Type 0
    Begins ts r = Stands l ts r × (r.1 ≤ n + 1)

    atom : (f ts : List Terminal) (e : Expr) → Spells (0 + 1) 18 e f → Begins (f ++ ts) (e, 1, ts)
    atom f ts e h = (record { front = f; split = refl; level = 18; spelled = h; continues = strength_at_most ts; enough = omega arith; apart = high 18 (omega arith) }, omega arith)

    -- the tree of the terminals in brackets
    enclosed : (opening ending : Symbol) (f rest ts : List Terminal) (e : Expr) (d : ℕ) → ts ≡ f ++ Sign ending ∷ rest → Spells (d + 1) 18 e (Sign opening ∷ (f ++ Sign ending ∷ [])) → d ≤ n
        → Begins (Sign opening ∷ ts) (e, d + 1, rest)
    enclosed opening ending f rest ts e d split spelled le = (
      record {
        front = Sign opening ∷ (f ++ Sign ending ∷ []);
        split = ap (λ l. Sign opening ∷ l) (split ∙ sym (append_assoc f (Sign ending ∷ []) rest));
        level = 18;
        spelled = spelled;
        continues = strength_at_most rest;
        enough = omega arith;
        apart = high 18 (omega arith);
      },
      omega arith,
    )

    tuple_spelled : (d : ℕ) (es : List Expr) (f : List Terminal) → Ended (Spells d 1) token.Comma es f → Spells (d + 1) 18 (tree.Tuple (exprs_of es)) (Sign token.LeftParenthesis ∷ (f ++ Sign token.RightParenthesis ∷ []))
    tuple_spelled d es f h =
        let P : List Expr → Type 0 = λ xs. Ended (Spells d 1) token.Comma xs f in
        node d 18 (tree.Tuple (exprs_of es)) (Sign token.LeftParenthesis ∷ (f ++ Sign token.RightParenthesis ∷ [])) (f, refl, subst P (sym (items_of_exprs es)) h)

    -- the items of a tuple after a first one and its comma
    abbrev ItemsRead : Expr → ℕ → List Terminal → List Terminal → (List Expr × ℕ) × List Terminal → Type 0
    ItemsRead e d front ts r =
        (f : List Terminal) × (front ++ Sign token.Comma ∷ ts ≡ f ++ Sign token.RightParenthesis ∷ r.1) × Ended (Spells r.0.1 1) token.Comma r.0.0 f × (r.0.1 ≤ n)

    items_read : (e : Expr) (d : ℕ) (front ts : List Terminal) (o : Option (List Terminal)) → after (Sign token.RightParenthesis) ts ≡ o → Spells d 1 e front → d ≤ n → (r : (List Expr × ℕ) × List Terminal)
        → items_from sub token.RightParenthesis (e ∷ [], d) ts o ≡ Some r → ItemsRead e d front ts r
    items_read e d front ts (Some rest) is spelled le r h =
        let P : (List Expr × ℕ) × List Terminal → Type 0 = ItemsRead e d front ts in
        subst P (some_inj ((e ∷ [], d), rest) r h) (
          front ++ Sign token.Comma ∷ [],
          ap (λ l. front ++ Sign token.Comma ∷ l) (after_close_some ts rest is) ∙ sym (append_assoc front (Sign token.Comma ∷ []) (Sign token.RightParenthesis ∷ rest)),
          (front, refl, spelled),
          le,
        )
    items_read e d front ts None is spelled le r h =
        let s = enclosed_sound alone (sub 1) token.RightParenthesis (λ d. Spells d 1) n (λ c d le x f h. spells_deeper c d le 1 x f h) item_sound after_close_some (length ts) (e ∷ []) d ts r le h in
        let P : List Expr → Type 0 = λ xs. Ended (Spells r.0.1 1) token.Comma xs (front ++ Sign token.Comma ∷ s.1) in
        let all = ended_by (Spells r.0.1 1) e s.0 front s.1 (spells_deeper d r.0.1 s.4 1 e front spelled) s.3 s.7 in (
          front ++ Sign token.Comma ∷ s.1,
          ap (λ l. front ++ Sign token.Comma ∷ l) s.6 ∙ sym (append_assoc front (Sign token.Comma ∷ s.1) (Sign token.RightParenthesis ∷ r.1)),
          subst P (sym (s.2 ∙ ap (λ l. e ∷ l) (alone_are s.0))) all,
          s.5,
        )

    closed_reads : (e : Expr) (d : ℕ) (front ts : List Terminal) (o p : Option (List Terminal)) → after (Sign token.RightParenthesis) ts ≡ o → after (Sign token.Comma) ts ≡ p → (r : Found) → Spells d 1 e front → d ≤ n
        → closed sub e d o p ≡ Some r → Begins (Sign token.LeftParenthesis ∷ (front ++ ts)) r
    closed_reads e d front ts (Some rest) p is with r spelled le h =
        let P : Found → Type 0 = Begins (Sign token.LeftParenthesis ∷ (front ++ ts)) in
        subst P (some_inj (e, d + 1, rest) r h) (enclosed token.LeftParenthesis token.RightParenthesis front rest (front ++ ts) e d (ap (λ l. front ++ l) (after_close_some ts rest is)) (bracketed d 18 e front spelled) le)
    closed_reads e d front ts None (Some more) is with r spelled le h =
        let s = then_read_some (items_by sub token.RightParenthesis (e ∷ [], d) more) tupled r h in
        let x = items_read e d front more (after (Sign token.RightParenthesis) more) refl spelled le s.0 s.1 in
        let P : Found → Type 0 = Begins (Sign token.LeftParenthesis ∷ (front ++ ts)) in
        subst P (some_inj (tree.Tuple (exprs_of s.0.0.0), s.0.0.1 + 1, s.0.1) r s.2)
        (enclosed token.LeftParenthesis token.RightParenthesis x.0 s.0.1 (front ++ ts) (tree.Tuple (exprs_of s.0.0.0)) s.0.0.1 (ap (λ l. front ++ l) (after_comma_some ts more with) ∙ x.1) (tuple_spelled s.0.0.1 s.0.0.0 x.0 x.2) x.3)
    closed_reads e d front ts None None is with r spelled le h = cc

    bracketed_from_reads : (ts : List Terminal) (o : Option (List Terminal)) → after (Sign token.RightParenthesis) ts ≡ o → (r : Found) → bracketed_from sub ts o ≡ Some r → Begins (Sign token.LeftParenthesis ∷ ts) r
    bracketed_from_reads ts (Some rest) is r h =
        let P : Found → Type 0 = Begins (Sign token.LeftParenthesis ∷ ts) in
        subst P (some_inj (tree.Tuple tree.NoExprs, 1, rest) r h) (enclosed token.LeftParenthesis token.RightParenthesis [] rest ts (tree.Tuple tree.NoExprs) 0 (after_close_some ts rest is) (tuple_spelled 0 [] [] refl) (omega arith))
    bracketed_from_reads ts None is r h =
        let s = then_read_some (sub 1 ts) (grouped sub) r h in
        let a = sound 1 (omega arith) at_condition ts s.0 s.1 in
        let P : List Terminal → Type 0 = λ l. Begins (Sign token.LeftParenthesis ∷ l) r in
        subst P (sym a.0.split) (closed_reads s.0.0 s.0.1 a.0.front s.0.2 (after (Sign token.RightParenthesis) s.0.2) (after (Sign token.Comma) s.0.2) refl refl r a.0.spelled a.1 s.2)

    bracketed_reads : (ts : List Terminal) (r : Found) → bracketed_by sub ts ≡ Some r → Begins (Sign token.LeftParenthesis ∷ ts) r
    bracketed_reads ts r h = bracketed_from_reads ts (after (Sign token.RightParenthesis) ts) refl r h

    -- ---- lists and dicts

    list_spelled : (d : ℕ) (es : List Expr) (f : List Terminal) → Separated (Spells d 1) token.Comma es f → Spells (d + 1) 18 (tree.ListDisplay (exprs_of es)) (Sign token.LeftBracket ∷ (f ++ Sign token.RightBracket ∷ []))
    list_spelled d es f h =
        let P : List Expr → Type 0 = λ xs. Separated (Spells d 1) token.Comma xs f in
        node d 18 (tree.ListDisplay (exprs_of es)) (Sign token.LeftBracket ∷ (f ++ Sign token.RightBracket ∷ [])) (f, refl, subst P (sym (items_of_exprs es)) h)

    abbrev ListRead : List Terminal → (List Expr × ℕ) × List Terminal → Type 0
    ListRead ts r = (f : List Terminal) × (ts ≡ f ++ Sign token.RightBracket ∷ r.1) × Separated (Spells r.0.1 1) token.Comma r.0.0 f × (r.0.1 ≤ n)

    list_from_reads : (ts : List Terminal) (o : Option (List Terminal)) → after (Sign token.RightBracket) ts ≡ o → (r : (List Expr × ℕ) × List Terminal) → items_from sub token.RightBracket ([], 0) ts o ≡ Some r → ListRead ts r
    list_from_reads ts (Some rest) is r h =
        let P : (List Expr × ℕ) × List Terminal → Type 0 = ListRead ts in
        subst P (some_inj (([], 0), rest) r h) ([], after_bracket_some ts rest is, refl, omega arith)
    list_from_reads ts None is r h =
        let s = enclosed_sound alone (sub 1) token.RightBracket (λ d. Spells d 1) n (λ c d le x f h. spells_deeper c d le 1 x f h) item_sound after_bracket_some (length ts) [] 0 ts r (omega arith) h in
        let P : List Expr → Type 0 = λ xs. Separated (Spells r.0.1 1) token.Comma xs s.1 in
        (s.1, s.6, subst P (sym (s.2 ∙ alone_are s.0)) s.7, s.5)

    list_reads : (ts : List Terminal) (r : Found) → list_by sub ts ≡ Some r → Begins (Sign token.LeftBracket ∷ ts) r
    list_reads ts r h =
        let s = then_read_some (items_by sub token.RightBracket ([], 0) ts) listed r h in
        let x = list_from_reads ts (after (Sign token.RightBracket) ts) refl s.0 s.1 in
        let P : Found → Type 0 = Begins (Sign token.LeftBracket ∷ ts) in
        subst P (some_inj (tree.ListDisplay (exprs_of s.0.0.0), s.0.0.1 + 1, s.0.1) r s.2)
        (enclosed token.LeftBracket token.RightBracket x.0 s.0.1 ts (tree.ListDisplay (exprs_of s.0.0.0)) s.0.0.1 x.1 (list_spelled s.0.0.1 s.0.0.0 x.0 x.2) x.3)

    dict_spelled : (d : ℕ) (es : List Expr) (pairs : List Pair) (f : List Terminal) → es ≡ flat_map both pairs → Separated (PairsOf (Spells d)) token.Comma pairs f
        → Spells (d + 1) 18 (tree.DictDisplay (exprs_of es)) (Sign token.LeftBrace ∷ (f ++ Sign token.RightBrace ∷ []))
    dict_spelled d es pairs f same h =
        node d 18 (tree.DictDisplay (exprs_of es)) (Sign token.LeftBrace ∷ (f ++ Sign token.RightBrace ∷ [])) (pairs, f, refl, items_of_exprs es ∙ same, h)

    abbrev PairsRead : List Terminal → (List Expr × ℕ) × List Terminal → Type 0
    PairsRead ts r =
        (pairs : List Pair) × (f : List Terminal) × (r.0.0 ≡ flat_map both pairs) × (ts ≡ f ++ Sign token.RightBrace ∷ r.1) × Separated (PairsOf (Spells r.0.1)) token.Comma pairs f × (r.0.1 ≤ n)

    pairs_from_reads : (ts : List Terminal) (o : Option (List Terminal)) → after (Sign token.RightBrace) ts ≡ o → (r : (List Expr × ℕ) × List Terminal) → pairs_from sub ts o ≡ Some r → PairsRead ts r
    pairs_from_reads ts (Some rest) is r h =
        let P : (List Expr × ℕ) × List Terminal → Type 0 = PairsRead ts in
        subst P (some_inj (([], 0), rest) r h) ([], [], refl, after_brace_some ts rest is, refl, omega arith)
    pairs_from_reads ts None is r h =
        let s = enclosed_sound both (pair_by sub) token.RightBrace (λ d. PairsOf (Spells d)) n pair_deeper pair_sound after_brace_some (length ts) [] 0 ts r (omega arith) h in
        (s.0, s.1, s.2, s.6, s.7, s.5)

    dict_reads : (ts : List Terminal) (r : Found) → dict_by sub ts ≡ Some r → Begins (Sign token.LeftBrace ∷ ts) r
    dict_reads ts r h =
        let s = then_read_some (pairs_by sub ts) in_dict r h in
        let x = pairs_from_reads ts (after (Sign token.RightBrace) ts) refl s.0 s.1 in
        let P : Found → Type 0 = Begins (Sign token.LeftBrace ∷ ts) in
        subst P (some_inj (tree.DictDisplay (exprs_of s.0.0.0), s.0.0.1 + 1, s.0.1) r s.2)
        (enclosed token.LeftBrace token.RightBrace x.1 s.0.1 ts (tree.DictDisplay (exprs_of s.0.0.0)) s.0.0.1 x.3 (dict_spelled s.0.0.1 s.0.0.0 x.0 x.1 x.2 x.4) x.5)

    -- ---- signs and literals

    unary_read : (op : UnaryOperator) (ts : List Terminal) (r : Found) → l ≤ prefix_level op → then_read (sub (prefix_level op) ts) (λ r. Some (tree.Unary op r.0, r.1 + 1, r.2)) ≡ Some r → Begins (prefix_of op ∷ ts) r
    unary_read op ts r under h =
        let s = then_read_some (sub (prefix_level op) ts) (λ r. Some (tree.Unary op r.0, r.1 + 1, r.2)) r h in
        let a = sound (prefix_level op) (prefix_bound op) (prefix_apart op) ts s.0 s.1 in
        let same = some_inj (tree.Unary op s.0.0, s.0.1 + 1, s.0.2) r s.2 in
        let P : Found → Type 0 = Begins (prefix_of op ∷ ts) in
        subst P same (
          record {
            front = prefix_of op ∷ a.0.front;
            split = ap (λ l. prefix_of op ∷ l) a.0.split;
            level = prefix_level op;
            spelled = node s.0.1 (prefix_level op) (tree.Unary op s.0.0) (prefix_of op ∷ a.0.front) (a.0.front, refl, omega arith, a.0.spelled);
            continues = omega (arith, a.0.stops);
            enough = under;
            apart = prefix_apart op;
          },
          omega (arith, a.1),
        )

    unary_reads : (op : UnaryOperator) (ts : List Terminal) (r : Found) → unary_by sub l op ts ≡ Some r → Begins (prefix_of op ∷ ts) r
    unary_reads op ts r h =
        ⊎_elim (λ y. unary_read op ts r (le_from l (prefix_level op) y.0) y.1) (λ no. let bad : None ≡ Some r = no.1 in cc)
        (chosen (nat_le l (prefix_level op)) (then_read (sub (prefix_level op) ts) (λ r. Some (tree.Unary op r.0, r.1 + 1, r.2))) None (Some r) h)

    name_reads : (x : List ℕ) (ts : List Terminal) (r : Found) → atom_by sub (NAME x ∷ ts) ≡ Some r → Begins (NAME x ∷ ts) r
    name_reads x ts r h =
        let P : Found → Type 0 = Begins (NAME x ∷ ts) in subst P (some_inj (tree.Name x, 1, ts) r h) (atom (NAME x ∷ []) ts (tree.Name x) (node 0 18 (tree.Name x) (NAME x ∷ []) refl))

    number_reads : (digits : List ℕ) (ts : List Terminal) (r : Found) → atom_by sub (NUMBER digits ∷ ts) ≡ Some r → Begins (NUMBER digits ∷ ts) r
    number_reads digits ts r h =
        let s = then_read_some (value_of_int digits) (λ n. Some (tree.Constant (Int n), 1, ts)) r h in
        let P : Found → Type 0 = Begins (NUMBER digits ∷ ts) in
        subst P (some_inj (tree.Constant (Int s.0), 1, ts) r s.2) (atom (NUMBER digits ∷ []) ts (tree.Constant (Int s.0)) (node 0 18 (tree.Constant (Int s.0)) (NUMBER digits ∷ []) (digits, refl, s.1)))

    string_reads : (literal : List ℕ) (ts : List Terminal) (r : Found) → atom_by sub (STRING literal ∷ ts) ≡ Some r → Begins (STRING literal ∷ ts) r
    string_reads literal ts r h =
        let w = then_read_some (str_by (STRING literal ∷ ts)) (λ r. Some (tree.Constant (Str r.0), 1, r.1)) r h in
        let s = short_read (STRING literal ∷ ts) w.0 w.1 in
        let v = then_read_some (value_of_str literal) (λ s. strings_by s ts) w.0 s.0 in
        let y = strings_read v.0 ts w.0 v.2 in
        let P : Found → Type 0 = Begins (STRING literal ∷ ts) in
        let Q : List ℕ → Type 0 = λ t. Strings t (STRING literal ∷ y.0) in
        let whole : Strings w.0.0 (STRING literal ∷ y.0) = subst Q (sym y.2) (v.0, y.1, refl, v.1, y.4) in
        let B : List Terminal → Type 0 = λ l. Begins (STRING literal ∷ l) (tree.Constant (Str w.0.0), 1, w.0.1) in
        subst P (some_inj (tree.Constant (Str w.0.0), 1, w.0.1) r w.2) (
        subst B (sym y.3) (
        atom (STRING literal ∷ y.0) w.0.1 (tree.Constant (Str w.0.0)) (node 0 18 (tree.Constant (Str w.0.0)) (STRING literal ∷ y.0) (omega arith, s.1, whole))))

    bytes_reads : (literal : List ℕ) (ts : List Terminal) (r : Found) → atom_by sub (BYTES literal ∷ ts) ≡ Some r → Begins (BYTES literal ∷ ts) r
    bytes_reads literal ts r h =
        let w = then_read_some (bytes_by (BYTES literal ∷ ts)) (λ r. Some (tree.Constant (Bytes r.0), 1, r.1)) r h in
        let s = few_read (BYTES literal ∷ ts) w.0 w.1 in
        let v = then_read_some (value_of_bytes literal) (λ s. octets_by s ts) w.0 s.0 in
        let y = octets_read v.0 ts w.0 v.2 in
        let P : Found → Type 0 = Begins (BYTES literal ∷ ts) in
        let Q : List ℕ → Type 0 = λ t. Octets t (BYTES literal ∷ y.0) in
        let whole : Octets w.0.0 (BYTES literal ∷ y.0) = subst Q (sym y.2) (v.0, y.1, refl, v.1, y.4) in
        let B : List Terminal → Type 0 = λ l. Begins (BYTES literal ∷ l) (tree.Constant (Bytes w.0.0), 1, w.0.1) in
        subst P (some_inj (tree.Constant (Bytes w.0.0), 1, w.0.1) r w.2) (
        subst B (sym y.3) (
        atom (BYTES literal ∷ y.0) w.0.1 (tree.Constant (Bytes w.0.0)) (node 0 18 (tree.Constant (Bytes w.0.0)) (BYTES literal ∷ y.0) (omega arith, s.1, whole))))

    atom_reads : (ts : List Terminal) (r : Found) → atom_by sub ts ≡ Some r → Begins ts r
    atom_reads [] r h = cc
    atom_reads (NAME x ∷ ts) r h = name_reads x ts r h
    atom_reads (NUMBER digits ∷ ts) r h = number_reads digits ts r h
    atom_reads (STRING literal ∷ ts) r h = string_reads literal ts r h
    atom_reads (BYTES literal ∷ ts) r h = bytes_reads literal ts r h
    atom_reads (Word token.NoneWord ∷ ts) r h =
        let P : Found → Type 0 = Begins (Word token.NoneWord ∷ ts) in
        subst P (some_inj (tree.Constant Nothing, 1, ts) r h) (atom (Word token.NoneWord ∷ []) ts (tree.Constant Nothing) (node 0 18 (tree.Constant Nothing) (Word token.NoneWord ∷ []) refl))
    atom_reads (Word token.TrueWord ∷ ts) r h =
        let P : Found → Type 0 = Begins (Word token.TrueWord ∷ ts) in
        subst P (some_inj (tree.Constant (Truth true), 1, ts) r h) (atom (Word token.TrueWord ∷ []) ts (tree.Constant (Truth true)) (node 0 18 (tree.Constant (Truth true)) (Word token.TrueWord ∷ []) refl))
    atom_reads (Word token.FalseWord ∷ ts) r h =
        let P : Found → Type 0 = Begins (Word token.FalseWord ∷ ts) in
        subst P (some_inj (tree.Constant (Truth false), 1, ts) r h) (atom (Word token.FalseWord ∷ []) ts (tree.Constant (Truth false)) (node 0 18 (tree.Constant (Truth false)) (Word token.FalseWord ∷ []) refl))
    atom_reads (Sign token.LeftParenthesis ∷ ts) r h = bracketed_reads ts r h
    atom_reads (Sign token.LeftBracket ∷ ts) r h = list_reads ts r h
    atom_reads (Sign token.LeftBrace ∷ ts) r h = dict_reads ts r h
    atom_reads (_ ∷ ts) r h = cc

    operand_from_reads : (ts : List Terminal) (o : Option UnaryOperator) → prefix_at ts ≡ o → (r : Found) → operand_from sub l ts o ≡ Some r → Begins ts r
    operand_from_reads ts (Some op) is r h =
        let P : List Terminal → Type 0 = λ t. Begins t r in subst P (sym (prefix_at_some ts op is)) (unary_reads op (rest_of ts) r h)
    operand_from_reads ts None is r h = atom_reads ts r h

    operand_reads : (ts : List Terminal) (r : Found) → operand_by sub l ts ≡ Some r → Begins ts r
    operand_reads ts r h = operand_from_reads ts (prefix_at ts) refl r h

  -- ---- what continues it

  -- the operand is longer by one operator or call
  abbrev Longer : List Terminal → List Terminal → ℕ → Found → Type 0
  Longer front ts l r = (g : List Terminal) × (ts ≡ g ++ r.2) × (level : ℕ) × Spells r.1 level r.0 (front ++ g) × (strength_at r.2 ≤ level) × (l ≤ level) × (r.1 ≤ n + 1) × Apart level

  operator_reads : (front : List Terminal) (e : Expr) (d m : ℕ) (op : BinaryOperator) (ts : List Terminal) (l : ℕ) (r : Found) → Spells d m e front → left_level op ≤ m → l ≤ left_level op → l ≤ 16
      → binary_by sub (n + 1) e d op ts ≡ Some r → Longer front (Sign (symbol_of op) ∷ ts) l r
  operator_reads front e d m op ts l r spelled low high le h =
      let s = then_read_some (sub (right_level op) ts) (λ r. within (n + 1) (tree.Binary op e r.0) (max d r.1 + 1) r.2) r h in
      let a = sound (right_level op) (right_bound op) (right_apart op) ts s.0 s.1 in
      let w = within_some (n + 1) (tree.Binary op e s.0.0) (max d s.0.1 + 1) s.0.2 r s.2 in
      let P : Found → Type 0 = Longer front (Sign (symbol_of op) ∷ ts) l in
      let right = spells_deeper s.0.1 (max d s.0.1) (omega arith) (right_level op) s.0.0 a.0.front a.0.spelled in
      let left = spells_deeper d (max d s.0.1) (omega arith) (left_level op) e front (spells_looser d (left_level op) m e front low spelled) in
      subst P w.1 (
        Sign (symbol_of op) ∷ a.0.front,
        ap (λ l. Sign (symbol_of op) ∷ l) a.0.split,
        level_of op,
        node (max d s.0.1) (level_of op) (tree.Binary op e s.0.0) (front ++ Sign (symbol_of op) ∷ a.0.front) (front, a.0.front, refl, omega arith, left, right),
        right_stops op (strength_at s.0.2) a.0.stops,
        level_reached op l le high,
        w.0,
        level_apart op,
      )

  attribute_reads : (front : List Terminal) (e : Expr) (d m : ℕ) (ts : List Terminal) (l : ℕ) (r : Found) → Spells d m e front → 18 ≤ m → l ≤ 16
      → attribute_by (n + 1) e d ts ≡ Some r → Longer front (Sign token.Dot ∷ ts) l r
  attribute_reads front e d m ts l r spelled low le h =
      let s = then_read_some (name_at ts) (attributed (n + 1) e d) r h in
      let w = within_some (n + 1) (tree.Attribute e s.0.0) (d + 1) s.0.1 r s.2 in
      let P : Found → Type 0 = Longer front (Sign token.Dot ∷ ts) l in
      let left = spells_looser d 18 m e front low spelled in
      subst P w.1 (
        Sign token.Dot ∷ (NAME s.0.0 ∷ []),
        ap (λ l. Sign token.Dot ∷ l) (name_at_some ts s.0 s.1),
        18,
        node d 18 (tree.Attribute e s.0.0) (front ++ Sign token.Dot ∷ (NAME s.0.0 ∷ [])) (front, refl, omega arith, left),
        strength_at_most s.0.1,
        omega arith,
        w.0,
        high 18 (omega arith),
      )

  call_reads : (front : List Terminal) (e : Expr) (d m : ℕ) (ts : List Terminal) (l : ℕ) (r : Found) → Spells d m e front → 18 ≤ m → l ≤ 16
      → call_by sub (n + 1) e d ts ≡ Some r → Longer front (Sign token.LeftParenthesis ∷ ts) l r
  call_reads front e d m ts l r spelled low le h =
      let s = then_read_some (arguments_by sub ts) (called (n + 1) e d) r h in
      let a = arguments_read ts (after (Sign token.RightParenthesis) ts) refl s.0 s.1 in
      let p = then_read_some (passed_from ([], []) s.0.0.0) (λ p. within (n + 1) (call_of e p) (max d s.0.0.1 + 1) s.0.1) r s.2 in
      let w = within_some (n + 1) (call_of e p.0) (max d s.0.0.1 + 1) s.0.1 r p.2 in
      let P : Found → Type 0 = Longer front (Sign token.LeftParenthesis ∷ ts) l in
      let top = max d s.0.0.1 in
      let read = separated_mono (Passes (Spells s.0.0.1)) (Passes (Spells top)) token.Comma (deeper s.0.0.1 top (omega arith)) s.0.0.0 a.0 a.3 in
      let passed = subst (λ es. IsPassed s.0.0.0 es p.0.1) (sym (items_of_exprs p.0.0)) (passed_sound s.0.0.0 p.0 p.1) in
      let left = spells_deeper d top (omega arith) 18 e front (spells_looser d 18 m e front low spelled) in
      subst P w.1 (
        Sign token.LeftParenthesis ∷ (a.0 ++ Sign token.RightParenthesis ∷ []),
        ap (λ l. Sign token.LeftParenthesis ∷ l) (a.1 ∙ sym (append_assoc a.0 (Sign token.RightParenthesis ∷ []) s.0.1)),
        18,
        node top 18 (call_of e p.0) (front ++ Sign token.LeftParenthesis ∷ (a.0 ++ Sign token.RightParenthesis ∷ [])) (front, a.0, e, s.0.0.0, refl, omega arith, left, refl, passed, read),
        strength_at_most s.0.1,
        omega arith,
        w.0,
        high 18 (omega arith),
      )

  subscript_reads : (front : List Terminal) (e : Expr) (d m : ℕ) (ts : List Terminal) (l : ℕ) (r : Found) → Spells d m e front → 18 ≤ m → l ≤ 16
      → subscript_by sub (n + 1) e d ts ≡ Some r → Longer front (Sign token.LeftBracket ∷ ts) l r
  subscript_reads front e d m ts l r spelled low le h =
      let s = then_read_some (sub 1 ts) (λ i. then_read (after (Sign token.RightBracket) i.2) (indexed (n + 1) e d i)) r h in
      let a = sound 1 (omega arith) at_condition ts s.0 s.1 in
      let u = then_read_some (after (Sign token.RightBracket) s.0.2) (indexed (n + 1) e d s.0) r s.2 in
      let w = within_some (n + 1) (tree.Subscript e s.0.0) (max d s.0.1 + 1) u.0 r u.2 in
      let P : Found → Type 0 = Longer front (Sign token.LeftBracket ∷ ts) l in
      let top = max d s.0.1 in
      let left = spells_deeper d top (omega arith) 18 e front (spells_looser d 18 m e front low spelled) in
      let index = spells_deeper s.0.1 top (omega arith) 1 s.0.0 a.0.front a.0.spelled in
      subst P w.1 (
        Sign token.LeftBracket ∷ (a.0.front ++ Sign token.RightBracket ∷ []),
        ap (λ l. Sign token.LeftBracket ∷ l) (a.0.split ∙ ap (λ t. a.0.front ++ t) (after_bracket_some s.0.2 u.0 u.1) ∙ sym (append_assoc a.0.front (Sign token.RightBracket ∷ []) u.0)),
        18,
        node top 18 (tree.Subscript e s.0.0) (front ++ Sign token.LeftBracket ∷ (a.0.front ++ Sign token.RightBracket ∷ [])) (front, a.0.front, refl, omega arith, left, index),
        strength_at_most u.0,
        omega arith,
        w.0,
        high 18 (omega arith),
      )

  -- ---- chains

  known : (i s : Bool) → (i && not s) ≡ false → i ≡ true → s ≡ true
  known true true h i = refl
  known true false h i = cc
  known false s h i = cc

  one_word : (d : ℕ) (e : Expr) (w : Keyword) (f : List Terminal) → nat_eq d 1 ≡ true → (Spells 1 10 e f → f ≡ Word w ∷ []) → Spells d 10 e f → (v : Keyword) × (f ≡ Word v ∷ [])
  one_word d e w f one only h = let same : d ≡ 1 = grind (arith, nat_tests) in (w, only (subst (λ k. Spells k 10 e f) same h))

  singleton_word : (e : Expr) (d : ℕ) (f : List Terminal) → is_singleton e d ≡ true → Spells d 10 e f → (w : Keyword) × (f ≡ Word w ∷ [])
  singleton_word (tree.Constant Nothing) d f is h = one_word d (tree.Constant Nothing) token.NoneWord f is (λ g. ⊎_elim (λ x. x) (λ b. absurd b.2) g) h
  singleton_word (tree.Constant (Truth true)) d f is h = one_word d (tree.Constant (Truth true)) token.TrueWord f is (λ g. ⊎_elim (λ x. x) (λ b. absurd b.2) g) h
  singleton_word (tree.Constant (Truth false)) d f is h = one_word d (tree.Constant (Truth false)) token.FalseWord f is (λ g. ⊎_elim (λ x. x) (λ b. absurd b.2) g) h
  singleton_word _ d f is h = cc

  abbrev LinkRead : List Terminal → ComparisonOperator → Found → Type 0
  LinkRead ts o r = (f : List Terminal) × (ts ≡ f ++ r.2) × Compares (Spells r.1) (o, r.0) f × (r.1 ≤ n) × (strength_at r.2 < 10)

  link_read : (ts : List Terminal) (o : ComparisonOperator) (rest : List Terminal) (r : Found) → comparison_at ts ≡ Some (o, rest) → compared_by sub o rest ≡ Some r → LinkRead ts o r
  link_read ts o rest r is h =
      let x = then_read_some (sub 10 rest) (compared_to o) r h in
      let a = sound 10 (omega arith) (high 10 (omega arith)) rest x.0 x.1 in
      let P : Found → Type 0 = LinkRead ts o in
      ⊎_elim
      (λ no. let bad : None ≡ Some r = no.1 in cc)
      (λ yes. subst P (some_inj x.0 r yes.1) (
        comparison_of o ++ a.0.front,
        comparison_at_some ts o rest is ∙ ap (λ t. comparison_of o ++ t) a.0.split ∙ sym (append_assoc (comparison_of o) a.0.front x.0.2),
        (a.0.front, refl, a.0.spelled, λ same. singleton_word x.0.0 x.0.1 a.0.front (known (is_identity o) (is_singleton x.0.0 x.0.1) yes.0 same) a.0.spelled),
        a.1,
        a.0.stops,
      ))
      (chosen (is_identity o && not (is_singleton x.0.0 x.0.1)) None (Some x.0) (Some r) x.2)

  compare_reads : (front : List Terminal) (e : Expr) (d m : ℕ) (ts : List Terminal) (l : ℕ) (r : Found) → Spells d m e front → 10 ≤ m → l ≤ 8 → (o : ComparisonOperator × List Terminal) → comparison_at ts ≡ Some o → strength_at ts < 10
      → compare_by sub (n + 1) e d ts ≡ Some r → Longer front ts l r
  compare_reads front e d m ts l r spelled low high o is weak h =
      let s = then_read_some (links_by sub ts) (λ r. within (n + 1) (tree.Compare e (chain_of r.0.0)) (max d r.0.1 + 1) r.1) r h in
      let c = chain_sound (λ o e. (o, e)) comparison_at (compared_by sub) (λ d. Compares (Spells d)) n 10 (λ c d le x f h. compares_mono (Spells c) (Spells d) (spells_deeper c d le) x f h) link_read (length ts) ([], 0) ts s.0 (omega arith) weak s.1 in
      let w = within_some (n + 1) (tree.Compare e (chain_of s.0.0.0)) (max d s.0.0.1 + 1) s.0.1 r s.2 in
      let P : Found → Type 0 = Longer front ts l in
      let top = max d s.0.0.1 in
      let links = many_mono (Compares (Spells s.0.0.1)) (Compares (Spells top)) (compares_mono (Spells s.0.0.1) (Spells top) (spells_deeper s.0.0.1 top (omega arith))) c.0 c.1 c.6 in
      let same : c.0 ≡ links_of (chain_of s.0.0.0) = sym (links_of_chain s.0.0.0 ∙ c.2) in
      let some = some_items comparison_at (Compares (Spells s.0.0.1)) c.0 c.1 ts s.0.1 o is c.3 c.6 c.8 in
      let both = subst (λ xs. (0 < length xs) × Many (Compares (Spells top)) xs c.1) same (some, links) in
      let left = spells_deeper d top (omega arith) 10 e front (spells_looser d 10 m e front low spelled) in
      subst P w.1 (
        c.1,
        c.3,
        8,
        node top 8 (tree.Compare e (chain_of s.0.0.0)) (front ++ c.1) (front, c.1, refl, omega arith, left, both.0, both.1),
        comparison_ends s.0.1 c.8 c.7,
        high,
        w.0,
        at_comparison,
      )

  module _ (op : BooleanOperator) where
    abbrev Item : ℕ → Expr → List Terminal → Type 0
    Item d = After (Word (word_of op)) (Spells d (item_level op))

    item_read : (ts : List Terminal) (o : BooleanOperator) (rest : List Terminal) (r : Found) → with_word op (after_boolean op ts) ≡ Some (o, rest) → sub (item_level o) rest ≡ Some r
        → (f : List Terminal) × (ts ≡ f ++ r.2) × Item r.1 r.0 f × (r.1 ≤ n) × (strength_at r.2 < item_level op)
    item_read ts o rest r is h =
        let w = with_word_some op o ts rest is in
        let a = sound (item_level op) (item_bound op) (item_apart op) rest r (subst (λ x. sub (item_level x) rest ≡ Some r) (sym w.0) h) in
        (Word (word_of op) ∷ a.0.front, w.1 ∙ ap (λ t. Word (word_of op) ∷ t) a.0.split, (a.0.front, refl, a.0.spelled), a.1, a.0.stops)

    boolean_reads : (front : List Terminal) (e : Expr) (d m : ℕ) (ts : List Terminal) (l : ℕ) (r : Found) → Spells d m e front → item_level op ≤ m → l ≤ boolean_level op → (o : BooleanOperator × List Terminal) → with_word op (after_boolean op ts) ≡ Some o
        → strength_at ts < item_level op → boolean_by sub (n + 1) e d op ts ≡ Some r → Longer front ts l r
    boolean_reads front e d m ts l r spelled low high o is weak h =
        let s = then_read_some (operands_by sub op ts) (λ r. within (n + 1) (tree.Boolean op e (exprs_of r.0.0)) (max d r.0.1 + 1) r.1) r h in
        let c = chain_sound (λ o e. e) (λ ts. with_word op (after_boolean op ts)) (λ o. sub (item_level o)) Item n (item_level op)
        (λ c d le x f h. after_mono (Spells c) (Spells d) (Word (word_of op)) (item_level op) (spells_deeper c d le) x f h) item_read (length ts) ([], 0) ts s.0 (omega arith) weak s.1 in
        let w = within_some (n + 1) (tree.Boolean op e (exprs_of s.0.0.0)) (max d s.0.0.1 + 1) s.0.1 r s.2 in
        let P : Found → Type 0 = Longer front ts l in
        let top = max d s.0.0.1 in
        let others = many_mono (Item s.0.0.1) (Item top) (after_mono (Spells s.0.0.1) (Spells top) (Word (word_of op)) (item_level op) (spells_deeper s.0.0.1 top (omega arith))) c.0 c.1 c.6 in
        let same : c.0 ≡ items_of (exprs_of s.0.0.0) = sym (items_of_exprs s.0.0.0 ∙ c.2) in
        let some = some_items (λ ts. with_word op (after_boolean op ts)) (Item s.0.0.1) c.0 c.1 ts s.0.1 o is c.3 c.6 c.8 in
        let both = subst (λ xs. (0 < length xs) × Many (Item top) xs c.1) same (some, others) in
        let left = spells_deeper d top (omega arith) (item_level op) e front (spells_looser d (item_level op) m e front low spelled) in
        subst P w.1 (
          c.1,
          c.3,
          boolean_level op,
          node top (boolean_level op) (tree.Boolean op e (exprs_of s.0.0.0)) (front ++ c.1) (front, c.1, refl, omega arith, left, both.0, both.1),
          boolean_ends op s.0.1 (with_word_none op (after_boolean op s.0.1) c.8) c.7,
          high,
          w.0,
          boolean_apart op,
        )

    word_reads : (front : List Terminal) (e : Expr) (d m : ℕ) (ts : List Terminal) (l : ℕ) (r : Found) → Spells d m e front → strength_of (boolean op) ≤ m → l ≤ strength_of (boolean op) → Apart m → Apart l
        → strength_at (Word (word_of op) ∷ ts) ≡ strength_of (boolean op) → boolean_by sub (n + 1) e d op (Word (word_of op) ∷ ts) ≡ Some r → Longer front (Word (word_of op) ∷ ts) l r
    word_reads front e d m ts l r spelled low high am al is h =
        let b = boolean_strength op in
        boolean_reads front e d m (Word (word_of op) ∷ ts) l r spelled (boolean_up op m am low) (boolean_down op l al high) (op, ts) (ap (with_word op) (after_word op ts)) (omega (arith, b.0)) h

  -- ---- a conditional expression

  conditional_reads : (front : List Terminal) (e : Expr) (d m : ℕ) (ts : List Terminal) (l : ℕ) (r : Found) → Spells d m e front → 3 ≤ m → l ≤ 1 → conditional_by sub (n + 1) e d ts ≡ Some r → Longer front (Word token.IfWord ∷ ts) l r
  conditional_reads front e d m ts l r spelled low high h =
      let t = then_read_some (sub 3 ts) (λ t. then_read (after (Word token.ElseWord) t.2) (other_by sub (n + 1) e d t)) r h in
      let a = sound 3 (omega arith) at_disjunction ts t.0 t.1 in
      let u = then_read_some (after (Word token.ElseWord) t.0.2) (other_by sub (n + 1) e d t.0) r t.2 in
      let v = then_read_some (sub 1 u.0) (λ o. within (n + 1) (tree.Conditional t.0.0 e o.0) (max d (max t.0.1 o.1) + 1) o.2) r u.2 in
      let b = sound 1 (omega arith) at_condition u.0 v.0 v.1 in
      let w = within_some (n + 1) (tree.Conditional t.0.0 e v.0.0) (max d (max t.0.1 v.0.1) + 1) v.0.2 r v.2 in
      let P : Found → Type 0 = Longer front (Word token.IfWord ∷ ts) l in
      let top = max d (max t.0.1 v.0.1) in
      let value = spells_deeper d top (omega arith) 3 e front (spells_looser d 3 m e front low spelled) in
      let test = spells_deeper t.0.1 top (omega arith) 3 t.0.0 a.0.front a.0.spelled in
      let other = spells_deeper v.0.1 top (omega arith) 1 v.0.0 b.0.front b.0.spelled in
      let tail = a.0.front ++ Word token.ElseWord ∷ b.0.front in
      subst P w.1 (
        Word token.IfWord ∷ tail,
        ap (λ t. Word token.IfWord ∷ t) (a.0.split ∙ ap (λ t. a.0.front ++ t) (after_else_some t.0.2 u.0 u.1 ∙ ap (λ t. Word token.ElseWord ∷ t) b.0.split) ∙ sym (append_assoc a.0.front (Word token.ElseWord ∷ b.0.front) v.0.2)),
        1,
        node top 1 (tree.Conditional t.0.0 e v.0.0) (front ++ Word token.IfWord ∷ tail) (front, a.0.front, b.0.front, refl, omega arith, value, test, other),
        omega (arith, b.0.stops),
        high,
        w.0,
        at_condition,
      )

  -- ---- all of them

  extended_reads : (front : List Terminal) (e : Expr) (d m : ℕ) (ts : List Terminal) (l : ℕ) (r : Found) → Spells d m e front → strength_at ts ≤ m → l ≤ strength_at ts → l ≤ 16 → Apart m → Apart l
      → extended_by sub (n + 1) e d ts (continuation_at ts) ≡ Some r → Longer front ts l r
  extended_reads front e d m [] l r spelled low high le am al h = cc
  extended_reads front e d m (Sign token.Bar ∷ ts) l r spelled low high le am al h = operator_reads front e d m tree.BitOr ts l r spelled low high le h
  extended_reads front e d m (Sign token.Caret ∷ ts) l r spelled low high le am al h = operator_reads front e d m tree.BitXor ts l r spelled low high le h
  extended_reads front e d m (Sign token.Ampersand ∷ ts) l r spelled low high le am al h = operator_reads front e d m tree.BitAnd ts l r spelled low high le h
  extended_reads front e d m (Sign token.LeftShift ∷ ts) l r spelled low high le am al h = operator_reads front e d m tree.ShiftLeft ts l r spelled low high le h
  extended_reads front e d m (Sign token.RightShift ∷ ts) l r spelled low high le am al h = operator_reads front e d m tree.ShiftRight ts l r spelled low high le h
  extended_reads front e d m (Sign token.Plus ∷ ts) l r spelled low high le am al h = operator_reads front e d m tree.Add ts l r spelled low high le h
  extended_reads front e d m (Sign token.Minus ∷ ts) l r spelled low high le am al h = operator_reads front e d m tree.Subtract ts l r spelled low high le h
  extended_reads front e d m (Sign token.Star ∷ ts) l r spelled low high le am al h = operator_reads front e d m tree.Multiply ts l r spelled low high le h
  extended_reads front e d m (Sign token.DoubleSlash ∷ ts) l r spelled low high le am al h = operator_reads front e d m tree.FloorDivide ts l r spelled low high le h
  extended_reads front e d m (Sign token.Percent ∷ ts) l r spelled low high le am al h = operator_reads front e d m tree.Modulo ts l r spelled low high le h
  extended_reads front e d m (Sign token.DoubleStar ∷ ts) l r spelled low high le am al h = operator_reads front e d m tree.Power ts l r spelled low high le h
  extended_reads front e d m (Sign token.Dot ∷ ts) l r spelled low high le am al h = attribute_reads front e d m ts l r spelled low le h
  extended_reads front e d m (Sign token.LeftParenthesis ∷ ts) l r spelled low high le am al h = call_reads front e d m ts l r spelled low le h
  extended_reads front e d m (Sign token.LeftBracket ∷ ts) l r spelled low high le am al h = subscript_reads front e d m ts l r spelled low le h
  extended_reads front e d m (Sign token.Less ∷ ts) l r spelled low high le am al h =
      compare_reads front e d m (Sign token.Less ∷ ts) l r spelled (comparison_up m am low) (comparison_down l al high) (tree.Less, ts) refl (omega arith) h
  extended_reads front e d m (Sign token.Greater ∷ ts) l r spelled low high le am al h =
      compare_reads front e d m (Sign token.Greater ∷ ts) l r spelled (comparison_up m am low) (comparison_down l al high) (tree.Greater, ts) refl (omega arith) h
  extended_reads front e d m (Sign token.LessEqual ∷ ts) l r spelled low high le am al h =
      compare_reads front e d m (Sign token.LessEqual ∷ ts) l r spelled (comparison_up m am low) (comparison_down l al high) (tree.LessEqual, ts) refl (omega arith) h
  extended_reads front e d m (Sign token.GreaterEqual ∷ ts) l r spelled low high le am al h =
      compare_reads front e d m (Sign token.GreaterEqual ∷ ts) l r spelled (comparison_up m am low) (comparison_down l al high) (tree.GreaterEqual, ts) refl (omega arith) h
  extended_reads front e d m (Sign token.EqualEqual ∷ ts) l r spelled low high le am al h =
      compare_reads front e d m (Sign token.EqualEqual ∷ ts) l r spelled (comparison_up m am low) (comparison_down l al high) (tree.Equal, ts) refl (omega arith) h
  extended_reads front e d m (Sign token.NotEqual ∷ ts) l r spelled low high le am al h =
      compare_reads front e d m (Sign token.NotEqual ∷ ts) l r spelled (comparison_up m am low) (comparison_down l al high) (tree.NotEqual, ts) refl (omega arith) h
  extended_reads front e d m (Word token.IsWord ∷ ts) l r spelled low high le am al h =
      compare_reads front e d m (Word token.IsWord ∷ ts) l r spelled (comparison_up m am low) (comparison_down l al high) (identity_from ts (after (Word token.NotWord) ts)) refl (omega arith) h
  extended_reads front e d m (Word token.InWord ∷ ts) l r spelled low high le am al h =
      compare_reads front e d m (Word token.InWord ∷ ts) l r spelled (comparison_up m am low) (comparison_down l al high) (tree.In, ts) refl (omega arith) h
  extended_reads front e d m (Word token.NotWord ∷ []) l r spelled low high le am al h = cc
  extended_reads front e d m (Word token.NotWord ∷ (Word token.InWord ∷ ts)) l r spelled low high le am al h =
      compare_reads front e d m (Word token.NotWord ∷ (Word token.InWord ∷ ts)) l r spelled (comparison_up m am low) (comparison_down l al high) (tree.NotIn, ts) refl (omega arith) h
  extended_reads front e d m (Word token.AndWord ∷ ts) l r spelled low high le am al h = word_reads tree.And front e d m ts l r spelled low high am al refl h
  extended_reads front e d m (Word token.OrWord ∷ ts) l r spelled low high le am al h = word_reads tree.Or front e d m ts l r spelled low high am al refl h
  extended_reads front e d m (Word token.IfWord ∷ ts) l r spelled low high le am al h = conditional_reads front e d m ts l r spelled (condition_up m am low) (condition_down l al high) h
  extended_reads front e d m (_ ∷ ts) l r spelled low high le am al h = cc

  -- the rest of an expression
  abbrev Ends : List Terminal → List Terminal → ℕ → Found → Type 0
  Ends front ts l r = (g : List Terminal) × (ts ≡ g ++ r.2) × Spells r.1 l r.0 (front ++ g) × (strength_at r.2 < l) × (r.1 ≤ n + 1)

  continued_reads : (k : ℕ) (front : List Terminal) (e : Expr) (d m : ℕ) (ts : List Terminal) (l : ℕ) (r : Found) → Spells d m e front → strength_at ts ≤ m → l ≤ m → l ≤ 16 → d ≤ n + 1 → Apart m → Apart l
      → continued_by sub (n + 1) l k e d ts ≡ Some r → Ends front ts l r
  unfolding continued_by
  continued_reads zero front e d m ts l r spelled low high le deep am al h = cc
  continued_reads (suc k) front e d m ts l r spelled low high le deep am al h =
      let P : Found → Type 0 = Ends front ts l in
      ⊎_elim
      (λ stop. subst P (some_inj (e, d, ts) r stop.1) ([], refl, subst (Spells d l e) (sym (append-nil front)) (spells_looser d l m e front high spelled), lt_from _ _ stop.0, deep))
      (λ go.
      let s = then_read_some (extended_by sub (n + 1) e d ts (continuation_at ts)) (λ r. continued_by sub (n + 1) l k r.0 r.1 r.2) r go.1 in
      let x = extended_reads front e d m ts l s.0 spelled low (ge_from _ _ go.0) le am al s.1 in
      let y = continued_reads k (front ++ x.0) s.0.0 s.0.1 x.2 s.0.2 l r x.3 x.4 x.5 le x.6 x.7 al s.2 in
      (x.0 ++ y.0, x.1 ∙ ap (λ t. x.0 ++ t) y.1 ∙ sym (append_assoc x.0 y.0 r.2), subst (Spells r.1 l r.0) (append_assoc front x.0 y.0) y.2, y.3, y.4))
      (chosen (nat_lt (strength_at ts) l) (Some (e, d, ts)) (then_read (extended_by sub (n + 1) e d ts (continuation_at ts)) (λ r. continued_by sub (n + 1) l k r.0 r.1 r.2)) (Some r) h)

  expression_reads : (k l : ℕ) → l ≤ 16 → Apart l → (ts : List Terminal) (r : Found) → then_read (operand_by sub l ts) (λ r. continued_by sub (n + 1) l k r.0 r.1 r.2) ≡ Some r → Reads l ts r × (r.1 ≤ n + 1)
  expression_reads k l le al ts r h =
      let s = then_read_some (operand_by sub l ts) (λ r. continued_by sub (n + 1) l k r.0 r.1 r.2) r h in
      let a = operand_reads l le ts s.0 s.1 in
      let y = continued_reads k a.0.front s.0.0 s.0.1 a.0.level s.0.2 l r a.0.spelled a.0.continues a.0.enough le a.1 a.0.apart al s.2 in
      (record { front = a.0.front ++ y.0; split = a.0.split ∙ ap (λ t. a.0.front ++ t) y.1 ∙ sym (append_assoc a.0.front y.0 r.2); spelled = y.2; stops = y.3 }, y.4)

-- each expression that is read is in the grammar, and no longer one begins there
pub expression_sound : (n : ℕ) → IsSound n (expression_at n)
unfolding expression_at
expression_sound zero l le al ts r h = cc
expression_sound (suc n) l le al ts r h =
    let same : suc n ≡ n + 1 = sym (add-one n) in
    let moved = subst (λ k. then_read (operand_by (expression_at n) l ts) (λ r. continued_by (expression_at n) k l (suc n) r.0 r.1 r.2) ≡ Some r) same h in
    let p = expression_reads n (expression_at n) (expression_sound n) (suc n) l le al ts r moved in
    (p.0, omega (arith, p.1))
