-- What is in the grammar is read.
use Rattle.std.proofs.Common.{◌≡◌, ℕ, zero, suc, ◌+◌, ◌-◌, ◌<◌, ◌≤◌, List, [], ◌∷◌, ◌++◌, inl, inr, length, Bool, Option, Some, None, true, false, refl, sym, ap, ◌∙◌, subst, max, arith, add-one, append_assoc, length-append}
use Rattle.std.specs.Prelude.{nat_lt, not, ◌&&◌, if◌then◌else◌, flat_map}
use Rattle.std.proofs.lemmas.Bool.Decides.{nat_tests}
use Rattle.std.proofs.lemmas.List.{append-nil}
use Rattle.si_semantics.specs.Value.{Nothing, Truth, Int, Str, Bytes, Provided, Function, Range, Tuple, Class, Module, Queue, Interpreter, Exec, Address}
use Rattle.si_semantics.specs.Tree.{BinaryOperator, UnaryOperator, ComparisonOperator, BooleanOperator, Expr, Exprs, callee_of}
use Rattle.si_semantics.specs.Tree as tree
use Rattle.si_semantics.specs.Tokens.{Keyword}
use Rattle.si_semantics.specs.Tokens as token
use Rattle.si_semantics.specs.Text.{max_length}
use Rattle.si_semantics.specs.Grammar.{Terminal, NAME, NUMBER, STRING, Sign, Word, level_of, left_level, right_level, symbol_of, prefix_level, prefix_of, boolean_level, item_level, word_of, comparison_of, is_identity, Many, After, Separated, Ended, Argument, Positional, ByName, Passes, IsPassed, exprs_of, items_of, Link, links_of, chain_of, Compares, PairsOf, Strings, Spells, BYTES, Octets}
use Rattle.si_parse.specs.inner.Lookahead.{comparison, boolean, continuation_at, strength_of, strength_at, after_boolean, after, begins_literal}
use Rattle.si_parse.specs.inner.Lists.{then_read, Found, Parsed, alone}
use Rattle.si_parse.specs.inner.Expressions.{short, named_at, argument_from, argument_by, call_of, called, with_word, comparison_at, identity_from, Parser, arguments_from, arguments_by, within, call_by, indexed, subscript_by, is_singleton, compared_to, compared_by, other_by, conditional_by, extended_by, continued_by, items_from, tupled, grouped, bracketed_from, strings_by, bracketed_by, operand_from, operand_by, expression_at, octets_by, listed, list_by, Pair, both, paired, value_of_key, pair_by, pairs_from, in_dict, dict_by}
use Rattle.si_parse.proofs.Laws.{some_inj, named_at_some, exprs_of_items, chain_of_links}
use Rattle.si_parse.proofs.Levels.{right_weaker, right_bound, level_under, role_of_symbol, prefix_gap, prefix_bound, prefix_begins, conditional_gap, boolean_strength, item_bound, role_of_word, after_word, role_of_comparison, boolean_none, comparison_none}
use Rattle.si_parse.proofs.Lists.{le_to}
use Rattle.si_parse.proofs.Enclosed.{alone_are, enclosed_complete}
use Rattle.si_parse.proofs.Passed.{passed_complete}
use Rattle.si_parse.proofs.Chains.{many_long, chain_complete}
use Rattle.si_parse.proofs.Starts.{expression_begins, some_terminals, close_not, bracket_not, brace_not, singleton}
use Rattle.si_parse.proofs.Steps.{continued_by_step}

lt_to : (a b : ℕ) → a < b → nat_lt a b ≡ true
lt_to a b h = grind (arith, nat_tests)

ge_to : (a b : ℕ) → b ≤ a → nat_lt a b ≡ false
ge_to a b h = grind (arith, nat_tests)

pub within_ok : (n : ℕ) (e : Expr) (d : ℕ) (ts : List Terminal) → d ≤ n → within n e d ts ≡ Some (e, d, ts)
within_ok n e d ts h = ap (λ b. if b then Some (e, d, ts) else None) (le_to d n h)

not_closed : (m l : ℕ) (e : Expr) (f : List Terminal) → Spells m l e f → (x : List Terminal) → after (Sign token.RightParenthesis) (f ++ x) ≡ None
not_closed m l e f h x = close_not (f ++ x) (expression_begins m l e f h x)

-- what is spelled has a depth, so a name is spelled at that depth
spelled_name : (m l : ℕ) (e : Expr) (f : List Terminal) → Spells m l e f → (x : List ℕ) → Spells m 1 (tree.Name x) (NAME x ∷ [])
spelled_name zero l e f h x = absurd h
spelled_name (suc m) l e f h x = inl refl

-- ---- str literals

strings_end : (text : List ℕ) (ts : List Terminal) → begins_literal ts ≡ false → strings_by text ts ≡ Some (text, ts)
strings_end text [] h = refl
strings_end text (STRING literal ∷ ts) h = cc
strings_end text (_ ∷ ts) h = refl

strings_complete : (text s : List ℕ) (f rest : List Terminal) → Strings s f → begins_literal rest ≡ false → strings_by text (f ++ rest) ≡ Some (text ++ s, rest)
strings_complete text s [] rest h b = strings_end text rest b ∙ ap (λ t. Some (t, rest)) (sym (append-nil text) ∙ ap (λ s. text ++ s) (sym h))
strings_complete text s (STRING literal ∷ ts) rest h b =
    ap (λ o. then_read o (λ s. strings_by (text ++ s) (ts ++ rest))) h.3
    ∙ strings_complete (text ++ h.0) h.1 ts rest h.4 b
    ∙ ap (λ t. Some (t, rest)) (append_assoc text h.0 h.1 ∙ ap (λ s. text ++ s) (sym h.2))
strings_complete text s (_ ∷ ts) rest h b = absurd h

abbrev with_text : List ℕ × List Terminal → Parsed
with_text r = Some (tree.Constant (Str r.0), 1, r.1)

string_operand : (sub : Parser) (l : ℕ) (s : List ℕ) (f rest : List Terminal) → 0 < length f → length s ≤ max_length → Strings s f → begins_literal rest ≡ false → operand_by sub l (f ++ rest) ≡ Some (tree.Constant (Str s), 1, rest)
string_operand sub l s [] rest some few h b = absurd (omega arith)
string_operand sub l s (STRING literal ∷ ts) rest some few h b =
    ap (λ (o : Option (List ℕ × List Terminal)). then_read (then_read o short) with_text) (strings_complete [] s (STRING literal ∷ ts) rest h b)
    ∙ ap (λ b. then_read (if b then Some (s, rest) else None) with_text) (le_to (length s) max_length few)
string_operand sub l s (_ ∷ ts) rest some few h b = absurd h

-- ---- bytes literals

octets_end : (text : List ℕ) (ts : List Terminal) → begins_literal ts ≡ false → octets_by text ts ≡ Some (text, ts)
octets_end text [] h = refl
octets_end text (BYTES literal ∷ ts) h = cc
octets_end text (_ ∷ ts) h = refl

octets_complete : (text s : List ℕ) (f rest : List Terminal) → Octets s f → begins_literal rest ≡ false → octets_by text (f ++ rest) ≡ Some (text ++ s, rest)
octets_complete text s [] rest h b = octets_end text rest b ∙ ap (λ t. Some (t, rest)) (sym (append-nil text) ∙ ap (λ s. text ++ s) (sym h))
octets_complete text s (BYTES literal ∷ ts) rest h b =
    ap (λ o. then_read o (λ s. octets_by (text ++ s) (ts ++ rest))) h.3
    ∙ octets_complete (text ++ h.0) h.1 ts rest h.4 b
    ∙ ap (λ t. Some (t, rest)) (append_assoc text h.0 h.1 ∙ ap (λ s. text ++ s) (sym h.2))
octets_complete text s (_ ∷ ts) rest h b = absurd h

abbrev with_bytes : List ℕ × List Terminal → Parsed
with_bytes r = Some (tree.Constant (Bytes r.0), 1, r.1)

bytes_operand : (sub : Parser) (l : ℕ) (s : List ℕ) (f rest : List Terminal) → 0 < length f → length s ≤ max_length → Octets s f → begins_literal rest ≡ false → operand_by sub l (f ++ rest) ≡ Some (tree.Constant (Bytes s), 1, rest)
bytes_operand sub l s [] rest some few h b = absurd (omega arith)
bytes_operand sub l s (BYTES literal ∷ ts) rest some few h b =
    ap (λ (o : Option (List ℕ × List Terminal)). then_read (then_read o short) with_bytes) (octets_complete [] s (BYTES literal ∷ ts) rest h b)
    ∙ ap (λ b. then_read (if b then Some (s, rest) else None) with_bytes) (le_to (length s) max_length few)
bytes_operand sub l s (_ ∷ ts) rest some few h b = absurd h

-- ---- comparisons

no_str : (op : ComparisonOperator) (ts : List Terminal) → begins_literal (comparison_of op ++ ts) ≡ false
no_str tree.Less ts = refl
no_str tree.Greater ts = refl
no_str tree.LessEqual ts = refl
no_str tree.GreaterEqual ts = refl
no_str tree.Equal ts = refl
no_str tree.NotEqual ts = refl
no_str tree.Is ts = refl
no_str tree.IsNot ts = refl
no_str tree.In ts = refl
no_str tree.NotIn ts = refl

comparison_long : (op : ComparisonOperator) → 1 ≤ length (comparison_of op)
comparison_long tree.Less = omega arith
comparison_long tree.Greater = omega arith
comparison_long tree.LessEqual = omega arith
comparison_long tree.GreaterEqual = omega arith
comparison_long tree.Equal = omega arith
comparison_long tree.NotEqual = omega arith
comparison_long tree.Is = omega arith
comparison_long tree.IsNot = omega arith
comparison_long tree.In = omega arith
comparison_long tree.NotIn = omega arith

compared_if : (i s : Bool) (r : Found) → s ≡ true → (if i && not s then None else Some r) ≡ Some r
compared_if true true r h = refl
compared_if true false r h = cc
compared_if false s r h = refl

compared_singleton : (op : ComparisonOperator) (r : Found) → is_singleton r.0 r.1 ≡ true → compared_to op r ≡ Some r
compared_singleton op r h = compared_if (is_identity op) (is_singleton r.0 r.1) r h

-- ---- expressions

abbrev pub IsComplete : ℕ → Parser → Type 0
IsComplete n sub = (m l : ℕ) (e : Expr) (front rest : List Terminal) → m ≤ n → l ≤ 16 → Spells m l e front → strength_at rest < l → begins_literal rest ≡ false
    → (d : ℕ) × (d ≤ m) × (0 < d) × (sub l (front ++ rest) ≡ Some (e, d, rest))

module _ (n : ℕ) (sub : Parser) (complete : IsComplete n sub) where
  module _ (m : ℕ) (le : m ≤ n) where
    abbrev Follows : List Terminal → Type 0
    Follows more = (strength_at more < 1) × (begins_literal more ≡ false) × (after (Sign token.Equal) more ≡ None)

    -- no `=` stands after the name with which an expression begins, as this would be read up to it
    not_named : (e : Expr) (f more : List Terminal) → Spells m 1 e f → Follows more → named_at (f ++ more) ≡ None
    not_named e f more h ends = by (named_at (f ++ more)) refl
      where
        by : (o : Option (List ℕ × List Terminal)) → named_at (f ++ more) ≡ o → o ≡ None
        by None is = refl
        by (Some name) is =
            let c = complete m 1 e f more le (omega arith) h ends.0 ends.1 in
            let d = complete m 1 (tree.Name name.0) (NAME name.0 ∷ []) (Sign token.Equal ∷ name.1) le (omega arith) (spelled_name m 1 e f h name.0) (omega arith) refl in
            let same = some_inj (e, c.0, more) (tree.Name name.0, d.0, Sign token.Equal ∷ name.1) (sym c.3 ∙ ap (sub 1) (named_at_some (f ++ more) name is) ∙ d.3) in
            let bad : None ≡ Some name.1 = sym ends.2 ∙ ap (λ r. after (Sign token.Equal) r.2) same in cc

    argument_read : (a : Argument) (f more : List Terminal) → Passes (Spells m) a f → Follows more → (d : ℕ) × (d ≤ m) × (argument_by sub (f ++ more) ≡ Some (a, d, more))
    argument_read (Positional e) f more h ends =
        let c = complete m 1 e f more le (omega arith) h ends.0 ends.1 in
        (c.0, c.1, ap (argument_from sub (f ++ more)) (not_named e f more h ends) ∙ ap (λ o. then_read o (λ r. Some (Positional r.0, r.1, r.2))) c.3)
    argument_read (ByName x e) f more h ends =
        let c = complete m 1 e h.0 more le (omega arith) h.2 ends.0 ends.1 in
        (c.0, c.1, ap (λ t. argument_by sub (t ++ more)) h.1 ∙ ap (λ o. then_read o (λ r. Some (ByName x r.0, r.1, r.2))) c.3)

    argument_open : (a : Argument) (f more : List Terminal) → Passes (Spells m) a f → after (Sign token.RightParenthesis) (f ++ more) ≡ None
    argument_open (Positional e) f more h = not_closed m 1 e f h more
    argument_open (ByName x e) f more h = ap (λ t. after (Sign token.RightParenthesis) (t ++ more)) h.1

    arguments_complete : (xs : List Argument) (g rest : List Terminal) → Separated (Passes (Spells m)) token.Comma xs g
        → (d : ℕ) × (d ≤ m) × (arguments_by sub (g ++ Sign token.RightParenthesis ∷ rest) ≡ Some ((xs, d), rest))
    arguments_complete [] g rest h = (0, omega arith, ap (λ t. arguments_by sub (t ++ Sign token.RightParenthesis ∷ rest)) h)
    arguments_complete (x ∷ xs) g rest h =
        let ts = g ++ Sign token.RightParenthesis ∷ rest in
        let long : length ts ≡ length g + length (Sign token.RightParenthesis ∷ rest) = length-append g (Sign token.RightParenthesis ∷ rest) in
        let split : ts ≡ h.0 ++ (h.1 ++ Sign token.RightParenthesis ∷ rest) = ap (λ t. t ++ Sign token.RightParenthesis ∷ rest) h.2 ∙ append_assoc h.0 h.1 (Sign token.RightParenthesis ∷ rest) in
        let open_yet : (after (Sign token.RightParenthesis)) ts ≡ None = ap (after (Sign token.RightParenthesis)) split ∙ argument_open x h.0 (h.1 ++ Sign token.RightParenthesis ∷ rest) h.3 in
        let c = enclosed_complete alone (argument_by sub) token.RightParenthesis (Passes (Spells m)) m Follows argument_read argument_open (λ ts. refl) (λ ts. refl) (λ ts. (omega arith, refl, refl)) (λ ts. (omega arith, refl, refl))
        (length ts) [] 0 (x ∷ xs) g rest (omega arith) (omega arith) (omega arith) h in
        (c.0, c.1, ap (arguments_from sub ts) open_yet ∙ c.2 ∙ ap (λ l. Some ((l, c.0), rest)) (alone_are (x ∷ xs)))

    -- ---- tuples

    abbrev Stops : List Terminal → Type 0
    Stops more = (strength_at more < 1) × (begins_literal more ≡ false)

    bracket_open : (e : Expr) (f more : List Terminal) → Spells m 1 e f → after (Sign token.RightBracket) (f ++ more) ≡ None
    bracket_open e f more h = bracket_not (f ++ more) (expression_begins m 1 e f h more)

    item_read : (e : Expr) (f more : List Terminal) → Spells m 1 e f → Stops more → (d : ℕ) × (d ≤ m) × (sub 1 (f ++ more) ≡ Some (e, d, more))
    item_read e f more h ends = let c = complete m 1 e f more le (omega arith) h ends.0 ends.1 in (c.0, c.1, c.3)

    -- a first item, and what stands after it
    first_read : (e : Expr) (f more : List Terminal) → Spells m 1 e f → Stops more → (d : ℕ) × (d ≤ m) × (bracketed_by sub (f ++ more) ≡ grouped sub (e, d, more))
    first_read e f more h ends =
        let c = item_read e f more h ends in
        (c.0, c.1, ap (bracketed_from sub (f ++ more)) (not_closed m 1 e f h more) ∙ ap (λ o. then_read o (grouped sub)) c.2)

    tuple_complete : (xs : List Expr) (f rest : List Terminal) → Ended (Spells m 1) token.Comma xs f
        → (d : ℕ) × (d ≤ m) × (bracketed_by sub (f ++ Sign token.RightParenthesis ∷ rest) ≡ Some (tree.Tuple (exprs_of xs), d + 1, rest))
    tuple_complete [] f rest h = (0, omega arith, ap (λ t. bracketed_by sub (t ++ Sign token.RightParenthesis ∷ rest)) h)
    tuple_complete (x ∷ []) f rest h =
        let split : f ++ Sign token.RightParenthesis ∷ rest ≡ h.0 ++ Sign token.Comma ∷ (Sign token.RightParenthesis ∷ rest)
        = ap (λ t. t ++ Sign token.RightParenthesis ∷ rest) h.1 ∙ append_assoc h.0 (Sign token.Comma ∷ []) (Sign token.RightParenthesis ∷ rest) in
        let c = first_read x h.0 (Sign token.Comma ∷ (Sign token.RightParenthesis ∷ rest)) h.2 (omega arith, refl) in
        (c.0, c.1, ap (bracketed_by sub) split ∙ c.2)
    tuple_complete (x ∷ y ∷ xs) f rest h =
        let g = h.4.0 ++ h.4.1 in
        let ts = g ++ Sign token.RightParenthesis ∷ rest in
        let split : f ++ Sign token.RightParenthesis ∷ rest ≡ h.0 ++ Sign token.Comma ∷ ts
        = ap (λ t. t ++ Sign token.RightParenthesis ∷ rest) (h.2 ∙ ap (λ t. h.0 ++ t) h.4.2) ∙ append_assoc h.0 (Sign token.Comma ∷ g) (Sign token.RightParenthesis ∷ rest) in
        let long : length ts ≡ length g + length (Sign token.RightParenthesis ∷ rest) = length-append g (Sign token.RightParenthesis ∷ rest) in
        let open_yet : after (Sign token.RightParenthesis) ts ≡ None
        = ap (after (Sign token.RightParenthesis)) (append_assoc h.4.0 h.4.1 (Sign token.RightParenthesis ∷ rest)) ∙ not_closed m 1 y h.4.0 h.4.3 (h.4.1 ++ Sign token.RightParenthesis ∷ rest) in
        let c = first_read x h.0 (Sign token.Comma ∷ ts) h.3 (omega arith, refl) in
        let s = enclosed_complete alone (sub 1) token.RightParenthesis (Spells m 1) m Stops item_read (λ e f more h. not_closed m 1 e f h more) (λ ts. refl) (λ ts. refl) (λ ts. (omega arith, refl)) (λ ts. (omega arith, refl))
        (length ts) (x ∷ []) c.0 (y ∷ xs) g rest (omega arith) (omega arith) c.1 (h.4.0, h.4.1, refl, h.4.3, h.4.4) in (
          s.0,
          s.1,
          ap (bracketed_by sub) split
              ∙ c.2
              ∙ ap (λ o. then_read (items_from sub token.RightParenthesis (x ∷ [], c.0) ts o) tupled) open_yet
              ∙ ap (λ o. then_read o tupled) s.2
              ∙ ap (λ l. Some (tree.Tuple (exprs_of (x ∷ l)), s.0 + 1, rest)) (alone_are (y ∷ xs)),
        )

    -- ---- lists and dicts

    list_complete : (xs : List Expr) (f rest : List Terminal) → Separated (Spells m 1) token.Comma xs f
        → (d : ℕ) × (d ≤ m) × (list_by sub (f ++ Sign token.RightBracket ∷ rest) ≡ Some (tree.ListDisplay (exprs_of xs), d + 1, rest))
    list_complete [] f rest h = (0, omega arith, ap (λ t. list_by sub (t ++ Sign token.RightBracket ∷ rest)) h)
    list_complete (x ∷ xs) f rest h =
        let ts = f ++ Sign token.RightBracket ∷ rest in
        let long : length ts ≡ length f + length (Sign token.RightBracket ∷ rest) = length-append f (Sign token.RightBracket ∷ rest) in
        let split : ts ≡ h.0 ++ (h.1 ++ Sign token.RightBracket ∷ rest) = ap (λ t. t ++ Sign token.RightBracket ∷ rest) h.2 ∙ append_assoc h.0 h.1 (Sign token.RightBracket ∷ rest) in
        let open_yet : after (Sign token.RightBracket) ts ≡ None = ap (after (Sign token.RightBracket)) split ∙ bracket_open x h.0 (h.1 ++ Sign token.RightBracket ∷ rest) h.3 in
        let s = enclosed_complete alone (sub 1) token.RightBracket (Spells m 1) m Stops item_read bracket_open (λ ts. refl) (λ ts. refl) (λ ts. (omega arith, refl)) (λ ts. (omega arith, refl))
        (length ts) [] 0 (x ∷ xs) f rest (omega arith) (omega arith) (omega arith) h in (
          s.0,
          s.1,
          ap (λ o. then_read (items_from sub token.RightBracket ([], 0) ts o) listed) open_yet
              ∙ ap (λ o. then_read o listed) s.2
              ∙ ap (λ l. Some (tree.ListDisplay (exprs_of l), s.0 + 1, rest)) (alone_are (x ∷ xs)),
        )

    pair_read : (p : Pair) (f more : List Terminal) → PairsOf (Spells m) p f → Stops more → (d : ℕ) × (d ≤ m) × (pair_by sub (f ++ more) ≡ Some (p, d, more))
    pair_read p f more h ends =
        let rest = Sign token.Colon ∷ (h.1 ++ more) in
        let split : f ++ more ≡ h.0 ++ rest = ap (λ t. t ++ more) h.2 ∙ append_assoc h.0 (Sign token.Colon ∷ h.1) more in
        let k = complete m 1 p.0 h.0 rest le (omega arith) h.3 (omega arith) refl in
        let v = complete m 1 p.1 h.1 more le (omega arith) h.4 ends.0 ends.1 in (
          max k.0 v.0,
          omega (arith, k.1, v.1),
          ap (pair_by sub) split
              ∙ ap (λ o. then_read o (λ k. then_read (after (Sign token.Colon) k.2) (value_of_key sub k))) k.3
              ∙ ap (λ o. then_read o (paired (p.0, k.0, rest))) v.3,
        )

    pair_open : (p : Pair) (f more : List Terminal) → PairsOf (Spells m) p f → after (Sign token.RightBrace) (f ++ more) ≡ None
    pair_open p f more h =
        ap (after (Sign token.RightBrace)) (ap (λ t. t ++ more) h.2 ∙ append_assoc h.0 (Sign token.Colon ∷ h.1) more) ∙ brace_not (h.0 ++ Sign token.Colon ∷ (h.1 ++ more)) (expression_begins m 1 p.0 h.0 h.3 (Sign token.Colon ∷ (h.1 ++ more)))

    dict_complete : (ps : List Pair) (f rest : List Terminal) → Separated (PairsOf (Spells m)) token.Comma ps f
        → (d : ℕ) × (d ≤ m) × (dict_by sub (f ++ Sign token.RightBrace ∷ rest) ≡ Some (tree.DictDisplay (exprs_of (flat_map both ps)), d + 1, rest))
    dict_complete [] f rest h = (0, omega arith, ap (λ t. dict_by sub (t ++ Sign token.RightBrace ∷ rest)) h)
    dict_complete (p ∷ ps) f rest h =
        let ts = f ++ Sign token.RightBrace ∷ rest in
        let long : length ts ≡ length f + length (Sign token.RightBrace ∷ rest) = length-append f (Sign token.RightBrace ∷ rest) in
        let split : ts ≡ h.0 ++ (h.1 ++ Sign token.RightBrace ∷ rest) = ap (λ t. t ++ Sign token.RightBrace ∷ rest) h.2 ∙ append_assoc h.0 h.1 (Sign token.RightBrace ∷ rest) in
        let open_yet : after (Sign token.RightBrace) ts ≡ None = ap (after (Sign token.RightBrace)) split ∙ pair_open p h.0 (h.1 ++ Sign token.RightBrace ∷ rest) h.3 in
        let s = enclosed_complete both (pair_by sub) token.RightBrace (PairsOf (Spells m)) m Stops pair_read pair_open (λ ts. refl) (λ ts. refl) (λ ts. (omega arith, refl)) (λ ts. (omega arith, refl))
        (length ts) [] 0 (p ∷ ps) f rest (omega arith) (omega arith) (omega arith) h in
        (s.0, s.1, ap (λ o. then_read (pairs_from sub ts o) in_dict) open_yet ∙ ap (λ o. then_read o in_dict) s.2)

  -- ---- operands of chains

  abbrev Item : ℕ → BooleanOperator → Expr → List Terminal → Type 0
  Item m op = After (Word (word_of op)) (Spells m (item_level op))

  item_begin : (m : ℕ) (op : BooleanOperator) (x : Expr) (f more : List Terminal) → Item m op x f → (continuation_at (f ++ more) ≡ boolean op) × (begins_literal (f ++ more) ≡ false)
  item_begin m op x f more h = (ap (λ t. continuation_at (t ++ more)) h.1 ∙ role_of_word op (h.0 ++ more), ap (λ t. begins_literal (t ++ more)) h.1)

  item_begins : (m : ℕ) (op : BooleanOperator) (x : Expr) (f more : List Terminal) → Item m op x f → (strength_at (f ++ more) < item_level op) × (begins_literal (f ++ more) ≡ false)
  item_begins m op x f more h =
      let b = item_begin m op x f more h in let same = ap strength_of b.0 in let strong = boolean_strength op in (omega (arith, strong.0), b.1)

  items_begin : (m : ℕ) (op : BooleanOperator) (xs : List Expr) (g rest : List Terminal) → 0 < length xs → Many (Item m op) xs g → (continuation_at (g ++ rest) ≡ boolean op) × (begins_literal (g ++ rest) ≡ false)
  items_begin m op [] g rest some h = absurd (omega arith)
  items_begin m op (x ∷ xs) g rest some h =
      let split : g ++ rest ≡ h.0 ++ (h.1 ++ rest) = ap (λ t. t ++ rest) h.2 ∙ append_assoc h.0 h.1 rest in
      subst (λ t. (continuation_at t ≡ boolean op) × (begins_literal t ≡ false)) (sym split) (item_begin m op x h.0 (h.1 ++ rest) h.3)

  item_long : (m : ℕ) (op : BooleanOperator) (x : Expr) (f : List Terminal) → Item m op x f → 2 ≤ length f
  item_long m op x f h = omega (arith, ap length h.1, some_terminals m (item_level op) x h.0 h.2)

  item_complete : (m : ℕ) → m ≤ n → (op : BooleanOperator) (x : Expr) (f more : List Terminal) → Item m op x f → strength_at more < item_level op → begins_literal more ≡ false
      → (o : BooleanOperator) × (rest : List Terminal) × (e : Expr) × (d : ℕ) × (with_word op (after_boolean op (f ++ more)) ≡ Some (o, rest)) × (sub (item_level o) rest ≡ Some (e, d, more)) × (e ≡ x) × (d ≤ m)
  item_complete m le op x f more h weak plain =
      let c = complete m (item_level op) x h.0 more le (item_bound op) h.2 weak plain in
      (op, h.0 ++ more, x, c.0, ap (λ t. with_word op (after_boolean op (t ++ more))) h.1 ∙ ap (with_word op) (after_word op (h.0 ++ more)), c.3, refl, c.1)

  link_begin : (m : ℕ) (x : Link) (f more : List Terminal) → Compares (Spells m) x f → (continuation_at (f ++ more) ≡ comparison) × (begins_literal (f ++ more) ≡ false)
  link_begin m x f more h =
      let split : f ++ more ≡ comparison_of x.0 ++ (h.0 ++ more) = ap (λ t. t ++ more) h.1 ∙ append_assoc (comparison_of x.0) h.0 more in
      subst (λ t. (continuation_at t ≡ comparison) × (begins_literal t ≡ false)) (sym split) (role_of_comparison x.0 (h.0 ++ more), no_str x.0 (h.0 ++ more))

  link_begins : (m : ℕ) (x : Link) (f more : List Terminal) → Compares (Spells m) x f → (strength_at (f ++ more) < 10) × (begins_literal (f ++ more) ≡ false)
  link_begins m x f more h = let b = link_begin m x f more h in let same : strength_at (f ++ more) ≡ 9 = ap strength_of b.0 in (omega arith, b.1)

  links_begin : (m : ℕ) (xs : List Link) (g rest : List Terminal) → 0 < length xs → Many (Compares (Spells m)) xs g → (continuation_at (g ++ rest) ≡ comparison) × (begins_literal (g ++ rest) ≡ false)
  links_begin m [] g rest some h = absurd (omega arith)
  links_begin m (x ∷ xs) g rest some h =
      let split : g ++ rest ≡ h.0 ++ (h.1 ++ rest) = ap (λ t. t ++ rest) h.2 ∙ append_assoc h.0 h.1 rest in
      subst (λ t. (continuation_at t ≡ comparison) × (begins_literal t ≡ false)) (sym split) (link_begin m x h.0 (h.1 ++ rest) h.3)

  link_long : (m : ℕ) (x : Link) (f : List Terminal) → Compares (Spells m) x f → 2 ≤ length f
  link_long m x f h = omega (arith, ap length h.1, length-append (comparison_of x.0) h.0, comparison_long x.0, some_terminals m 10 x.1 h.0 h.2)

  -- the operand is read, and so is the operator before it
  abbrev Operand : ℕ → ComparisonOperator → Expr → List Terminal → List Terminal → Type 0
  Operand m op e g more = (d : ℕ) × (d ≤ m) × (comparison_at (comparison_of op ++ (g ++ more)) ≡ Some (op, g ++ more)) × (compared_by sub op (g ++ more) ≡ Some (e, d, more))

  ordered : (m : ℕ) → m ≤ n → (op : ComparisonOperator) (e : Expr) (g more : List Terminal) → is_identity op ≡ false → comparison_at (comparison_of op ++ (g ++ more)) ≡ Some (op, g ++ more) → Spells m 10 e g → strength_at more < 10 → begins_literal more ≡ false
      → Operand m op e g more
  ordered m le op e g more free is h weak plain =
      let c = complete m 10 e g more le (omega arith) h weak plain in
      (c.0, c.1, is, ap (λ r. then_read r (compared_to op)) c.3 ∙ ap (λ b. if b && not (is_singleton e c.0) then None else Some (e, c.0, more)) free)

  positive : (m l : ℕ) (e : Expr) (g : List Terminal) → Spells m l e g → 0 < m
  positive zero l e g h = absurd h
  positive (suc m) l e g h = omega arith

  identical : (m : ℕ) → m ≤ n → (op : ComparisonOperator) (e : Expr) (g more : List Terminal) (w : Keyword) → g ≡ Word w ∷ [] → (after (Word token.NotWord) (g ++ more) ≡ None → comparison_at (comparison_of op ++ (g ++ more)) ≡ Some (op, g ++ more))
      → Spells m 10 e g → strength_at more < 10 → begins_literal more ≡ false → Operand m op e g more
  identical m le op e g more w one is h weak plain =
      let s = singleton m e w (subst (Spells m 10 e) one h) in
      let spelled : Spells 1 10 e g = subst (Spells 1 10 e) (sym one) s.spelled in
      let some = positive m 10 e g h in
      let c = complete 1 10 e g more (omega arith) (omega arith) spelled weak plain in
      let exact : 1 ≡ c.0 = omega (arith, c.1, c.2) in
      let known : is_singleton e c.0 ≡ true = ap (is_singleton e) (sym exact) ∙ s.is in
      (c.0, omega (arith, c.1), is (ap (λ t. after (Word token.NotWord) (t ++ more)) one ∙ s.affirms more), ap (λ r. then_read r (compared_to op)) c.3 ∙ compared_singleton op (e, c.0, more) known)

  operand_complete : (m : ℕ) → m ≤ n → (op : ComparisonOperator) (e : Expr) (g more : List Terminal) → Spells m 10 e g → (is_identity op ≡ true → (w : Keyword) × (g ≡ Word w ∷ [])) → strength_at more < 10 → begins_literal more ≡ false → Operand m op e g more
  operand_complete m le tree.Less e g more h one weak plain = ordered m le tree.Less e g more refl refl h weak plain
  operand_complete m le tree.Greater e g more h one weak plain = ordered m le tree.Greater e g more refl refl h weak plain
  operand_complete m le tree.LessEqual e g more h one weak plain = ordered m le tree.LessEqual e g more refl refl h weak plain
  operand_complete m le tree.GreaterEqual e g more h one weak plain = ordered m le tree.GreaterEqual e g more refl refl h weak plain
  operand_complete m le tree.Equal e g more h one weak plain = ordered m le tree.Equal e g more refl refl h weak plain
  operand_complete m le tree.NotEqual e g more h one weak plain = ordered m le tree.NotEqual e g more refl refl h weak plain
  operand_complete m le tree.Is e g more h one weak plain = let w = one refl in identical m le tree.Is e g more w.0 w.1 (λ a. ap (λ o. Some (identity_from (g ++ more) o)) a) h weak plain
  operand_complete m le tree.IsNot e g more h one weak plain = let w = one refl in identical m le tree.IsNot e g more w.0 w.1 (λ a. refl) h weak plain
  operand_complete m le tree.In e g more h one weak plain = ordered m le tree.In e g more refl refl h weak plain
  operand_complete m le tree.NotIn e g more h one weak plain = ordered m le tree.NotIn e g more refl refl h weak plain

  link_complete : (m : ℕ) → m ≤ n → (x : Link) (f more : List Terminal) → Compares (Spells m) x f → strength_at more < 10 → begins_literal more ≡ false
      → (o : ComparisonOperator) × (rest : List Terminal) × (e : Expr) × (d : ℕ) × (comparison_at (f ++ more) ≡ Some (o, rest)) × (compared_by sub o rest ≡ Some (e, d, more)) × ((o, e) ≡ x) × (d ≤ m)
  link_complete m le x f more h weak plain =
      let c = operand_complete m le x.0 x.1 h.0 more h.2 h.3 weak plain in
      let split : f ++ more ≡ comparison_of x.0 ++ (h.0 ++ more) = ap (λ t. t ++ more) h.1 ∙ append_assoc (comparison_of x.0) h.0 more in
      (x.0, h.0 ++ more, x.1, c.0, ap comparison_at split ∙ c.2, c.3, refl, c.1)

  module _ (l : ℕ) (low : l ≤ 16) where
    -- Reading begins with the tree, and goes on after it.
    abbrev Run : ℕ → List Terminal → Parsed
    Run k ts = then_read (operand_by sub l ts) (λ r. continued_by sub (n + 1) l k r.0 r.1 r.2)

    abbrev Reaches : ℕ → Expr → List Terminal → List Terminal → Type 0
    Reaches m e front rest = (d : ℕ) × (j : ℕ) × (d ≤ m) × (j < d) × ((k : ℕ) → Run (j + k) (front ++ rest) ≡ continued_by sub (n + 1) l k e d rest)

    abbrev Hypothesis : ℕ → Type 0
    Hypothesis m = (level : ℕ) (e : Expr) (front rest : List Terminal) → Spells m level e front → strength_at rest ≤ level → begins_literal rest ≡ false → l ≤ level → Reaches m e front rest

    once : (k : ℕ) (e : Expr) (d : ℕ) (ts : List Terminal) → l ≤ strength_at ts → (e' : Expr) (d' : ℕ) (ts' : List Terminal) → extended_by sub (n + 1) e d ts (continuation_at ts) ≡ Some (e', d', ts')
        → continued_by sub (n + 1) l (k + 1) e d ts ≡ continued_by sub (n + 1) l k e' d' ts'
    once k e d ts strong e' d' ts' h =
        let same : k + 1 - 1 ≡ k = omega arith in
        continued_by_step sub (n + 1) l (k + 1) e d ts (omega arith)
        ∙ ap (λ b. if b then Some (e, d, ts) else then_read (extended_by sub (n + 1) e d ts (continuation_at ts)) (λ r. continued_by sub (n + 1) l (k + 1 - 1) r.0 r.1 r.2)) (ge_to (strength_at ts) l strong)
        ∙ ap (λ o. then_read o (λ r. continued_by sub (n + 1) l (k + 1 - 1) r.0 r.1 r.2)) h
        ∙ ap (λ i. continued_by sub (n + 1) l i e' d' ts') same

    -- one operator or call after what was reached
    extends : (m : ℕ) (a e : Expr) (f tail rest : List Terminal) (d : ℕ) → (r : Reaches m a f (tail ++ rest)) → l ≤ strength_at (tail ++ rest) → d ≤ m + 1 → r.0 < d
        → extended_by sub (n + 1) a r.0 (tail ++ rest) (continuation_at (tail ++ rest)) ≡ Some (e, d, rest)
        → Reaches (suc m) e (f ++ tail) rest
    extends m a e f tail rest d r strong deep deeper h = (
      d,
      r.1 + 1,
      omega arith,
      omega (arith, r.3),
      λ k.
          let turns : r.1 + 1 + k ≡ r.1 + (k + 1) = omega arith in
          ap (λ t. Run (r.1 + 1 + k) t) (append_assoc f tail rest) ∙ ap (λ i. Run i (f ++ (tail ++ rest))) turns ∙ r.4 (k + 1) ∙ once k a r.0 (tail ++ rest) strong e d rest h,
    )

    -- an operand is reached in no turn
    starts : (m : ℕ) (e : Expr) (front rest : List Terminal) (d : ℕ) → 0 < d → d ≤ m → operand_by sub l (front ++ rest) ≡ Some (e, d, rest) → Reaches m e front rest
    starts m e front rest d positive deep h = (
      d,
      0,
      deep,
      positive,
      λ k.
          let same : 0 + k ≡ k = omega arith in
          ap (λ r. then_read r (λ r. continued_by sub (n + 1) l (0 + k) r.0 r.1 r.2)) h ∙ ap (λ i. continued_by sub (n + 1) l i e d rest) same,
    )

    binary_reached : (m : ℕ) → m ≤ n → Hypothesis m → (level : ℕ) (op : BinaryOperator) (a b : Expr) (f g rest : List Terminal) → level ≤ level_of op → Spells m (left_level op) a f → Spells m (right_level op) b g → strength_at rest ≤ level → begins_literal rest ≡ false → l ≤ level
        → Reaches (suc m) (tree.Binary op a b) (f ++ Sign (symbol_of op) ∷ g) rest
    binary_reached m le ih level op a b f g rest under ha hb weak plain at =
        let tail = Sign (symbol_of op) ∷ g in
        let role = role_of_symbol op in
        let strength : strength_at (tail ++ rest) ≡ left_level op = ap strength_of role in
        let higher = level_under op in
        let left = ih (left_level op) a f (tail ++ rest) ha (omega arith) refl (omega arith) in
        let right = complete m (right_level op) b g rest le (right_bound op) hb (right_weaker op rest (omega arith)) plain in
        let d = max left.0 right.0 + 1 in
        let shallow : d ≤ n + 1 = omega (arith, left.2, right.1) in
        extends m a (tree.Binary op a b) f tail rest d left (omega arith) (omega (arith, left.2, right.1)) (omega arith)
        (
        ap (extended_by sub (n + 1) a left.0 (tail ++ rest)) role
        ∙ ap (λ r. then_read r (λ r. within (n + 1) (tree.Binary op a r.0) (max left.0 r.1 + 1) r.2)) right.3
        ∙ within_ok (n + 1) (tree.Binary op a b) d rest shallow
        )

    attribute_reached : (m : ℕ) → m ≤ n → Hypothesis m → (a : Expr) (x : List ℕ) (f rest : List Terminal) → Spells m 18 a f → Reaches (suc m) (tree.Attribute a x) (f ++ Sign token.Dot ∷ (NAME x ∷ [])) rest
    attribute_reached m le ih a x f rest ha =
        let tail = Sign token.Dot ∷ (NAME x ∷ []) in
        let left = ih 18 a f (tail ++ rest) ha (omega arith) refl (omega arith) in
        let d = left.0 + 1 in
        let shallow : d ≤ n + 1 = omega (arith, left.2) in
        extends m a (tree.Attribute a x) f tail rest d left (omega arith) (omega (arith, left.2)) (omega arith) (within_ok (n + 1) (tree.Attribute a x) d rest shallow)

    call_reached : (m : ℕ) → (le : m ≤ n) → Hypothesis m → (a : Expr) (y : Option (List ℕ)) (args : tree.Exprs) (names : List (List ℕ)) (p : Expr) (passed : List Argument) (f g rest : List Terminal) → Spells m 18 p f → callee_of p ≡ (a, y)
        → IsPassed passed (items_of args) names → Separated (Passes (Spells m)) token.Comma passed g → Reaches (suc m) (tree.Call a y args names) (f ++ Sign token.LeftParenthesis ∷ (g ++ Sign token.RightParenthesis ∷ [])) rest
    call_reached m le ih a y args names p passed f g rest hp is once hs =
        let tail = Sign token.LeftParenthesis ∷ (g ++ Sign token.RightParenthesis ∷ []) in
        let left = ih 18 p f (tail ++ rest) hp (omega arith) refl (omega arith) in
        let right = arguments_complete m le passed g rest hs in
        let d = max left.0 right.0 + 1 in
        let shallow : d ≤ n + 1 = omega (arith, left.2, right.1) in
        let same : (g ++ Sign token.RightParenthesis ∷ []) ++ rest ≡ g ++ Sign token.RightParenthesis ∷ rest = append_assoc g (Sign token.RightParenthesis ∷ []) rest in
        extends m p (tree.Call a y args names) f tail rest d left (omega arith) (omega (arith, left.2, right.1)) (omega arith)
        (
        ap (λ t. call_by sub (n + 1) p left.0 t) same
        ∙ ap (λ r. then_read r (called (n + 1) p left.0)) right.2
        ∙ ap (λ o. then_read o (λ q. within (n + 1) (call_of p q) d rest)) (passed_complete passed (items_of args) names once)
        ∙ ap (λ c. within (n + 1) (tree.Call c.0 c.1 (exprs_of (items_of args)) names) d rest) is
        ∙ ap (λ t. within (n + 1) (tree.Call a y t names) d rest) (exprs_of_items args)
        ∙ within_ok (n + 1) (tree.Call a y args names) d rest shallow
        )

    subscript_reached : (m : ℕ) → m ≤ n → Hypothesis m → (a b : Expr) (f g rest : List Terminal) → Spells m 18 a f → Spells m 1 b g
        → Reaches (suc m) (tree.Subscript a b) (f ++ Sign token.LeftBracket ∷ (g ++ Sign token.RightBracket ∷ [])) rest
    subscript_reached m le ih a b f g rest ha hb =
        let tail = Sign token.LeftBracket ∷ (g ++ Sign token.RightBracket ∷ []) in
        let left = ih 18 a f (tail ++ rest) ha (omega arith) refl (omega arith) in
        let right = complete m 1 b g (Sign token.RightBracket ∷ rest) le (omega arith) hb (omega arith) refl in
        let d = max left.0 right.0 + 1 in
        let shallow : d ≤ n + 1 = omega (arith, left.2, right.1) in
        let same : (g ++ Sign token.RightBracket ∷ []) ++ rest ≡ g ++ Sign token.RightBracket ∷ rest = append_assoc g (Sign token.RightBracket ∷ []) rest in
        extends m a (tree.Subscript a b) f tail rest d left (omega arith) (omega (arith, left.2, right.1)) (omega arith)
        (
        ap (λ t. subscript_by sub (n + 1) a left.0 t) same
        ∙ ap (λ i. then_read i (λ i. then_read (after (Sign token.RightBracket) i.2) (indexed (n + 1) a left.0 i))) right.3
        ∙ within_ok (n + 1) (tree.Subscript a b) d rest shallow
        )

    unary_reached : (m : ℕ) → m ≤ n → (level : ℕ) (op : UnaryOperator) (a : Expr) (f rest : List Terminal) → level ≤ prefix_level op → Spells m (prefix_level op) a f → strength_at rest ≤ level → begins_literal rest ≡ false → l ≤ level
        → Reaches (suc m) (tree.Unary op a) (prefix_of op ∷ f) rest
    unary_reached m le level op a f rest under ha weak plain at =
        let inner = complete m (prefix_level op) a f rest le (prefix_bound op) ha (prefix_gap op rest (omega arith)) plain in
        starts (suc m) (tree.Unary op a) (prefix_of op ∷ f) rest (inner.0 + 1) (omega arith) (omega (arith, inner.1))
        (
        ap (operand_from sub l (prefix_of op ∷ (f ++ rest))) (prefix_begins op (f ++ rest))
        ∙ ap (λ b. if b then then_read (sub (prefix_level op) (f ++ rest)) (λ r. Some (tree.Unary op r.0, r.1 + 1, r.2)) else None) (le_to l (prefix_level op) (omega arith))
        ∙ ap (λ r. then_read r (λ r. Some (tree.Unary op r.0, r.1 + 1, r.2))) inner.3
        )

    bracket_reached : (m : ℕ) → m ≤ n → (e : Expr) (f rest : List Terminal) → Spells m 1 e f → Reaches (suc m) e (Sign token.LeftParenthesis ∷ (f ++ Sign token.RightParenthesis ∷ [])) rest
    bracket_reached m le e f rest he =
        let inner = first_read m le e f (Sign token.RightParenthesis ∷ rest) he (omega arith, refl) in
        let same : (f ++ Sign token.RightParenthesis ∷ []) ++ rest ≡ f ++ Sign token.RightParenthesis ∷ rest = append_assoc f (Sign token.RightParenthesis ∷ []) rest in
        starts (suc m) e (Sign token.LeftParenthesis ∷ (f ++ Sign token.RightParenthesis ∷ [])) rest (inner.0 + 1) (omega arith) (omega (arith, inner.1)) (ap (bracketed_by sub) same ∙ inner.2)

    tuple_reached : (m : ℕ) → m ≤ n → (items : Exprs) (f rest : List Terminal) → Ended (Spells m 1) token.Comma (items_of items) f → Reaches (suc m) (tree.Tuple items) (Sign token.LeftParenthesis ∷ (f ++ Sign token.RightParenthesis ∷ [])) rest
    tuple_reached m le items f rest h =
        let inner = tuple_complete m le (items_of items) f rest h in
        let same : (f ++ Sign token.RightParenthesis ∷ []) ++ rest ≡ f ++ Sign token.RightParenthesis ∷ rest = append_assoc f (Sign token.RightParenthesis ∷ []) rest in
        starts (suc m) (tree.Tuple items) (Sign token.LeftParenthesis ∷ (f ++ Sign token.RightParenthesis ∷ [])) rest (inner.0 + 1) (omega arith) (omega (arith, inner.1))
        (ap (bracketed_by sub) same ∙ inner.2 ∙ ap (λ t. Some (tree.Tuple t, inner.0 + 1, rest)) (exprs_of_items items))

    list_reached : (m : ℕ) → m ≤ n → (items : Exprs) (f rest : List Terminal) → Separated (Spells m 1) token.Comma (items_of items) f → Reaches (suc m) (tree.ListDisplay items) (Sign token.LeftBracket ∷ (f ++ Sign token.RightBracket ∷ [])) rest
    list_reached m le items f rest h =
        let inner = list_complete m le (items_of items) f rest h in
        let same : (f ++ Sign token.RightBracket ∷ []) ++ rest ≡ f ++ Sign token.RightBracket ∷ rest = append_assoc f (Sign token.RightBracket ∷ []) rest in
        starts (suc m) (tree.ListDisplay items) (Sign token.LeftBracket ∷ (f ++ Sign token.RightBracket ∷ [])) rest (inner.0 + 1) (omega arith) (omega (arith, inner.1))
        (ap (list_by sub) same ∙ inner.2 ∙ ap (λ t. Some (tree.ListDisplay t, inner.0 + 1, rest)) (exprs_of_items items))

    dict_reached : (m : ℕ) → m ≤ n → (items : Exprs) (ps : List Pair) (f rest : List Terminal) → items_of items ≡ flat_map both ps → Separated (PairsOf (Spells m)) token.Comma ps f
        → Reaches (suc m) (tree.DictDisplay items) (Sign token.LeftBrace ∷ (f ++ Sign token.RightBrace ∷ [])) rest
    dict_reached m le items ps f rest is h =
        let inner = dict_complete m le ps f rest h in
        let same : (f ++ Sign token.RightBrace ∷ []) ++ rest ≡ f ++ Sign token.RightBrace ∷ rest = append_assoc f (Sign token.RightBrace ∷ []) rest in
        starts (suc m) (tree.DictDisplay items) (Sign token.LeftBrace ∷ (f ++ Sign token.RightBrace ∷ [])) rest (inner.0 + 1) (omega arith) (omega (arith, inner.1))
        (ap (dict_by sub) same ∙ inner.2 ∙ ap (λ t. Some (tree.DictDisplay t, inner.0 + 1, rest)) (ap exprs_of (sym is) ∙ exprs_of_items items))

    compare_reached : (m : ℕ) → m ≤ n → Hypothesis m → (level : ℕ) (a : Expr) (cs : tree.Comparisons) (f g rest : List Terminal) → level ≤ 8 → Spells m 10 a f → 0 < length (links_of cs) → Many (Compares (Spells m)) (links_of cs) g
        → strength_at rest ≤ level → begins_literal rest ≡ false → l ≤ level → Reaches (suc m) (tree.Compare a cs) (f ++ g) rest
    compare_reached m le ih level a cs f g rest under ha some hs weak plain at =
        let first = links_begin m (links_of cs) g rest some hs in
        let strength : strength_at (g ++ rest) ≡ 9 = ap strength_of first.0 in
        let left = ih 10 a f (g ++ rest) ha (omega arith) first.1 (omega arith) in
        let long = many_long (Compares (Spells m)) (link_long m) (links_of cs) g hs in
        let fuel : length (links_of cs) < length (g ++ rest) = omega (arith, length-append g rest) in
        let chain = chain_complete (λ o e. (o, e)) comparison_at (compared_by sub) (Compares (Spells m)) m 10 (link_complete m le) (link_begins m) (length (g ++ rest)) ([], 0) (links_of cs) g rest fuel (omega arith) hs (omega arith, plain) (comparison_none rest (omega arith)) in
        let d = max left.0 chain.0 + 1 in
        let shallow : d ≤ n + 1 = omega (arith, left.2, chain.1) in
        extends m a (tree.Compare a cs) f g rest d left (omega arith) (omega (arith, left.2, chain.1)) (omega arith)
        (
        ap (extended_by sub (n + 1) a left.0 (g ++ rest)) first.0
        ∙ ap (λ r. then_read r (λ r. within (n + 1) (tree.Compare a (chain_of r.0.0)) (max left.0 r.0.1 + 1) r.1)) chain.2
        ∙ ap (λ t. within (n + 1) (tree.Compare a t) d rest) (chain_of_links cs)
        ∙ within_ok (n + 1) (tree.Compare a cs) d rest shallow
        )

    boolean_reached : (m : ℕ) → m ≤ n → Hypothesis m → (level : ℕ) (op : BooleanOperator) (a : Expr) (others : tree.Exprs) (f g rest : List Terminal) → level ≤ boolean_level op → Spells m (item_level op) a f
        → 0 < length (items_of others) → Many (Item m op) (items_of others) g → strength_at rest ≤ level → begins_literal rest ≡ false → l ≤ level → Reaches (suc m) (tree.Boolean op a others) (f ++ g) rest
    boolean_reached m le ih level op a others f g rest under ha some hs weak plain at =
        let first = items_begin m op (items_of others) g rest some hs in
        let bounds = boolean_strength op in
        let strength : strength_at (g ++ rest) ≡ strength_of (boolean op) = ap strength_of first.0 in
        let left = ih (item_level op) a f (g ++ rest) ha (omega (arith, bounds.0)) first.1 (omega (arith, bounds.0, bounds.1)) in
        let long = many_long (Item m op) (item_long m op) (items_of others) g hs in
        let fuel : length (items_of others) < length (g ++ rest) = omega (arith, length-append g rest) in
        let chain = chain_complete (λ o e. e) (λ ts. with_word op (after_boolean op ts)) (λ o. sub (item_level o)) (Item m op) m (item_level op) (item_complete m le op) (item_begins m op) (length (g ++ rest)) ([], 0) (items_of others) g rest
        fuel (omega arith) hs (omega (arith, bounds.0, bounds.1), plain) (ap (with_word op) (boolean_none op rest (omega arith))) in
        let d = max left.0 chain.0 + 1 in
        let shallow : d ≤ n + 1 = omega (arith, left.2, chain.1) in
        extends m a (tree.Boolean op a others) f g rest d left (omega (arith, bounds.1)) (omega (arith, left.2, chain.1)) (omega arith)
        (
        ap (extended_by sub (n + 1) a left.0 (g ++ rest)) first.0
        ∙ ap (λ r. then_read r (λ r. within (n + 1) (tree.Boolean op a (exprs_of r.0.0)) (max left.0 r.0.1 + 1) r.1)) chain.2
        ∙ ap (λ t. within (n + 1) (tree.Boolean op a t) d rest) (exprs_of_items others)
        ∙ within_ok (n + 1) (tree.Boolean op a others) d rest shallow
        )

    conditional_reached : (m : ℕ) → m ≤ n → Hypothesis m → (level : ℕ) (test value other : Expr) (f g h rest : List Terminal) → level ≤ 1 → Spells m 3 value f → Spells m 3 test g → Spells m 1 other h
        → strength_at rest ≤ level → begins_literal rest ≡ false → l ≤ level → Reaches (suc m) (tree.Conditional test value other) (f ++ Word token.IfWord ∷ (g ++ Word token.ElseWord ∷ h)) rest
    conditional_reached m le ih level test value other f g h rest under hv ht ho weak plain at =
        let tail = Word token.IfWord ∷ (g ++ Word token.ElseWord ∷ h) in
        let left = ih 3 value f (tail ++ rest) hv (omega arith) refl (omega arith) in
        let mid = complete m 3 test g (Word token.ElseWord ∷ (h ++ rest)) le (omega arith) ht (omega arith) refl in
        let right = complete m 1 other h rest le (omega arith) ho (conditional_gap rest (omega arith)) plain in
        let d = max left.0 (max mid.0 right.0) + 1 in
        let shallow : d ≤ n + 1 = omega (arith, left.2, mid.1, right.1) in
        let same : (g ++ Word token.ElseWord ∷ h) ++ rest ≡ g ++ Word token.ElseWord ∷ (h ++ rest) = append_assoc g (Word token.ElseWord ∷ h) rest in
        extends m value (tree.Conditional test value other) f tail rest d left (omega arith) (omega (arith, left.2, mid.1, right.1)) (omega arith)
        (
        ap (conditional_by sub (n + 1) value left.0) same
        ∙ ap (λ t. then_read t (λ t. then_read (after (Word token.ElseWord) t.2) (other_by sub (n + 1) value left.0 t))) mid.3
        ∙ ap (λ o. then_read o (λ o. within (n + 1) (tree.Conditional test value o.0) (max left.0 (max mid.0 o.1) + 1) o.2)) right.3
        ∙ within_ok (n + 1) (tree.Conditional test value other) d rest shallow
        )

    moved : (m : ℕ) (e : Expr) (f g rest : List Terminal) → g ≡ f → Reaches m e f rest → Reaches m e g rest
    moved m e f g rest same r = let P : List Terminal → Type 0 = λ t. Reaches m e t rest in subst P (sym same) r

    reached : (m : ℕ) → m ≤ n + 1 → Hypothesis m
    reached zero le level e front rest h weak plain at = absurd h
    reached (suc m) le level (tree.Name x) front rest (inl h) weak plain at =
        moved (suc m) (tree.Name x) (NAME x ∷ []) front rest h (starts (suc m) (tree.Name x) (NAME x ∷ []) rest 1 (omega arith) (omega arith) refl)
    reached (suc m) le level (tree.Constant (Int i)) front rest (inl h) weak plain at =
        moved (suc m) (tree.Constant (Int i)) (NUMBER h.0 ∷ []) front rest h.1
        (starts (suc m) (tree.Constant (Int i)) (NUMBER h.0 ∷ []) rest 1 (omega arith) (omega arith) (ap (λ o. then_read o (λ n. Some (tree.Constant (Int n), 1, rest))) h.2))
    reached (suc m) le level (tree.Constant (Str s)) front rest (inl h) weak plain at =
        starts (suc m) (tree.Constant (Str s)) front rest 1 (omega arith) (omega arith) (string_operand sub l s front rest h.0 h.1 h.2 plain)
    reached (suc m) le level (tree.Constant Nothing) front rest (inl h) weak plain at =
        moved (suc m) (tree.Constant Nothing) (Word token.NoneWord ∷ []) front rest h (starts (suc m) (tree.Constant Nothing) (Word token.NoneWord ∷ []) rest 1 (omega arith) (omega arith) refl)
    reached (suc m) le level (tree.Constant (Truth true)) front rest (inl h) weak plain at =
        moved (suc m) (tree.Constant (Truth true)) (Word token.TrueWord ∷ []) front rest h (starts (suc m) (tree.Constant (Truth true)) (Word token.TrueWord ∷ []) rest 1 (omega arith) (omega arith) refl)
    reached (suc m) le level (tree.Constant (Truth false)) front rest (inl h) weak plain at =
        moved (suc m) (tree.Constant (Truth false)) (Word token.FalseWord ∷ []) front rest h (starts (suc m) (tree.Constant (Truth false)) (Word token.FalseWord ∷ []) rest 1 (omega arith) (omega arith) refl)
    reached (suc m) le level (tree.Constant (Provided b)) front rest (inl h) weak plain at = absurd h
    reached (suc m) le level (tree.Constant (Bytes bs)) front rest (inl h) weak plain at =
        starts (suc m) (tree.Constant (Bytes bs)) front rest 1 (omega arith) (omega arith) (bytes_operand sub l bs front rest h.0 h.1 h.2 plain)
    reached (suc m) le level (tree.Unary op a) front rest (inl h) weak plain at =
        moved (suc m) (tree.Unary op a) (prefix_of op ∷ h.0) front rest h.1 (unary_reached m (omega arith) level op a h.0 rest h.2 h.3 weak plain at)
    reached (suc m) le level (tree.Binary op a b) front rest (inl h) weak plain at =
        moved (suc m) (tree.Binary op a b) (h.0 ++ Sign (symbol_of op) ∷ h.1) front rest h.2 (binary_reached m (omega arith) (reached m (omega arith)) level op a b h.0 h.1 rest h.3 h.4 h.5 weak plain at)
    reached (suc m) le level (tree.Constant (Function x i)) front rest (inl h) weak plain at = absurd h
    reached (suc m) le level (tree.Constant (Range a b c)) front rest (inl h) weak plain at = absurd h
    reached (suc m) le level (tree.Constant (Tuple us)) front rest (inl h) weak plain at = absurd h
    reached (suc m) le level (tree.Constant (Class i)) front rest (inl h) weak plain at = absurd h
    reached (suc m) le level (tree.Constant (Module i)) front rest (inl h) weak plain at = absurd h
    reached (suc m) le level (tree.Constant (Queue i k)) front rest (inl h) weak plain at = absurd h
    reached (suc m) le level (tree.Constant (Interpreter i)) front rest (inl h) weak plain at = absurd h
    reached (suc m) le level (tree.Constant (Exec i)) front rest (inl h) weak plain at = absurd h
    reached (suc m) le level (tree.Constant (Address x)) front rest (inl h) weak plain at = absurd h
    reached (suc m) le level (tree.Attribute a x) front rest (inl h) weak plain at =
        moved (suc m) (tree.Attribute a x) (h.0 ++ Sign token.Dot ∷ (NAME x ∷ [])) front rest h.1 (attribute_reached m (omega arith) (reached m (omega arith)) a x h.0 rest h.3)
    reached (suc m) le level (tree.Call a y args names) front rest (inl h) weak plain at =
        moved (suc m) (tree.Call a y args names) (h.0 ++ Sign token.LeftParenthesis ∷ (h.1 ++ Sign token.RightParenthesis ∷ [])) front rest h.4
        (call_reached m (omega arith) (reached m (omega arith)) a y args names h.2 h.3 h.0 h.1 rest h.6 h.7 h.8 h.9)
    reached (suc m) le level (tree.Subscript a b) front rest (inl h) weak plain at =
        moved (suc m) (tree.Subscript a b) (h.0 ++ Sign token.LeftBracket ∷ (h.1 ++ Sign token.RightBracket ∷ [])) front rest h.2
        (subscript_reached m (omega arith) (reached m (omega arith)) a b h.0 h.1 rest h.4 h.5)
    reached (suc m) le level (tree.Tuple items) front rest (inl h) weak plain at =
        moved (suc m) (tree.Tuple items) (Sign token.LeftParenthesis ∷ (h.0 ++ Sign token.RightParenthesis ∷ [])) front rest h.1 (tuple_reached m (omega arith) items h.0 rest h.2)
    reached (suc m) le level (tree.ListDisplay items) front rest (inl h) weak plain at =
        moved (suc m) (tree.ListDisplay items) (Sign token.LeftBracket ∷ (h.0 ++ Sign token.RightBracket ∷ [])) front rest h.1 (list_reached m (omega arith) items h.0 rest h.2)
    reached (suc m) le level (tree.DictDisplay items) front rest (inl h) weak plain at =
        moved (suc m) (tree.DictDisplay items) (Sign token.LeftBrace ∷ (h.1 ++ Sign token.RightBrace ∷ [])) front rest h.2 (dict_reached m (omega arith) items h.0 h.1 rest h.3 h.4)
    reached (suc m) le level (tree.Compare a cs) front rest (inl h) weak plain at =
        moved (suc m) (tree.Compare a cs) (h.0 ++ h.1) front rest h.2 (compare_reached m (omega arith) (reached m (omega arith)) level a cs h.0 h.1 rest h.3 h.4 h.5 h.6 weak plain at)
    reached (suc m) le level (tree.Boolean op a others) front rest (inl h) weak plain at =
        moved (suc m) (tree.Boolean op a others) (h.0 ++ h.1) front rest h.2 (boolean_reached m (omega arith) (reached m (omega arith)) level op a others h.0 h.1 rest h.3 h.4 h.5 h.6 weak plain at)
    reached (suc m) le level (tree.Conditional test value other) front rest (inl h) weak plain at =
        moved (suc m) (tree.Conditional test value other) (h.0 ++ Word token.IfWord ∷ (h.1 ++ Word token.ElseWord ∷ h.2)) front rest h.3
        (conditional_reached m (omega arith) (reached m (omega arith)) level test value other h.0 h.1 h.2 rest h.4 h.5 h.6 h.7 weak plain at)
    reached (suc m) le level e front rest (inr h) weak plain at =
        moved (suc m) e (Sign token.LeftParenthesis ∷ (h.0 ++ Sign token.RightParenthesis ∷ [])) front rest h.1 (bracket_reached m (omega arith) e h.0 rest h.2)

  stops : (l k : ℕ) (e : Expr) (d : ℕ) (ts : List Terminal) → 0 < k → strength_at ts < l → continued_by sub (n + 1) l k e d ts ≡ Some (e, d, ts)
  stops l k e d ts h s =
      continued_by_step sub (n + 1) l k e d ts h
      ∙ ap (λ b. if b then Some (e, d, ts) else then_read (extended_by sub (n + 1) e d ts (continuation_at ts)) (λ r. continued_by sub (n + 1) l (k - 1) r.0 r.1 r.2)) (lt_to (strength_at ts) l s)

  expression_read : IsComplete (n + 1) (λ l ts. then_read (operand_by sub l ts) (λ r. continued_by sub (n + 1) l (n + 1) r.0 r.1 r.2))
  expression_read m l e front rest le low h weak plain =
      let r = reached l low m le l e front rest h (omega arith) plain (omega arith) in
      let k = n + 1 - r.1 in
      let turns : n + 1 ≡ r.1 + k = omega (arith, r.2, r.3) in
      let left : 0 < k = omega (arith, r.2, r.3) in (
        r.0,
        r.2,
        omega (arith, r.3),
        ap (λ i. then_read (operand_by sub l (front ++ rest)) (λ r. continued_by sub (n + 1) l i r.0 r.1 r.2)) turns ∙ r.4 k ∙ stops l k e r.0 rest left weak,
      )

-- each expression of the grammar is read, where no longer one can begin
pub expression_complete : (n : ℕ) → IsComplete n (expression_at n)
unfolding expression_at
expression_complete zero m l e front rest le low h weak plain =
    let nothing : m ≡ 0 = omega arith in absurd (subst (λ k. Spells k l e front) nothing h)
expression_complete (suc n) m l e front rest le low h weak plain =
    let same : n + 1 ≡ suc n = add-one n in
    let r = expression_read n (expression_at n) (expression_complete n) m l e front rest (omega arith) low h weak plain in
    (r.0, r.1, r.2, subst (λ k. then_read (operand_by (expression_at n) l (front ++ rest)) (λ r. continued_by (expression_at n) k l k r.0 r.1 r.2) ≡ Some (e, r.0, rest)) same r.3)
