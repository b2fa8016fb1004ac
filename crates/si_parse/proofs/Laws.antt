-- Laws of the grammar: a limit may be raised, and a looser level asked.
use Rattle.std.proofs.Common.{◌≡◌, ℕ, zero, suc, ◌+◌, ◌≤◌, List, [], ◌∷◌, ◌++◌, inl, inr, Option, Some, None, refl, sym, ap, ◌∙◌, subst, arith, add-one}
use Rattle.std.specs.Prelude.{option_map}
use Rattle.si_semantics.specs.Value.{Nothing, Truth, Int, Str, Bytes, Provided, Function, Range, Tuple, Class, Module, Queue, Interpreter, Exec, Address}
use Rattle.si_semantics.specs.Tree.{UnaryOperator, ComparisonOperator, BooleanOperator, Expr, Exprs, Comparisons}
use Rattle.si_semantics.specs.Tree as tree
use Rattle.si_semantics.specs.Tokens.{Symbol, Keyword}
use Rattle.si_semantics.specs.Tokens as token
use Rattle.si_semantics.specs.Grammar.{Terminal, NAME, Sign, Word, NEWLINE, INDENT, Language, prefix_level, prefix_of, item_level, word_of, comparison_of, Many, After, Following, Separated, Ended, Argument, Positional, ByName, Passes, items_of, exprs_of, Link, links_of, chain_of, Compares, PairsOf, Produces, Spells}
use Rattle.si_parse.specs.inner.Lookahead.{rest_of, Header, if_header, while_header, for_header, try_header, def_header, header_at, after_boolean, after}
use Rattle.si_parse.specs.inner.Lists.{then_read}
use Rattle.si_parse.specs.inner.Names.{name_at}
use Rattle.si_parse.specs.inner.Expressions.{named_at, with_word, prefix_at, comparison_symbol, identity_from, comparison_at}

-- ---- lists of items

abbrev pub Items : Type 0 → Type 1
Items A = A → List Terminal → Type 0

module _ {A : Type 0} (I J : Items A) (s : Symbol) (w : (x : A) (ts : List Terminal) → I x ts → J x ts) where
  pub following_mono : (xs : List A) (ts : List Terminal) → Following I s xs ts → Following J s xs ts
  following_mono [] ts h = h
  following_mono (x ∷ xs) ts h = (h.0, h.1, h.2, w x h.0 h.3, following_mono xs h.1 h.4)

  pub separated_mono : (xs : List A) (ts : List Terminal) → Separated I s xs ts → Separated J s xs ts
  separated_mono [] ts h = h
  separated_mono (x ∷ xs) ts h = (h.0, h.1, h.2, w x h.0 h.3, following_mono xs h.1 h.4)

  pub ended_mono : (xs : List A) (ts : List Terminal) → Ended I s xs ts → Ended J s xs ts
  ended_mono [] ts h = h
  ended_mono (x ∷ []) ts h = (h.0, h.1, w x h.0 h.2)
  ended_mono (x ∷ y ∷ xs) ts h = separated_mono (x ∷ y ∷ xs) ts h

module _ {A : Type 0} (I J : Items A) (w : (x : A) (ts : List Terminal) → I x ts → J x ts) where
  pub many_mono : (xs : List A) (ts : List Terminal) → Many I xs ts → Many J xs ts
  many_mono [] ts h = h
  many_mono (x ∷ xs) ts h = (h.0, h.1, h.2, w x h.0 h.3, many_mono xs h.1 h.4)

-- ---- expressions

abbrev Within : Language → Language → Type 0
Within E F = (l : ℕ) (e : Expr) (ts : List Terminal) → E l e ts → F l e ts

pub compares_mono : (E F : Language) → Within E F → (x : Link) (ts : List Terminal) → Compares E x ts → Compares F x ts
compares_mono E F w x ts h = (h.0, h.1, w 10 x.1 h.0 h.2, h.3)

pub passes_mono : (E F : Language) → Within E F → (a : Argument) (ts : List Terminal) → Passes E a ts → Passes F a ts
passes_mono E F w (Positional e) ts h = w 1 e ts h
passes_mono E F w (ByName x e) ts h = (h.0, h.1, w 1 e h.0 h.2)

pub after_mono : (E F : Language) (t : Terminal) (l : ℕ) → Within E F → (e : Expr) (ts : List Terminal) → After t (E l) e ts → After t (F l) e ts
after_mono E F t l w e ts h = (h.0, h.1, w l e h.0 h.2)

pairs_mono : (E F : Language) → Within E F → (p : Expr × Expr) (ts : List Terminal) → PairsOf E p ts → PairsOf F p ts
pairs_mono E F w p ts h = (h.0, h.1, h.2, w 1 p.0 h.0 h.3, w 1 p.1 h.1 h.4)

produces_mono : (E F : Language) → Within E F → (l : ℕ) (e : Expr) (ts : List Terminal) → Produces E l e ts → Produces F l e ts
produces_mono E F w l (tree.Name x) ts h = h
produces_mono E F w l (tree.Constant (Int n)) ts h = h
produces_mono E F w l (tree.Constant (Str s)) ts h = h
produces_mono E F w l (tree.Constant Nothing) ts h = h
produces_mono E F w l (tree.Constant (Truth b)) ts h = h
produces_mono E F w l (tree.Constant (Provided b)) ts h = h
produces_mono E F w l (tree.Constant (Bytes bs)) ts h = h
produces_mono E F w l (tree.Unary op a) ts h = (h.0, h.1, h.2, w (prefix_level op) a h.0 h.3)
produces_mono E F w l (tree.Binary op a b) ts h = (h.0, h.1, h.2, h.3, w _ a h.0 h.4, w _ b h.1 h.5)
produces_mono E F w l (tree.Constant (Function x k)) ts h = h
produces_mono E F w l (tree.Constant (Range a b c)) ts h = h
produces_mono E F w l (tree.Constant (Tuple us)) ts h = h
produces_mono E F w l (tree.Constant (Class k)) ts h = h
produces_mono E F w l (tree.Constant (Module m)) ts h = h
produces_mono E F w l (tree.Constant (Queue i j)) ts h = h
produces_mono E F w l (tree.Constant (Interpreter i)) ts h = h
produces_mono E F w l (tree.Constant (Exec i)) ts h = h
produces_mono E F w l (tree.Constant (Address x)) ts h = h
produces_mono E F w l (tree.Attribute a x) ts h = (h.0, h.1, h.2, w _ a h.0 h.3)
produces_mono E F w l (tree.Call a x args names) ts h = (h.0, h.1, h.2, h.3, h.4, h.5, w _ h.2 h.0 h.6, h.7, h.8, separated_mono (Passes E) (Passes F) token.Comma (passes_mono E F w) h.3 h.1 h.9)
produces_mono E F w l (tree.Subscript a b) ts h = (h.0, h.1, h.2, h.3, w _ a h.0 h.4, w _ b h.1 h.5)
produces_mono E F w l (tree.Tuple items) ts h = (h.0, h.1, ended_mono (E 1) (F 1) token.Comma (w 1) (items_of items) h.0 h.2)
produces_mono E F w l (tree.ListDisplay items) ts h = (h.0, h.1, separated_mono (E 1) (F 1) token.Comma (w 1) (items_of items) h.0 h.2)
produces_mono E F w l (tree.DictDisplay items) ts h = (h.0, h.1, h.2, h.3, separated_mono (PairsOf E) (PairsOf F) token.Comma (pairs_mono E F w) h.0 h.1 h.4)
produces_mono E F w l (tree.Compare a cs) ts h = (h.0, h.1, h.2, h.3, w 10 a h.0 h.4, h.5, many_mono (Compares E) (Compares F) (compares_mono E F w) (links_of cs) h.1 h.6)
produces_mono E F w l (tree.Boolean op a others) ts h = (
  h.0,
  h.1,
  h.2,
  h.3,
  w (item_level op) a h.0 h.4,
  h.5,
  many_mono (After (Word (word_of op)) (E (item_level op))) (After (Word (word_of op)) (F (item_level op))) (after_mono E F (Word (word_of op)) (item_level op) w) (items_of others) h.1 h.6,
)
produces_mono E F w l (tree.Conditional test value other) ts h = (h.0, h.1, h.2, h.3, h.4, w 3 value h.0 h.5, w 3 test h.1 h.6, w 1 other h.2 h.7)

produces_looser : (E : Language) (k l : ℕ) (e : Expr) (ts : List Terminal) → k ≤ l → Produces E l e ts → Produces E k e ts
produces_looser E k l (tree.Name x) ts le h = h
produces_looser E k l (tree.Constant (Int n)) ts le h = h
produces_looser E k l (tree.Constant (Str s)) ts le h = h
produces_looser E k l (tree.Constant Nothing) ts le h = h
produces_looser E k l (tree.Constant (Truth b)) ts le h = h
produces_looser E k l (tree.Constant (Provided b)) ts le h = h
produces_looser E k l (tree.Constant (Bytes bs)) ts le h = h
produces_looser E k l (tree.Unary op a) ts le h = (h.0, h.1, omega (arith, h.2), h.3)
produces_looser E k l (tree.Binary op a b) ts le h = (h.0, h.1, h.2, omega (arith, h.3), h.4, h.5)
produces_looser E k l (tree.Constant (Function x i)) ts le h = h
produces_looser E k l (tree.Constant (Range a b c)) ts le h = h
produces_looser E k l (tree.Constant (Tuple us)) ts le h = h
produces_looser E k l (tree.Constant (Class i)) ts le h = h
produces_looser E k l (tree.Constant (Module m)) ts le h = h
produces_looser E k l (tree.Constant (Queue i m)) ts le h = h
produces_looser E k l (tree.Constant (Interpreter i)) ts le h = h
produces_looser E k l (tree.Constant (Exec i)) ts le h = h
produces_looser E k l (tree.Constant (Address x)) ts le h = h
produces_looser E k l (tree.Attribute a x) ts le h = (h.0, h.1, omega (arith, h.2), h.3)
produces_looser E k l (tree.Call a x args names) ts le h = (h.0, h.1, h.2, h.3, h.4, omega (arith, h.5), h.6, h.7, h.8, h.9)
produces_looser E k l (tree.Subscript a b) ts le h = (h.0, h.1, h.2, omega (arith, h.3), h.4, h.5)
produces_looser E k l (tree.Tuple items) ts le h = h
produces_looser E k l (tree.ListDisplay items) ts le h = h
produces_looser E k l (tree.DictDisplay items) ts le h = h
produces_looser E k l (tree.Compare a cs) ts le h = (h.0, h.1, h.2, omega (arith, h.3), h.4, h.5, h.6)
produces_looser E k l (tree.Boolean op a others) ts le h = (h.0, h.1, h.2, omega (arith, h.3), h.4, h.5, h.6)
produces_looser E k l (tree.Conditional test value other) ts le h = (h.0, h.1, h.2, h.3, omega (arith, h.4), h.5, h.6, h.7)

pub spells_looser : (n k l : ℕ) (e : Expr) (ts : List Terminal) → k ≤ l → Spells n l e ts → Spells n k e ts
spells_looser zero k l e ts le h = h
spells_looser (suc n) k l e ts le (inl h) = inl (produces_looser (Spells n) k l e ts le h)
spells_looser (suc n) k l e ts le (inr h) = inr h

pub spells_deeper : (m n : ℕ) → m ≤ n → (l : ℕ) (e : Expr) (ts : List Terminal) → Spells m l e ts → Spells n l e ts
spells_deeper zero n le l e ts h = absurd h
spells_deeper (suc m) zero le l e ts h = absurd (omega arith)
spells_deeper (suc m) (suc n) le l e ts (inl h) = inl (produces_mono (Spells m) (Spells n) (spells_deeper m n (omega arith)) l e ts h)
spells_deeper (suc m) (suc n) le l e ts (inr h) = inr (h.0, h.1, spells_deeper m n (omega arith) 1 e h.0 h.2)

-- one production over parts of at most depth d
pub node : (d l : ℕ) (e : Expr) (ts : List Terminal) → Produces (Spells d) l e ts → Spells (d + 1) l e ts
node d l e ts h = subst (λ k. Spells k l e ts) (sym (add-one d)) (inl h)

pub bracketed : (d l : ℕ) (e : Expr) (ts : List Terminal) → Spells d 1 e ts → Spells (d + 1) l e (Sign token.LeftParenthesis ∷ (ts ++ Sign token.RightParenthesis ∷ []))
bracketed d l e ts h = subst (λ k. Spells k l e (Sign token.LeftParenthesis ∷ (ts ++ Sign token.RightParenthesis ∷ []))) (sym (add-one d)) (inr (ts, refl, h))

-- ---- what was read

pub then_read_some : {A B : Type 0} (r : Option A) (f : A → Option B) (y : B) → then_read r f ≡ Some y → (x : A) × (r ≡ Some x) × (f x ≡ Some y)
then_read_some None f y h = cc
then_read_some (Some x) f y h = (x, refl, h)

pub some_inj : {A : Type 0} (x y : A) → Some x ≡ Some y → x ≡ y
some_inj x y h = cc

pub after_close_some : (ts rest : List Terminal) → after (Sign token.RightParenthesis) ts ≡ Some rest → ts ≡ Sign token.RightParenthesis ∷ rest
after_close_some [] rest h = cc
after_close_some (Sign token.RightParenthesis ∷ ts) rest h = let e : ts ≡ rest = cc in ap (λ l. Sign token.RightParenthesis ∷ l) e
after_close_some (_ ∷ ts) rest h = cc

pub after_comma_some : (ts rest : List Terminal) → after (Sign token.Comma) ts ≡ Some rest → ts ≡ Sign token.Comma ∷ rest
after_comma_some [] rest h = cc
after_comma_some (Sign token.Comma ∷ ts) rest h = let e : ts ≡ rest = cc in ap (λ l. Sign token.Comma ∷ l) e
after_comma_some (_ ∷ ts) rest h = cc

pub after_equal_some : (ts rest : List Terminal) → after (Sign token.Equal) ts ≡ Some rest → ts ≡ Sign token.Equal ∷ rest
after_equal_some [] rest h = cc
after_equal_some (Sign token.Equal ∷ ts) rest h = let e : ts ≡ rest = cc in ap (λ l. Sign token.Equal ∷ l) e
after_equal_some (_ ∷ ts) rest h = cc

name_from : (x : List ℕ) (ts : List Terminal) (o : Option (List Terminal)) → after (Sign token.Equal) ts ≡ o → (n : List ℕ × List Terminal) → option_map {U = List ℕ × List Terminal} (λ rest. (x, rest)) o ≡ Some n → NAME x ∷ ts ≡ NAME n.0 ∷ (Sign token.Equal ∷ n.1)
name_from x ts None is n h = cc
name_from x ts (Some rest) is n h =
    ap (λ l. NAME x ∷ l) (after_equal_some ts rest is) ∙ ap (λ p. NAME p.0 ∷ (Sign token.Equal ∷ p.1)) (some_inj (x, rest) n h)

pub named_at_some : (ts : List Terminal) (n : List ℕ × List Terminal) → named_at ts ≡ Some n → ts ≡ NAME n.0 ∷ (Sign token.Equal ∷ n.1)
named_at_some [] n h = cc
named_at_some (NAME x ∷ ts) n h = name_from x ts (after (Sign token.Equal) ts) refl n h
named_at_some (_ ∷ ts) n h = cc

pub after_semicolon_some : (ts rest : List Terminal) → after (Sign token.Semicolon) ts ≡ Some rest → ts ≡ Sign token.Semicolon ∷ rest
after_semicolon_some [] rest h = cc
after_semicolon_some (Sign token.Semicolon ∷ ts) rest h = let e : ts ≡ rest = cc in ap (λ l. Sign token.Semicolon ∷ l) e
after_semicolon_some (_ ∷ ts) rest h = cc

pub after_newline_some : (ts rest : List Terminal) → after NEWLINE ts ≡ Some rest → ts ≡ NEWLINE ∷ rest
after_newline_some [] rest h = cc
after_newline_some (NEWLINE ∷ ts) rest h = let e : ts ≡ rest = cc in ap (λ l. NEWLINE ∷ l) e
after_newline_some (_ ∷ ts) rest h = cc

pub after_colon_some : (ts rest : List Terminal) → after (Sign token.Colon) ts ≡ Some rest → ts ≡ Sign token.Colon ∷ rest
after_colon_some [] rest h = cc
after_colon_some (Sign token.Colon ∷ ts) rest h = let e : ts ≡ rest = cc in ap (λ l. Sign token.Colon ∷ l) e
after_colon_some (_ ∷ ts) rest h = cc

pub after_indent_some : (ts rest : List Terminal) → after INDENT ts ≡ Some rest → ts ≡ INDENT ∷ rest
after_indent_some [] rest h = cc
after_indent_some (INDENT ∷ ts) rest h = let e : ts ≡ rest = cc in ap (λ l. INDENT ∷ l) e
after_indent_some (_ ∷ ts) rest h = cc

pub after_elif_some : (ts rest : List Terminal) → after (Word token.ElifWord) ts ≡ Some rest → ts ≡ Word token.ElifWord ∷ rest
after_elif_some [] rest h = cc
after_elif_some (Word token.ElifWord ∷ ts) rest h = let e : ts ≡ rest = cc in ap (λ l. Word token.ElifWord ∷ l) e
after_elif_some (_ ∷ ts) rest h = cc

pub after_in_some : (ts rest : List Terminal) → after (Word token.InWord) ts ≡ Some rest → ts ≡ Word token.InWord ∷ rest
after_in_some [] rest h = cc
after_in_some (Word token.InWord ∷ ts) rest h = let e : ts ≡ rest = cc in ap (λ l. Word token.InWord ∷ l) e
after_in_some (_ ∷ ts) rest h = cc

pub after_except_some : (ts rest : List Terminal) → after (Word token.ExceptWord) ts ≡ Some rest → ts ≡ Word token.ExceptWord ∷ rest
after_except_some [] rest h = cc
after_except_some (Word token.ExceptWord ∷ ts) rest h = let e : ts ≡ rest = cc in ap (λ l. Word token.ExceptWord ∷ l) e
after_except_some (_ ∷ ts) rest h = cc

pub after_finally_some : (ts rest : List Terminal) → after (Word token.FinallyWord) ts ≡ Some rest → ts ≡ Word token.FinallyWord ∷ rest
after_finally_some [] rest h = cc
after_finally_some (Word token.FinallyWord ∷ ts) rest h = let e : ts ≡ rest = cc in ap (λ l. Word token.FinallyWord ∷ l) e
after_finally_some (_ ∷ ts) rest h = cc

pub after_as_some : (ts rest : List Terminal) → after (Word token.AsWord) ts ≡ Some rest → ts ≡ Word token.AsWord ∷ rest
after_as_some [] rest h = cc
after_as_some (Word token.AsWord ∷ ts) rest h = let e : ts ≡ rest = cc in ap (λ l. Word token.AsWord ∷ l) e
after_as_some (_ ∷ ts) rest h = cc

pub after_open_some : (ts rest : List Terminal) → after (Sign token.LeftParenthesis) ts ≡ Some rest → ts ≡ Sign token.LeftParenthesis ∷ rest
after_open_some [] rest h = cc
after_open_some (Sign token.LeftParenthesis ∷ ts) rest h = let e : ts ≡ rest = cc in ap (λ l. Sign token.LeftParenthesis ∷ l) e
after_open_some (_ ∷ ts) rest h = cc

pub after_return_some : (ts rest : List Terminal) → after (Word token.ReturnWord) ts ≡ Some rest → ts ≡ Word token.ReturnWord ∷ rest
after_return_some [] rest h = cc
after_return_some (Word token.ReturnWord ∷ ts) rest h = let e : ts ≡ rest = cc in ap (λ l. Word token.ReturnWord ∷ l) e
after_return_some (_ ∷ ts) rest h = cc

pub after_global_some : (ts rest : List Terminal) → after (Word token.GlobalWord) ts ≡ Some rest → ts ≡ Word token.GlobalWord ∷ rest
after_global_some [] rest h = cc
after_global_some (Word token.GlobalWord ∷ ts) rest h = let e : ts ≡ rest = cc in ap (λ l. Word token.GlobalWord ∷ l) e
after_global_some (_ ∷ ts) rest h = cc

pub name_at_some : (ts : List Terminal) (n : List ℕ × List Terminal) → name_at ts ≡ Some n → ts ≡ NAME n.0 ∷ n.1
name_at_some [] n h = cc
name_at_some (NAME x ∷ ts) n h = ap (λ p. NAME p.0 ∷ p.1) (some_inj (x, ts) n h)
name_at_some (_ ∷ ts) n h = cc

pub after_import_some : (ts rest : List Terminal) → after (Word token.ImportWord) ts ≡ Some rest → ts ≡ Word token.ImportWord ∷ rest
after_import_some [] rest h = cc
after_import_some (Word token.ImportWord ∷ ts) rest h = let e : ts ≡ rest = cc in ap (λ l. Word token.ImportWord ∷ l) e
after_import_some (_ ∷ ts) rest h = cc

pub after_from_some : (ts rest : List Terminal) → after (Word token.FromWord) ts ≡ Some rest → ts ≡ Word token.FromWord ∷ rest
after_from_some [] rest h = cc
after_from_some (Word token.FromWord ∷ ts) rest h = let e : ts ≡ rest = cc in ap (λ l. Word token.FromWord ∷ l) e
after_from_some (_ ∷ ts) rest h = cc

pub after_raise_some : (ts rest : List Terminal) → after (Word token.RaiseWord) ts ≡ Some rest → ts ≡ Word token.RaiseWord ∷ rest
after_raise_some [] rest h = cc
after_raise_some (Word token.RaiseWord ∷ ts) rest h = let e : ts ≡ rest = cc in ap (λ l. Word token.RaiseWord ∷ l) e
after_raise_some (_ ∷ ts) rest h = cc

pub after_del_some : (ts rest : List Terminal) → after (Word token.DelWord) ts ≡ Some rest → ts ≡ Word token.DelWord ∷ rest
after_del_some [] rest h = cc
after_del_some (Word token.DelWord ∷ ts) rest h = let e : ts ≡ rest = cc in ap (λ l. Word token.DelWord ∷ l) e
after_del_some (_ ∷ ts) rest h = cc

pub after_not_some : (ts rest : List Terminal) → after (Word token.NotWord) ts ≡ Some rest → ts ≡ Word token.NotWord ∷ rest
after_not_some [] rest h = cc
after_not_some (Word token.NotWord ∷ ts) rest h = let e : ts ≡ rest = cc in ap (λ l. Word token.NotWord ∷ l) e
after_not_some (_ ∷ ts) rest h = cc

pub after_bracket_some : (ts rest : List Terminal) → after (Sign token.RightBracket) ts ≡ Some rest → ts ≡ Sign token.RightBracket ∷ rest
after_bracket_some [] rest h = cc
after_bracket_some (Sign token.RightBracket ∷ ts) rest h = let e : ts ≡ rest = cc in ap (λ l. Sign token.RightBracket ∷ l) e
after_bracket_some (_ ∷ ts) rest h = cc

pub after_brace_some : (ts rest : List Terminal) → after (Sign token.RightBrace) ts ≡ Some rest → ts ≡ Sign token.RightBrace ∷ rest
after_brace_some [] rest h = cc
after_brace_some (Sign token.RightBrace ∷ ts) rest h = let e : ts ≡ rest = cc in ap (λ l. Sign token.RightBrace ∷ l) e
after_brace_some (_ ∷ ts) rest h = cc

pub after_else_some : (ts rest : List Terminal) → after (Word token.ElseWord) ts ≡ Some rest → ts ≡ Word token.ElseWord ∷ rest
after_else_some [] rest h = cc
after_else_some (Word token.ElseWord ∷ ts) rest h = let e : ts ≡ rest = cc in ap (λ l. Word token.ElseWord ∷ l) e
after_else_some (_ ∷ ts) rest h = cc

pub after_and_some : (ts rest : List Terminal) → after (Word token.AndWord) ts ≡ Some rest → ts ≡ Word token.AndWord ∷ rest
after_and_some [] rest h = cc
after_and_some (Word token.AndWord ∷ ts) rest h = let e : ts ≡ rest = cc in ap (λ l. Word token.AndWord ∷ l) e
after_and_some (_ ∷ ts) rest h = cc

pub after_or_some : (ts rest : List Terminal) → after (Word token.OrWord) ts ≡ Some rest → ts ≡ Word token.OrWord ∷ rest
after_or_some [] rest h = cc
after_or_some (Word token.OrWord ∷ ts) rest h = let e : ts ≡ rest = cc in ap (λ l. Word token.OrWord ∷ l) e
after_or_some (_ ∷ ts) rest h = cc

pub after_boolean_some : (op : BooleanOperator) (ts rest : List Terminal) → after_boolean op ts ≡ Some rest → ts ≡ Word (word_of op) ∷ rest
after_boolean_some tree.And ts rest h = after_and_some ts rest h
after_boolean_some tree.Or ts rest h = after_or_some ts rest h

with_word_from : (op : BooleanOperator) (ts : List Terminal) (r : Option (List Terminal)) → after_boolean op ts ≡ r → (o : BooleanOperator) (rest : List Terminal) → with_word op r ≡ Some (o, rest) → (op ≡ o) × (ts ≡ Word (word_of op) ∷ rest)
with_word_from op ts None is o rest h = cc
with_word_from op ts (Some more) is o rest h =
    let e = some_inj (op, more) (o, rest) h in (ap (λ p. p.0) e, after_boolean_some op ts more is ∙ ap (λ p. Word (word_of op) ∷ p.1) e)

pub with_word_some : (op o : BooleanOperator) (ts rest : List Terminal) → with_word op (after_boolean op ts) ≡ Some (o, rest) → (op ≡ o) × (ts ≡ Word (word_of op) ∷ rest)
with_word_some op o ts rest h = with_word_from op ts (after_boolean op ts) refl o rest h

pub with_word_none : (op : BooleanOperator) (r : Option (List Terminal)) → with_word op r ≡ None → r ≡ None
with_word_none op None h = refl
with_word_none op (Some ts) h = cc

-- the word that stands for a compound statement
abbrev pub header_word : Header → Keyword
header_word if_header = token.IfWord
header_word while_header = token.WhileWord
header_word for_header = token.ForWord
header_word try_header = token.TryWord
header_word def_header = token.DefWord

header_is : (header : Header) (ts : List Terminal) (h : Header × List Terminal) → Some (header, ts) ≡ Some h → Word (header_word header) ∷ ts ≡ Word (header_word h.0) ∷ h.1
header_is header ts h is = ap (λ p. Word (header_word p.0) ∷ p.1) (some_inj (header, ts) h is)

pub header_at_some : (ts : List Terminal) (h : Header × List Terminal) → header_at ts ≡ Some h → ts ≡ Word (header_word h.0) ∷ h.1
header_at_some [] h is = cc
header_at_some (Word token.IfWord ∷ ts) h is = header_is if_header ts h is
header_at_some (Word token.WhileWord ∷ ts) h is = header_is while_header ts h is
header_at_some (Word token.ForWord ∷ ts) h is = header_is for_header ts h is
header_at_some (Word token.TryWord ∷ ts) h is = header_is try_header ts h is
header_at_some (Word token.DefWord ∷ ts) h is = header_is def_header ts h is
header_at_some (_ ∷ ts) h is = cc

pub prefix_at_some : (ts : List Terminal) (op : UnaryOperator) → prefix_at ts ≡ Some op → ts ≡ prefix_of op ∷ rest_of ts
prefix_at_some [] op h = cc
prefix_at_some (Sign token.Plus ∷ ts) op h = let e : tree.Plus ≡ op = cc in ap (λ o. prefix_of o ∷ ts) e
prefix_at_some (Sign token.Minus ∷ ts) op h = let e : tree.Minus ≡ op = cc in ap (λ o. prefix_of o ∷ ts) e
prefix_at_some (Sign token.Tilde ∷ ts) op h = let e : tree.Invert ≡ op = cc in ap (λ o. prefix_of o ∷ ts) e
prefix_at_some (Word token.NotWord ∷ ts) op h = let e : tree.Not ≡ op = cc in ap (λ o. prefix_of o ∷ ts) e
prefix_at_some (_ ∷ ts) op h = cc

abbrev spelled : ComparisonOperator × List Terminal → List Terminal
spelled p = comparison_of p.0 ++ p.1

identity_is : (ts : List Terminal) (r : Option (List Terminal)) → after (Word token.NotWord) ts ≡ r → (o : ComparisonOperator) (rest : List Terminal) → identity_from ts r ≡ (o, rest) → Word token.IsWord ∷ ts ≡ comparison_of o ++ rest
identity_is ts None is o rest h = ap spelled h
identity_is ts (Some more) is o rest h = ap (λ l. Word token.IsWord ∷ l) (after_not_some ts more is) ∙ ap spelled h

symbol_is : (s : Symbol) (o : ComparisonOperator) → comparison_symbol s ≡ Some o → (ts : List Terminal) → Sign s ∷ ts ≡ comparison_of o ++ ts
symbol_is token.Less o h ts = let e : tree.Less ≡ o = cc in ap (λ x. comparison_of x ++ ts) e
symbol_is token.Greater o h ts = let e : tree.Greater ≡ o = cc in ap (λ x. comparison_of x ++ ts) e
symbol_is token.LessEqual o h ts = let e : tree.LessEqual ≡ o = cc in ap (λ x. comparison_of x ++ ts) e
symbol_is token.GreaterEqual o h ts = let e : tree.GreaterEqual ≡ o = cc in ap (λ x. comparison_of x ++ ts) e
symbol_is token.EqualEqual o h ts = let e : tree.Equal ≡ o = cc in ap (λ x. comparison_of x ++ ts) e
symbol_is token.NotEqual o h ts = let e : tree.NotEqual ≡ o = cc in ap (λ x. comparison_of x ++ ts) e
symbol_is _ o h ts = cc

symbol_from : (s : Symbol) (ts : List Terminal) (r : Option ComparisonOperator) → comparison_symbol s ≡ r → (o : ComparisonOperator) (rest : List Terminal) → option_map {U = ComparisonOperator × List Terminal} (λ op. (op, ts)) r ≡ Some (o, rest) → Sign s ∷ ts ≡ comparison_of o ++ rest
symbol_from s ts None is o rest h = cc
symbol_from s ts (Some op) is o rest h = symbol_is s op is ts ∙ ap spelled (some_inj (op, ts) (o, rest) h)

pub comparison_at_some : (ts : List Terminal) (o : ComparisonOperator) (rest : List Terminal) → comparison_at ts ≡ Some (o, rest) → ts ≡ comparison_of o ++ rest
comparison_at_some [] o rest h = cc
comparison_at_some (Sign s ∷ ts) o rest h = symbol_from s ts (comparison_symbol s) refl o rest h
comparison_at_some (Word token.IsWord ∷ ts) o rest h = identity_is ts (after (Word token.NotWord) ts) refl o rest (some_inj (identity_from ts (after (Word token.NotWord) ts)) (o, rest) h)
comparison_at_some (Word token.InWord ∷ ts) o rest h = ap spelled (some_inj (tree.In, ts) (o, rest) h)
comparison_at_some (Word token.NotWord ∷ []) o rest h = cc
comparison_at_some (Word token.NotWord ∷ (Word token.InWord ∷ ts)) o rest h = ap spelled (some_inj (tree.NotIn, ts) (o, rest) h)
comparison_at_some (_ ∷ ts) o rest h = cc

pub links_of_chain : (links : List Link) → links_of (chain_of links) ≡ links
links_of_chain [] = refl
links_of_chain (x ∷ links) = ap (λ l. x ∷ l) (links_of_chain links)

pub chain_of_links : (cs : Comparisons) → chain_of (links_of cs) ≡ cs
chain_of_links tree.NoComparisons = refl
chain_of_links (tree.MoreComparisons op e cs) = ap (tree.MoreComparisons op e) (chain_of_links cs)

pub items_of_exprs : (es : List Expr) → items_of (exprs_of es) ≡ es
items_of_exprs [] = refl
items_of_exprs (e ∷ es) = ap (λ l. e ∷ l) (items_of_exprs es)

pub exprs_of_items : (es : Exprs) → exprs_of (items_of es) ≡ es
exprs_of_items tree.NoExprs = refl
exprs_of_items (tree.MoreExprs e es) = ap (tree.MoreExprs e) (exprs_of_items es)
