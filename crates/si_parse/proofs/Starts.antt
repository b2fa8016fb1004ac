-- How an expression begins: with a terminal of its own kind, and at least one.
use Rattle.std.proofs.Common.{◌≡◌, ℕ, zero, suc, ◌<◌, ◌≤◌, List, [], ◌∷◌, ◌++◌, inl, inr, length, Bool, None, true, false, refl, sym, ap, ◌∙◌, subst, arith, append_assoc, length-append}
use Rattle.si_semantics.specs.Value.{Nothing, Truth, Int, Str, Bytes, Provided, Function, Range, Tuple, Class, Module, Queue, Interpreter, Exec, Address}
use Rattle.si_semantics.specs.Tree.{UnaryOperator, Expr}
use Rattle.si_semantics.specs.Tree as tree
use Rattle.si_semantics.specs.Tokens.{Keyword}
use Rattle.si_semantics.specs.Tokens as token
use Rattle.si_semantics.specs.Grammar.{Terminal, NAME, NUMBER, STRING, BYTES, Sign, Word, NEWLINE, DEDENT, symbol_of, left_level, prefix_of, prefix_level, item_level, truth_word, Strings, Octets, Spells}
use Rattle.si_parse.specs.inner.Lookahead.{header_at, after}
use Rattle.si_parse.specs.inner.Expressions.{is_singleton}
use Rattle.si_parse.specs.inner.Unbracketed.{ends_items}
use Rattle.si_parse.specs.inner.Statements.{ends_small, word_statement, import_at}
use Rattle.si_parse.specs.inner.Blocks.{is_dedent}

-- whether an operand may begin so
abbrev pub is_operand : Terminal → Bool
is_operand (NAME x) = true
is_operand (NUMBER x) = true
is_operand (STRING x) = true
is_operand (BYTES x) = true
is_operand (Sign token.Plus) = true
is_operand (Sign token.Minus) = true
is_operand (Sign token.Tilde) = true
is_operand (Sign token.LeftParenthesis) = true
is_operand (Sign token.LeftBracket) = true
is_operand (Sign token.LeftBrace) = true
is_operand (Word token.NoneWord) = true
is_operand (Word token.TrueWord) = true
is_operand (Word token.FalseWord) = true
is_operand (Word token.NotWord) = true
is_operand _ = false

abbrev pub begins : List Terminal → Bool
begins [] = false
begins (t ∷ ts) = is_operand t

begins_strings : (s : List ℕ) (f : List Terminal) → 0 < length f → Strings s f → (x : List Terminal) → begins (f ++ x) ≡ true
begins_strings s [] some h x = absurd (omega arith)
begins_strings s (STRING literal ∷ ts) some h x = refl
begins_strings s (_ ∷ ts) some h x = absurd h

begins_octets : (s : List ℕ) (f : List Terminal) → 0 < length f → Octets s f → (x : List Terminal) → begins (f ++ x) ≡ true
begins_octets s [] some h x = absurd (omega arith)
begins_octets s (BYTES literal ∷ ts) some h x = refl
begins_octets s (_ ∷ ts) some h x = absurd h

begins_prefix : (op : UnaryOperator) → is_operand (prefix_of op) ≡ true
begins_prefix tree.Plus = refl
begins_prefix tree.Minus = refl
begins_prefix tree.Invert = refl
begins_prefix tree.Not = refl

begins_truth : (b : Bool) → is_operand (Word (truth_word b)) ≡ true
begins_truth true = refl
begins_truth false = refl

pub expression_begins : (m l : ℕ) (e : Expr) (f : List Terminal) → Spells m l e f → (x : List Terminal) → begins (f ++ x) ≡ true
expression_begins zero l e f h x = absurd h
expression_begins (suc m) l e f (inr h) x = ap (λ t. begins (t ++ x)) h.1
expression_begins (suc m) l (tree.Name i) f (inl h) x = ap (λ t. begins (t ++ x)) h
expression_begins (suc m) l (tree.Constant (Int n)) f (inl h) x = ap (λ t. begins (t ++ x)) h.1
expression_begins (suc m) l (tree.Constant (Str s)) f (inl h) x = begins_strings s f h.0 h.2 x
expression_begins (suc m) l (tree.Constant Nothing) f (inl h) x = ap (λ t. begins (t ++ x)) h
expression_begins (suc m) l (tree.Constant (Truth b)) f (inl h) x = ap (λ t. begins (t ++ x)) h ∙ begins_truth b
expression_begins (suc m) l (tree.Constant (Provided b)) f (inl h) x = absurd h
expression_begins (suc m) l (tree.Constant (Bytes bs)) f (inl h) x = begins_octets bs f h.0 h.2 x
expression_begins (suc m) l (tree.Unary op a) f (inl h) x = ap (λ t. begins (t ++ x)) h.1 ∙ begins_prefix op
expression_begins (suc m) l (tree.Binary op a b) f (inl h) x =
    ap (λ t. begins (t ++ x)) h.2 ∙ ap begins (append_assoc h.0 (Sign (symbol_of op) ∷ h.1) x) ∙ expression_begins m (left_level op) a h.0 h.4 (Sign (symbol_of op) ∷ (h.1 ++ x))
expression_begins (suc m) l (tree.Constant (Function i k)) f (inl h) x = absurd h
expression_begins (suc m) l (tree.Constant (Range a b c)) f (inl h) x = absurd h
expression_begins (suc m) l (tree.Constant (Tuple us)) f (inl h) x = absurd h
expression_begins (suc m) l (tree.Constant (Class k)) f (inl h) x = absurd h
expression_begins (suc m) l (tree.Constant (Module i)) f (inl h) x = absurd h
expression_begins (suc m) l (tree.Constant (Queue i k)) f (inl h) x = absurd h
expression_begins (suc m) l (tree.Constant (Interpreter i)) f (inl h) x = absurd h
expression_begins (suc m) l (tree.Constant (Exec i)) f (inl h) x = absurd h
expression_begins (suc m) l (tree.Constant (Address i)) f (inl h) x = absurd h
expression_begins (suc m) l (tree.Attribute a i) f (inl h) x =
    ap (λ t. begins (t ++ x)) h.1 ∙ ap begins (append_assoc h.0 (Sign token.Dot ∷ (NAME i ∷ [])) x) ∙ expression_begins m 18 a h.0 h.3 (Sign token.Dot ∷ (NAME i ∷ x))
expression_begins (suc m) l (tree.Call a i args names) f (inl h) x =
    ap (λ t. begins (t ++ x)) h.4
    ∙ ap begins (append_assoc h.0 (Sign token.LeftParenthesis ∷ (h.1 ++ Sign token.RightParenthesis ∷ [])) x)
    ∙ expression_begins m 18 h.2 h.0 h.6 (Sign token.LeftParenthesis ∷ ((h.1 ++ Sign token.RightParenthesis ∷ []) ++ x))
expression_begins (suc m) l (tree.Subscript a b) f (inl h) x =
    ap (λ t. begins (t ++ x)) h.2
    ∙ ap begins (append_assoc h.0 (Sign token.LeftBracket ∷ (h.1 ++ Sign token.RightBracket ∷ [])) x)
    ∙ expression_begins m 18 a h.0 h.4 (Sign token.LeftBracket ∷ ((h.1 ++ Sign token.RightBracket ∷ []) ++ x))
expression_begins (suc m) l (tree.Tuple items) f (inl h) x = ap (λ t. begins (t ++ x)) h.1
expression_begins (suc m) l (tree.ListDisplay items) f (inl h) x = ap (λ t. begins (t ++ x)) h.1
expression_begins (suc m) l (tree.DictDisplay items) f (inl h) x = ap (λ t. begins (t ++ x)) h.2
expression_begins (suc m) l (tree.Compare a cs) f (inl h) x = ap (λ t. begins (t ++ x)) h.2 ∙ ap begins (append_assoc h.0 h.1 x) ∙ expression_begins m 10 a h.0 h.4 (h.1 ++ x)
expression_begins (suc m) l (tree.Boolean op a others) f (inl h) x = ap (λ t. begins (t ++ x)) h.2 ∙ ap begins (append_assoc h.0 h.1 x) ∙ expression_begins m (item_level op) a h.0 h.4 (h.1 ++ x)
expression_begins (suc m) l (tree.Conditional test value other) f (inl h) x =
    ap (λ t. begins (t ++ x)) h.3
    ∙ ap begins (append_assoc h.0 (Word token.IfWord ∷ (h.1 ++ Word token.ElseWord ∷ h.2)) x)
    ∙ expression_begins m 3 value h.0 h.5 (Word token.IfWord ∷ ((h.1 ++ Word token.ElseWord ∷ h.2) ++ x))

pub some_terminals : (m l : ℕ) (e : Expr) (f : List Terminal) → Spells m l e f → 0 < length f
some_terminals m l e [] h = let bad : false ≡ true = expression_begins m l e [] h [] in cc
some_terminals m l e (t ∷ f) h = omega arith

-- ---- what does not begin an expression

pub close_not : (ts : List Terminal) → begins ts ≡ true → after (Sign token.RightParenthesis) ts ≡ None
close_not [] h = cc
close_not (Sign token.RightParenthesis ∷ ts) h = cc
close_not (_ ∷ ts) h = refl

pub bracket_not : (ts : List Terminal) → begins ts ≡ true → after (Sign token.RightBracket) ts ≡ None
bracket_not [] h = cc
bracket_not (Sign token.RightBracket ∷ ts) h = cc
bracket_not (_ ∷ ts) h = refl

pub brace_not : (ts : List Terminal) → begins ts ≡ true → after (Sign token.RightBrace) ts ≡ None
brace_not [] h = cc
brace_not (Sign token.RightBrace ∷ ts) h = cc
brace_not (_ ∷ ts) h = refl

pub items_not : (ts : List Terminal) → begins ts ≡ true → ends_items ts ≡ false
items_not [] h = cc
items_not (NEWLINE ∷ ts) h = cc
items_not (Sign token.Semicolon ∷ ts) h = cc
items_not (Sign token.Colon ∷ ts) h = cc
items_not (Sign token.Equal ∷ ts) h = cc
items_not (Word token.InWord ∷ ts) h = cc
items_not (_ ∷ ts) h = refl

pub colon_not : (ts : List Terminal) → begins ts ≡ true → after (Sign token.Colon) ts ≡ None
colon_not [] h = cc
colon_not (Sign token.Colon ∷ ts) h = cc
colon_not (_ ∷ ts) h = refl

pub word_not : (ts : List Terminal) → begins ts ≡ true → word_statement ts ≡ None
word_not [] h = cc
word_not (Word token.PassWord ∷ ts) h = cc
word_not (Word token.BreakWord ∷ ts) h = cc
word_not (Word token.ContinueWord ∷ ts) h = cc
word_not (_ ∷ ts) h = refl

pub return_not : (ts : List Terminal) → begins ts ≡ true → after (Word token.ReturnWord) ts ≡ None
return_not [] h = cc
return_not (Word token.ReturnWord ∷ ts) h = cc
return_not (_ ∷ ts) h = refl

pub global_not : (ts : List Terminal) → begins ts ≡ true → after (Word token.GlobalWord) ts ≡ None
global_not [] h = cc
global_not (Word token.GlobalWord ∷ ts) h = cc
global_not (_ ∷ ts) h = refl

pub import_not : (ts : List Terminal) → begins ts ≡ true → import_at ts ≡ None
import_not [] h = cc
import_not (Word token.ImportWord ∷ ts) h = cc
import_not (Word token.FromWord ∷ ts) h = cc
import_not (_ ∷ ts) h = refl

pub raise_not : (ts : List Terminal) → begins ts ≡ true → after (Word token.RaiseWord) ts ≡ None
raise_not [] h = cc
raise_not (Word token.RaiseWord ∷ ts) h = cc
raise_not (_ ∷ ts) h = refl

pub del_not : (ts : List Terminal) → begins ts ≡ true → after (Word token.DelWord) ts ≡ None
del_not [] h = cc
del_not (Word token.DelWord ∷ ts) h = cc
del_not (_ ∷ ts) h = refl

pub ends_not : (ts : List Terminal) → begins ts ≡ true → ends_small ts ≡ false
ends_not [] h = cc
ends_not (NEWLINE ∷ ts) h = cc
ends_not (Sign token.Semicolon ∷ ts) h = cc
ends_not (_ ∷ ts) h = refl

-- ---- how a small statement begins

abbrev pub is_start : Terminal → Bool
is_start (Word token.PassWord) = true
is_start (Word token.BreakWord) = true
is_start (Word token.ContinueWord) = true
is_start (Word token.ReturnWord) = true
is_start (Word token.GlobalWord) = true
is_start (Word token.ImportWord) = true
is_start (Word token.FromWord) = true
is_start (Word token.RaiseWord) = true
is_start (Word token.DelWord) = true
is_start t = is_operand t

abbrev pub starts : List Terminal → Bool
starts [] = false
starts (t ∷ ts) = is_start t

pub starts_operand : (ts : List Terminal) → begins ts ≡ true → starts ts ≡ true
starts_operand [] h = h
starts_operand (Word token.PassWord ∷ ts) h = refl
starts_operand (Word token.BreakWord ∷ ts) h = refl
starts_operand (Word token.ContinueWord ∷ ts) h = refl
starts_operand (Word token.ReturnWord ∷ ts) h = refl
starts_operand (Word token.GlobalWord ∷ ts) h = refl
starts_operand (Word token.ImportWord ∷ ts) h = refl
starts_operand (Word token.FromWord ∷ ts) h = refl
starts_operand (Word token.RaiseWord ∷ ts) h = refl
starts_operand (Word token.DelWord ∷ ts) h = refl
starts_operand (_ ∷ ts) h = h

pub newline_not : (ts : List Terminal) → starts ts ≡ true → after NEWLINE ts ≡ None
newline_not [] h = cc
newline_not (NEWLINE ∷ ts) h = cc
newline_not (_ ∷ ts) h = refl

pub dedent_not : (ts : List Terminal) → starts ts ≡ true → is_dedent ts ≡ false
dedent_not [] h = cc
dedent_not (DEDENT ∷ ts) h = cc
dedent_not (_ ∷ ts) h = refl

pub header_not : (ts : List Terminal) → starts ts ≡ true → header_at ts ≡ None
header_not [] h = cc
header_not (Word token.IfWord ∷ ts) h = cc
header_not (Word token.WhileWord ∷ ts) h = cc
header_not (Word token.ForWord ∷ ts) h = cc
header_not (Word token.TryWord ∷ ts) h = cc
header_not (Word token.DefWord ∷ ts) h = cc
header_not (_ ∷ ts) h = refl

pub elif_not : (ts : List Terminal) → starts ts ≡ true → after (Word token.ElifWord) ts ≡ None
elif_not [] h = cc
elif_not (Word token.ElifWord ∷ ts) h = cc
elif_not (_ ∷ ts) h = refl

pub else_not : (ts : List Terminal) → starts ts ≡ true → after (Word token.ElseWord) ts ≡ None
else_not [] h = cc
else_not (Word token.ElseWord ∷ ts) h = cc
else_not (_ ∷ ts) h = refl

pub except_not : (ts : List Terminal) → starts ts ≡ true → after (Word token.ExceptWord) ts ≡ None
except_not [] h = cc
except_not (Word token.ExceptWord ∷ ts) h = cc
except_not (_ ∷ ts) h = refl

pub finally_not : (ts : List Terminal) → starts ts ≡ true → after (Word token.FinallyWord) ts ≡ None
finally_not [] h = cc
finally_not (Word token.FinallyWord ∷ ts) h = cc
finally_not (_ ∷ ts) h = refl

-- ---- an operand of one word

-- what is known of an operand of a comparison that is one word
pub record Singleton (e : Expr) (w : Keyword) : Type 0 where
  pub spelled : Spells 1 10 e (Word w ∷ [])
  pub is : is_singleton e 1 ≡ true
  pub affirms : (ts : List Terminal) → after (Word token.NotWord) (Word w ∷ ts) ≡ None

spelled_none : (w : Keyword) → Word w ∷ [] ≡ Word token.NoneWord ∷ [] → Singleton (tree.Constant Nothing) w
spelled_none w h =
    let P : List Terminal → Type 0 = λ f. (ts : List Terminal) → after (Word token.NotWord) (f ++ ts) ≡ None in
    record { spelled = inl h; is = refl; affirms = subst P (sym h) (λ ts. refl) }

spelled_truth : (b : Bool) (w : Keyword) → Word w ∷ [] ≡ Word (truth_word b) ∷ [] → Singleton (tree.Constant (Truth b)) w
spelled_truth true w h =
    let P : List Terminal → Type 0 = λ f. (ts : List Terminal) → after (Word token.NotWord) (f ++ ts) ≡ None in
    record { spelled = inl h; is = refl; affirms = subst P (sym h) (λ ts. refl) }
spelled_truth false w h =
    let P : List Terminal → Type 0 = λ f. (ts : List Terminal) → after (Word token.NotWord) (f ++ ts) ≡ None in
    record { spelled = inl h; is = refl; affirms = subst P (sym h) (λ ts. refl) }

no_prefix : (op : UnaryOperator) (w : Keyword) (f : List Terminal) → 10 ≤ prefix_level op → Word w ∷ [] ≡ prefix_of op ∷ f → ⊥
no_prefix tree.Plus w f low h = cc
no_prefix tree.Minus w f low h = cc
no_prefix tree.Invert w f low h = cc
no_prefix tree.Not w f low h = omega arith

pub singleton : (m : ℕ) (e : Expr) (w : Keyword) → Spells m 10 e (Word w ∷ []) → Singleton e w
singleton zero e w h = absurd h
singleton (suc m) e w (inr h) = cc (h.1)
singleton (suc m) (tree.Name x) w (inl h) = cc
singleton (suc m) (tree.Constant (Int n)) w (inl h) = cc (h.1)
singleton (suc m) (tree.Constant (Str s)) w (inl h) = absurd h.2
singleton (suc m) (tree.Constant Nothing) w (inl h) = spelled_none w h
singleton (suc m) (tree.Constant (Truth b)) w (inl h) = spelled_truth b w h
singleton (suc m) (tree.Constant (Provided b)) w (inl h) = absurd h
singleton (suc m) (tree.Constant (Bytes bs)) w (inl h) = absurd h.2
singleton (suc m) (tree.Unary op a) w (inl h) = absurd (no_prefix op w h.0 h.2 h.1)
singleton (suc m) (tree.Binary op a b) w (inl h) =
    absurd (omega (arith, ap length h.2, length-append h.0 (Sign (symbol_of op) ∷ h.1), some_terminals m (left_level op) a h.0 h.4))
singleton (suc m) (tree.Constant (Function x k)) w (inl h) = absurd h
singleton (suc m) (tree.Constant (Range a b c)) w (inl h) = absurd h
singleton (suc m) (tree.Constant (Tuple us)) w (inl h) = absurd h
singleton (suc m) (tree.Constant (Class k)) w (inl h) = absurd h
singleton (suc m) (tree.Constant (Module i)) w (inl h) = absurd h
singleton (suc m) (tree.Constant (Queue i k)) w (inl h) = absurd h
singleton (suc m) (tree.Constant (Interpreter i)) w (inl h) = absurd h
singleton (suc m) (tree.Constant (Exec i)) w (inl h) = absurd h
singleton (suc m) (tree.Constant (Address x)) w (inl h) = absurd h
singleton (suc m) (tree.Attribute a i) w (inl h) = absurd (omega (arith, ap length h.1, length-append h.0 (Sign token.Dot ∷ (NAME i ∷ [])), some_terminals m 18 a h.0 h.3))
singleton (suc m) (tree.Call a i args names) w (inl h) =
    absurd (omega (arith, ap length h.4, length-append h.0 (Sign token.LeftParenthesis ∷ (h.1 ++ Sign token.RightParenthesis ∷ [])), some_terminals m 18 h.2 h.0 h.6))
singleton (suc m) (tree.Subscript a b) w (inl h) =
    absurd (omega (arith, ap length h.2, length-append h.0 (Sign token.LeftBracket ∷ (h.1 ++ Sign token.RightBracket ∷ [])), some_terminals m 18 a h.0 h.4))
singleton (suc m) (tree.Tuple items) w (inl h) = cc (h.1)
singleton (suc m) (tree.ListDisplay items) w (inl h) = cc (h.1)
singleton (suc m) (tree.DictDisplay items) w (inl h) = cc (h.2)
singleton (suc m) (tree.Compare a cs) w (inl h) = absurd (omega (arith, h.3))
singleton (suc m) (tree.Boolean tree.And a others) w (inl h) = absurd (omega (arith, h.3))
singleton (suc m) (tree.Boolean tree.Or a others) w (inl h) = absurd (omega (arith, h.3))
singleton (suc m) (tree.Conditional test value other) w (inl h) = absurd (omega (arith, h.4))
