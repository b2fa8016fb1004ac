-- Levels of productions and strengths of terminals.
use Rattle.std.proofs.Common.{◌≡◌, ℕ, ◌<◌, ◌≤◌, List, [], ◌∷◌, ◌++◌, ◌⊎◌, inl, inr, ⊎_elim, Some, None, refl, arith}
use Rattle.si_semantics.specs.Tree.{BinaryOperator, UnaryOperator, ComparisonOperator, BooleanOperator}
use Rattle.si_semantics.specs.Tree as tree
use Rattle.si_semantics.specs.Tokens.{Symbol}
use Rattle.si_semantics.specs.Tokens as token
use Rattle.si_semantics.specs.Grammar.{Terminal, Sign, Word, level_of, left_level, right_level, symbol_of, prefix_level, prefix_of, boolean_level, item_level, word_of, comparison_of}
use Rattle.si_parse.specs.inner.Lookahead.{Continuation, operator, attribute, arguments, index, comparison, boolean, condition, nothing, role_of, continuation_at, strength_of, strength_at, after_boolean, after}
use Rattle.si_parse.specs.inner.Expressions.{comparison_at, prefix_at}

-- ---- operators between two operands

left_least : (op : BinaryOperator) → 10 ≤ left_level op
left_least tree.BitOr = omega arith
left_least tree.BitXor = omega arith
left_least tree.BitAnd = omega arith
left_least tree.ShiftLeft = omega arith
left_least tree.ShiftRight = omega arith
left_least tree.Add = omega arith
left_least tree.Subtract = omega arith
left_least tree.Multiply = omega arith
left_least tree.FloorDivide = omega arith
left_least tree.Modulo = omega arith
left_least tree.Power = omega arith

left_most : (op : BinaryOperator) → left_level op ≤ 18
left_most tree.BitOr = omega arith
left_most tree.BitXor = omega arith
left_most tree.BitAnd = omega arith
left_most tree.ShiftLeft = omega arith
left_most tree.ShiftRight = omega arith
left_most tree.Add = omega arith
left_most tree.Subtract = omega arith
left_most tree.Multiply = omega arith
left_most tree.FloorDivide = omega arith
left_most tree.Modulo = omega arith
left_most tree.Power = omega arith

left_gap : (op : BinaryOperator) → left_level op ≤ 17 → left_level op < 16
left_gap tree.BitOr h = omega arith
left_gap tree.BitXor h = omega arith
left_gap tree.BitAnd h = omega arith
left_gap tree.ShiftLeft h = omega arith
left_gap tree.ShiftRight h = omega arith
left_gap tree.Add h = omega arith
left_gap tree.Subtract h = omega arith
left_gap tree.Multiply h = omega arith
left_gap tree.FloorDivide h = omega arith
left_gap tree.Modulo h = omega arith
left_gap tree.Power h = absurd (omega arith)

pub right_stops : (op : BinaryOperator) (k : ℕ) → k < right_level op → k ≤ level_of op
right_stops tree.BitOr k h = omega arith
right_stops tree.BitXor k h = omega arith
right_stops tree.BitAnd k h = omega arith
right_stops tree.ShiftLeft k h = omega arith
right_stops tree.ShiftRight k h = omega arith
right_stops tree.Add k h = omega arith
right_stops tree.Subtract k h = omega arith
right_stops tree.Multiply k h = omega arith
right_stops tree.FloorDivide k h = omega arith
right_stops tree.Modulo k h = omega arith
right_stops tree.Power k h = omega arith

pub right_bound : (op : BinaryOperator) → right_level op ≤ 16
right_bound tree.BitOr = omega arith
right_bound tree.BitXor = omega arith
right_bound tree.BitAnd = omega arith
right_bound tree.ShiftLeft = omega arith
right_bound tree.ShiftRight = omega arith
right_bound tree.Add = omega arith
right_bound tree.Subtract = omega arith
right_bound tree.Multiply = omega arith
right_bound tree.FloorDivide = omega arith
right_bound tree.Modulo = omega arith
right_bound tree.Power = omega arith

pub level_under : (op : BinaryOperator) → level_of op ≤ left_level op
level_under tree.BitOr = omega arith
level_under tree.BitXor = omega arith
level_under tree.BitAnd = omega arith
level_under tree.ShiftLeft = omega arith
level_under tree.ShiftRight = omega arith
level_under tree.Add = omega arith
level_under tree.Subtract = omega arith
level_under tree.Multiply = omega arith
level_under tree.FloorDivide = omega arith
level_under tree.Modulo = omega arith
level_under tree.Power = omega arith

-- an operator that continues an expression of a level is of that level
pub level_reached : (op : BinaryOperator) (l : ℕ) → l ≤ 16 → l ≤ left_level op → l ≤ level_of op
level_reached tree.BitOr l le h = h
level_reached tree.BitXor l le h = h
level_reached tree.BitAnd l le h = h
level_reached tree.ShiftLeft l le h = h
level_reached tree.ShiftRight l le h = h
level_reached tree.Add l le h = h
level_reached tree.Subtract l le h = h
level_reached tree.Multiply l le h = h
level_reached tree.FloorDivide l le h = h
level_reached tree.Modulo l le h = h
level_reached tree.Power l le h = omega arith

pub role_of_symbol : (op : BinaryOperator) → role_of (symbol_of op) ≡ operator op
role_of_symbol tree.BitOr = refl
role_of_symbol tree.BitXor = refl
role_of_symbol tree.BitAnd = refl
role_of_symbol tree.ShiftLeft = refl
role_of_symbol tree.ShiftRight = refl
role_of_symbol tree.Add = refl
role_of_symbol tree.Subtract = refl
role_of_symbol tree.Multiply = refl
role_of_symbol tree.FloorDivide = refl
role_of_symbol tree.Modulo = refl
role_of_symbol tree.Power = refl

-- ---- strengths

strength_bound : (c : Continuation) → strength_of c ≤ 18
strength_bound (operator op) = left_most op
strength_bound attribute = omega arith
strength_bound arguments = omega arith
strength_bound index = omega arith
strength_bound comparison = omega arith
strength_bound (boolean tree.And) = omega arith
strength_bound (boolean tree.Or) = omega arith
strength_bound condition = omega arith
strength_bound nothing = omega arith

pub strength_at_most : (ts : List Terminal) → strength_at ts ≤ 18
strength_at_most ts = strength_bound (continuation_at ts)

-- no terminal has the strength of a sign or of a power
gap : (c : Continuation) → strength_of c ≤ 17 → strength_of c < 16
gap (operator op) h = left_gap op h
gap attribute h = absurd (omega arith)
gap arguments h = absurd (omega arith)
gap index h = absurd (omega arith)
gap comparison h = omega arith
gap (boolean tree.And) h = omega arith
gap (boolean tree.Or) h = omega arith
gap condition h = omega arith
gap nothing h = omega arith

pub strength_gap : (ts : List Terminal) → strength_at ts ≤ 17 → strength_at ts < 16
strength_gap ts h = gap (continuation_at ts) h

-- none has that of `not`
not_gap : (c : Continuation) → strength_of c ≤ 7 → strength_of c < 7
not_gap (operator op) h = omega (arith, left_least op)
not_gap attribute h = omega arith
not_gap arguments h = omega arith
not_gap index h = omega arith
not_gap comparison h = omega arith
not_gap (boolean tree.And) h = omega arith
not_gap (boolean tree.Or) h = omega arith
not_gap condition h = omega arith
not_gap nothing h = omega arith

pub prefix_gap : (op : UnaryOperator) (ts : List Terminal) → strength_at ts ≤ prefix_level op → strength_at ts < prefix_level op
prefix_gap tree.Plus ts h = strength_gap ts (omega arith)
prefix_gap tree.Minus ts h = strength_gap ts (omega arith)
prefix_gap tree.Invert ts h = strength_gap ts (omega arith)
prefix_gap tree.Not ts h = not_gap (continuation_at ts) h

pub prefix_bound : (op : UnaryOperator) → prefix_level op ≤ 16
prefix_bound tree.Plus = omega arith
prefix_bound tree.Minus = omega arith
prefix_bound tree.Invert = omega arith
prefix_bound tree.Not = omega arith

-- none has that of a conditional expression
condition_gap : (c : Continuation) → strength_of c ≤ 1 → strength_of c < 1
condition_gap (operator op) h = omega (arith, left_least op)
condition_gap attribute h = omega arith
condition_gap arguments h = omega arith
condition_gap index h = omega arith
condition_gap comparison h = omega arith
condition_gap (boolean tree.And) h = omega arith
condition_gap (boolean tree.Or) h = omega arith
condition_gap condition h = omega arith
condition_gap nothing h = omega arith

pub conditional_gap : (ts : List Terminal) → strength_at ts ≤ 1 → strength_at ts < 1
conditional_gap ts h = condition_gap (continuation_at ts) h

-- what may follow an operator's tree may follow its right operand
pub right_weaker : (op : BinaryOperator) (ts : List Terminal) → strength_at ts ≤ level_of op → strength_at ts < right_level op
right_weaker tree.BitOr ts h = omega arith
right_weaker tree.BitXor ts h = omega arith
right_weaker tree.BitAnd ts h = omega arith
right_weaker tree.ShiftLeft ts h = omega arith
right_weaker tree.ShiftRight ts h = omega arith
right_weaker tree.Add ts h = omega arith
right_weaker tree.Subtract ts h = omega arith
right_weaker tree.Multiply ts h = omega arith
right_weaker tree.FloorDivide ts h = omega arith
right_weaker tree.Modulo ts h = omega arith
right_weaker tree.Power ts h = strength_gap ts h

-- ---- levels that lie apart from the strengths of chains

-- no chain's operator lies between the level and the next production
pub record Apart (l : ℕ) : Type 0 where
  pub condition : (l ≤ 1) ⊎ (3 ≤ l)
  pub disjunction : (l ≤ 3) ⊎ (5 ≤ l)
  pub conjunction : (l ≤ 5) ⊎ (7 ≤ l)
  pub comparison : (l ≤ 8) ⊎ (10 ≤ l)

pub high : (l : ℕ) → 10 ≤ l → Apart l
high l h = record { condition = inr (omega arith); disjunction = inr (omega arith); conjunction = inr (omega arith); comparison = inr (omega arith) }

pub at_condition : Apart 1
at_condition = record { condition = inl (omega arith); disjunction = inl (omega arith); conjunction = inl (omega arith); comparison = inl (omega arith) }

pub at_disjunction : Apart 3
at_disjunction = record { condition = inr (omega arith); disjunction = inl (omega arith); conjunction = inl (omega arith); comparison = inl (omega arith) }

pub at_conjunction : Apart 5
at_conjunction = record { condition = inr (omega arith); disjunction = inr (omega arith); conjunction = inl (omega arith); comparison = inl (omega arith) }

pub at_inversion : Apart 7
at_inversion = record { condition = inr (omega arith); disjunction = inr (omega arith); conjunction = inr (omega arith); comparison = inl (omega arith) }

pub at_comparison : Apart 8
at_comparison = record { condition = inr (omega arith); disjunction = inr (omega arith); conjunction = inr (omega arith); comparison = inl (omega arith) }

right_least : (op : BinaryOperator) → 11 ≤ right_level op
right_least tree.BitOr = omega arith
right_least tree.BitXor = omega arith
right_least tree.BitAnd = omega arith
right_least tree.ShiftLeft = omega arith
right_least tree.ShiftRight = omega arith
right_least tree.Add = omega arith
right_least tree.Subtract = omega arith
right_least tree.Multiply = omega arith
right_least tree.FloorDivide = omega arith
right_least tree.Modulo = omega arith
right_least tree.Power = omega arith

level_least : (op : BinaryOperator) → 10 ≤ level_of op
level_least tree.BitOr = omega arith
level_least tree.BitXor = omega arith
level_least tree.BitAnd = omega arith
level_least tree.ShiftLeft = omega arith
level_least tree.ShiftRight = omega arith
level_least tree.Add = omega arith
level_least tree.Subtract = omega arith
level_least tree.Multiply = omega arith
level_least tree.FloorDivide = omega arith
level_least tree.Modulo = omega arith
level_least tree.Power = omega arith

pub right_apart : (op : BinaryOperator) → Apart (right_level op)
right_apart op = high (right_level op) (omega (arith, right_least op))

pub level_apart : (op : BinaryOperator) → Apart (level_of op)
level_apart op = high (level_of op) (level_least op)

pub prefix_apart : (op : UnaryOperator) → Apart (prefix_level op)
prefix_apart tree.Plus = high 16 (omega arith)
prefix_apart tree.Minus = high 16 (omega arith)
prefix_apart tree.Invert = high 16 (omega arith)
prefix_apart tree.Not = at_inversion

pub boolean_apart : (op : BooleanOperator) → Apart (boolean_level op)
boolean_apart tree.And = at_conjunction
boolean_apart tree.Or = at_disjunction

pub item_apart : (op : BooleanOperator) → Apart (item_level op)
item_apart tree.And = at_inversion
item_apart tree.Or = at_conjunction

pub item_bound : (op : BooleanOperator) → item_level op ≤ 16
item_bound tree.And = omega arith
item_bound tree.Or = omega arith

pub condition_up : (l : ℕ) → Apart l → 2 ≤ l → 3 ≤ l
condition_up l a h = ⊎_elim (λ low. absurd (omega arith)) (λ up. up) a.condition

pub condition_down : (l : ℕ) → Apart l → l ≤ 2 → l ≤ 1
condition_down l a h = ⊎_elim (λ low. low) (λ up. absurd (omega arith)) a.condition

pub comparison_up : (l : ℕ) → Apart l → 9 ≤ l → 10 ≤ l
comparison_up l a h = ⊎_elim (λ low. absurd (omega arith)) (λ up. up) a.comparison

pub comparison_down : (l : ℕ) → Apart l → l ≤ 9 → l ≤ 8
comparison_down l a h = ⊎_elim (λ low. low) (λ up. absurd (omega arith)) a.comparison

pub boolean_up : (op : BooleanOperator) (l : ℕ) → Apart l → strength_of (boolean op) ≤ l → item_level op ≤ l
boolean_up tree.And l a h = ⊎_elim (λ low. absurd (omega arith)) (λ up. up) a.conjunction
boolean_up tree.Or l a h = ⊎_elim (λ low. absurd (omega arith)) (λ up. up) a.disjunction

pub boolean_down : (op : BooleanOperator) (l : ℕ) → Apart l → l ≤ strength_of (boolean op) → l ≤ boolean_level op
boolean_down tree.And l a h = ⊎_elim (λ low. low) (λ up. absurd (omega arith)) a.conjunction
boolean_down tree.Or l a h = ⊎_elim (λ low. low) (λ up. absurd (omega arith)) a.disjunction

-- ---- what begins a chain, and what ends it

pub boolean_strength : (op : BooleanOperator) → (strength_of (boolean op) < item_level op) × (boolean_level op < strength_of (boolean op))
boolean_strength tree.And = (omega arith, omega arith)
boolean_strength tree.Or = (omega arith, omega arith)

pub role_of_word : (op : BooleanOperator) (ts : List Terminal) → continuation_at (Word (word_of op) ∷ ts) ≡ boolean op
role_of_word tree.And ts = refl
role_of_word tree.Or ts = refl

pub after_word : (op : BooleanOperator) (ts : List Terminal) → after_boolean op (Word (word_of op) ∷ ts) ≡ Some ts
after_word tree.And ts = refl
after_word tree.Or ts = refl

pub role_of_comparison : (op : ComparisonOperator) (ts : List Terminal) → continuation_at (comparison_of op ++ ts) ≡ comparison
role_of_comparison tree.Less ts = refl
role_of_comparison tree.Greater ts = refl
role_of_comparison tree.LessEqual ts = refl
role_of_comparison tree.GreaterEqual ts = refl
role_of_comparison tree.Equal ts = refl
role_of_comparison tree.NotEqual ts = refl
role_of_comparison tree.Is ts = refl
role_of_comparison tree.IsNot ts = refl
role_of_comparison tree.In ts = refl
role_of_comparison tree.NotIn ts = refl

role_not : (s : Symbol) (op : BooleanOperator) → role_of s ≡ boolean op → ⊥
role_not token.Bar op h = cc
role_not _ op h = cc

or_not : (ts : List Terminal) → after (Word token.OrWord) ts ≡ None → continuation_at ts ≡ boolean tree.Or → ⊥
or_not [] h e = cc
or_not (Word token.OrWord ∷ ts) h e = cc
or_not (Sign s ∷ ts) h e = role_not s tree.Or e
or_not (Word token.NotWord ∷ []) h e = cc
or_not (Word token.NotWord ∷ (Word token.InWord ∷ ts)) h e = cc
or_not (_ ∷ ts) h e = cc

and_not : (ts : List Terminal) → after (Word token.AndWord) ts ≡ None → continuation_at ts ≡ boolean tree.And → ⊥
and_not [] h e = cc
and_not (Word token.AndWord ∷ ts) h e = cc
and_not (Sign s ∷ ts) h e = role_not s tree.And e
and_not (Word token.NotWord ∷ []) h e = cc
and_not (Word token.NotWord ∷ (Word token.InWord ∷ ts)) h e = cc
and_not (_ ∷ ts) h e = cc

or_ends : (c : Continuation) → (c ≡ boolean tree.Or → ⊥) → strength_of c < 5 → strength_of c ≤ 3
or_ends (operator op) other s = absurd (omega (arith, left_least op))
or_ends attribute other s = absurd (omega arith)
or_ends arguments other s = absurd (omega arith)
or_ends index other s = absurd (omega arith)
or_ends comparison other s = absurd (omega arith)
or_ends (boolean tree.And) other s = absurd (omega arith)
or_ends (boolean tree.Or) other s = absurd (other refl)
or_ends condition other s = omega arith
or_ends nothing other s = omega arith

and_ends : (c : Continuation) → (c ≡ boolean tree.And → ⊥) → strength_of c < 7 → strength_of c ≤ 5
and_ends (operator op) other s = absurd (omega (arith, left_least op))
and_ends attribute other s = absurd (omega arith)
and_ends arguments other s = absurd (omega arith)
and_ends index other s = absurd (omega arith)
and_ends comparison other s = absurd (omega arith)
and_ends (boolean tree.And) other s = absurd (other refl)
and_ends (boolean tree.Or) other s = omega arith
and_ends condition other s = omega arith
and_ends nothing other s = omega arith

pub boolean_ends : (op : BooleanOperator) (ts : List Terminal) → after_boolean op ts ≡ None → strength_at ts < item_level op → strength_at ts ≤ boolean_level op
boolean_ends tree.And ts h s = and_ends (continuation_at ts) (and_not ts h) s
boolean_ends tree.Or ts h s = or_ends (continuation_at ts) (or_not ts h) s

or_none : (ts : List Terminal) → strength_at ts ≤ 3 → after (Word token.OrWord) ts ≡ None
or_none [] h = refl
or_none (Word token.OrWord ∷ ts) h = absurd (omega arith)
or_none (_ ∷ ts) h = refl

and_none : (ts : List Terminal) → strength_at ts ≤ 5 → after (Word token.AndWord) ts ≡ None
and_none [] h = refl
and_none (Word token.AndWord ∷ ts) h = absurd (omega arith)
and_none (_ ∷ ts) h = refl

pub boolean_none : (op : BooleanOperator) (ts : List Terminal) → strength_at ts ≤ boolean_level op → after_boolean op ts ≡ None
boolean_none tree.And ts h = and_none ts h
boolean_none tree.Or ts h = or_none ts h

pub comparison_ends : (ts : List Terminal) → comparison_at ts ≡ None → strength_at ts < 10 → strength_at ts ≤ 8
comparison_ends [] h s = omega arith
comparison_ends (Sign token.Less ∷ ts) h s = cc
comparison_ends (Sign token.Greater ∷ ts) h s = cc
comparison_ends (Sign token.LessEqual ∷ ts) h s = cc
comparison_ends (Sign token.GreaterEqual ∷ ts) h s = cc
comparison_ends (Sign token.EqualEqual ∷ ts) h s = cc
comparison_ends (Sign token.NotEqual ∷ ts) h s = cc
comparison_ends (Word token.IsWord ∷ ts) h s = cc
comparison_ends (Word token.InWord ∷ ts) h s = cc
comparison_ends (Word token.NotWord ∷ []) h s = omega arith
comparison_ends (Word token.NotWord ∷ (Word token.InWord ∷ ts)) h s = cc
comparison_ends (_ ∷ ts) h s = omega arith

pub comparison_none : (ts : List Terminal) → strength_at ts ≤ 8 → comparison_at ts ≡ None
comparison_none [] h = refl
comparison_none (Sign token.Less ∷ ts) h = absurd (omega arith)
comparison_none (Sign token.Greater ∷ ts) h = absurd (omega arith)
comparison_none (Sign token.LessEqual ∷ ts) h = absurd (omega arith)
comparison_none (Sign token.GreaterEqual ∷ ts) h = absurd (omega arith)
comparison_none (Sign token.EqualEqual ∷ ts) h = absurd (omega arith)
comparison_none (Sign token.NotEqual ∷ ts) h = absurd (omega arith)
comparison_none (Word token.IsWord ∷ ts) h = absurd (omega arith)
comparison_none (Word token.InWord ∷ ts) h = absurd (omega arith)
comparison_none (Word token.NotWord ∷ []) h = refl
comparison_none (Word token.NotWord ∷ (Word token.InWord ∷ ts)) h = absurd (omega arith)
comparison_none (_ ∷ ts) h = refl

pub prefix_begins : (op : UnaryOperator) (ts : List Terminal) → prefix_at (prefix_of op ∷ ts) ≡ Some op
prefix_begins tree.Plus ts = refl
prefix_begins tree.Minus ts = refl
prefix_begins tree.Invert ts = refl
prefix_begins tree.Not ts = refl
