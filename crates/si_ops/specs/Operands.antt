-- What values are to operators.
use Rattle.std.specs.Prelude.{◌≡◌, ◌≤◌, List, [], ◌++◌, length, true, Option, Some, Result, Err, slice_get}
use Rattle.si_semantics.specs.Value as pure
use Rattle.si_semantics.specs.Tree as tree
use Rattle.si_semantics.specs.Operations.{int_of_truth}
use Rattle.si_semantics.specs.Tuples.{is_too_large, repeated_items}
use Rattle.si_arena.specs.declared.value.Ref.{Ref}
use Rattle.si_arena.specs.declared.cause.Fault.{Fault}
use Rattle.si_arena.specs.declared.cause.Fault.TheVariants.{NoMemory}
use Rattle.si_arena.specs.Memory.{Memory, value_of}
use Rattle.si_arena.specs.Texts.{text_of, repeated_text, IsNarrow}
use Rattle.si_arena.specs.Bytes.{bytes_of}
use Rattle.si_ops.specs.declared.operand.Operand.{Operand}
use Rattle.si_ops.specs.declared.operand.Operand.TheVariants.{Integer, Truth, Text, Tuple, Bytes, Other}

-- a value of a kind that no operator on integers, texts, bytes or tuples takes: what denotes None is one
abbrev pub IsOther : pure.Value → Type 0
IsOther (pure.Int i) = ⊥
IsOther (pure.Truth b) = ⊥
IsOther (pure.Str t) = ⊥
IsOther (pure.Bytes bs) = ⊥
IsOther (pure.Tuple vs) = ⊥
IsOther _ = Unit {0}

-- no list
abbrev pub IsNoListObject : Option pure.Object → Type 0
IsNoListObject (Some (pure.Items vs)) = ⊥
IsNoListObject _ = Unit {0}

-- a value that is no list
abbrev pub IsNoList : List pure.Object → pure.Value → Type 0
IsNoList store (pure.Address x) = IsNoListObject (slice_get store x)
IsNoList store _ = Unit {0}

-- two values that are no lists
abbrev pub AreNoLists : List pure.Object → pure.Value → pure.Value → Type 0
AreNoLists store u v = IsNoList store u × IsNoList store v

-- a value that counts as no integer
abbrev pub IsNoInteger : pure.Value → Type 0
IsNoInteger (pure.Int i) = ⊥
IsNoInteger (pure.Truth b) = ⊥
IsNoInteger _ = Unit {0}

-- the items of a tuple; none of what is no tuple
abbrev pub members_of : pure.Value → List pure.Value
members_of (pure.Tuple vs) = pure.items_of vs
members_of _ = []

-- what a value is to an operator
abbrev pub Stands : Memory → Ref → Operand → Type 0
Stands m r (Integer n) = value_of m r ≡ pure.Int n
Stands m r (Truth b) = value_of m r ≡ pure.Truth b
Stands m r Text = value_of m r ≡ pure.Str (text_of m.texts r)
Stands m r Bytes = value_of m r ≡ pure.Bytes (bytes_of m.texts r)
Stands m r Tuple = value_of m r ≡ pure.tuple_of (members_of (value_of m r))
Stands m r Other = IsOther (value_of m r)

-- what a binary operator makes of values that are no lists: a text or bytes of these characters, or a tuple of these items, however many; of
-- no others does it make any
pub data Made : Type 0 where
  NoneMade : Made
  TextMade : pure.Text → Made
  TupleMade : List pure.Value → Made

abbrev pub made_of : tree.BinaryOperator → pure.Value → pure.Value → Made
made_of tree.Add (pure.Str s) (pure.Str t) = TextMade (s ++ t)
made_of tree.Multiply (pure.Str s) (pure.Int j) = TextMade (repeated_text s j)
made_of tree.Multiply (pure.Str s) (pure.Truth b) = TextMade (repeated_text s (int_of_truth b))
made_of tree.Multiply (pure.Int i) (pure.Str t) = TextMade (repeated_text t i)
made_of tree.Multiply (pure.Truth a) (pure.Str t) = TextMade (repeated_text t (int_of_truth a))
made_of tree.Add (pure.Bytes s) (pure.Bytes t) = TextMade (s ++ t)
made_of tree.Multiply (pure.Bytes s) (pure.Int j) = TextMade (repeated_text s j)
made_of tree.Multiply (pure.Bytes s) (pure.Truth b) = TextMade (repeated_text s (int_of_truth b))
made_of tree.Multiply (pure.Int i) (pure.Bytes t) = TextMade (repeated_text t i)
made_of tree.Multiply (pure.Truth a) (pure.Bytes t) = TextMade (repeated_text t (int_of_truth a))
made_of tree.Add (pure.Tuple us) (pure.Tuple vs) = TupleMade (pure.items_of us ++ pure.items_of vs)
made_of tree.Multiply (pure.Tuple us) (pure.Int j) = TupleMade (repeated_items (pure.items_of us) j)
made_of tree.Multiply (pure.Tuple us) (pure.Truth b) = TupleMade (repeated_items (pure.items_of us) (int_of_truth b))
made_of tree.Multiply (pure.Int i) (pure.Tuple vs) = TupleMade (repeated_items (pure.items_of vs) i)
made_of tree.Multiply (pure.Truth a) (pure.Tuple vs) = TupleMade (repeated_items (pure.items_of vs) (int_of_truth a))
made_of _ _ _ = NoneMade

-- no memory is needed for what is made of two values: nothing is made; or at most 11 characters or bytes, and neither value
-- is a text of the wide row; or a tuple that is too large
abbrev pub NeedsNone : Ref → Ref → Made → Type 0
NeedsNone left right NoneMade = Unit {0}
NeedsNone left right (TextMade t) = IsNarrow left × IsNarrow right × (length t ≤ 11)
NeedsNone left right (TupleMade vs) = is_too_large (pure.tuple_of vs) ≡ true

-- memory was not refused
abbrev pub IsTold : Result Ref Fault → Type 0
IsTold (Err NoMemory) = ⊥
IsTold _ = Unit {0}
