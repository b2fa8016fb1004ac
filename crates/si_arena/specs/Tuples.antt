-- The tuples of an arena: each is so many items of one row, which lie before it.
use Rattle.std.specs.Prelude.{◌≡◌, ℕ, ◌+◌, ◌≤◌, List, [], ◌∷◌, ◌++◌, take, drop, length, get_or, true, false, Option, Some, None}
use Rattle.si_semantics.specs.Value as pure
use Rattle.si_semantics.specs.Tuples.{count_of, levels_of, is_too_large}
use Rattle.si_arena.specs.declared.value.Ref.{Ref}
use Rattle.si_arena.specs.declared.tuples.Tuple.{Tuple}
use Rattle.si_arena.specs.declared.tuples.Size.{Size}
use Rattle.si_arena.specs.Memory.{Memory, all_of, AllLie}

-- the row of items, and the tuples by their places
pub record Row : Type 0 where
  pub items : List Ref
  pub tuples : List Tuple

-- a tuple of these items is placed, which is so large: its items go to the end of the row
pub record IsPushed (given : List Ref) (large : Size) (old new : Row) (at : ℕ) : Type 0 where
  pub place : at ≡ length old.tuples
  pub items : new.items ≡ old.items ++ given
  pub tuples : new.tuples ≡ old.tuples ++ record { start = length old.items; length = length given; size = large } ∷ []

-- the items of a tuple, in the row of items
abbrev pub items_at : List Ref → Tuple → List Ref
items_at items t = take t.length (drop t.start items)

-- the tuple at a place; where there is none, one without items
abbrev pub tuple_in : Row → ℕ → Tuple
tuple_in row place = get_or row.tuples place (record { start = 0; length = 0; size = record { values = 0; levels = 0 } })

-- a tuple, by what lies before it
abbrev pub tuple_at : Memory → List Ref → Tuple → pure.Value
tuple_at m items t = pure.tuple_of (all_of m (items_at items t))

-- the same memory, with these tuples
abbrev pub with_tuples : List pure.Value → Memory → Memory
with_tuples vs m = record m { tuples = vs }

-- what the place of each tuple denotes, by those before it; vs are denoted already
abbrev pub table : Memory → List Ref → List pure.Value → List Tuple → List pure.Value
table m items vs [] = vs
table m items vs (t ∷ ts) = table m items (vs ++ tuple_at (with_tuples vs m) items t ∷ []) ts

-- a tuple's items are in the row and lie before it, with these objects, and its size is right
pub record TupleLies (store : List pure.Object) (m : Memory) (items : List Ref) (t : Tuple) : Type 0 where
  pub within : t.start + t.length ≤ length items
  pub lie : AllLie (record m { store = store }) (items_at items t)
  pub values : t.size.values ≡ count_of (tuple_at m items t)
  pub levels : t.size.levels ≡ levels_of (tuple_at m items t)

abbrev pub TuplesLie : List pure.Object → Memory → List Ref → List pure.Value → List Tuple → Type 0
TuplesLie store m items vs [] = Unit {0}
TuplesLie store m items vs (t ∷ ts) = TupleLies store (with_tuples vs m) items t × TuplesLie store m items (vs ++ tuple_at (with_tuples vs m) items t ∷ []) ts

-- how large a value is, where it is not too large
abbrev pub Measures : pure.Value → Option Size → Type 0
Measures v (Some size) = (is_too_large v ≡ false) × (size.values ≡ count_of v) × (size.levels ≡ levels_of v)
Measures v None = is_too_large v ≡ true
