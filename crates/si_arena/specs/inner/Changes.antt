-- How what lies at an address changes.
use Rattle.std.specs.Prelude.{ℕ, ◌+◌, List, [], ◌∷◌, ◌++◌, take, drop, slice_set}
use Rattle.si_arena.specs.declared.value.Ref.{Ref}
use Rattle.si_arena.specs.declared.atom.Atom.{Atom}
use Rattle.si_arena.specs.declared.dict.Pair.{Pair}
use Rattle.si_arena.specs.declared.held.Held.{Held}
use Rattle.si_arena.specs.declared.held.Held.TheVariants as held
use Rattle.si_arena.specs.inner.Keys.{inserted, removed}

-- the items of a list; of anything else none
abbrev pub items_in : Held → List Ref
items_in (held.List rs) = rs
items_in _ = []

-- the entries of a dict; of anything else none
abbrev pub entries_in : Held → List (Atom × Pair)
entries_in (held.Dict es) = es
entries_in _ = []

-- without the one at a position
abbrev pub without : {A : Type 0} → ℕ → List A → List A
without k xs = take k xs ++ drop (k + 1) xs

abbrev pub appended : Ref → Held → Held
appended r (held.List rs) = held.List (rs ++ r ∷ [])
appended r h = h

abbrev pub extended : List Ref → Held → Held
extended qs (held.List rs) = held.List (rs ++ qs)
extended qs h = h

abbrev pub with_item : ℕ → Ref → Held → Held
with_item k r (held.List rs) = held.List (slice_set rs k r)
with_item k r h = h

abbrev pub without_item : ℕ → Held → Held
without_item k (held.List rs) = held.List (without k rs)
without_item k h = h

abbrev pub with_entry : Atom → Pair → Held → Held
with_entry k p (held.Dict es) = held.Dict (inserted k p es)
with_entry k p h = h

abbrev pub without_entry : Atom → Held → Held
without_entry k (held.Dict es) = held.Dict (removed k es)
without_entry k h = h
