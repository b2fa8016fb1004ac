-- Parcels: what interpreters send to each other, each a copy of a shareable value (PEP 734, "Shareable Objects"). A parcel is a pure tree:
-- it has no address, and nothing in it changes.
use Rattle.std.specs.Prelude.{codes, ℕ, zero, suc, ◌+◌, ◌≤◌, ℤ, max, List, [], ◌∷◌, ◌++◌, length, Bool, true, false, ◌&&◌, nat_le}
use Rattle.std.specs.Fmt.{signed_decimal, decimal}
use Rattle.si_plain.specs.Repr.{repr_of, bytes_repr_of}
use Rattle.si_semantics.specs.Value.{Text}

-- what has no parts (Python Language Reference 3.14, 3.2); a queue is its number and its greatest length, 0 for none (PEP 734, "Queue Objects")
pub data Atom : Type 0 where
  Nothing : Atom
  -- True and False
  Truth : Bool → Atom
  Int : ℤ → Atom
  Str : Text → Atom
  Bytes : List ℕ → Atom
  Queue : (id maxsize : ℕ) → Atom

-- what holds parts; tuples alone so far
pub data Shape : Type 0 where
  Tuple : Shape

-- an atom, or parts in an order; a list of trees is a type of its own, since no constructor of a data type takes a List of that type
mutual
  pub data Tree : Type 0 where
    Leaf : Atom → Tree
    Group : Shape → Trees → Tree

  pub data Trees : Type 0 where
    NoTrees : Trees
    MoreTrees : Tree → Trees → Trees

-- trees from a list of them
abbrev pub trees_of : List Tree → Trees
trees_of [] = NoTrees
trees_of (t ∷ ts) = MoreTrees t (trees_of ts)

-- a tuple of these items (Language Reference, 3.2.5.1)
abbrev pub tuple_of : List Tree → Tree
tuple_of ts = Group Tuple (trees_of ts)

-- how many trees
abbrev pub count_of : Trees → ℕ
count_of NoTrees = 0
count_of (MoreTrees t ts) = suc (count_of ts)

-- ---- limits (this project's own)

-- how many values: an atom is 1, a tuple 1 and its items
abbrev mutual
  pub size_of : Tree → ℕ
  size_of (Leaf a) = 1
  size_of (Group s ts) = 1 + sizes_of ts

  pub sizes_of : Trees → ℕ
  sizes_of NoTrees = 0
  sizes_of (MoreTrees t ts) = size_of t + sizes_of ts

-- how many levels: an atom has none, a tuple one more than its deepest item, and so `()` one
abbrev mutual
  pub levels_of : Tree → ℕ
  levels_of (Leaf a) = 0
  levels_of (Group s ts) = 1 + deepest_of ts

  pub deepest_of : Trees → ℕ
  deepest_of NoTrees = 0
  deepest_of (MoreTrees t ts) = max (levels_of t) (deepest_of ts)

-- the length of an atom: the characters of a str, the bytes of bytes
abbrev pub length_of : Atom → ℕ
length_of (Str s) = length s
length_of (Bytes bs) = length bs
length_of _ = 0

-- the length of the longest atom in a tree
abbrev mutual
  pub longest_in : Tree → ℕ
  longest_in (Leaf a) = length_of a
  longest_in (Group s ts) = longest_among ts

  pub longest_among : Trees → ℕ
  longest_among NoTrees = 0
  longest_among (MoreTrees t ts) = max (longest_in t) (longest_among ts)

-- a tree is within the limits: 65,536 values, 200 levels, and each str and bytes of at most 1,048,576
pub record IsParcel (t : Tree) : Type 0 where
  pub size : size_of t ≤ 65536
  pub levels : levels_of t ≤ 200
  pub longest : longest_in t ≤ 1048576

-- whether a tree is
abbrev pub is_parcel : Tree → Bool
is_parcel t = nat_le (size_of t) 65536 && (nat_le (levels_of t) 200 && nat_le (longest_in t) 1048576)

-- ---- how a parcel is written

-- `repr` of an atom (Python Standard Library 3.14, "Built-in Functions"); that of a queue is this project's own
abbrev pub shown_atom : Atom → Text
shown_atom Nothing = codes "None"
shown_atom (Truth true) = codes "True"
shown_atom (Truth false) = codes "False"
shown_atom (Int n) = signed_decimal n
shown_atom (Str s) = repr_of s
shown_atom (Bytes bs) = bytes_repr_of bs
shown_atom (Queue id maxsize) = codes "Queue(" ++ decimal id ++ codes ")"

-- what stands before the item at this place of a tuple
abbrev pub separator : ℕ → Text
separator zero = []
separator (suc n) = codes ", "

-- what stands after so many items: a tuple of one item keeps its comma
abbrev pub closing : ℕ → Text
closing (suc zero) = codes ",)"
closing _ = codes ")"

-- `repr` of a tree, however long: items in brackets with commas between them, as in the displays of tuples (Language Reference, 6.2.4, 6.15)
abbrev mutual
  pub shown : Tree → Text
  shown (Leaf a) = shown_atom a
  shown (Group Tuple ts) = codes "(" ++ shown_items 0 ts ++ closing (count_of ts)

  -- the items of a tuple from this place on
  pub shown_items : ℕ → Trees → Text
  shown_items at NoTrees = []
  shown_items at (MoreTrees t ts) = separator at ++ shown t ++ shown_items (suc at) ts
