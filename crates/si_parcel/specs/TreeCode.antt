-- A device for types that hold trees: the code of a tree, by its nodes, which give it back.
use Rattle.std.specs.Prelude.{ℕ, ℤ, List, Bool, ◌≡◌, ◌⊎◌}
use Rattle.std.specs.Coded.{Coded, code_by, coded×, coded_ℕ, coded_ℤ, coded_bool, coded_list, coded⊎}
use base.Stored.{coded_unit}
use mathlib.Core.Logic.{inl, inr}
use mathlib.Core.Path.{refl}
use Rattle.si_semantics.specs.Parcels.{Atom, Nothing, Truth, Int, Str, Bytes, Queue, Shape, Tuple, Tree}
use Rattle.si_parcel.specs.Nodes.{Node, Single, Open, nodes_of, tree_in, tree_in_nodes}

abbrev pub Sides : Type 0
Sides = Unit {0} ⊎ (Bool ⊎ (ℤ ⊎ (List ℕ ⊎ (List ℕ ⊎ (ℕ × ℕ)))))

abbrev pub sides_of : Atom → Sides
sides_of Nothing = inl tt
sides_of (Truth b) = inr (inl b)
sides_of (Int n) = inr (inr (inl n))
sides_of (Str s) = inr (inr (inr (inl s)))
sides_of (Bytes bs) = inr (inr (inr (inr (inl bs))))
sides_of (Queue id maxsize) = inr (inr (inr (inr (inr (id, maxsize)))))

abbrev pub atom_at : Sides → Atom
atom_at (inl _) = Nothing
atom_at (inr (inl b)) = Truth b
atom_at (inr (inr (inl n))) = Int n
atom_at (inr (inr (inr (inl s)))) = Str s
atom_at (inr (inr (inr (inr (inl bs))))) = Bytes bs
atom_at (inr (inr (inr (inr (inr p))))) = Queue p.0 p.1

pub atom_at-sides : (a : Atom) → atom_at (sides_of a) ≡ a
atom_at-sides Nothing = refl
atom_at-sides (Truth b) = refl
atom_at-sides (Int n) = refl
atom_at-sides (Str s) = refl
atom_at-sides (Bytes bs) = refl
atom_at-sides (Queue id maxsize) = refl

abbrev pub atom_code : Coded Atom
atom_code =
    code_by Sides (coded⊎ coded_unit (coded⊎ coded_bool (coded⊎ coded_ℤ (coded⊎ (coded_list coded_ℕ) (coded⊎ (coded_list coded_ℕ) (coded× coded_ℕ coded_ℕ)))))) sides_of atom_at atom_at-sides

abbrev pub the_shape : Unit {0} → Shape
the_shape _ = Tuple

pub is_the_shape : (s : Shape) → the_shape tt ≡ s
is_the_shape Tuple = refl

abbrev pub shape_code : Coded Shape
shape_code = code_by (Unit {0}) coded_unit (λ _. tt) the_shape is_the_shape

abbrev pub halves_of : Node → Atom ⊎ (Shape × ℕ)
halves_of (Single a) = inl a
halves_of (Open s n) = inr (s, n)

abbrev pub node_at : Atom ⊎ (Shape × ℕ) → Node
node_at (inl a) = Single a
node_at (inr p) = Open p.0 p.1

pub node_at-halves : (x : Node) → node_at (halves_of x) ≡ x
node_at-halves (Single a) = refl
node_at-halves (Open s n) = refl

abbrev pub node_code : Coded Node
node_code = code_by (Atom ⊎ (Shape × ℕ)) (coded⊎ atom_code (coded× shape_code coded_ℕ)) halves_of node_at node_at-halves

abbrev pub tree_code : Coded Tree
tree_code = code_by (List Node) (coded_list node_code) nodes_of tree_in tree_in_nodes

-- of names with their parcels
abbrev pub binds_code : Coded (List (List ℕ × Tree))
binds_code = coded_list (coded× (coded_list coded_ℕ) tree_code)
