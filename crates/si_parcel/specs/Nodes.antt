-- A device for storing trees: a tree as a list of nodes, each group before its parts.
use Rattle.std.specs.Prelude.{ℕ, zero, suc, List, [], ◌∷◌, ◌++◌, ◌≡◌}
use mathlib.Core.Path.{refl, ap, ◌∙◌}
use Rattle.si_semantics.specs.Parcels.{Atom, Nothing, Shape, Tree, Leaf, Group, Trees, NoTrees, MoreTrees, count_of}

-- an atom, or a group by the number of its parts
pub data Node : Type 0 where
  Single : Atom → Node
  Open : Shape → ℕ → Node

-- the nodes of a tree, and then others
abbrev mutual
  pub nodes_before : Tree → List Node → List Node
  nodes_before (Leaf a) k = Single a ∷ k
  nodes_before (Group s ts) k = Open s (count_of ts) ∷ all_before ts k

  pub all_before : Trees → List Node → List Node
  all_before NoTrees k = k
  all_before (MoreTrees t ts) k = nodes_before t (all_before ts k)

abbrev pub nodes_of : Tree → List Node
nodes_of t = nodes_before t []

abbrev pub items_of : Trees → List Tree
items_of NoTrees = []
items_of (MoreTrees t ts) = t ∷ items_of ts

-- the first n trees, and those after them
abbrev pub first_trees : ℕ → List Tree → Trees
first_trees zero ts = NoTrees
first_trees (suc n) [] = NoTrees
first_trees (suc n) (t ∷ ts) = MoreTrees t (first_trees n ts)

abbrev pub rest_trees : ℕ → List Tree → List Tree
rest_trees zero ts = ts
rest_trees (suc n) [] = []
rest_trees (suc n) (t ∷ ts) = rest_trees n ts

-- the trees of nodes: read from the back, a group takes its parts from those that are there
abbrev pub gathered : Node → List Tree → List Tree
gathered (Single a) ts = Leaf a ∷ ts
gathered (Open s n) ts = Group s (first_trees n ts) ∷ rest_trees n ts

abbrev pub trees_in : List Node → List Tree
trees_in [] = []
trees_in (x ∷ k) = gathered x (trees_in k)

abbrev pub first_tree : List Tree → Tree
first_tree [] = Leaf Nothing
first_tree (t ∷ ts) = t

-- the tree of its nodes
abbrev pub tree_in : List Node → Tree
tree_in k = first_tree (trees_in k)

pub first-append : (ts : Trees) (k : List Tree) → first_trees (count_of ts) (items_of ts ++ k) ≡ ts
first-append NoTrees k = refl
first-append (MoreTrees t ts) k = ap (MoreTrees t) (first-append ts k)

pub rest-append : (ts : Trees) (k : List Tree) → rest_trees (count_of ts) (items_of ts ++ k) ≡ k
rest-append NoTrees k = refl
rest-append (MoreTrees t ts) k = rest-append ts k

-- to read the nodes of a tree gives the tree
mutual
  pub trees_in-nodes : (t : Tree) (k : List Node) → trees_in (nodes_before t k) ≡ t ∷ trees_in k
  trees_in-nodes (Leaf a) k = refl
  trees_in-nodes (Group s ts) k = rw (trees_in-all ts k, first-append ts (trees_in k), rest-append ts (trees_in k)) refl

  pub trees_in-all : (ts : Trees) (k : List Node) → trees_in (all_before ts k) ≡ items_of ts ++ trees_in k
  trees_in-all NoTrees k = refl
  trees_in-all (MoreTrees t ts) k = trees_in-nodes t (all_before ts k) ∙ ap (λ u. t ∷ u) (trees_in-all ts k)

pub tree_in_nodes : (t : Tree) → tree_in (nodes_of t) ≡ t
tree_in_nodes t = ap first_tree (trees_in-nodes t [])
