-- Tuples and their items.
use Rattle.std.proofs.Common.{◌≡◌, ℕ, zero, suc, ◌<◌, List, [], ◌∷◌, length, get_or, sym, ap, ◌∙◌, refl, arith}
use Rattle.si_semantics.specs.Parcels.{Tree, Leaf, Group, trees_of, tuple_of, sizes_of, deepest_of, longest_among}
use Rattle.si_parcel.specs.Nodes.{items_of}

items_of_trees : (ts : List Tree) → items_of (trees_of ts) ≡ ts
items_of_trees [] = refl
items_of_trees (t ∷ ts) = ap (λ us. t ∷ us) (items_of_trees ts)

items_in : Tree → List Tree
items_in (Leaf a) = []
items_in (Group s ts) = items_of ts

-- tuples are equal only if their items are
pub tuple_injective : (xs ys : List Tree) → tuple_of xs ≡ tuple_of ys → xs ≡ ys
unfolding items_in
tuple_injective xs ys e = sym (items_of_trees xs) ∙ ap items_in e ∙ items_of_trees ys

-- the size, the levels and the longest atom of items
abbrev pub sizes : List Tree → ℕ
sizes ts = sizes_of (trees_of ts)

abbrev pub deepest : List Tree → ℕ
deepest ts = deepest_of (trees_of ts)

abbrev pub longest : List Tree → ℕ
longest ts = longest_among (trees_of ts)

get_same : (xs : List Tree) (i : ℕ) (x y : Tree) → i < length xs → get_or xs i x ≡ get_or xs i y
get_same [] i x y h = absurd (omega arith)
get_same (t ∷ ts) zero x y h = refl
get_same (t ∷ ts) (suc i) x y h = get_same ts i x y (omega arith)

-- equal lists have the same items
pub same_at : (xs ys : List Tree) (i : ℕ) (x y : Tree) → xs ≡ ys → i < length xs → x ≡ get_or xs i x → y ≡ get_or ys i y → x ≡ y
same_at xs ys i x y e l f g = f ∙ get_same xs i x y l ∙ ap (λ zs. get_or zs i y) e ∙ sym g
