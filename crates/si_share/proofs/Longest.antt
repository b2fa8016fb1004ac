-- How long the longest text of a tuple is, item by item, where all of them have a parcel.
use Rattle.std.proofs.Common.{◌≡◌, ℕ, max, Option, Some, None, ap, refl, arith}
use Rattle.std.specs.Prelude.{is_some, option_map}
use Rattle.si_semantics.specs.Parcels as tree
use Rattle.si_semantics.specs.Parcels.{Tree, Trees, Group, longest_in, longest_among}
use Rattle.si_semantics.specs.Shareable.{more_trees}

-- before the first item
pub longest_begun : (b : Option Trees) → option_map (max 0) (option_map longest_among b) ≡ option_map longest_among b
longest_begun (Some ts) = let same : max 0 (longest_among ts) ≡ longest_among ts = omega arith in ap (λ n. Some n) same
longest_begun None = refl

-- the first of those that are left is among those that are seen
pub longest_step : (a : Option Tree) (b : Option Trees) (n most next : ℕ) → Some n ≡ option_map longest_in a → next ≡ max n most
    → option_map (max next) (option_map longest_among b) ≡ option_map (max most) (option_map longest_among (more_trees a b))
longest_step (Some t) (Some ts) n most next e h =
    let one : n ≡ longest_in t = cc in
    let same : max next (longest_among ts) ≡ max most (max (longest_in t) (longest_among ts)) = omega (arith, one, h) in
    ap (λ k. Some k) same
longest_step (Some t) None n most next e h = refl
longest_step None b n most next e h = absurd cc

-- one without a parcel
pub longest_none : (a : Option Tree) (b : Option Trees) → None ≡ option_map longest_in a → option_map longest_among (more_trees a b) ≡ None
longest_none (Some t) b e = absurd cc
longest_none None b e = refl

-- that of a tuple is that among its items
pub longest_tuple : (b : Option Trees) → option_map longest_in (option_map (Group tree.Tuple) b) ≡ option_map longest_among b
longest_tuple (Some ts) = refl
longest_tuple None = refl

-- there is one exactly where there is a parcel
pub longest_there : (a : Option Tree) → is_some (option_map longest_in a) ≡ is_some a
longest_there (Some t) = refl
longest_there None = refl

-- and then it is that of the parcel
pub longest_of : (a : Option Tree) (n : ℕ) → Some n ≡ option_map longest_in a → (p : Tree) × (a ≡ Some p) × (n ≡ longest_in p)
longest_of (Some t) n e = (t, refl, cc)
longest_of None n e = absurd cc

-- a value has none where it is not shareable
pub no_longest : (a : Option Tree) → None ≡ option_map longest_in a → a ≡ None
no_longest (Some t) e = absurd cc
no_longest None e = refl
