-- Tuples and their items: of a value, of its parcel, and of what an arena shows.
use Rattle.std.proofs.Common.{◌≡◌, ◌⊎◌, inl, inr, Vec, Global, ℕ, zero, suc, ◌+◌, ◌<◌, ◌≤◌, max, true, false, List, [], ◌∷◌, ◌++◌, length, drop, get_or, Option, Some, None, Err, ap, ap₂, refl, sym, subst, ◌∙◌, arith, add-one, drop-cons, append-nil}
use Rattle.std.specs.Prelude.{is_some, option_map}
use Rattle.std.proofs.lemmas.List.{get_or-map, length-map}
use Rattle.si_semantics.specs.Value as pure
use Rattle.si_semantics.specs.Value.{Value, Values, NoValues, MoreValues, values_of}
use Rattle.si_semantics.specs.Tuples.{count_of, counts_of, levels_of, deepest_of, is_too_large}
use Rattle.si_semantics.specs.Parcels as tree
use Rattle.si_semantics.specs.Parcels.{Tree, Trees, NoTrees, MoreTrees, Leaf, Group, trees_of, longest_in, longest_among, IsParcel}
use Rattle.si_semantics.specs.Shareable.{parcel_of, parcels_of, more_trees, value_of_parcel, values_of_parcels, more_values}
use Rattle.si_arena.specs.declared.value.Ref.{Ref}
use Rattle.si_arena.specs.declared.cause.Cause.{Cause}
use Rattle.si_arena.specs.declared.cause.Fault.{Fault}
use Rattle.si_arena.specs.declared.cause.Fault.TheVariants.{Raises}
use Rattle.si_arena.specs.Memory.{Memory, value_of, all_of, Lies, AllLie, Extends, PlacesTuple}
use Rattle.si_arena.proofs.Lying.{extends_same, extends_more}
use Rattle.si_arena.proofs.Sizes.{small_enough}
use Rattle.si_parcel.specs.declared.parcel.Parcel.{Parcel}
use Rattle.si_parcel.specs.declared.refused.TupleFault.{TupleFault}
use Rattle.si_parcel.specs.declared.refused.TupleFault.TheVariants as tuple_fault
use Rattle.si_share.specs.declared.fault.ShareFault.{ShareFault}
use Rattle.si_share.specs.declared.fault.ShareFault.TheVariants.{NotShareable, TooLarge, NoMemory}
use Rattle.std.specs.declared.alloc.AllocError.{AllocError}
use Rattle.si_share.specs.Copies.{CopiesOut, CopiesIn, TakesMemory, Leaves}
use Rattle.si_share.specs.inner.Fitting.{Fits}

-- ---- where there are both

-- the parts of trees that are there
pub record Both (a : Option Tree) (b : Option Trees) (ts : Trees) : Type 0 where
  pub first : Tree
  pub others : Trees
  pub first_is : a ≡ Some first
  pub others_are : b ≡ Some others
  pub all : ts ≡ MoreTrees first others

pub both : (a : Option Tree) (b : Option Trees) (ts : Trees) → more_trees a b ≡ Some ts → Both a b ts
both (Some t) (Some us) ts e = record { first = t; others = us; first_is = refl; others_are = refl; all = cc }
both (Some t) None ts e = absurd cc
both None b ts e = absurd cc

-- the same, of trees from a list
pub split_parcels : (a : Option Tree) (b : Option Trees) (us : List Tree) → more_trees a b ≡ Some (trees_of us)
    → (t : Tree) × (ws : List Tree) × (us ≡ t ∷ ws) × (a ≡ Some t) × (b ≡ Some (trees_of ws))
split_parcels (Some t) (Some ts) [] e = absurd cc
split_parcels (Some t) (Some ts) (u ∷ us) e = (u, us, refl, cc, cc)
split_parcels (Some t) None us e = absurd cc
split_parcels None b us e = absurd cc

-- trees are those of a list
pub listed : (ts : Trees) → (us : List Tree) × (ts ≡ trees_of us)
listed NoTrees = ([], refl)
listed (MoreTrees t ts) = let l = listed ts in (t ∷ l.0, ap (MoreTrees t) l.1)

-- the trees of a tuple
pub record Grouped (b : Option Trees) (t : Tree) : Type 0 where
  pub trees : Trees
  pub trees_are : b ≡ Some trees
  pub is : t ≡ Group tree.Tuple trees

pub grouped : (b : Option Trees) (t : Tree) → option_map (Group tree.Tuple) b ≡ Some t → Grouped b t
grouped (Some us) t e = record { trees = us; trees_are = refl; is = cc }
grouped None t e = absurd cc

-- ---- a parcel is as large as its value

-- a tree has as many values and levels as a value
pub record Alike (v : Value) (t : Tree) : Type 0 where
  pub size : tree.size_of t ≡ count_of v
  pub levels : tree.levels_of t ≡ levels_of v

pub record AllAlike (vs : Values) (ts : Trees) : Type 0 where
  pub sizes : tree.sizes_of ts ≡ counts_of vs
  pub deepest : tree.deepest_of ts ≡ deepest_of vs

atom_alike : (v : Value) (a : tree.Atom) (t : Tree) → count_of v ≡ 1 → levels_of v ≡ 0 → Some (Leaf a) ≡ Some t → Alike v t
atom_alike v a t count levels e = let same : t ≡ Leaf a = cc in record {
  size = ap tree.size_of same ∙ sym count;
  levels = ap tree.levels_of same ∙ sym levels;
}

mutual
  pub alike : (v : Value) (t : Tree) → parcel_of v ≡ Some t → Alike v t
  alike pure.Nothing t e = atom_alike pure.Nothing tree.Nothing t refl refl e
  alike (pure.Truth b) t e = atom_alike (pure.Truth b) (tree.Truth b) t refl refl e
  alike (pure.Int n) t e = atom_alike (pure.Int n) (tree.Int n) t refl refl e
  alike (pure.Str s) t e = atom_alike (pure.Str s) (tree.Str s) t refl refl e
  alike (pure.Bytes bs) t e = atom_alike (pure.Bytes bs) (tree.Bytes bs) t refl refl e
  alike (pure.Tuple vs) t e =
      let g = grouped (parcels_of vs) t e in
      let parts = all_alike vs g.trees g.trees_are in record {
        size = ap tree.size_of g.is ∙ ap (λ n. 1 + n) parts.sizes;
        levels = ap tree.levels_of g.is ∙ ap (λ n. 1 + n) parts.deepest;
      }
  alike (pure.Provided b) t e = absurd cc
  alike (pure.Function f k) t e = absurd cc
  alike (pure.Range a b c) t e = absurd cc
  alike (pure.Class k) t e = absurd cc
  alike (pure.Module mo) t e = absurd cc
  alike (pure.Interpreter it) t e = absurd cc
  alike (pure.Exec it) t e = absurd cc
  alike (pure.Queue qu qm) t e = atom_alike (pure.Queue qu qm) (tree.Queue qu qm) t refl refl e
  alike (pure.Address x) t e = absurd cc

  pub all_alike : (vs : Values) (ts : Trees) → parcels_of vs ≡ Some ts → AllAlike vs ts
  all_alike NoValues ts e = let same : ts ≡ NoTrees = cc in record { sizes = ap tree.sizes_of same; deepest = ap tree.deepest_of same }
  all_alike (MoreValues v vs) ts e =
      let b = both (parcel_of v) (parcels_of vs) ts e in
      let one = alike v b.first b.first_is in
      let others = all_alike vs b.others b.others_are in record {
        sizes = ap tree.sizes_of b.all ∙ ap₂ (λ n m. n + m) one.size others.sizes;
        deepest = ap tree.deepest_of b.all ∙ ap₂ (λ n m. max n m) one.levels others.deepest;
      }

-- ---- a value and its parcel determine each other

mutual
  pub value_back : (v : Value) (t : Tree) → parcel_of v ≡ Some t → value_of_parcel t ≡ Some v
  value_back pure.Nothing t e = let same : t ≡ Leaf tree.Nothing = cc in ap value_of_parcel same
  value_back (pure.Truth b) t e = let same : t ≡ Leaf (tree.Truth b) = cc in ap value_of_parcel same
  value_back (pure.Int n) t e = let same : t ≡ Leaf (tree.Int n) = cc in ap value_of_parcel same
  value_back (pure.Str s) t e = let same : t ≡ Leaf (tree.Str s) = cc in ap value_of_parcel same
  value_back (pure.Bytes bs) t e = let same : t ≡ Leaf (tree.Bytes bs) = cc in ap value_of_parcel same
  value_back (pure.Tuple vs) t e =
      let g = grouped (parcels_of vs) t e in
      ap value_of_parcel g.is ∙ ap (option_map pure.Tuple) (values_back vs g.trees g.trees_are)
  value_back (pure.Provided b) t e = absurd cc
  value_back (pure.Function f k) t e = absurd cc
  value_back (pure.Range a b c) t e = absurd cc
  value_back (pure.Class k) t e = absurd cc
  value_back (pure.Queue qu qm) t e = let same : t ≡ Leaf (tree.Queue qu qm) = cc in ap value_of_parcel same
  value_back (pure.Module mo) t e = absurd cc
  value_back (pure.Interpreter it) t e = absurd cc
  value_back (pure.Exec it) t e = absurd cc
  value_back (pure.Address x) t e = absurd cc

  values_back : (vs : Values) (ts : Trees) → parcels_of vs ≡ Some ts → values_of_parcels ts ≡ Some vs
  values_back NoValues ts e = let same : ts ≡ NoTrees = cc in ap values_of_parcels same
  values_back (MoreValues v vs) ts e =
      let b = both (parcel_of v) (parcels_of vs) ts e in
      ap values_of_parcels b.all ∙ ap₂ more_values (value_back v b.first b.first_is) (values_back vs b.others b.others_are)

-- the values of trees that are there
pub record BothValues (a : Option Value) (b : Option Values) (vs : Values) : Type 0 where
  pub first : Value
  pub others : Values
  pub first_is : a ≡ Some first
  pub others_are : b ≡ Some others
  pub all : vs ≡ MoreValues first others

pub both_values : (a : Option Value) (b : Option Values) (vs : Values) → more_values a b ≡ Some vs → BothValues a b vs
both_values (Some v) (Some us) vs e = record { first = v; others = us; first_is = refl; others_are = refl; all = cc }
both_values (Some v) None vs e = absurd cc
both_values None b vs e = absurd cc

pub record GroupedValues (b : Option Values) (v : Value) : Type 0 where
  pub values : Values
  pub values_are : b ≡ Some values
  pub is : v ≡ pure.Tuple values

pub grouped_values : (b : Option Values) (v : Value) → option_map pure.Tuple b ≡ Some v → GroupedValues b v
grouped_values (Some us) v e = record { values = us; values_are = refl; is = cc }
grouped_values None v e = absurd cc

mutual
  pub parcel_back : (t : Tree) (v : Value) → value_of_parcel t ≡ Some v → parcel_of v ≡ Some t
  parcel_back (Leaf tree.Nothing) v e = let same : v ≡ pure.Nothing = cc in ap parcel_of same
  parcel_back (Leaf (tree.Truth b)) v e = let same : v ≡ pure.Truth b = cc in ap parcel_of same
  parcel_back (Leaf (tree.Int n)) v e = let same : v ≡ pure.Int n = cc in ap parcel_of same
  parcel_back (Leaf (tree.Str s)) v e = let same : v ≡ pure.Str s = cc in ap parcel_of same
  parcel_back (Leaf (tree.Bytes bs)) v e = let same : v ≡ pure.Bytes bs = cc in ap parcel_of same
  parcel_back (Leaf (tree.Queue id maxsize)) v e = let same : v ≡ pure.Queue id maxsize = cc in ap parcel_of same
  parcel_back (Group tree.Tuple ts) v e =
      let g = grouped_values (values_of_parcels ts) v e in
      ap parcel_of g.is ∙ ap (option_map (Group tree.Tuple)) (parcels_back ts g.values g.values_are)

  parcels_back : (ts : Trees) (vs : Values) → values_of_parcels ts ≡ Some vs → parcels_of vs ≡ Some ts
  parcels_back NoTrees vs e = let same : vs ≡ NoValues = cc in ap parcels_of same
  parcels_back (MoreTrees t ts) vs e =
      let b = both_values (value_of_parcel t) (values_of_parcels ts) vs e in
      ap parcels_of b.all ∙ ap₂ more_trees (parcel_back t b.first b.first_is) (parcels_back ts b.others b.others_are)

-- ---- item by item

pub left_step : (m : Memory) (xs : List Ref) (i : ℕ) (r d : Ref) → r ≡ get_or xs i d → i < length xs → drop i (all_of m xs) ≡ value_of m r ∷ drop (i + 1) (all_of m xs)
left_step m xs i r d e h =
    let a : length (all_of m xs) ≡ length xs = length-map xs (value_of m) in
    let p : i < length (all_of m xs) = omega (arith, a) in
    rw (e, add-one, drop-cons (all_of m xs) i pure.Nothing, get_or-map (value_of m) xs i d pure.Nothing h) refl

-- a value in a row is less than all of them
pub less_than_all : (m : Memory) (xs : List Ref) (i : ℕ) (r : Ref) → i < length xs → r ≡ get_or xs i r → count_of (value_of m r) ≤ counts_of (values_of (all_of m xs))
less_than_all m [] i r h e = absurd (omega arith)
less_than_all m (x ∷ xs) zero r h e = omega (arith, ap (λ q. count_of (value_of m q)) e)
less_than_all m (x ∷ xs) (suc i) r h e = let k = less_than_all m xs i r (omega arith) e in omega (arith, k)

-- ---- a part of a parcel is one

in_sizes : (ps us : List Tree) (t : Tree) → tree.size_of t ≤ tree.sizes_of (trees_of (ps ++ t ∷ us))
in_sizes [] us t = omega arith
in_sizes (p ∷ ps) us t = let k = in_sizes ps us t in omega (arith, k)

in_deepest : (ps us : List Tree) (t : Tree) → tree.levels_of t ≤ tree.deepest_of (trees_of (ps ++ t ∷ us))
in_deepest [] us t = omega arith
in_deepest (p ∷ ps) us t = let k = in_deepest ps us t in omega (arith, k)

in_longest : (ps us : List Tree) (t : Tree) → longest_in t ≤ longest_among (trees_of (ps ++ t ∷ us))
in_longest [] us t = omega arith
in_longest (p ∷ ps) us t = let k = in_longest ps us t in omega (arith, k)

pub part_is_parcel : (ps us : List Tree) (t : Tree) → IsParcel (tree.tuple_of (ps ++ t ∷ us)) → IsParcel t
part_is_parcel ps us t h = record {
  size = omega (arith, in_sizes ps us t, h.size);
  levels = omega (arith, in_deepest ps us t, h.levels);
  longest = omega (arith, in_longest ps us t, h.longest);
}

-- ---- a tuple that fits

-- the trees of its items are a parcel together
pub all_parceled : (vs : List Value) {v : Value} → pure.tuple_of vs ≡ v → Fits v → (us : List Tree) → parcels_of (values_of vs) ≡ Some (trees_of us) → IsParcel (tree.tuple_of us)
all_parceled vs {v = v} is h us e =
    let same : Some h.0 ≡ Some (tree.tuple_of us) = sym h.1 ∙ ap parcel_of (sym is) ∙ ap (option_map (Group tree.Tuple)) e in
    let t : h.0 ≡ tree.tuple_of us = cc in
    subst IsParcel t h.2

-- and the tuple of these is its parcel
pub parcel_of_all : (vs : List Value) {v : Value} → pure.tuple_of vs ≡ v → (us : List Tree) → parcels_of (values_of vs) ≡ Some (trees_of us) → parcel_of v ≡ Some (tree.tuple_of us)
parcel_of_all vs is us e = ap parcel_of (sym is) ∙ ap (option_map (Group tree.Tuple)) e

-- memory may be refused for it
pub memory_refused : (vs : List Value) {v : Value} → pure.tuple_of vs ≡ v → Fits v → CopiesOut v (Err NoMemory)
memory_refused vs {v = v} is h =
    let g = grouped (parcels_of (values_of vs)) h.0 (ap parcel_of is ∙ h.1) in
    (h.0, h.1, h.2, subst TakesMemory (sym g.is) tt)

-- and for nothing else, nor is a part of it refused for anything else
pub part_refused : (vs : List Value) {v : Value} (u : Value) (e : ShareFault) → pure.tuple_of vs ≡ v → Fits v → Fits u → CopiesOut u (Err e) → CopiesOut v (Err e)
part_refused vs u NotShareable is h k r = let none : None ≡ Some k.0 = sym r ∙ k.1 in absurd cc
part_refused vs u TooLarge is h k r = let same : Some r.0 ≡ Some k.0 = sym r.1 ∙ k.1 in let t : k.0 ≡ r.0 = cc in absurd (r.2 (subst IsParcel t k.2))
part_refused vs u NoMemory is h k r = memory_refused vs is h

-- ---- why a tuple is refused

pub large_is : (f : TupleFault) (x y : Vec Parcel Global) → f ≡ tuple_fault.TooLarge x
    → (f ≡ tuple_fault.TooLarge y) ⊎ ((f ≡ tuple_fault.TooDeep y) ⊎ (f ≡ tuple_fault.NoMemory y)) → f ≡ tuple_fault.TooLarge y
large_is f x y h (inl e) = e
large_is f x y h (inr (inl e)) = let other : tuple_fault.TooLarge x ≡ tuple_fault.TooDeep y = sym h ∙ e in absurd cc
large_is f x y h (inr (inr e)) = let other : tuple_fault.TooLarge x ≡ tuple_fault.NoMemory y = sym h ∙ e in absurd cc

pub deep_is : (f : TupleFault) (x y : Vec Parcel Global) → f ≡ tuple_fault.TooDeep x
    → (f ≡ tuple_fault.TooLarge y) ⊎ ((f ≡ tuple_fault.TooDeep y) ⊎ (f ≡ tuple_fault.NoMemory y)) → f ≡ tuple_fault.TooDeep y
deep_is f x y h (inl e) = let other : tuple_fault.TooDeep x ≡ tuple_fault.TooLarge y = sym h ∙ e in absurd cc
deep_is f x y h (inr (inl e)) = e
deep_is f x y h (inr (inr e)) = let other : tuple_fault.TooDeep x ≡ tuple_fault.NoMemory y = sym h ∙ e in absurd cc

-- where none is left, those so far are all
pub complete : (ps us : List Tree) → trees_of us ≡ NoTrees → ps ++ us ≡ ps
complete ps [] e = append-nil ps
complete ps (u ∷ us) e = absurd cc

-- ---- the values of trees

pub mapped_values : (b : Option Values) → is_some (option_map pure.Tuple b) ≡ is_some b
mapped_values (Some vs) = refl
mapped_values None = refl

-- both are there where all are
pub both_have_values : (a : Option Value) (b : Option Values) → is_some (more_values a b) ≡ true → (v : Value) × (vs : Values) × (a ≡ Some v) × (b ≡ Some vs)
both_have_values (Some v) (Some vs) e = (v, vs, refl, refl)
both_have_values (Some v) None e = absurd cc
both_have_values None b e = absurd cc

pub left_tree : (ts : List Tree) (i : ℕ) (t : Tree) → t ≡ get_or ts i t → i < length ts → drop i ts ≡ t ∷ drop (i + 1) ts
left_tree ts i t e h = rw (add-one, drop-cons ts i t) (ap (λ u. u ∷ drop (suc i) ts) (sym e))

pub less_than_trees : (ts : List Tree) (i : ℕ) (t : Tree) → i < length ts → t ≡ get_or ts i t → tree.size_of t ≤ tree.sizes_of (trees_of ts)
less_than_trees [] i t h e = absurd (omega arith)
less_than_trees (u ∷ ts) zero t h e = omega (arith, ap tree.size_of e)
less_than_trees (u ∷ ts) (suc i) t h e = let k = less_than_trees ts i t (omega arith) e in omega (arith, k)

pub split_values : (a : Option Value) (b : Option Values) (us : List Value) → more_values a b ≡ Some (values_of us)
    → (v : Value) × (ws : List Value) × (us ≡ v ∷ ws) × (a ≡ Some v) × (b ≡ Some (values_of ws))
split_values (Some v) (Some vs) [] e = absurd cc
split_values (Some v) (Some vs) (u ∷ us) e = (u, us, refl, cc, cc)
split_values (Some v) None us e = absurd cc
split_values None b us e = absurd cc

-- values are those of a list
pub listed_values : (vs : Values) → (us : List Value) × (vs ≡ values_of us)
listed_values NoValues = ([], refl)
listed_values (MoreValues v vs) = let l = listed_values vs in (v ∷ l.0, ap (MoreValues v) l.1)

-- each parcel has a value
both_there : (a : Option Value) (b : Option Values) → is_some a ≡ true → is_some b ≡ true → is_some (more_values a b) ≡ true
both_there (Some v) (Some vs) h k = refl
both_there (Some v) None h k = absurd cc
both_there None b h k = absurd cc

mutual
  pub each_has_value : (p : Tree) → is_some (value_of_parcel p) ≡ true
  each_has_value (Leaf tree.Nothing) = refl
  each_has_value (Leaf (tree.Truth b)) = refl
  each_has_value (Leaf (tree.Int n)) = refl
  each_has_value (Leaf (tree.Str s)) = refl
  each_has_value (Leaf (tree.Bytes bs)) = refl
  each_has_value (Leaf (tree.Queue q m)) = refl
  each_has_value (Group tree.Tuple ts) = mapped_values (values_of_parcels ts) ∙ all_have_values ts

  pub all_have_values : (ts : Trees) → is_some (values_of_parcels ts) ≡ true
  all_have_values NoTrees = refl
  all_have_values (MoreTrees t ts) = both_there (value_of_parcel t) (values_of_parcels ts) (each_has_value t) (all_have_values ts)

pub has : (a : Option Value) → is_some a ≡ true → (v : Value) × (a ≡ Some v)
has (Some v) e = (v, refl)
has None e = absurd cc

pub complete_values : (ps us : List Value) → values_of us ≡ NoValues → ps ++ us ≡ ps
complete_values ps [] e = append-nil ps
complete_values ps (u ∷ us) e = absurd cc

-- ---- values in a row, one after the other

pub all_push : (m : Memory) (rs : List Ref) (r : Ref) → all_of m (rs ++ r ∷ []) ≡ all_of m rs ++ value_of m r ∷ []
all_push m [] r = refl
all_push m (x ∷ rs) r = ap (λ vs. value_of m x ∷ vs) (all_push m rs r)

pub all_lie_push : (m : Memory) (rs : List Ref) (r : Ref) → AllLie m rs → Lies m r → AllLie m (rs ++ r ∷ [])
all_lie_push m [] r h k = (k, tt)
all_lie_push m (x ∷ rs) r h k = (h.0, all_lie_push m rs r h.1 k)

-- ---- what is left of a tuple that is refused

goes_on : (p : Tree) (old new : Memory) → Leaves p old new → Extends old new × (new.store ≡ old.store)
goes_on (Leaf a) old new e = (subst (Extends old) (sym e) (extends_same old), ap (λ (m : Memory). m.store) e)
goes_on (Group s ts) old new h = h

pub part_left : (p : Tree) (ts : List Tree) (e : AllocError) (first old new : Memory) (v : Value) → value_of_parcel p ≡ Some v
    → Extends first old → old.store ≡ first.store → CopiesIn p old new (Err e) → CopiesIn (tree.tuple_of ts) first new (Err e)
part_left p ts e first old new v is x y h = let g = goes_on p old new h.1 in (tt, (extends_more x g.0, g.1 ∙ y))

-- a tuple whose trees are a parcel is not too large
pub not_too_large : (ts : List Tree) (vs : List Value) → IsParcel (tree.tuple_of ts) → values_of_parcels (trees_of ts) ≡ Some (values_of vs) → is_too_large (pure.tuple_of vs) ≡ false
not_too_large ts vs h e =
    let whole : value_of_parcel (tree.tuple_of ts) ≡ Some (pure.tuple_of vs) = ap (option_map pure.Tuple) e in
    let same = alike (pure.tuple_of vs) (tree.tuple_of ts) (parcel_back (tree.tuple_of ts) (pure.tuple_of vs) whole) in
    small_enough (pure.tuple_of vs) (omega (arith, same.size, h.size)) (omega (arith, same.levels, h.levels))

-- a tuple is refused otherwise than for want of memory because it is too large
pub raised_large : (vs : List Value) (old new : Memory) (f : Fault) (cause : Cause) → f ≡ Raises cause → PlacesTuple vs old new (Err f) → is_too_large (pure.tuple_of vs) ≡ true
raised_large vs old new f cause e h = (subst (λ g. PlacesTuple vs old new (Err g)) e h).0
