-- What is read off None, truths and ints is their parcel, in each arena, and the other way round.
use Rattle.std.proofs.Common.{[], ◌≡◌, true, Some, Ok, refl, subst}
use Rattle.std.specs.Prelude.{is_some, option_map}
use Rattle.si_semantics.specs.Value as pure
use Rattle.si_semantics.specs.Parcels as tree
use Rattle.si_semantics.specs.Parcels.{Tree, Leaf, longest_in}
use Rattle.si_semantics.specs.Shareable.{parcel_of, value_of_parcel}
use Rattle.si_arena.specs.declared.value.Ref.{Ref}
use Rattle.si_arena.specs.declared.value.Ref.TheVariants as value
use Rattle.si_arena.specs.Memory.{Memory, value_of, Lies}
use Rattle.si_arena.proofs.Lying.{extends_same}
use Rattle.si_share.specs.Copies.{CopiesIn}
use Rattle.si_share.specs.inner.Scalars.{scalar_parcel, scalar_value}

-- the parcel of a value
pub scalar_sent : (m : Memory) (r : Ref) (p : Tree) → scalar_parcel r ≡ Some p → parcel_of (value_of m r) ≡ Some p
scalar_sent m value.None p e = e
scalar_sent m (value.Truth at b) p e = e
scalar_sent m (value.Int n) p e = e
scalar_sent m _ p e = absurd cc

-- and there is no text in it
pub scalar_longest : (m : Memory) (r : Ref) → is_some (scalar_parcel r) ≡ true → option_map longest_in (parcel_of (value_of m r)) ≡ Some 0
scalar_longest m value.None e = refl
scalar_longest m (value.Truth at b) e = refl
scalar_longest m (value.Int n) e = refl
scalar_longest m _ e = absurd cc

-- the value of a parcel
scalar_received : (m : Memory) (p : Tree) (r : Ref) → scalar_value p ≡ Some r → (value_of_parcel p ≡ Some (value_of m r)) × Lies m r
scalar_received m (Leaf tree.Nothing) r e = let same : value.None ≡ r = cc in subst (λ (s : Ref). (Some pure.Nothing ≡ Some (value_of m s)) × Lies m s) same (refl, tt)
scalar_received m (Leaf (tree.Truth b)) r e = let same : value.Truth [] b ≡ r = cc in subst (λ (s : Ref). (Some (pure.Truth b) ≡ Some (value_of m s)) × Lies m s) same (refl, tt)
scalar_received m (Leaf (tree.Int n)) r e = let same : value.Int n ≡ r = cc in subst (λ (s : Ref). (Some (pure.Int n) ≡ Some (value_of m s)) × Lies m s) same (refl, tt)
scalar_received m _ r e = absurd cc

-- and so a parcel is copied into an arena that stays as it is
pub scalar_copied : (m : Memory) (p : Tree) (r : Ref) → scalar_value p ≡ Some r → CopiesIn p m m (Ok r)
scalar_copied m p r e =
    let read = scalar_received m p r e in
    (value_of m r, read.0, record { denotes = refl; lies = read.1; extends = extends_same m; store = refl })
