-- What a value holds that can be changed.
use Rattle.std.specs.Prelude.{◌≡◌, ◌<◌, ℕ, ℤ, List, length, Option, Some, None, Result, Ok, Err, slice_get}
use Rattle.si_semantics.specs.Value.{Value, Address, Object, Items, Pairs}
use Rattle.si_semantics.specs.Subscription.{item_meant}
use Rattle.si_arena.specs.Memory.{Memory, list_at, IsListAt, IsDictAt}
use Rattle.si_arena.specs.declared.value.Ref.{Ref}
use Rattle.si_arena.specs.declared.cause.Cause.{Cause}
use Rattle.si_ops.specs.Operands.{IsNoList}
use Rattle.si_ops.specs.declared.lack.Lack.{Lack}
use Rattle.si_ops.specs.declared.lack.Lack.TheVariants.{Raises}
use Rattle.si_ops.specs.declared.held.Held.{Held}
use Rattle.si_ops.specs.declared.held.Held.TheVariants as held

-- neither a list nor a dict
abbrev pub IsPlainObject : Option Object → Type 0
IsPlainObject (Some (Items vs)) = ⊥
IsPlainObject (Some (Pairs ps)) = ⊥
IsPlainObject _ = Unit {0}

-- a value that is neither
abbrev pub IsPlain : List Object → Value → Type 0
IsPlain store (Address x) = IsPlainObject (slice_get store x)
IsPlain store _ = Unit {0}

-- a value is a list, a dict, or neither
abbrev pub IsHeld : Memory → Value → Held → Type 0
IsHeld m v (held.List x) = (v ≡ Address x) × (x < length m.store) × IsListAt m x
IsHeld m v (held.Dict x) = (v ≡ Address x) × (x < length m.store) × IsDictAt m x
IsHeld m v held.Other = IsPlain m.store v

-- a value, or why there is none
abbrev pub lack_of : Result Ref Cause → Result Ref Lack
lack_of (Ok r) = Ok r
lack_of (Err cause) = Err (Raises cause)

-- where the item at an index lies in the list at an address, where both are there
abbrev pub PlaceIn : Memory → (address : ℕ) → (index : ℤ) → Option ℕ → Type 0
PlaceIn m x i (Some at) = IsListAt m x × (item_meant (length (list_at m x)) i ≡ Some at) × (at < length (list_at m x))
PlaceIn m x i None = IsListAt m x → item_meant (length (list_at m x)) i ≡ None

-- the address of a list
abbrev pub IsListIn : Memory → Value → Option ℕ → Type 0
IsListIn m v (Some x) = (v ≡ Address x) × (x < length m.store) × IsListAt m x
IsListIn m v None = IsNoList m.store v
