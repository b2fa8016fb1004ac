-- A value, opened by one level.
use Rattle.std.specs.Prelude.{ℕ, List, Option, Some, None, slice_get}
use Rattle.si_plain.specs.declared.kind.Kind.{Kind}
use Rattle.si_semantics.specs.Value.{Value, Key, Tuple, Address, items_of, Object, Items, Pairs, Exception, Thread, Started}

-- a value that holds none; or what a tuple or an object holds, an object with its address; an address may lead nowhere
pub data Opened : Type 0 where
  Atom : Value → Opened
  InTuple : List Value → Opened
  InList : ℕ → List Value → Opened
  InDict : ℕ → List (Key × Value) → Opened
  InException : ℕ → Kind → Option Value → Opened
  InThread : ℕ → Opened
  Nowhere : Opened

-- an object at an address
abbrev pub opened_at : ℕ → Option Object → Opened
opened_at x None = Nowhere
opened_at x (Some (Items vs)) = InList x vs
opened_at x (Some (Pairs ps)) = InDict x ps
opened_at x (Some (Exception k a)) = InException x k a
opened_at x (Some (Thread i text)) = InThread x
opened_at x (Some (Started r)) = InThread x

-- a value in a store
abbrev pub opened : List Object → Value → Opened
opened store (Tuple vs) = InTuple (items_of vs)
opened store (Address x) = opened_at x (slice_get store x)
opened store v = Atom v
