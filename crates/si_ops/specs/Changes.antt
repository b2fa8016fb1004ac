-- How what changes lists and dicts goes over an arena, by its definition, which says what it does in a world. The world's
-- objects are those of the arena, before it and after it.
use Rattle.std.specs.Prelude.{◌≡◌, List, Option, Some, Result, Ok, Err, slice_get}
use Rattle.si_semantics.specs.Value as pure
use Rattle.si_semantics.specs.World.{World, Ran}
use Rattle.si_arena.specs.declared.value.Ref.{Ref}
use Rattle.si_arena.specs.declared.cause.Cause.{Cause}
use Rattle.si_arena.specs.declared.cause.Fault.{Fault}
use Rattle.si_arena.specs.declared.cause.Fault.TheVariants.{Raises, NoMemory}
use Rattle.si_arena.specs.Memory.{Memory, value_of, Lies, Extends}
use Rattle.si_ops.specs.declared.lack.Lack.{Lack}
use Rattle.si_ops.specs.declared.lack.Lack.TheVariants as lack
use Rattle.si_ops.specs.Runs.{Throws, MissesKey}
use Rattle.si_ops.specs.Calls.{GivesAnew}

-- a change that gives no value; or why it raises, or memory is refused, and then the arena is as it was
abbrev pub Changes : (World → Ran) → Memory → Memory → Result (Unit {0}) Fault → Type 0
Changes f old new (Ok u) = GivesAnew f old new pure.Nothing × Extends old new
Changes f old new (Err (Raises cause)) = Throws f old cause × (new ≡ old)
Changes f old new (Err NoMemory) = new ≡ old

-- memory was not refused to it
abbrev pub IsGranted : Result (Unit {0}) Fault → Type 0
IsGranted (Err NoMemory) = ⊥
IsGranted _ = Unit {0}

-- no dict
abbrev pub IsNoDictObject : Option pure.Object → Type 0
IsNoDictObject (Some (pure.Pairs ps)) = ⊥
IsNoDictObject _ = Unit {0}

-- a value that is no dict
abbrev pub IsNoDict : List pure.Object → pure.Value → Type 0
IsNoDict store (pure.Address x) = IsNoDictObject (slice_get store x)
IsNoDict store _ = Unit {0}

-- a change that takes no memory, and gives no value, with an index, which may be a key that is not there
abbrev pub Deletes : (World → Ran) → (index : pure.Value) → Memory → Memory → Result (Unit {0}) Lack → Type 0
Deletes f v old new (Ok u) = GivesAnew f old new pure.Nothing × Extends old new
Deletes f v old new (Err (lack.Raises cause)) = Throws f old cause × (new ≡ old)
Deletes f v old new (Err lack.NoKey) = MissesKey f old v × (new ≡ old)

-- the same that gives a value
abbrev pub Takes : (World → Ran) → (index : pure.Value) → Memory → Memory → Result Ref Lack → Type 0
Takes f v old new (Ok r) = GivesAnew f old new (value_of new r) × Lies new r × Extends old new
Takes f v old new (Err (lack.Raises cause)) = Throws f old cause × (new ≡ old)
Takes f v old new (Err lack.NoKey) = MissesKey f old v × (new ≡ old)

-- the same, where the index is no key
abbrev pub TakesItem : (World → Ran) → Memory → Memory → Result Ref Cause → Type 0
TakesItem f old new (Ok r) = GivesAnew f old new (value_of new r) × Lies new r × Extends old new
TakesItem f old new (Err cause) = Throws f old cause × (new ≡ old)
