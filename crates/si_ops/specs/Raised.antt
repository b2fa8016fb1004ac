-- What `raise` raises over an arena, by its definition, which says what it does in a world. The world's objects are those
-- of the arena, before it and after it.
use Rattle.std.specs.Prelude.{◌≡◌, ℕ, ◌<◌, length}
use Rattle.si_semantics.specs.World.{World}
use Rattle.si_arena.specs.Memory.{Memory, Extends}

-- the exception at an address is raised, which lies in the arena; nothing is changed but the objects, to which it may
-- have been added
pub record IsRaised (f : World → ℕ × World) (old new : Memory) (address : ℕ) : Type 0 where
  pub raises : (w : World) → w.store ≡ old.store → f w ≡ (address, record w { store = new.store })
  pub lies : address < length new.store
  pub memory : new ≡ record old { store = new.store }
  pub extends : Extends old new
