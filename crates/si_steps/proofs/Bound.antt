-- Globals that are bound between runs.
use Rattle.std.proofs.Common.{◌≡◌, ◌≢◌, ℕ, ◌<◌, length, Some, sym, ap, ap₂, subst, ◌∙◌}
use Rattle.std.specs.Prelude.{AllPairs, Ok, slice_set}
use Rattle.si_semantics.specs.Value.{Text, Value}
use Rattle.si_semantics.specs.Parcels.{Tree}
use Rattle.si_semantics.specs.Shareable.{value_of_parcel}
use Rattle.si_semantics.specs.World.{World, set_global}
use Rattle.si_arena.specs.declared.value.Ref.{Ref}
use Rattle.si_arena.specs.Memory.{Memory, value_of, Lies}
use Rattle.si_share.specs.Copies.{CopiesIn}
use Rattle.si_slots.specs.Contents.{Contents}
use Rattle.si_slots.specs.Views.{code_of, entries_of, table_of, text_at}
use Rattle.si_stacks.proofs.Keeping.{lies_holds}
use Rattle.si_steps.specs.Machines.{bound_to}
use Rattle.si_steps.specs.Moments.{Ground, IsWorld}
use Rattle.si_steps.proofs.Globals.{world_set}

-- a table with other names alone, of the same code, is the same code
pub same_table : (old new : Contents) → new ≡ record old { names = new.names } → code_of new ≡ code_of old → table_of new ≡ table_of old
same_table old new e code = ap₂ (λ ls es. record { lines = ls; entries = es }) code (ap entries_of e)

-- a slot is bound to a value, of which the name is bound to it
pub slot_bound : (g : Ground) (w : World) (k : ℕ) (r : Ref) (x : Text) (v : Value) → AllPairs (λ y z. y ≢ z) g.table.names → k < length g.table.names → text_at g.table.names k ≡ x → Lies g.arena r → value_of g.arena r ≡ v → IsWorld g w →
    IsWorld (record g { globals = slice_set g.globals k r }) (set_global x v w)
slot_bound g w k r x v distinct less at lies is h =
    let holds = lies_holds g.arena r lies in
    subst (λ u. IsWorld (record g { globals = slice_set g.globals k r }) (set_global x u w)) is
    (subst (λ y. IsWorld (record g { globals = slice_set g.globals k r }) (set_global y (value_of g.arena r) w)) at
    (world_set g w k r (Some (value_of g.arena r)) distinct less holds.0 holds.1 h))

-- the world of a name that is bound to the value of a parcel
pub parcel_bound : (p : Tree) (old new : Memory) (r : Ref) (x : Text) (w : World) → CopiesIn p old new (Ok r) → set_global x (value_of new r) w ≡ bound_to x (value_of_parcel p) w
parcel_bound p old new r x w h = ap (λ v. set_global x v w) h.2.denotes ∙ ap (λ o. bound_to x o w) (sym h.1)
