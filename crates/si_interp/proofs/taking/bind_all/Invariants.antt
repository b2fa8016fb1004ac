use Rattle.std.proofs.Common.{◌≡◌, take}
use Rattle.si_slots.specs.Views.{table_of}
use Rattle.si_steps.specs.Machines.{Waits, printed_of}
use Rattle.si_interp.specs.Life.{values_of}
use Rattle.si_interp.specs.inner.Keeps.{with_values}
use Rattle.si_interp.proofs.taking.bind_all.Given as goal

abbrev pub invariant-binds : goal.invariant-binds
invariant-binds g l =
    record {
      waits : Waits (with_values (values_of (take l.name-index l.binds)) g.w) l.machine;
      table : table_of l.machine.table ≡ table_of l.initial.machine.table;
      printed : printed_of l.machine ≡ printed_of l.initial.machine;
    }
