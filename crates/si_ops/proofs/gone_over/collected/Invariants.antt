-- the items so far are the first ones
use Rattle.std.proofs.Common.{◌≡◌, take}
use Rattle.si_arena.specs.Memory.{value_of, all_of, AllLie}
use Rattle.si_ops.specs.Items.{gone_over}
use Rattle.si_ops.proofs.gone_over.collected.Given as goal

abbrev pub invariant-loop-i : goal.invariant-loop-i
invariant-loop-i l = record { all : all_of l.arena l.all.items ≡ take l.i (gone_over l.arena (value_of l.arena l.value)); lie : AllLie l.arena l.all.items }
