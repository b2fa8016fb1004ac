-- the values so far are written
use Rattle.std.proofs.Common.{take}
use Rattle.si_arena.specs.Memory.{all_of}
use Rattle.si_ops.specs.Writing.{spaced_in}
use Rattle.si_ops.proofs.Lines.{Went}
use Rattle.si_ops.proofs.line.add_others.Given as goal

abbrev pub invariant-loop-value : goal.invariant-loop-value
invariant-loop-value l = Went (spaced_in l.arena.store (all_of l.arena (take l.value-index l.values))) l.initial.out l.out
