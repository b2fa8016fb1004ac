-- the last items so far lie in the temporaries
use Rattle.std.proofs.Common.{◌≡◌, ◌-◌, List, drop, length}
use Rattle.si_semantics.specs.Value.{Value}
use Rattle.si_arena.specs.Memory.{value_of}
use Rattle.si_slots.specs.Machine as machine
use Rattle.si_ops.specs.Items.{gone_over}
use Rattle.si_stacks.specs.Places.{Keeps}
use Rattle.si_steps.proofs.unpacking.lay_items.Given as goal

abbrev pub invariant-loop-done : goal.invariant-loop-done
invariant-loop-done l = record {
  laid : (ts : List Value) → Keeps l.arena l.fn.frames.temporaries ts → Keeps l.arena l.frames.temporaries (machine.laid l.at (drop (l.count - l.done) (gone_over l.arena (value_of l.arena l.value))) ts);
  room : length l.frames.temporaries ≡ length l.fn.frames.temporaries;
  rest : l.frames ≡ record l.fn.frames { temporaries = l.frames.temporaries };
}
