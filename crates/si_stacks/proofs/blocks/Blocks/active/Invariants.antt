use Rattle.std.proofs.Common.{◌≡◌, ◌≤◌, length, take}
use Rattle.std.specs.Prelude.{reverse}
use Rattle.si_stacks.specs.Blocks.{active_of}
use Rattle.si_stacks.proofs.blocks.Blocks.active.Given as goal

abbrev pub invariant-loop-left : goal.invariant-loop-left
invariant-loop-left g l = (active_of (reverse (take l.left l.items)) ≡ active_of l.self) × (l.left ≤ length l.items)

abbrev pub decreases-loop-left : goal.decreases-loop-left
decreases-loop-left g l = l.left
