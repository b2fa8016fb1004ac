use Rattle.std.proofs.Common.{◌≡◌, ◌≤◌, length, take}
use Rattle.std.specs.Prelude.{reverse}
use Rattle.si_stacks.specs.Blocks.{is_handled}
use Rattle.si_stacks.proofs.blocks.Blocks.is_handled.Given as goal

abbrev pub invariant-loop-left : goal.invariant-loop-left
invariant-loop-left g l = (is_handled (reverse (take l.left l.items)) ≡ is_handled l.self) × (l.left ≤ length l.items)

abbrev pub decreases-loop-left : goal.decreases-loop-left
decreases-loop-left g l = l.left
