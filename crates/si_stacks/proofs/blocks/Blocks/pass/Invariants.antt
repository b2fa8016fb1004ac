use Rattle.std.proofs.Common.{◌≡◌, length}
use Rattle.si_stacks.specs.Blocks.{reached}
use Rattle.si_stacks.proofs.blocks.Blocks.pass.Given as goal

abbrev pub invariant-loop-block : goal.invariant-loop-block
invariant-loop-block g l = reached l.leaving l.self ≡ reached l.fn.leaving l.fn.self

abbrev pub decreases-loop-block : goal.decreases-loop-block
decreases-loop-block g l = length l.self
