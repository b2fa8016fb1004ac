-- the bytes so far, and those of the rest
use Rattle.std.proofs.Common.{◌≡◌, ℕ, List, ◌++◌, drop}
use Rattle.std.specs.Prelude.{option_map}
use Rattle.si_semantics.specs.Operations.{bytes_in}
use Rattle.si_arena.specs.Memory.{all_of}
use Rattle.si_ops.proofs.bytes.bytes_meant.Given as goal

abbrev pub invariant-loop-i : goal.invariant-loop-i
invariant-loop-i l = option_map (λ (more : List ℕ). l.bytes.items ++ more) (bytes_in (all_of l.arena (drop l.i l.items))) ≡ bytes_in (all_of l.arena l.items)
