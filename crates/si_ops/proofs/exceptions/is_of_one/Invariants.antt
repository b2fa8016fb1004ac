-- what matched and the rest say whether one of all matches
use Rattle.std.proofs.Common.{◌≡◌, drop, Some}
use Rattle.std.specs.Prelude.{option_map, ◌||◌}
use Rattle.si_semantics.specs.Operations.{is_of_one}
use Rattle.si_arena.specs.Memory.{all_of, contents_of}
use Rattle.si_ops.proofs.exceptions.is_of_one.Given as goal

abbrev pub invariant-loop-i : goal.invariant-loop-i
invariant-loop-i l =
    option_map (λ b. l.matches || b) (is_of_one (all_of l.arena (drop l.i l.kinds)) (Some (contents_of l.arena l.contents))) ≡ is_of_one (all_of l.arena l.kinds) (Some (contents_of l.arena l.contents))
