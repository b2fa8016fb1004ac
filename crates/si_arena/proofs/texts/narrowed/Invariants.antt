-- the characters so far stand after those that were there
use Rattle.std.proofs.Common.{◌≡◌, ◌++◌}
use Rattle.si_arena.proofs.texts.narrowed.Given as goal

abbrev pub invariant-loop-c : goal.invariant-loop-c
invariant-loop-c l = l.narrow.items ≡ l.initial.narrow.items ++ l.yielded
