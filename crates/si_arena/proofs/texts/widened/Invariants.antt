-- the characters so far stand after those that were there
use Rattle.std.proofs.Common.{◌≡◌, ◌++◌}
use Rattle.si_arena.proofs.texts.widened.Given as goal

abbrev pub invariant-loop-c : goal.invariant-loop-c
invariant-loop-c l = l.wide.items ≡ l.initial.wide.items ++ l.yielded
