-- the characters so far
use Rattle.std.proofs.Common.{◌≡◌}
use Rattle.si_parse.proofs.literal.bytes_of.Given as goal

abbrev pub invariant-loop-character : goal.invariant-loop-character
invariant-loop-character l = l.bytes.items ≡ l.yielded
