-- the characters so far are added
use Rattle.std.proofs.Common.{take, encode_utf8_all}
use Rattle.si_ops.specs.Writing.{Adds}
use Rattle.si_ops.proofs.pieces.put_each.Given as goal

abbrev pub invariant-loop-c : goal.invariant-loop-c
invariant-loop-c l = Adds (encode_utf8_all (take l.c-index l.characters)) l.initial.out l.out
