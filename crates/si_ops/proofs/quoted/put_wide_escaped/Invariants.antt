-- the characters so far are added
use Rattle.std.proofs.Common.{take, flat_map, encode_utf8_all}
use Rattle.si_plain.specs.Repr.{escaped}
use Rattle.si_ops.specs.Writing.{Adds}
use Rattle.si_ops.proofs.quoted.put_wide_escaped.Given as goal

abbrev pub invariant-loop-c : goal.invariant-loop-c
invariant-loop-c l = Adds (encode_utf8_all (flat_map (escaped l.quote) (take l.c-index l.characters))) l.initial.out l.out
