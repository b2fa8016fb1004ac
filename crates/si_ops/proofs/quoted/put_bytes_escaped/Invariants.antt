-- the bytes so far are added
use Rattle.std.proofs.Common.{take, flat_map, encode_utf8_all}
use Rattle.si_plain.specs.Repr.{escaped_byte}
use Rattle.si_ops.specs.Writing.{Adds}
use Rattle.si_ops.proofs.quoted.put_bytes_escaped.Given as goal

abbrev pub invariant-loop-b : goal.invariant-loop-b
invariant-loop-b l = Adds (encode_utf8_all (flat_map (escaped_byte l.quote) (take l.b-index l.bytes))) l.initial.out l.out
