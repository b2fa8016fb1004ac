-- what is written, and then the lines that are left, are all lines
use Rattle.std.proofs.Common.{◌≡◌, ◌+◌, ◌++◌, drop, string_bytes, encode_utf8_all}
use Rattle.si_history.specs.History.{lines_from, history as text_of}
use Rattle.si_history.proofs.lines.history.Given as goal

abbrev pub invariant-calls : goal.invariant-calls
invariant-calls l = string_bytes l.out ++ encode_utf8_all (lines_from (l.at + 1) (drop l.at l.journal)) ≡ encode_utf8_all (text_of l.journal)
