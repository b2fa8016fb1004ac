-- the lines of the entries so far
use Rattle.std.proofs.Common.{encode_utf8_all, take}
use Rattle.std.specs.Io.KnownBytes.{Appends}
use Rattle.si_cli.specs.Report.{raised_lines}
use Rattle.si_cli.proofs.report.write_raised_lines.Given as goal

abbrev pub invariant-entries : goal.invariant-entries
invariant-entries g l = Appends (g.W.Write.contents l.initial.out) (g.W.Write.contents l.out) (encode_utf8_all (raised_lines (take l.entry-index l.log)))
