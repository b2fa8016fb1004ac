-- the parts of the interpreters so far
use Rattle.std.proofs.Common.{encode_utf8_all, take}
use Rattle.std.specs.Io.KnownBytes.{Appends}
use Rattle.si_cli.specs.Report.{parts_of}
use Rattle.si_cli.proofs.report.write_reports.Given as goal

abbrev pub invariant-reports : goal.invariant-reports
invariant-reports g l = Appends (g.W.Write.contents l.initial.out) (g.W.Write.contents l.out) (encode_utf8_all (parts_of (take l.report-index l.reports)))
