-- no run has ended in the entries so far
use Rattle.std.proofs.Common.{◌≡◌, drop}
use Rattle.si_cli.specs.Report.{status_of_log}
use Rattle.si_cli.proofs.status.status_of_log.Given as goal

abbrev pub invariant-entries : goal.invariant-entries
invariant-entries l = status_of_log (drop l.entry-index l.log) ≡ status_of_log l.log
