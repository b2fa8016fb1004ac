-- what the entries so far don't tell, the others do
use Rattle.std.proofs.Common.{◌≡◌, drop}
use Rattle.host_example.specs.Findings.{first_end}
use Rattle.host_example.proofs.finding.first_end.Given as goal

abbrev pub invariant-loop-entry : goal.invariant-loop-entry
invariant-loop-entry l = first_end l.log ≡ first_end (drop l.entry-index l.log)
