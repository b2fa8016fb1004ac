use Rattle.si_cli.proofs.ReportLemmas.{appended_kept}
use Rattle.si_cli.proofs.serving.report.Goals as goal

pub returns-clause-told : goal.returns-clause-told
returns-clause-told g c = record {
  report = appended_kept _ _ _ _ c.in_ok-write_report.ensures.report c.in_ok-flush.ensures.kept;
  status_is = c.status_of.ensures;
}
