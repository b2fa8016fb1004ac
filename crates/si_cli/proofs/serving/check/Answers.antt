use Rattle.std.proofs.Common.{refl}
use Rattle.si_cli.proofs.ReportLemmas.{appended_kept}
use Rattle.si_cli.proofs.serving.check.Goals as goal

pub returns-clause-says : goal.returns-clause-says
returns-clause-says g c = record {
  body = c.in_ok-read_script.ensures.read.0;
  read = c.in_ok-read_script.ensures.read.1;
  told = appended_kept _ _ _ _ c.in_ok-write_text.ensures.text c.in_ok-flush.ensures.kept;
  status_is = refl;
}
