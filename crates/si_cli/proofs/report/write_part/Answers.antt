use Rattle.std.proofs.Common.{subst, List, ℕ}
use Rattle.std.proofs.lemmas.Result.{on_ok_weaker}
use Rattle.std.specs.Io.KnownBytes.{Appends}
use Rattle.si_cli.proofs.ReportLemmas.{appended, part_bytes}
use Rattle.si_cli.proofs.report.write_part.Goals as goal

pub returns-clause-part : goal.returns-clause-part
returns-clause-part g c =
    on_ok_weaker c.write_raised_lines.result
    (λ last. subst (λ (bs : List ℕ). Appends (g.W.Write.contents c.args.out.now) (g.W.Write.contents c.write_raised_lines.new.out) bs)
    (part_bytes c.args.id c.args.printed.now c.args.log.now c.utf8.printed)
    (appended _ _ _ _ _ c.in_ok-write_heading.ensures.line (appended _ _ _ _ _ c.in_ok-write_text.ensures.text last)))
    c.write_raised_lines.ensures.lines
