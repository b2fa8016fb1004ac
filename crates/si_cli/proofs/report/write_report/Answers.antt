use Rattle.std.proofs.Common.{◌∙◌, ◌++◌, ap, encode_utf8_all, subst, sym, List, ℕ}
use Rattle.std.proofs.lemmas.Result.{on_ok_weaker}
use Rattle.std.proofs.lemmas.Str.{encodes-append}
use Rattle.std.specs.Io.KnownBytes.{Appends}
use Rattle.si_world.specs.Reports.{members, recorded}
use Rattle.si_cli.specs.Report.{end_in, end_line, parts_of}
use Rattle.si_cli.proofs.ReportLemmas.{appended}
use Rattle.si_cli.proofs.report.write_report.Goals as goal

pub returns-clause-report : goal.returns-clause-report
returns-clause-report g c =
    let w = c.args.world.now in
    let last_line = c.end_text.ensures ∙ ap (λ e. encode_utf8_all (end_line e)) c.end.ensures.value in
    on_ok_weaker c.write_text.result
    (λ last. subst (λ (bs : List ℕ). Appends (g.W.Write.contents c.args.out.now) (g.W.Write.contents c.write_text.new.out) bs)
    (ap (λ e. encode_utf8_all (parts_of (members w)) ++ e) last_line ∙ sym (encodes-append (parts_of (members w)) (end_line (end_in (recorded w)))))
    (appended _ _ _ _ _ c.in_ok-write_parts.ensures.parts last))
    c.write_text.ensures.text
