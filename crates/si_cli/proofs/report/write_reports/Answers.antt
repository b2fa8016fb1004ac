use Rattle.std.proofs.Common.{◌≡◌, ◌∙◌, ◌<◌, Some, arith, length, refl, slice_get}
use Rattle.std.proofs.lemmas.Option.{slice_get_read}
use Rattle.si_cli.specs.Report.{part_of}
use Rattle.si_cli.proofs.ReportLemmas.{appended_piece, part_appended}
use Rattle.si_cli.proofs.report.write_reports.Goals as goal

pub reports-preserved : goal.reports-preserved
reports-preserved g c =
    let reports = c.args.reports.now in
    let report = c.report-item.result in
    let within : c.reports.report-index < length reports = omega arith in
    let here : slice_get reports c.reports.report-index ≡ Some report = slice_get_read reports (length reports) c.reports.report-index report refl within c.report-item.is in
    let part = part_appended _ _ report _ _ _ c.id.ensures (c.as_str.ensures.characters ∙ c.printed.ensures) c.log.ensures c.in_ok-write_part.ensures.part in
    appended_piece part_of reports c.reports.report-index report _ _ _ here c.reports.invariant part
