use Rattle.std.proofs.Common.{◌≡◌, ◌<◌, Some, ap, arith, encode_utf8_all, length, refl, slice_get, subst, List, ℕ}
use Rattle.std.proofs.lemmas.Option.{slice_get_read}
use Rattle.std.specs.Io.KnownBytes.{Appends}
use Rattle.si_interp.specs.Meaning.{Logged}
use Rattle.si_cli.specs.Report.{action_line}
use Rattle.si_cli.proofs.ReportLemmas.{appended_piece}
use Rattle.si_cli.proofs.report.write_raised_lines.Goals as goal

pub entries-preserved : goal.entries-preserved
entries-preserved g c =
    let log = c.args.log.now in
    let entry = c.entry-item.result in
    let within : c.entries.entry-index < length log = omega arith in
    let here : slice_get log c.entries.entry-index ≡ Some entry = slice_get_read log (length log) c.entries.entry-index entry refl within c.entry-item.is in
    let line_is = ap (λ (l : Logged). encode_utf8_all (action_line l.action)) c.entry.view_is in
    appended_piece (λ (l : Logged). action_line l.action) log c.entries.entry-index entry _ _ _ here c.entries.invariant
    (subst (λ (bs : List ℕ). Appends (g.W.Write.contents c.entries.out) (g.W.Write.contents c.write_action.new.out) bs) line_is c.in_ok-write_action.ensures.line)
