use Rattle.std.proofs.Common.{◌≡◌, ◌∙◌, ◌++◌, ap, codes, subst, List, ℕ}
use Rattle.std.proofs.lemmas.Result.{on_ok_weaker}
use Rattle.std.specs.Fmt.{decimal}
use Rattle.std.specs.Io.KnownBytes.{Appends}
use Rattle.std.specs.Str.{IsAscii}
use Rattle.si_cli.proofs.ReportLemmas.{appended, heading_bytes}
use Rattle.si_cli.proofs.report.write_heading.Goals as goal

pub returns-clause-line : goal.returns-clause-line
returns-clause-line g c =
    let digits : c.format.result.now ≡ decimal c.args.id = c.format.ensures.text in
    on_ok_weaker c.write_text-3.result
    (λ last. subst (λ (bs : List ℕ). Appends (g.W.Write.contents c.args.out.now) (g.W.Write.contents c.write_text-3.new.out) bs)
    (ap (λ ds. codes "== interpreter " ++ (ds ++ codes " ==\n")) digits ∙ heading_bytes c.args.id (subst IsAscii digits c.format.ensures.ascii))
    (appended _ _ _ _ _ c.in_ok-write_text.ensures.text (appended _ _ _ _ _ c.in_ok-write_text-2.ensures.text last)))
    c.write_text-3.ensures.text
