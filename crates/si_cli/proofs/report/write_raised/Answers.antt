use Rattle.std.proofs.Common.{◌∙◌, ◌++◌, ap, codes, encode_utf8_all, subst, List, ℕ}
use Rattle.std.proofs.lemmas.Result.{on_ok_weaker}
use Rattle.std.specs.Io.KnownBytes.{Appends}
use Rattle.si_cli.specs.inner.Parts.{after_kind}
use Rattle.si_cli.proofs.ReportLemmas.{appended, raised_bytes}
use Rattle.si_cli.proofs.report.write_raised.Goals as goal

pub returns-clause-line : goal.returns-clause-line
returns-clause-line g c =
    let after = encode_utf8_all (after_kind c.args.message.now) in
    let name = ap (λ bs. codes "raised " ++ (bs ++ (after ++ codes "\n"))) c.name.ensures in
    on_ok_weaker c.write_text-3.result
    (λ last. subst (λ (bs : List ℕ). Appends (g.W.Write.contents c.args.out.now) (g.W.Write.contents c.write_text-3.new.out) bs)
    (name ∙ raised_bytes c.args.kind c.args.message.now)
    (appended _ _ _ _ _ c.in_ok-write_text.ensures.text (appended _ _ _ _ _ c.in_ok-write_text-2.ensures.text (appended _ _ _ _ _ c.in_ok-write_message.ensures.line last))))
    c.write_text-3.ensures.text
