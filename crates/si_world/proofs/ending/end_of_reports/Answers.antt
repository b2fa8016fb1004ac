use Rattle.std.proofs.Common.{◌∙◌, ◌<◌, ◌≤◌, ap, refl, length, arith, List}
use Rattle.std.proofs.lemmas.Option.{slice_get_read}
use Rattle.si_interp.specs.Meaning.{InterpView}
use Rattle.si_world.specs.Reports.{end_of, first_of_ends}
use Rattle.si_world.proofs.Copying.{take_all}
use Rattle.si_world.proofs.Ends.{end_next}
use Rattle.si_world.proofs.ending.end_of_reports.Goals as goal

pub loop-i-preserved : goal.loop-i-preserved
loop-i-preserved c =
    let vs = c.args.reports.now in
    let i = c.loop-i.i in
    let within : i < length vs = omega arith in
    let at = slice_get_read vs (length vs) i c.index-reports-i.result refl within c.index-reports-i.is in
    end_next c.args.hub.now.past vs i c.index-reports-i.result c.loop-i.end c.first-end.result at c.loop-i.invariant (c.first-end.ensures ∙ ap (first_of_ends c.loop-i.end) c.end_seen.ensures)

pub returns : goal.returns
returns c =
    let vs = c.args.reports.now in
    let all : length vs ≤ c.loop-i.i = omega arith in
    c.loop-i.invariant ∙ ap (λ (xs : List InterpView). end_of c.args.hub.now.past xs) (take_all vs c.loop-i.i all)
