use Rattle.std.proofs.Common.{◌<◌, refl, length}
use Rattle.std.proofs.lemmas.Option.{slice_get_read, slice_get_within}
use Rattle.si_workers.proofs.Finding.{report_read, is_unfit, fit_at}
use Rattle.si_workers.proofs.gathering.is_fit.Goals as goal

pub returns-in-Some : goal.returns-in-Some
returns-in-Some c =
    let p = c.args.hub.now.past in
    let worked = c.args.worked.now in
    let i = c.args.i in
    let k = c.in-Some.place in
    let some = c.in-Some.ensures.some in
    let lt : k < length worked = slice_get_within worked k some.0 some.1.at in
    let at = slice_get_read worked (length worked) k c.index-worked-place.result refl lt c.index-worked-place.is in
    let report = report_read worked i k some.0 c.index-worked-place.result some.1 at in
    record {
      yes = λ t. fit_at p worked i k c.index-worked-place.result report c.in-Some.ensures.only (c.is_member.ensures.yes t);
      no = λ f. is_unfit p worked i k c.index-worked-place.result report (c.is_member.ensures.no f);
    }
