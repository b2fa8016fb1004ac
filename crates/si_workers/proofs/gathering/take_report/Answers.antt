use Rattle.std.proofs.Common.{◌≡◌, ◌<◌, List, ◌∷◌, ap, length, subst, sym, ◌∙◌, slice_get}
use Rattle.std.specs.List.Sorted.{IsPermutation}
use Rattle.std.proofs.lemmas.List.Sorted.{IsPermutation-swap_remove}
use Rattle.std.proofs.lemmas.Option.{slice_get_within}
use Rattle.std.proofs.lemmas.Result.{IfOk-weaker}
use Rattle.si_interp.specs.Meaning.{InterpView}
use Rattle.si_workers.proofs.gathering.take_report.Goals as goal

pub returns-clause-others : goal.returns-clause-others
returns-clause-others c =
    let old = c.args.worked.now.items in
    let left = c.swap_remove.new.self.items in
    let k = c.in-Some.place in
    let v = c.swap_remove.result in
    let some = c.in-Some.ensures.some.1 in
    let lt : k < length old = slice_get_within old k some.0 (ap (λ (xs : List InterpView). slice_get xs k) (sym c.as_slice.ensures.value) ∙ some.1.at) in
    let out = subst (λ (xs : List InterpView). IsPermutation old (v ∷ xs)) (sym c.swap_remove.ensures.items) (IsPermutation-swap_remove old k v lt c.swap_remove.ensures.value) in
    let same = λ (r : InterpView) (e : r ≡ v). subst (λ (x : InterpView). IsPermutation old (x ∷ left)) (sym e) out in
    IfOk-weaker c.into_report.result (λ (r : InterpView). r ≡ v) (λ (r : InterpView). IsPermutation old (r ∷ left)) same c.into_report.ensures
