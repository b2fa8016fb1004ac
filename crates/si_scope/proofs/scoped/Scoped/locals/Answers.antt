use Rattle.std.proofs.Common.{◌≡◌, ℕ, ◌≤◌, ◌<◌, List, length, get_or, Bor, refl, sym, ap, ◌∙◌}
use Rattle.std.specs.Prelude.{Option, Some, None, slice_get, option_map, MatchOption, IfSome}
use Rattle.std.specs.List.{HoldsAt}
use Rattle.std.proofs.Math.Logic.{∥∥₁_elim}
use Rattle.std.proofs.Props.{props}
use Rattle.std.proofs.lemmas.Option.{slice_get_past, slice_get_read}
use Rattle.si_scope.proofs.scoped.Scoped.locals.Goals as goal

-- what a look-up hands out
seen_at : {T : Type 0} (xs : List T) (i : ℕ) (found : Option (Bor T)) → IfSome found (λ x. x.now ≡ get_or xs i x.now) → MatchOption found (length xs ≤ i) (λ x. (i < length xs) × HoldsAt (λ y. x.now ≡ y) xs i) → option_map (λ x. x.now) found ≡ slice_get xs i
seen_at xs i None at within = sym (slice_get_past xs i within)
seen_at xs i (Some x) at within = sym (slice_get_read xs (length xs) i x.now refl within.0 at)

pub returns : goal.returns
returns c = ∥∥₁_elim c.args.self.now.resolved (hlevel props) (λ r.
    let h = c.get.ensures.lookup in
    seen_at c.deref.result.now c.args.function c.get.result h.1 h.3
    ∙ ap (λ names. slice_get names c.args.function) (c.deref.ensures.value ∙ r.locals))
