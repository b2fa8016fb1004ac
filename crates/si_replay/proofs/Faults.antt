-- A fault that is passed on.
use Rattle.std.proofs.Common.{◌≡◌, Result, Err, ap, sym, ◌∙◌, subst, IfErr}
use Rattle.std.proofs.lemmas.Result.{err_from_is_err_and}
use Rattle.std.specs.Prelude.{IsErrAnd}

-- what is said of the fault holds of the result that passes it on
pub passed : {U F : Type 0} (r : Result U F) (P : F → Type 0) (f : F) → IsErrAnd r (λ e. e ≡ f) → P f → IfErr r P
passed r P f h p = let q = err_from_is_err_and r h in subst (λ (x : Result _ _). IfErr x P) (sym (q.1 ∙ ap Err q.2)) p
