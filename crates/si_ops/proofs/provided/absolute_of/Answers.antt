use Rattle.std.proofs.Common.{ℤ, Option, Result, FitsSigned, w64, to_z-of_z, rules, sym, subst}
use Rattle.si_plain.specs.declared.kind.Kind.{Kind}
use Rattle.si_semantics.specs.Operations.{absolute, integer}
use Rattle.si_ops.specs.Runs.{Tells}
use Rattle.si_ops.proofs.provided.absolute_of.Goals as goal

pub returns : goal.returns
returns c =
    let m = c.args.arena.now in
    let fits : FitsSigned w64 c.in_ok-n.n = search rules in
    let P : Option ℤ → Type 0 = λ o. Tells (λ w. absolute o w) m c.integer.result in
    let Q : Result ℤ Kind → Type 0 = λ r. Tells (λ w. integer r w) m c.integer.result in
    subst P (sym c.in_ok-n.ensures.ok) (subst Q (rw (to_z-of_z fits) at c.absolute.ensures) (c.integer.ensures m))
