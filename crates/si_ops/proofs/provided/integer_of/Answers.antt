use Rattle.std.proofs.Common.{ℤ, Result, subst}
use Rattle.si_plain.specs.declared.kind.Kind.{Kind}
use Rattle.si_semantics.specs.Value as pure
use Rattle.si_semantics.specs.Operations.{integer_of, integer}
use Rattle.si_ops.specs.Runs.{Tells}
use Rattle.si_ops.proofs.provided.integer_of.Goals as goal

pub returns-in-Str : goal.returns-in-Str
returns-in-Str c =
    let m = c.args.arena.now in
    let P : pure.Value → Type 0 = λ v. Tells (λ w. integer_of v w) m c.integer.result in
    let Q : Result ℤ Kind → Type 0 = λ r. Tells (λ w. integer r w) m c.integer.result in
    subst P c.in-Str.ensures.value (subst Q c.read_integer.ensures (c.integer.ensures m))
