use Rattle.std.proofs.Common.{subst}
use Rattle.si_semantics.specs.Value as pure
use Rattle.si_semantics.specs.Operations.{code_of}
use Rattle.si_ops.specs.Runs.{Tells}
use Rattle.si_ops.proofs.provided.code_of.Goals as goal

pub returns-in-Str : goal.returns-in-Str
returns-in-Str c =
    let m = c.args.arena.now in
    let P : pure.Value → Type 0 = λ v. Tells (λ w. code_of v w) m c.code_in.result in
    subst P c.in-Str.ensures.value (c.code_in.ensures m)
