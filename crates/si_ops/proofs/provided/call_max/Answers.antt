use Rattle.std.proofs.Common.{◌-◌, length, take, drop, take_all, length-drop, refl, arith}
use Rattle.si_semantics.specs.Value as pure
use Rattle.si_semantics.specs.Operations as operations
use Rattle.si_ops.proofs.Providing.{of_two}
use Rattle.si_ops.proofs.provided.call_max.Goals as goal

pub returns : goal.returns
returns c =
    let rs = c.args.arguments.now in
    of_two c.args.arena.now (λ u vs w. operations.greatest u vs w) (λ vs w. operations.call_built_in pure.Max vs w) rs (take (length rs - 1) (drop 1 rs)) c.index-arguments-0.result c.greatest.result (λ u v vs. refl) (omega arith) c.index-arguments-0.is (take_all (length rs - 1) (drop 1 rs) (omega (arith, length-drop 1 rs))) c.greatest.ensures
