use Rattle.std.proofs.Common.{◌≡◌, ap, ◌∙◌, to_z, of_z, w64, rules}
use Rattle.si_semantics.specs.Value as pure
use Rattle.si_semantics.specs.Operations.{operate}
use Rattle.si_arena.specs.Memory.{value_of}
use Rattle.si_ops.proofs.Running.{ints_go}
use Rattle.si_ops.proofs.Calling.{makes_runs}
use Rattle.si_ops.proofs.arithmetic.binary.Goals as goal

pub returns-in-Int-Int : goal.returns-in-Int-Int
returns-in-Int-Int c =
    let m = c.args.arena.now in
    let o = c.args.operator in
    let k = c.in-Int-Int in
    let a : k.x ≡ to_z w64 (of_z w64 k.x) = search rules in
    let b : k.y ≡ to_z w64 (of_z w64 k.y) = search rules in
    let p = ap (value_of m) k.is-0 ∙ ap pure.Int a in
    let q = ap (value_of m) k.is-1 ∙ ap pure.Int b in
    let g = ints_go o c.args.left c.args.right m c.integers.result _ _ _ _ c.integers.ensures.told (c.integers.ensures.runs m) p q in
    record { makes = makes_runs (λ w. operate o (value_of m c.args.left) (value_of m c.args.right) w) m m c.integers.result g.runs; memory = λ n. g.memory }
