use Rattle.std.proofs.Common.{◌∷◌, [], FitsSigned, w64, to_z-of_z, rules, sym, subst}
use Rattle.si_semantics.specs.Value as pure
use Rattle.si_semantics.specs.Operations.{call_built_in}
use Rattle.si_arena.specs.declared.value.Ref.{Ref}
use Rattle.si_arena.specs.Memory.{value_of}
use Rattle.si_ops.specs.Runs.{Runs}
use Rattle.si_ops.proofs.Calling.{int_str}
use Rattle.si_ops.proofs.calls.place_str.Goals as goal

pub returns-in-Int-clause-runs : goal.returns-in-Int-clause-runs
returns-in-Int-clause-runs c =
    let m = c.args.arena.now in
    let new = c.place_int.new.arena in
    let fits : FitsSigned w64 c.in-Int.n = search rules in
    let few = rw (to_z-of_z fits) at c.place_int.ensures.few in
    let placed = rw (to_z-of_z fits) at c.place_int.ensures.text in
    let P : Ref → Type 0 = λ r. Runs (λ w. call_built_in pure.MakeStr (value_of m r ∷ []) w) m new c.place_int.result in
    subst P (sym c.in-Int.is) (int_str m new c.in-Int.n c.place_int.result few placed)
