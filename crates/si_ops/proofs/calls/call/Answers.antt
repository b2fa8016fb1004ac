use Rattle.std.proofs.Common.{Result, Ok, refl, subst}
use Rattle.si_semantics.specs.Value as pure
use Rattle.si_semantics.specs.Operations.{call_provided}
use Rattle.si_arena.specs.declared.cause.Fault.{Fault}
use Rattle.si_arena.specs.Memory.{all_of}
use Rattle.si_ops.specs.declared.calls.Called.{Called}
use Rattle.si_ops.specs.declared.calls.Called.TheVariants.{Value}
use Rattle.si_ops.specs.Calls.{Calls, NeedsNone, IsSaid}
use Rattle.si_ops.proofs.Ends.{passed}
use Rattle.si_ops.proofs.calls.call.Goals as goal

pub returns-in-BuiltIn-clause-calls : goal.returns-in-BuiltIn-clause-calls
returns-in-BuiltIn-clause-calls c =
    let m = c.args.arena.now in
    let P : pure.Value → Type 0 = λ v. Calls (λ w. call_provided v (all_of m c.args.arguments.now) w) m c.call_built_in.new.arena c.args.line.now c.call_built_in.new.line c.call_built_in.result in
    subst P c.in-BuiltIn.ensures.value c.call_built_in.ensures.calls

pub returns-in_err-made-in-Kind-clause-calls : goal.returns-in_err-made-in-Kind-clause-calls
returns-in_err-made-in-Kind-clause-calls c =
    let m = c.args.arena.now in
    let f = c.in_err-made-in-Kind.field-0.0 in
    let P : pure.Value → Type 0 = λ v. Calls (λ w. call_provided v (all_of m c.args.arguments.now) w) m c.call_kind.new.arena c.args.line.now c.args.line.now c.from_residual.result in
    let Q : Result Called Fault → Type 0 = λ r. Calls (λ w. call_provided (pure.Class c.in-Kind.kind) (all_of m c.args.arguments.now) w) m c.call_kind.new.arena c.args.line.now c.args.line.now r in
    subst P c.in-Kind.ensures.value (passed c.from_residual.result Q f c.from_residual.ensures.1 (c.in_err-made-in-Kind.ensures, refl))

pub returns-in_ok-made-in-Kind-clause-calls : goal.returns-in_ok-made-in-Kind-clause-calls
returns-in_ok-made-in-Kind-clause-calls c =
    let m = c.args.arena.now in
    let P : pure.Value → Type 0 = λ v. Calls (λ w. call_provided v (all_of m c.args.arguments.now) w) m c.call_kind.new.arena c.args.line.now c.args.line.now (Ok (Value c.in_ok-made-in-Kind.made)) in
    subst P c.in-Kind.ensures.value (c.in_ok-made-in-Kind.ensures, refl)

pub returns-in-BuiltIn-clause-memory : goal.returns-in-BuiltIn-clause-memory
returns-in-BuiltIn-clause-memory c =
    let m = c.args.arena.now in
    let P : pure.Value → Type 0 = λ v. NeedsNone m c.args.line.now v (all_of m c.args.arguments.now) → IsSaid c.call_built_in.result in
    subst P c.in-BuiltIn.ensures.value c.call_built_in.ensures.memory

pub returns-in_err-made-in-Kind-clause-memory : goal.returns-in_err-made-in-Kind-clause-memory
returns-in_err-made-in-Kind-clause-memory c =
    let m = c.args.arena.now in
    let P : pure.Value → Type 0 = λ v. NeedsNone m c.args.line.now v (all_of m c.args.arguments.now) → IsSaid c.from_residual.result in
    subst P c.in-Kind.ensures.value (λ h. absurd h)
