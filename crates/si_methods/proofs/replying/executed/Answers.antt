use Rattle.std.proofs.Common.{Ok, Result, refl, sym, subst}
use Rattle.std.specs.declared.alloc.AllocError.{AllocError}
use Rattle.si_plain.specs.declared.kind.Kind.TheVariants as kind
use Rattle.si_semantics.specs.Value as pure
use Rattle.si_semantics.specs.Actions as shared
use Rattle.si_arena.specs.declared.value.Ref.TheVariants as value
use Rattle.si_parcel.specs.Shared.{outcome_of}
use Rattle.si_methods.specs.declared.request.Awaited.TheVariants as awaited
use Rattle.si_methods.specs.declared.replying.Replied.{Replied}
use Rattle.si_methods.specs.Replying.{Replies}
use Rattle.si_semantics.specs.Life as life
use Rattle.si_semantics.specs.Text.{kind_and_message}
use Rattle.si_parcel.specs.declared.outcome.Outcome.{Outcome}
use Rattle.si_methods.specs.Replying.{MakesException}
use Rattle.si_methods.proofs.Made.{got, fails}
use Rattle.si_methods.proofs.replying.executed.Goals as goal

pub returns-in-Returned : goal.returns-in-Returned
returns-in-Returned c =
    let m = c.args.arena.now in
    let P : Outcome → Type 0 = λ o. Replies awaited.AwaitExec (shared.Ended (outcome_of o)) m m (Ok c.nothing.result) in
    let Q : Replied → Type 0 = λ r. Replies awaited.AwaitExec (shared.Ended life.Returned) m m (Ok r) in
    subst P (sym c.in-Returned.is) (subst Q (sym c.nothing.ensures) (got awaited.AwaitExec (shared.Ended life.Returned) m value.None tt (λ w. refl)))

pub returns-in-Raised : goal.returns-in-Raised
returns-in-Raised c =
    let m = c.args.arena.now in
    let n = c.execution_failed.new.arena in
    let k = c.in-Raised.kind in
    let t = c.in-Raised.message in
    let P : Outcome → Type 0 = λ o. Replies awaited.AwaitExec (shared.Ended (outcome_of o)) m n c.failed.result in
    let Q : Result Replied AllocError → Type 0 = λ r. Replies awaited.AwaitExec (shared.Ended (life.Raised k t)) m n r in
    let S : pure.Text → Type 0 = λ x. MakesException kind.ExecutionFailed (kind_and_message k x) m n c.execution_failed.result in
    subst P (sym c.in-Raised.is)
    (subst Q (sym c.failed.ensures)
    (fails awaited.AwaitExec (shared.Ended (life.Raised k t)) kind.ExecutionFailed (kind_and_message k t) m n c.execution_failed.result tt (λ w. refl) (subst S c.as_text.ensures c.execution_failed.ensures)))
