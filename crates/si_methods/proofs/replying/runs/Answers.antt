use Rattle.std.proofs.Common.{[], pos, Ok, Result, refl, sym, subst}
use Rattle.std.specs.Prelude.{codes, ◌++◌}
use Rattle.std.specs.declared.alloc.AllocError.{AllocError}
use Rattle.si_plain.specs.declared.kind.Kind.TheVariants as kind
use Rattle.si_semantics.specs.Text.{decimal}
use Rattle.si_arena.specs.declared.value.Ref.TheVariants as value
use Rattle.si_parcel.specs.declared.answer.Answer.{Answer}
use Rattle.si_parcel.specs.declared.answer.Answer.TheVariants as answer
use Rattle.si_parcel.specs.Shared.{answer_of}
use Rattle.si_methods.specs.declared.request.Awaited.TheVariants as awaited
use Rattle.si_methods.specs.declared.replying.Replied.{Replied}
use Rattle.si_methods.specs.declared.replying.Replied.TheVariants.{Got}
use Rattle.si_methods.specs.Replying.{Replies}
use Rattle.si_methods.proofs.Made.{got, fails, else_is_running}
use Rattle.si_methods.proofs.replying.runs.Goals as goal

pub returns-in-Truth : goal.returns-in-Truth
returns-in-Truth c =
    let m = c.args.arena.now in
    let P : Answer → Type 0 = λ a. Replies (awaited.IsRunning c.args.id) (answer_of a) m m (Ok (Got (value.Truth [] c.in-Truth.truth))) in
    subst P (sym c.in-Truth.is) (got (awaited.IsRunning c.args.id) (answer_of (answer.Truth c.in-Truth.truth)) m (value.Truth [] c.in-Truth.truth) tt (λ w. refl))

pub returns-in-NotFound : goal.returns-in-NotFound
returns-in-NotFound c =
    let m = c.args.arena.now in
    let n = c.not_found.new.arena in
    let P : Answer → Type 0 = λ a. Replies (awaited.IsRunning c.args.id) (answer_of a) m n c.failed.result in
    let Q : Result Replied AllocError → Type 0 = λ r. Replies (awaited.IsRunning c.args.id) (answer_of answer.NotFound) m n r in
    subst P (sym c.in-NotFound.is) (subst Q (sym c.failed.ensures) (fails (awaited.IsRunning c.args.id) (answer_of answer.NotFound) kind.InterpreterNotFoundError (codes "interpreter " ++ (decimal (pos c.args.id) ++ codes " not found")) m n c.not_found.result tt (λ w. refl) c.not_found.ensures))

pub returns-in_default : goal.returns-in_default
returns-in_default c =
    let m = c.args.arena.now in
    let P : Replied → Type 0 = λ r. Replies (awaited.IsRunning c.args.id) (answer_of c.args.answer.now) m m (Ok r) in
    subst P (sym c.nothing.ensures) (else_is_running c.args.id c.args.answer.now m c.in_default.not-Truth c.in_default.not-NotFound)
