use Rattle.std.proofs.Common.{pos, Ok, Result, refl, sym, subst}
use Rattle.std.specs.Prelude.{codes, ◌++◌}
use Rattle.std.specs.declared.alloc.AllocError.{AllocError}
use Rattle.si_plain.specs.declared.kind.Kind.TheVariants as kind
use Rattle.si_semantics.specs.World as world
use Rattle.si_semantics.specs.Text.{decimal}
use Rattle.si_semantics.specs.Actions as shared
use Rattle.si_parcel.specs.declared.answer.Answer.{Answer}
use Rattle.si_parcel.specs.declared.answer.Answer.TheVariants as answer
use Rattle.si_parcel.specs.declared.action.Action.TheVariants as action
use Rattle.si_parcel.specs.Shared.{answer_of}
use Rattle.si_methods.specs.declared.request.Awaited.TheVariants as awaited
use Rattle.si_methods.specs.declared.replying.Replied.{Replied}
use Rattle.si_methods.specs.declared.replying.Replied.TheVariants.{Wants}
use Rattle.si_methods.specs.Replying.{Replies}
use Rattle.si_methods.proofs.Made.{fails, makes, else_exec}
use Rattle.si_methods.proofs.replying.run_started.Goals as goal

pub returns-in-NotFound : goal.returns-in-NotFound
returns-in-NotFound c =
    let m = c.args.arena.now in
    let n = c.not_found.new.arena in
    let P : Answer → Type 0 = λ a. Replies (awaited.Exec c.args.id) (answer_of a) m n c.failed.result in
    let Q : Result Replied AllocError → Type 0 = λ r. Replies (awaited.Exec c.args.id) (answer_of answer.NotFound) m n r in
    subst P (sym c.in-NotFound.is) (subst Q (sym c.failed.ensures) (fails (awaited.Exec c.args.id) (answer_of answer.NotFound) kind.InterpreterNotFoundError (codes "interpreter " ++ (decimal (pos c.args.id) ++ codes " not found")) m n c.not_found.result tt (λ w. refl) c.not_found.ensures))

pub returns-in-Running : goal.returns-in-Running
returns-in-Running c =
    let m = c.args.arena.now in
    let n = c.is_running.new.arena in
    let P : Answer → Type 0 = λ a. Replies (awaited.Exec c.args.id) (answer_of a) m n c.failed-in-Running.result in
    let Q : Result Replied AllocError → Type 0 = λ r. Replies (awaited.Exec c.args.id) (answer_of answer.Running) m n r in
    subst P (sym c.in-Running.is) (subst Q (sym c.failed-in-Running.ensures) (fails (awaited.Exec c.args.id) (answer_of answer.Running) kind.InterpreterError (codes "interpreter " ++ (decimal (pos c.args.id) ++ codes " is running")) m n c.is_running.result tt (λ w. refl) c.is_running.ensures))

pub returns-in_default : goal.returns-in_default
returns-in_default c =
    let m = c.args.arena.now in
    let P : Replied → Type 0 = λ r. Replies (awaited.Exec c.args.id) (answer_of c.args.answer.now) m m (Ok r) in
    subst P (sym c.nothing.ensures) (else_exec c.args.id c.args.answer.now m c.in_default.not-Started c.in_default.not-NotFound c.in_default.not-Running)

pub returns-in-Started : goal.returns-in-Started
returns-in-Started c =
    let m = c.args.arena.now in
    let run = c.in-Started.run' in
    let P : Answer → Type 0 = λ a. Replies (awaited.Exec c.args.id) (answer_of a) m m (Ok (Wants awaited.AwaitExec (action.Await run))) in
    subst P (sym c.in-Started.is) (
      record {
        request = world.AwaitExec run;
        makes = makes (awaited.Exec c.args.id) (shared.Started run) m (world.Wants (world.AwaitExec run)) (λ w e. refl);
        made_by = refl;
        kept_is = refl;
        lies = tt;
      },
      refl,
    )
