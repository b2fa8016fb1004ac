use Rattle.std.proofs.Common.{rules, Option, Some, None, ℤ, Ok, Err, sym, subst, refl}
use Rattle.std.specs.Prelude.{FitsSigned}
use Rattle.std.specs.Int.{w64}
use Rattle.std.proofs.Math.Facts.{to_z-of_z}
use Rattle.si_semantics.specs.Attributes.{queue_of}
use Rattle.si_arena.specs.declared.cause.Cause.{Cause}
use Rattle.si_arena.specs.declared.cause.Fault.TheVariants.{Raises}
use Rattle.si_methods.specs.Answering.{Answers}
use Rattle.si_methods.proofs.modules.queue_within.Goals as goal

pub returns-in-Ok : goal.returns-in-Ok
returns-in-Ok c = λ own.
    let m = c.args.arena.now in
    let P : Option ℤ → Type 0 = λ n. Answers (λ w. queue_of n w) own m m (Ok c.queue_of.result) in
    let f : FitsSigned w64 c.in-Ok.n = search rules in
    let Q : ℤ → Type 0 = λ z. P (Some z) in
    subst P (sym c.in-Ok.ensures.ok) (subst Q (to_z-of_z f) (c.queue_of.ensures m own))

pub returns-in-Err : goal.returns-in-Err
returns-in-Err c = λ own.
    let m = c.args.arena.now in
    let P : Option ℤ → Type 0 = λ n. Answers (λ w. queue_of n w) own m m (Err (Raises c.in-Err.cause)) in
    let Q : Cause → Type 0 = λ x. Answers (λ w. queue_of None w) own m m (Err (Raises x)) in
    subst P (sym c.in-Err.ensures.err.0) (subst Q (sym c.in-Err.ensures.err.1) (((λ w e. refl), tt), refl))
