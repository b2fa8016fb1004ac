use Rattle.std.proofs.Common.{Some, ap, refl}
use Rattle.si_semantics.specs.World as world
use Rattle.si_semantics.specs.Attributes.{joins}
use Rattle.si_arena.specs.Memory.{object_of}
use Rattle.si_arena.specs.declared.cause.Cause.TheVariants.{WrongType, Refused}
use Rattle.si_arena.specs.declared.refusal.Refusal.TheVariants.{NotStarted}
use Rattle.si_methods.proofs.Calling.{throws}
use Rattle.si_methods.proofs.threads.end_of_object.Goals as goal

pub returns-in-Bare : goal.returns-in-Bare
returns-in-Bare c = λ m own.
    throws (λ w. joins (Some (object_of m c.args.object)) w) own m WrongType tt
    (λ w e. ap (λ o. joins (Some (object_of m o)) w) c.in-Bare.is)

pub returns-in-Made : goal.returns-in-Made
returns-in-Made c = λ m own.
    throws (λ w. joins (Some (object_of m c.args.object)) w) own m WrongType tt
    (λ w e. ap (λ o. joins (Some (object_of m o)) w) c.in-Made.is)

pub returns-in-Caused : goal.returns-in-Caused
returns-in-Caused c = λ m own.
    throws (λ w. joins (Some (object_of m c.args.object)) w) own m WrongType tt
    (λ w e. ap (λ o. joins (Some (object_of m o)) w) c.in-Caused.is)

pub returns-in-Thread : goal.returns-in-Thread
returns-in-Thread c = λ m own.
    throws (λ w. joins (Some (object_of m c.args.object)) w) own m (Refused NotStarted) tt
    (λ w e. ap (λ o. joins (Some (object_of m o)) w) c.in-Thread.is)

pub returns-in-Started : goal.returns-in-Started
returns-in-Started c = λ m own.
    (record { request = world.JoinThread c.in-Started.run'; asks = λ w e. ap (λ o. joins (Some (object_of m o)) w) c.in-Started.is; made_by = refl; kept_is = refl; lies = tt }, refl)
