use Rattle.std.proofs.Common.{Some, sym, ap, refl, ◌∙◌}
use Rattle.si_semantics.specs.World as world
use Rattle.si_semantics.specs.World.{Asked}
use Rattle.si_semantics.specs.Attributes.{starts}
use Rattle.si_arena.specs.Memory.{object_of}
use Rattle.si_arena.specs.declared.cause.Cause.TheVariants.{WrongType, Refused}
use Rattle.si_arena.specs.declared.refusal.Refusal.TheVariants.{AlreadyStarted}
use Rattle.si_methods.proofs.Calling.{throws}
use Rattle.si_methods.proofs.threads.run_of_object.Goals as goal

pub returns-in-Bare : goal.returns-in-Bare
returns-in-Bare c = λ own.
    let m = c.args.arena.now in
    throws (λ w. starts c.args.thread (Some (object_of m c.args.object)) w) own m WrongType tt
    (λ w e. ap (λ o. starts c.args.thread (Some (object_of m o)) w) c.in-Bare.is)

pub returns-in-Made : goal.returns-in-Made
returns-in-Made c = λ own.
    let m = c.args.arena.now in
    throws (λ w. starts c.args.thread (Some (object_of m c.args.object)) w) own m WrongType tt
    (λ w e. ap (λ o. starts c.args.thread (Some (object_of m o)) w) c.in-Made.is)

pub returns-in-Caused : goal.returns-in-Caused
returns-in-Caused c = λ own.
    let m = c.args.arena.now in
    throws (λ w. starts c.args.thread (Some (object_of m c.args.object)) w) own m WrongType tt
    (λ w e. ap (λ o. starts c.args.thread (Some (object_of m o)) w) c.in-Caused.is)

pub returns-in-Started : goal.returns-in-Started
returns-in-Started c = λ own.
    let m = c.args.arena.now in
    throws (λ w. starts c.args.thread (Some (object_of m c.args.object)) w) own m (Refused AlreadyStarted) tt
    (λ w e. ap (λ o. starts c.args.thread (Some (object_of m o)) w) c.in-Started.is)

pub copied-requires : goal.copied-requires
copied-requires c = let h = rw c.in-Thread.is at c.requires.lies in record { lies = h.0; text = h.1 }

pub returns-in-Ok : goal.returns-in-Ok
returns-in-Ok c = λ own.
    let m = c.args.arena.now in (
      record {
        request = world.StartThread c.args.thread c.in-Thread.interpreter c.in-Ok.text;
        asks = λ w e. ap (λ o. starts c.args.thread (Some (object_of m o)) w) c.in-Thread.is ∙ ap (λ t. Asked (world.StartThread c.args.thread c.in-Thread.interpreter t) w) (sym c.in-Ok.ensures);
        made_by = refl;
        kept_is = refl;
        lies = c.requires.address;
      },
      refl,
    )
