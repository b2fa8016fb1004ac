use Rattle.std.proofs.Common.{subst}
use Rattle.si_arena.specs.Memory.{object_of, IsMade}
use Rattle.si_arena.specs.declared.object.Object.TheVariants.{Caused}
use Rattle.si_arena.proofs.Lying.{extends_made}
use Rattle.si_steps.proofs.Growth.{at-extends}
use Rattle.si_steps.proofs.Raised.{made_last}
use Rattle.si_steps.proofs.state.State.raise.Goals as goal

pub leave_raised-requires : goal.leave_raised-requires
leave_raised-requires g c =
    let old = c.args.self.now in
    let o = object_of old.arena (Caused c.args.cause) in
    let k = c.in-Ok-Object in (
      record { at = at-extends old c.make.new.self g.p (extends_made k.ensures.ok) c.requires.0.at; running = c.requires.0.running },
      (made_last o old.arena c.make.new.self k.address (subst (IsMade o old.arena c.make.new.self) k.field-0-is k.ensures.ok)).1,
    )
