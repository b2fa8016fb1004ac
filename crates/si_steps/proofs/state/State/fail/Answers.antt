use Rattle.std.proofs.Common.{subst}
use Rattle.si_arena.specs.declared.value.Ref.TheVariants as value
use Rattle.si_arena.specs.Memory.{object_of, IsMade}
use Rattle.si_steps.proofs.Asked.{fails_made, fails_starved, made_under_way}
use Rattle.si_steps.proofs.Raised.{made_last}
use Rattle.si_steps.proofs.state.State.fail.Goals as goal

pub leave_raised-requires : goal.leave_raised-requires
leave_raised-requires g c =
    let old = c.args.self.now in
    let o = object_of old.arena c.args.object in
    let m = c.make.new.self in
    let k = c.in-Ok-Object in
    let made = subst (IsMade o old.arena m) k.field-0-is k.ensures.ok in
    (made_under_way o old g.p m (value.Object k.address) c.requires.0 made, (made_last o old.arena m k.address made).1)

pub returns-in-Ok-Object : goal.returns-in-Ok-Object
returns-in-Ok-Object g c =
    let old = c.args.self.now in
    let o = object_of old.arena c.args.object in
    let m = c.make.new.self in
    let k = c.in-Ok-Object in
    let made = subst (IsMade o old.arena m) k.field-0-is k.ensures.ok in
    fails_made o k.address old c.leave_raised.new.self g.p m (value.Object k.address) c.leave_raised.result c.requires.0 made (made_last o old.arena m k.address made).0 c.leave_raised.ensures.done c.leave_raised.ensures.did

pub returns-in-Err : goal.returns-in-Err
returns-in-Err g c =
    let old = c.args.self.now in
    fails_starved (object_of old.arena c.args.object) old c.starve.new.self g.p c.make.new.self c.starve.result c.in-Err.ensures.err c.starve.ensures.step c.starve.ensures.state
