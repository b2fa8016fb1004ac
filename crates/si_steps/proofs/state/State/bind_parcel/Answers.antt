use Rattle.std.proofs.Common.{subst}
use Rattle.si_steps.specs.Moments.{IsWorld, ground_of}
use Rattle.si_steps.proofs.Bound.{parcel_bound}
use Rattle.si_steps.proofs.Growth.{world_same}
use Rattle.si_steps.proofs.state.State.bind_parcel.Goals as goal

pub bind-requires : goal.bind-requires
bind-requires c = c.in_ok-value.ensures.copied.2.lies

pub returns-clause-ok : goal.returns-clause-ok
returns-clause-ok c = λ w h.
    let old = c.args.self.now in
    let m = c.copy_in.new.arena in
    let copied = c.in_ok-value.ensures.copied in
    subst (IsWorld (ground_of c.bind.new.self)) (parcel_bound c.args.parcel.now old.arena m c.in_ok-value.value c.args.name.now w copied)
    (c.in_ok-bind.ensures.ok w (world_same (ground_of old) m w copied.2.extends copied.2.store h))
