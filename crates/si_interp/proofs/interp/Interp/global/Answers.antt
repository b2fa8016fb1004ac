use Rattle.std.proofs.Common.{◌-◌, inl, inr, ap, sym, subst}
use Rattle.std.specs.Prelude.{Option, vec_len, vec_capacity}
use Rattle.si_plain.specs.Characters.{characters_of}
use Rattle.si_semantics.specs.World.{World}
use Rattle.si_steps.specs.Machines.{printed_of}
use Rattle.si_steps.specs.Shown.{ShowsGlobal}
use Rattle.si_interp.specs.Globals.{globals_of, shown_of}
use Rattle.si_interp.specs.inner.Keeps.{taken_in}
use Rattle.si_interp.proofs.Globals.{IsSeen, globals_seen, none_seen}
use Rattle.si_interp.proofs.interp.Interp.global.Goals as goal
use Rattle.si_interp.proofs.interp.Interp.global.Goals.{In_default}

seen : (c : In_default) → IsSeen (globals_of c.args.self.now) c.self.inside.machine
seen c =
    let a = c.self.inside in
    globals_seen a.id a.machine a.log.items a.locals (vec_capacity a.log - vec_len a.log) a.state a.kept a.offered (characters_of (printed_of a.machine)) (taken_in a.state a.offered) c.args.self.now
    c.self.invariant c.self.view_is c.in_default.not-Gone c.in_default.not-Starved

pub global-requires : goal.global-requires
global-requires c = (seen (goal.at.global-requires c).In_default).there.sound

pub returns-in_default : goal.returns-in_default
returns-in_default c =
    let q = seen (goal.at.returns-in_default c).In_default in
    subst (λ (globals : Option World). ShowsGlobal (shown_of globals c.args.name.now) c.global.result) (sym q.is) (c.global.ensures q.world q.there)

pub returns-in-Gone : goal.returns-in-Gone
returns-in-Gone c =
    let a = c.self.inside in
    ap (λ (globals : Option World). shown_of globals c.args.name.now)
    (none_seen a.id a.log.items a.locals a.state a.kept (characters_of (printed_of a.machine)) (taken_in a.state a.offered) c.args.self.now c.self.view_is (inl c.in-Gone.is))

pub returns-in-Starved : goal.returns-in-Starved
returns-in-Starved c =
    let a = c.self.inside in
    ap (λ (globals : Option World). shown_of globals c.args.name.now)
    (none_seen a.id a.log.items a.locals a.state a.kept (characters_of (printed_of a.machine)) (taken_in a.state a.offered) c.args.self.now c.self.view_is (inr c.in-Starved.is))
