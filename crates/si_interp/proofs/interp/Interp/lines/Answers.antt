use Rattle.std.proofs.Common.{◌+◌, ◌-◌, ap, refl, sym, subst}
use Rattle.std.specs.Prelude.{vec_len, vec_capacity}
use Rattle.si_plain.specs.Characters.{characters_of}
use Rattle.si_slots.specs.Code.{compiled}
use Rattle.si_slots.specs.Machine.{next}
use Rattle.si_steps.specs.declared.step.Step.{Step as Line}
use Rattle.si_steps.specs.declared.step.Step.TheVariants as line
use Rattle.si_steps.specs.Machines.{printed_of}
use Rattle.si_interp.specs.declared.interp.State.{State}
use Rattle.si_interp.specs.inner.Keeps.{Keeps, moment_of}
use Rattle.si_interp.specs.inner.Lines.{LastLine, LinesLed}
use Rattle.si_interp.proofs.Keeping.{came_silent, comes, going, keeps_came, keeps_going, keeps_refused, stands_ready}
use Rattle.si_interp.proofs.Lines.{keeps_still, last_line, ready_now, stepped_asks, stepped_local, stepped_starved}
use Rattle.si_interp.proofs.interp.Interp.lines.Goals as goal
use Rattle.si_interp.proofs.interp.Interp.lines.Goals.{In_default, In-Local, In-Starved}

pub lines-given-requires : goal.lines-given-requires
lines-given-requires c =
    let a = c.self.inside in
    let x = ready_now a.id a.locals a.log.items a.machine a.state a.kept a.offered c.args.self.now c.self.view_is c.requires.ready in
    going a.id a.machine a.log.items a.locals (vec_capacity a.log - vec_len a.log) a.state a.kept a.offered c.self.invariant x.state

-- ---- all were lines

all_lines : (c : In-Local) → LinesLed c.self.inside.id c.self.inside.log.items c.self.inside.locals c.self.inside.machine c.args.most c.lines-given.result.0 line.Local c.lines-given.new.machine
all_lines c =
    let a = c.self.inside in
    subst (λ (r : Line). LinesLed a.id a.log.items a.locals a.machine c.args.most c.lines-given.result.0 r c.lines-given.new.machine) c.in-Local.is c.lines-given.ensures.led

pub invariant_of-self : goal.invariant_of-self
invariant_of-self c =
    let a = c.self.inside in
    let room = vec_capacity a.log - vec_len a.log in
    let at = a.locals + c.lines-given.result.0 in
    let x = ready_now a.id a.locals a.log.items a.machine a.state a.kept a.offered c.args.self.now c.self.view_is c.requires.ready in
    let h = all_lines c in
    subst (λ (s : State). Keeps a.id c.lines-given.new.machine a.log.items at room s a.kept a.offered) (sym x.state)
    (keeps_going a.id a.log.items at room c.lines-given.new.machine a.kept a.offered h.1.going)

pub returns-in-Local : goal.returns-in-Local
returns-in-Local c =
    let a = c.self.inside in
    let x = ready_now a.id a.locals a.log.items a.machine a.state a.kept a.offered c.args.self.now c.self.view_is c.requires.ready in
    stepped_local a.id a.locals c.args.most c.lines-given.result.0 a.log.items a.machine c.lines-given.new.machine a.state a.kept a.offered c.args.self.now x
    (all_lines (goal.at.returns-in-Local c).In-Local)

-- ---- memory was refused to the last

still : (c : In-Starved) → LastLine c.self.inside.id c.self.inside.log.items c.self.inside.locals c.self.inside.machine c.args.most c.lines-given.result.0 line.Starved c.lines-given.new.machine
still c =
    let a = c.self.inside in
    subst (λ (r : Line). LinesLed a.id a.log.items a.locals a.machine c.args.most c.lines-given.result.0 r c.lines-given.new.machine) c.in-Starved.is c.lines-given.ensures.led

pub invariant_of-self-in-Starved : goal.invariant_of-self-in-Starved
invariant_of-self-in-Starved c =
    let a = c.self.inside in
    let h = still (goal.at.invariant_of-self-in-Starved c).In-Starved in
    keeps_still a.id (a.locals + c.lines-given.result.0) (vec_capacity a.log - vec_len a.log) a.log.items h.before c.lines-given.new.machine a.kept a.offered h.gone.going h.steps.printed

pub returns-in-Starved : goal.returns-in-Starved
returns-in-Starved c =
    let a = c.self.inside in
    let x = ready_now a.id a.locals a.log.items a.machine a.state a.kept a.offered c.args.self.now c.self.view_is c.requires.ready in
    let h = still (goal.at.returns-in-Starved c).In-Starved in
    stepped_starved a.id a.locals c.args.most c.lines-given.result.0 a.log.items a.log.items a.machine c.lines-given.new.machine line.Starved _ a.state c.args.self.now x h refl (ap characters_of h.steps.printed)

-- ---- the last has led to an action

last : (c : In_default) → LastLine c.self.inside.id c.self.inside.log.items c.self.inside.locals c.self.inside.machine c.args.most c.lines-given.result.0 c.lines-given.result.1 c.lines-given.new.machine
last c =
    let a = c.self.inside in
    last_line a.id a.locals c.args.most c.lines-given.result.0 a.log.items a.machine c.lines-given.new.machine c.lines-given.result.1 c.lines-given.ensures.led c.in_default.not-Local

pub come_to_action-requires : goal.come_to_action-requires
come_to_action-requires c =
    let a = c.self.inside in
    let h = last (goal.at.come_to_action-requires c).In_default in
    comes (moment_of a.id a.log.items (a.locals + c.lines-given.result.0)) h.before c.lines-given.new.machine c.lines-given.result.1 c.in_default.not-Local c.in_default.not-Starved h.steps

pub invariant_of-self-in-Ok : goal.invariant_of-self-in-Ok
invariant_of-self-in-Ok c =
    let a = c.self.inside in
    let h = last (goal.at.invariant_of-self-in-Ok c).In_default in
    keeps_came a.id a.log.items c.come_to_action.new.log.items (a.locals + c.lines-given.result.0) _ h.before c.lines-given.new.machine c.come_to_action.new.machine c.lines-given.result.1 c.in-Ok.state c.come_to_action.new.kept c.come_to_action.new.offered
    h.gone.going c.in_default.not-Local c.in_default.not-Starved h.steps c.come_to_action.ensures.rest c.in-Ok.ensures.log c.in-Ok.ensures.ok

pub returns-in-Ok : goal.returns-in-Ok
returns-in-Ok c =
    let a = c.self.inside in
    let x = ready_now a.id a.locals a.log.items a.machine a.state a.kept a.offered c.args.self.now c.self.view_is c.requires.ready in
    let h = last (goal.at.returns-in-Ok c).In_default in
    stepped_asks a.id a.locals c.args.most c.lines-given.result.0 _ a.log.items c.come_to_action.new.log.items a.machine c.lines-given.new.machine c.lines-given.result.1 (characters_of (printed_of c.come_to_action.new.machine))
    (next compiled (moment_of a.id a.log.items (a.locals + c.lines-given.result.0))) a.state c.in-Ok.state c.come_to_action.new.kept c.come_to_action.new.offered c.args.self.now
    x h c.in-Ok.ensures.log c.in-Ok.ensures.ok

pub invariant_of-self-in-Err : goal.invariant_of-self-in-Err
invariant_of-self-in-Err c =
    let a = c.self.inside in
    let h = last (goal.at.invariant_of-self-in-Err c).In_default in
    keeps_refused a.id a.log.items c.come_to_action.new.log.items (a.locals + c.lines-given.result.0) _ h.before c.lines-given.new.machine c.come_to_action.new.machine c.lines-given.result.1 c.come_to_action.new.kept c.come_to_action.new.offered
    h.gone.going c.in_default.not-Local h.steps c.come_to_action.ensures.rest c.in-Err.ensures.log

pub returns-in-Err : goal.returns-in-Err
returns-in-Err c =
    let a = c.self.inside in
    let x = ready_now a.id a.locals a.log.items a.machine a.state a.kept a.offered c.args.self.now c.self.view_is c.requires.ready in
    let h = last (goal.at.returns-in-Err c).In_default in
    let moment = moment_of a.id a.log.items (a.locals + c.lines-given.result.0) in
    let same = came_silent moment h.before c.lines-given.new.machine c.come_to_action.new.machine c.lines-given.result.1 (stands_ready moment h.before h.gone.going.under) c.in_default.not-Local h.steps c.come_to_action.ensures.rest in
    stepped_starved a.id a.locals c.args.most c.lines-given.result.0 a.log.items c.come_to_action.new.log.items a.machine c.lines-given.new.machine c.lines-given.result.1 _ a.state c.args.self.now
    x h c.in-Err.ensures.log (ap characters_of same)
