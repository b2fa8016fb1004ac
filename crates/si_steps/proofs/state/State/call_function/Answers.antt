use Rattle.std.proofs.Common.{◌≤◌, ◌<◌, ◌∙◌, length, sym, arith}
use Rattle.si_semantics.specs.Meaning.{max_calls}
use Rattle.si_slots.specs.Views.{target_of}
use Rattle.si_steps.proofs.Callees.{arguments_there, call_called, no_function_did, arguments_did, too_deep_did, begun_did}
use Rattle.si_steps.proofs.state.State.call_function.Goals as goal

pub begin-requires-clause-arguments : goal.begin-requires-clause-arguments
begin-requires-clause-arguments g c =
    let s = c.args.self.now in
    let h = c.requires.0 in
    omega (arith, c.if-count-routine.false, arguments_there c.args.at c.args.count s g.p h.at (call_called (target_of c.args.target) c.args.at c.args.count s g.p h))

pub returns-then-count-routine : goal.returns-then-count-routine
returns-then-count-routine g c =
    arguments_did (target_of c.args.target) c.args.at c.args.count c.args.number c.args.self.now c.raise.new.self g.p c.args.callee c.in-Some.routine c.raise.result c.requires.0 c.requires.1.0 c.requires.1.1
    (sym c.in-Some.is ∙ c.routine.ensures) c.if-count-routine.true c.raise.ensures

pub returns-then-depth-lt-MAX_CALLS : goal.returns-then-depth-lt-MAX_CALLS
returns-then-depth-lt-MAX_CALLS g c =
    let room : length c.args.self.now.frames.callers < max_calls = omega (arith, c.depth.ensures, c.if-depth-lt-MAX_CALLS.true) in
    begun_did c.args.target c.args.at c.args.count c.args.number c.args.self.now c.begin.new.self g.p c.args.callee c.in-Some.routine c.begin.result c.requires.0 c.requires.1.0 c.requires.1.1
    (sym c.in-Some.is ∙ c.routine.ensures) c.if-count-routine.false room c.begin.ensures

pub returns-else-depth-lt-MAX_CALLS : goal.returns-else-depth-lt-MAX_CALLS
returns-else-depth-lt-MAX_CALLS g c =
    let raised = c.raise-else-depth-lt-MAX_CALLS in
    let deep : max_calls ≤ length c.args.self.now.frames.callers = omega (arith, c.depth.ensures, c.if-depth-lt-MAX_CALLS.false) in
    too_deep_did (target_of c.args.target) c.args.at c.args.count c.args.number c.args.self.now raised.new.self g.p c.args.callee c.in-Some.routine raised.result c.requires.0 c.requires.1.0 c.requires.1.1
    (sym c.in-Some.is ∙ c.routine.ensures) c.if-count-routine.false deep raised.ensures

pub returns-in-None : goal.returns-in-None
returns-in-None g c =
    let raised = c.raise-in-None in
    no_function_did (target_of c.args.target) c.args.at c.args.count c.args.number c.args.self.now raised.new.self g.p c.args.callee raised.result c.requires.0 c.requires.1.0 c.requires.1.1
    (sym c.in-None.is ∙ c.routine.ensures) raised.ensures
