use Rattle.std.proofs.Common.{◌∙◌, sym}
use Rattle.si_slots.specs.Views.{target_of}
use Rattle.si_steps.proofs.Callees.{call_called, is_callee}
use Rattle.si_steps.proofs.state.State.call.Goals as goal

pub function_in-requires : goal.function_in-requires
function_in-requires g c =
    let s = c.args.self.now in
    let h = c.requires in
    (is_callee c.args.at c.args.count s g.p c.temporary-callee.result h.at c.temporary-callee.ensures (call_called (target_of c.args.target) c.args.at c.args.count s g.p h)).lies

pub call_function-requires : goal.call_function-requires
call_function-requires g c =
    let s = c.args.self.now in
    let h = c.requires in
    (h, (is_callee c.args.at c.args.count s g.p c.temporary-callee.result h.at c.temporary-callee.ensures (call_called (target_of c.args.target) c.args.at c.args.count s g.p h), sym c.function_in.ensures ∙ c.in-Some.is))

pub call_provided-requires : goal.call_provided-requires
call_provided-requires g c =
    let s = c.args.self.now in
    let h = c.requires in
    (h, (is_callee c.args.at c.args.count s g.p c.temporary-callee.result h.at c.temporary-callee.ensures (call_called (target_of c.args.target) c.args.at c.args.count s g.p h), sym c.function_in.ensures ∙ c.in-None.is))
