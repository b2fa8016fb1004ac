use Rattle.si_slots.specs.Views.{target_of}
use Rattle.si_steps.proofs.Callees.{by_name_called, by_name_did, is_callee}
use Rattle.si_steps.proofs.state.State.call_by_name.Goals as goal

pub call_by_name-cause-requires : goal.call_by_name-cause-requires
call_by_name-cause-requires g c =
    let s = c.args.self.now in
    let h = c.requires in
    (is_callee c.args.at c.args.count s g.p c.temporary-callee.result h.at c.temporary-callee.ensures (by_name_called (target_of c.args.target) c.args.at c.args.count s g.p h)).lies

pub returns : goal.returns
returns g c =
    by_name_did (target_of c.args.target) c.args.at c.args.count c.args.self.now c.raise.new.self g.p c.temporary-callee.result c.call_by_name-cause.result c.raise.result c.requires c.temporary-callee.ensures c.call_by_name-cause.ensures c.raise.ensures
