use Rattle.si_world.proofs.Stretching.{stretched_on, stretched_refused_on, turns_within, one_turn, one_refused, ends_early}
use Rattle.si_world.proofs.moving.run_lines.Goals as goal

pub returns-in-Starved-clause-stretched : goal.returns-in-Starved-clause-stretched
returns-in-Starved-clause-stretched c = λ turns le. stretched_refused_on turns c.args.most c.lines-given.result.0 c.args.interp.now c.lines-given.new.self c.lines-given.result.1 c.lines-given.ensures c.in-Starved.is le

pub returns-in-Starved-clause-within : goal.returns-in-Starved-clause-within
returns-in-Starved-clause-within c = turns_within c.args.most c.lines-given.result.0 c.args.interp.now c.lines-given.new.self c.lines-given.result.1 c.lines-given.ensures

pub returns-in-Starved-clause-one : goal.returns-in-Starved-clause-one
returns-in-Starved-clause-one c = one_refused c.args.most c.lines-given.result.0 c.args.interp.now c.lines-given.new.self c.lines-given.result.1 c.lines-given.ensures c.in-Starved.is

pub returns-in_default-clause-stretched : goal.returns-in_default-clause-stretched
returns-in_default-clause-stretched c = λ turns le. stretched_on turns c.args.most c.lines-given.result.0 c.args.interp.now c.lines-given.new.self c.lines-given.result.1 c.lines-given.ensures c.in_default.not-Starved le

pub returns-in_default-clause-within : goal.returns-in_default-clause-within
returns-in_default-clause-within c = turns_within c.args.most c.lines-given.result.0 c.args.interp.now c.lines-given.new.self c.lines-given.result.1 c.lines-given.ensures

pub returns-in_default-clause-one : goal.returns-in_default-clause-one
returns-in_default-clause-one c = one_turn c.args.most c.lines-given.result.0 c.args.interp.now c.lines-given.new.self c.lines-given.result.1 c.lines-given.ensures c.in_default.not-Starved

pub returns-in_default-clause-ends : goal.returns-in_default-clause-ends
returns-in_default-clause-ends c = λ e. ends_early c.args.most c.lines-given.result.0 c.args.interp.now c.lines-given.new.self c.lines-given.result.1 c.lines-given.ensures c.in_default.not-Starved
