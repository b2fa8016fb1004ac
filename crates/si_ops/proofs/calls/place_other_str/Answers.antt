use Rattle.std.proofs.Common.{sym, ◌∙◌}
use Rattle.si_ops.proofs.Calling.{own_str}
use Rattle.si_ops.proofs.calls.place_other_str.Goals as goal

pub returns-then-is_own_str-clause-runs : goal.returns-then-is_own_str-clause-runs
returns-then-is_own_str-clause-runs c = own_str c.args.arena.now c.args.value c.requires (sym c.is_own_str.ensures ∙ c.if-is_own_str.true)
