use Rattle.std.proofs.Common.{ap, ◌∙◌}
use Rattle.si_ops.specs.inner.Written.{is_own_str}
use Rattle.si_ops.proofs.Calling.{no_str_shown}
use Rattle.si_ops.proofs.calls.is_own_str.Goals as goal

pub returns-in_default : goal.returns-in_default
returns-in_default c =
    no_str_shown c.args.arena.now c.view.result c.in_default.not-Str ∙ ap is_own_str c.view.ensures.value
