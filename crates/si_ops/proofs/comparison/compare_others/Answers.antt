use Rattle.std.proofs.Common.{◌∙◌}
use Rattle.si_ops.proofs.comparison.compare_others.Goals as goal

pub returns-in-Err : goal.returns-in-Err
returns-in-Err c =
    let thrown = c.cause.ensures c.args.arena.now in
    ((λ w e. c.in-Err.ensures w e ∙ thrown.0 w e), thrown.1)
