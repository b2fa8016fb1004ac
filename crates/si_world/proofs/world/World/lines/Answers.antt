use Rattle.std.proofs.Common.{◌∙◌, ap, arith}
use Rattle.si_plain.specs.Ranges.{Numbers}
use Rattle.si_world.proofs.world.World.lines.Goals as goal

pub returns-clause-all : goal.returns-clause-all
returns-clause-all c = λ f.
    let t = c.turns-turns.ensures.value ∙ ap (λ (l : Numbers). l.turns) c.limits.ensures in
    c.some_lines.ensures.all (omega arith) f
