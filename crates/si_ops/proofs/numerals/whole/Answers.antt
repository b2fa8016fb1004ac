use Rattle.std.proofs.Common.{arith}
use Rattle.si_arena.specs.Texts.{characters_in}
use Rattle.si_ops.proofs.Reading.{not_whole}
use Rattle.si_ops.proofs.numerals.whole.Goals as goal

pub returns-else-end_of_space-length_of : goal.returns-else-end_of_space-length_of
returns-else-end_of_space-length_of c = not_whole (characters_in c.args.text) c.args.number c.args.start c.end_of_space.result c.end_of_space.ensures.after c.end_of_space.ensures.within (λ e. c.if-end_of_space-length_of.false (omega (arith, e)))
