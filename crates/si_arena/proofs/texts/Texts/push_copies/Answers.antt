use Rattle.si_arena.proofs.Repeats.{copied}
use Rattle.si_arena.proofs.texts.Texts.push_copies.Goals as goal

pub loop-i-preserved : goal.loop-i-preserved
loop-i-preserved c = copied _ _ _ _ c.args.text c.loop-i.i c.requires.lies c.loop-i.invariant c.in_default.ensures.ok
