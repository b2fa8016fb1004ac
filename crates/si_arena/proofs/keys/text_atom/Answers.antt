use Rattle.std.proofs.Common.{subst}
use Rattle.si_arena.specs.Short.{FitsShort}
use Rattle.si_arena.specs.Texts.{text_of}
use Rattle.si_arena.proofs.Gathering.{text_strange}
use Rattle.si_arena.proofs.keys.text_atom.Goals as goal

pub returns-in-None-find : goal.returns-in-None-find
returns-in-None-find c =
    let long = c.in-None.ensures in
    let strange = c.in-None-find.ensures in
    text_strange c.args.texts.now c.args.words.now (text_of c.args.texts.now c.args.text.now) (subst (λ t. ¬ FitsShort t) c.characters.ensures long) strange
