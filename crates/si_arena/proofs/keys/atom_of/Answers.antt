use Rattle.std.proofs.Common.{Some, sym, subst}
use Rattle.si_semantics.specs.Value as pure
use Rattle.si_arena.specs.Texts.{text_of}
use Rattle.si_arena.specs.inner.Words.{words_of}
use Rattle.si_arena.specs.inner.Keys.{key_in, FindsAtom}
use Rattle.si_arena.proofs.keys.atom_of.Goals as goal

pub returns-in-Narrow : goal.returns-in-Narrow
returns-in-Narrow c =
    let rows = c.args.texts.now in
    let us = words_of rows c.args.words.now in
    subst (λ r. FindsAtom us (key_in rows r) c.text_atom.result) (sym c.in-Narrow.is)
    (subst (λ r. FindsAtom us (Some (pure.Word (text_of rows r))) c.text_atom.result) c.in-Narrow.is c.text_atom.ensures)

pub returns-in-Wide : goal.returns-in-Wide
returns-in-Wide c =
    let rows = c.args.texts.now in
    let us = words_of rows c.args.words.now in
    subst (λ r. FindsAtom us (key_in rows r) c.text_atom-in-Wide.result) (sym c.in-Wide.is)
    (subst (λ r. FindsAtom us (Some (pure.Word (text_of rows r))) c.text_atom-in-Wide.result) c.in-Wide.is c.text_atom-in-Wide.ensures)
