use Rattle.std.proofs.Common.{◌++◌, length, ap, ◌∙◌, arith}
use Rattle.si_semantics.specs.Operations.{times}
use Rattle.si_arena.specs.Texts.{text_of}
use Rattle.si_arena.proofs.Repeats.{length_times, times_next, room}
use Rattle.si_arena.proofs.texts.Texts.short_copies.Goals as goal

pub append-requires : goal.append-requires
append-requires c =
    let t = text_of c.args.self.now c.args.text.now in
    omega (arith, room c.loop-i.i c.args.copies (length t) 11 c.loop-i-test.true c.requires.few, ap length c.loop-i.invariant, length_times c.loop-i.i t, ap length c.narrow_characters-characters.ensures)

pub loop-i-preserved : goal.loop-i-preserved
loop-i-preserved c =
    let t = text_of c.args.self.now c.args.text.now in
    c.append.ensures ∙ ap (λ xs. xs ++ c.narrow_characters-characters.result.now) c.loop-i.invariant
    ∙ ap (λ xs. times c.loop-i.i t ++ xs) c.narrow_characters-characters.ensures
    ∙ times_next c.loop-i.i t
