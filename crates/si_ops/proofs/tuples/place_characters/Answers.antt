use Rattle.std.proofs.Common.{length, refl, arith, ◌<◌, ◌≤◌}
use Rattle.si_semantics.specs.Tuples.{characters_in}
use Rattle.si_arena.specs.Texts.{text_of}
use Rattle.si_ops.proofs.Tupled.{atoms_large, atoms_small, large_told, characters_count, characters_deep}
use Rattle.si_ops.proofs.tuples.place_characters.Goals as goal

pub returns-then-count-clause-tuple : goal.returns-then-count-clause-tuple
returns-then-count-clause-tuple c =
    let m = c.args.arena.now in
    let n = length (text_of m.texts c.args.text) in
    let vs = characters_in (text_of m.texts c.args.text) in
    let large : 65536 ≤ n = omega (arith, c.requires.count) in
    (atoms_large vs n (characters_count (text_of m.texts c.args.text)) large, refl, refl)

pub returns-in_err-items-clause-told : goal.returns-in_err-items-clause-told
returns-in_err-items-clause-told c = λ h.
    let m = c.args.arena.now in
    let n = length (text_of m.texts c.args.text) in
    let vs = characters_in (text_of m.texts c.args.text) in
    let few : n < 65536 = omega (arith, c.requires.count) in
    large_told vs c.from_residual.result (atoms_small vs n (characters_count (text_of m.texts c.args.text)) (characters_deep (text_of m.texts c.args.text)) few) h

pub returns-clause-told : goal.returns-clause-told
returns-clause-told c = λ h.
    let m = c.args.arena.now in
    let n = length (text_of m.texts c.args.text) in
    let vs = characters_in (text_of m.texts c.args.text) in
    let few : n < 65536 = omega (arith, c.requires.count) in
    large_told vs c.place_tuple.result (atoms_small vs n (characters_count (text_of m.texts c.args.text)) (characters_deep (text_of m.texts c.args.text)) few) h
