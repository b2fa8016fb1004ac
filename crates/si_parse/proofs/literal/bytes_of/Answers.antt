use Rattle.std.proofs.Common.{length, ◌∙◌, sym, map-id, arith}
use Rattle.std.proofs.lemmas.Iterator.{YieldsList-from_chars}
use Rattle.std.proofs.lemmas.Iterator.Consumers.{YieldsList-end, YieldsList-turn}
use Rattle.si_parse.proofs.literal.bytes_of.Goals as goal

pub overflow_cast-character : goal.overflow_cast-character
overflow_cast-character c =
    let t = YieldsList-turn (YieldsList-from_chars c.args.text.now c.utf8.text cc) c.loop-character.yielded _ c.loop-character.yielded_by _ _ _ c.in-Some.is c.next.ensures.steps in
    let small = c.requires (length c.loop-character.yielded) c.in-Some.character t.0 in
    omega (arith, t.1, small)

pub returns : goal.returns
returns c =
    let t = YieldsList-end (YieldsList-from_chars c.args.text.now c.utf8.text cc) c.loop-character.yielded _ c.loop-character.yielded_by _ _ c.in-None.is c.next.ensures.steps in
    c.loop-character.invariant ∙ sym (map-id c.loop-character.yielded) ∙ t.0
