use Rattle.std.proofs.Common.{ap, sym, ◌∙◌}
use Rattle.std.specs.Int.{w64, to_le_bytes}
use Rattle.si_arena.proofs.Padded.{Ends, same_ends-text}
use Rattle.si_arena.proofs.short.ShortPartialEq.eq.Goals as goal

pub returns-then-first_eight : goal.returns-then-first_eight
returns-then-first_eight c =
    let first = sym c.first_eight.ensures.bytes ∙ ap (to_le_bytes w64) c.if-first_eight.true ∙ c.first_eight-2.ensures.bytes in
    same_ends-text c.args.self.now c.args.other.now c.others.result c.others-then-first_eight.result first
    (record { value = c.others.ensures.value; bytes = c.others.ensures.bytes })
    (record { value = c.others-then-first_eight.ensures.value; bytes = c.others-then-first_eight.ensures.bytes })
