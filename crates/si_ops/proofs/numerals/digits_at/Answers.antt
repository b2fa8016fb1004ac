use Rattle.std.proofs.Common.{◌≡◌, ◌∙◌, ◌^◌, ◌-◌, ◌+◌, ◌≤◌, drop, sym, arith}
use Rattle.si_semantics.specs.Numerals.{digits_after}
use Rattle.si_arena.specs.Texts.{characters_in}
use Rattle.si_ops.proofs.Reading.{capped, digit_step, underscore_step, digits_last}
use Rattle.si_ops.proofs.numerals.digits_at.Goals as goal
use Rattle.si_ops.proofs.numerals.digits_at.Goals.{then-is_digit, else-is_digit+else-is_due+then-character-eq95}

pub loop-i-preserved : goal.loop-i-preserved
loop-i-preserved c =
    let s = characters_in c.args.text in
    let more : capped (2 ^ 64 - 1) (digits_after c.loop-i.is_due c.loop-i.number (drop c.loop-i.i s)) ≡ capped (2 ^ 64 - 1) (digits_after c.if-is_digit.is_due c.if-is_digit.number (drop (c.loop-i.i + 1) s)) =
    elim c.if-is_digit.branch [
      | then-is_digit w ↦ digit_step (2 ^ 64 - 1) s c.loop-i.i c.loop-i.number c.character_at-character.result c.if-is_digit.number c.loop-i.is_due c.is_digit.result c.if-is_digit.is_due (omega arith) c.character_at-character.ensures c.is_digit.ensures w.if-is_digit.true (w.number-is ∙ w.with_digit-number.ensures) w.is_due-is
      | else-is_digit+else-is_due+then-character-eq95 w ↦ underscore_step (2 ^ 64 - 1) s c.loop-i.i c.loop-i.number c.character_at-character.result c.if-is_digit.number c.loop-i.is_due c.is_digit.result c.if-is_digit.is_due (omega arith) c.character_at-character.ensures c.is_digit.ensures w.if-is_digit.false w.if-is_due.false w.if-character-eq95.true w.number-is w.is_due-is
    ] in
    let within : c.if-is_digit.number ≤ 2 ^ 64 - 1 = elim c.if-is_digit.branch [
      | then-is_digit w ↦ omega (arith, w.number-is ∙ w.with_digit-number.ensures)
      | else-is_digit+else-is_due+then-character-eq95 w ↦ omega (arith, w.number-is, c.loop-i.invariant.within)
    ] in
    record { within = within; read = c.loop-i.invariant.read ∙ more }

pub returns-else-is_due-2 : goal.returns-else-is_due-2
returns-else-is_due-2 c = digits_last (2 ^ 64 - 1) c.loop-i.number c.loop-i.i (characters_in c.args.text) c.loop-i.is_due (omega arith) c.loop-i.invariant.within c.if-is_due-2.false ∙ sym c.loop-i.invariant.read
