use Rattle.std.proofs.Common.{◌∙◌, drop, true, sym}
use Rattle.si_semantics.specs.Numerals.{digits_after}
use Rattle.si_arena.specs.Texts.{characters_in}
use Rattle.si_ops.proofs.Reading.{read_capped}
use Rattle.si_ops.proofs.numerals.read_digits.Goals as goal

pub returns-in-Some : goal.returns-in-Some
returns-in-Some c = c.with_sign.ensures ∙ read_capped c.args.is_negative (digits_after true 0 (drop c.args.start (characters_in c.args.text))) c.in-Some.magnitude (sym c.in-Some.is ∙ c.digits_at.ensures)
