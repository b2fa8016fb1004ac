use Rattle.std.proofs.Common.{◌≢◌, ◌∙◌, sym, arith}
use Rattle.si_arena.specs.Texts.{characters_in}
use Rattle.si_ops.proofs.Reading.{read_plus, read_unsigned}
use Rattle.si_ops.proofs.numerals.read_integer.Goals as goal

pub returns-in-43 : goal.returns-in-43
returns-in-43 c = c.read_digits-in-43.ensures ∙ read_plus (characters_in c.args.text) c.end_of_space-start.result c.end_of_space-start.ensures.after (omega arith) (sym c.character_at.ensures ∙ c.in-43.is)

pub returns-in_default : goal.returns-in_default
returns-in_default c =
    let minus : c.character_at.result ≢ 45 = omega arith in
    let plus : c.character_at.result ≢ 43 = omega arith in
    c.read_digits-in_default.ensures ∙ read_unsigned (characters_in c.args.text) c.end_of_space-start.result c.end_of_space-start.ensures.after (omega arith) (λ e. minus (c.character_at.ensures ∙ e)) (λ e. plus (c.character_at.ensures ∙ e))
