use Rattle.std.proofs.Common.{All, ◌<◌, ◌∙◌, sym, subst}
use Rattle.si_parse.proofs.Below.{all_bytes}
use Rattle.si_parse.proofs.literal.bytes_value.Goals as goal

-- what is written is bytes
pub bytes_of-requires : goal.bytes_of-requires
bytes_of-requires c =
    subst (All (λ x. x < 256)) (sym c.as_str.ensures.characters)
    (all_bytes c.args.literal.now c.in_ok-text.text (sym c.is_ascii.ensures ∙ c.if-not-is_ascii.false) c.in_ok-text.ensures)
