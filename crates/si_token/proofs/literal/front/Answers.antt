use Rattle.std.proofs.Common.{◌≡◌, ◌++◌, sym, ap, ◌∙◌}
use Rattle.std.specs.Prelude.{encode_utf8}
use Rattle.std.proofs.lemmas.Str.{chars_past_char}
use Rattle.si_token.specs.inner.Literals.{front_of}
use Rattle.si_token.proofs.literal.front.Goals as goal

pub returns-clause-gives : goal.returns-clause-gives
returns-clause-gives c =
    let here : c.args.text.now ≡ encode_utf8 c.in_ok-first.first ++ c.as_str.result.now =
    sym c.chars-rest.ensures.rest ∙ c.in_ok-first.ensures.steps.0 ∙ ap (λ r. encode_utf8 c.in_ok-first.first ++ r) (sym c.as_str.ensures) in
    sym (ap front_of (chars_past_char c.args.text.now c.as_str.result.now c.in_ok-first.first c.utf8.text here))
