use Rattle.std.proofs.Common.{◌+◌, sym, ap, ◌∙◌}
use Rattle.si_parse.specs.inner.Expressions.{strings_by}
use Rattle.si_parse.specs.inner.Gives.{from}
use Rattle.si_parse.proofs.Strings.{strings_on}
use Rattle.si_parse.proofs.expression.strings.Goals as goal

pub loop-place-preserved : goal.loop-place-preserved
loop-place-preserved c =
    ap (λ text. strings_by text (from c.args.tokens.now (c.loop-place.place + 1))) c.in_ok-append.ensures.ok
    ∙ sym (strings_on c.loop-place.text c.in-Some.token.kind c.in-Some.token.text.now (from c.args.tokens.now (c.loop-place.place + 1)) (from c.args.tokens.now c.loop-place.place) c.in-Str.is c.in-Some.ensures.split c.in_ok-value.value c.in_ok-value.ensures)
    ∙ c.loop-place.invariant
