use Rattle.std.proofs.Common.{◌+◌, ◌++◌, sym, ap, ◌∙◌}
use Rattle.si_parse.specs.inner.Expressions.{octets_by}
use Rattle.si_parse.specs.inner.Gives.{from}
use Rattle.si_parse.proofs.ManyBytes.{octets_on}
use Rattle.si_parse.proofs.octets.octets.Goals as goal

pub loop-place-preserved : goal.loop-place-preserved
loop-place-preserved c =
    ap (λ bytes. octets_by bytes (from c.args.tokens.now (c.loop-place.place + 1))) (c.in_ok-append.ensures ∙ ap (λ more. c.loop-place.bytes.items ++ more) c.as_slice.ensures.value)
    ∙ sym (octets_on c.loop-place.bytes.items c.in-Some.token.kind c.in-Some.token.text.now (from c.args.tokens.now (c.loop-place.place + 1)) (from c.args.tokens.now c.loop-place.place) c.in-Bytes.is c.in-Some.ensures.split c.in_ok-value.value.items c.in_ok-value.ensures)
    ∙ c.loop-place.invariant
