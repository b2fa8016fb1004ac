use Rattle.std.proofs.lemmas.List.{take_all}
use Rattle.si_plain.specs.Repr.{escaped_byte}
use Rattle.si_plain.proofs.ReprFacts.{byte_pushed, bytes_closed}
use Rattle.si_plain.proofs.literal.push_bytes_repr.Goals as goal

pub loop-b-preserved : goal.loop-b-preserved
loop-b-preserved c =
    byte_pushed (escaped_byte c.quote_for_bytes-quote.result) c.args.bytes.now _ _ _ _ c.loop-b-test.true c.loop-b.invariant c.in_ok-push_escaped_byte.ensures

pub returns : goal.returns
returns c =
    bytes_closed _ _ _ c.args.out.now _ _ _ _ c.quote_for_bytes-quote.ensures (take_all c.loop-b.b-index c.args.bytes.now c.loop-b-test.false)
    c.in_ok-push.ensures.ok c.in_ok-push-2.ensures.ok c.loop-b.invariant c.in_ok-push-3.ensures.ok
