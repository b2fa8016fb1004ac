use Rattle.std.proofs.Common.{encode_utf8_all, flat_map}
use Rattle.si_plain.specs.Repr.{escaped_byte}
use Rattle.si_ops.proofs.Adding.{on_err, escaped_in, escape_one, next_adds, next_lacks, all_added}
use Rattle.si_ops.proofs.quoted.put_bytes_escaped.Goals as goal

pub loop-b-preserved : goal.loop-b-preserved
loop-b-preserved c =
    let f = escaped_byte c.args.quote in
    next_adds (λ xs. encode_utf8_all (flat_map f xs)) (escaped_in f) c.args.bytes.now c.loop-b.b-index 0 _ c.loop-b-test.true (escape_one f _) c.loop-b.invariant c.in_ok-put_escaped_byte.ensures.ok

pub returns-in_err-put_escaped_byte-clause-err : goal.returns-in_err-put_escaped_byte-clause-err
returns-in_err-put_escaped_byte-clause-err c =
    let f = escaped_byte c.args.quote in
    on_err _ _ (next_lacks (λ xs. encode_utf8_all (flat_map f xs)) (escaped_in f) c.args.bytes.now c.loop-b.b-index 0 _ c.loop-b-test.true (escape_one f _) c.loop-b.invariant c.in_err-put_escaped_byte.ensures.err)

pub returns-clause-ok : goal.returns-clause-ok
returns-clause-ok c =
    let f = escaped_byte c.args.quote in
    all_added (λ xs. encode_utf8_all (flat_map f xs)) c.args.bytes.now c.loop-b.b-index c.loop-b-test.false c.loop-b.invariant
