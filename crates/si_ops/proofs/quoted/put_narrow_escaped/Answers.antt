use Rattle.std.proofs.Common.{◌≡◌, get_or, encode_utf8_all, flat_map, ap, ◌∙◌}
use Rattle.si_plain.specs.Repr.{escaped}
use Rattle.si_ops.proofs.Adding.{on_err, escaped_in, escape_one, next_adds, next_lacks, all_added}
use Rattle.si_ops.proofs.quoted.put_narrow_escaped.Goals as goal

pub loop-c-preserved : goal.loop-c-preserved
loop-c-preserved c =
    let f = escaped c.args.quote in
    let same : c.from.result ≡ get_or c.args.characters.now c.loop-c.c-index 0 = cc in
    next_adds (λ xs. encode_utf8_all (flat_map f xs)) (escaped_in f) c.args.characters.now c.loop-c.c-index 0 _ c.loop-c-test.true (ap (λ x. encode_utf8_all (f x)) same ∙ escape_one f _) c.loop-c.invariant c.in_ok-put_escaped.ensures.ok

pub returns-in_err-put_escaped-clause-err : goal.returns-in_err-put_escaped-clause-err
returns-in_err-put_escaped-clause-err c =
    let f = escaped c.args.quote in
    let same : c.from.result ≡ get_or c.args.characters.now c.loop-c.c-index 0 = cc in
    on_err _ _ (next_lacks (λ xs. encode_utf8_all (flat_map f xs)) (escaped_in f) c.args.characters.now c.loop-c.c-index 0 _ c.loop-c-test.true (ap (λ x. encode_utf8_all (f x)) same ∙ escape_one f _) c.loop-c.invariant c.in_err-put_escaped.ensures.err)

pub returns-clause-ok : goal.returns-clause-ok
returns-clause-ok c =
    let f = escaped c.args.quote in
    all_added (λ xs. encode_utf8_all (flat_map f xs)) c.args.characters.now c.loop-c.c-index c.loop-c-test.false c.loop-c.invariant
