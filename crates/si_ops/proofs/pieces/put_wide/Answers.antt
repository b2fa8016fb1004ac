use Rattle.std.proofs.Common.{encode_utf8, encode_utf8_all, ap, ◌∙◌}
use Rattle.si_ops.proofs.Adding.{on_err, encoded, encode_one, next_adds, next_lacks, all_added}
use Rattle.si_ops.proofs.pieces.put_wide.Goals as goal

pub loop-c-preserved : goal.loop-c-preserved
loop-c-preserved c =
    next_adds encode_utf8_all encoded c.args.characters.now c.loop-c.c-index c.c-item.result _ c.loop-c-test.true (ap encode_utf8 c.c-item.is ∙ encode_one _) c.loop-c.invariant c.in_ok-put_char.ensures.ok

pub returns-in_err-put_char-clause-err : goal.returns-in_err-put_char-clause-err
returns-in_err-put_char-clause-err c =
    on_err _ _ (next_lacks encode_utf8_all encoded c.args.characters.now c.loop-c.c-index c.c-item.result _ c.loop-c-test.true (ap encode_utf8 c.c-item.is ∙ encode_one _) c.loop-c.invariant c.in_err-put_char.ensures.err)

pub returns-clause-ok : goal.returns-clause-ok
returns-clause-ok c = all_added encode_utf8_all c.args.characters.now c.loop-c.c-index c.loop-c-test.false c.loop-c.invariant
