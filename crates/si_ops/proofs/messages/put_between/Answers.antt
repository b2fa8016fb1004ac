use Rattle.si_ops.proofs.Adding.{on_err, lacks_first, lacks_next}
use Rattle.si_ops.proofs.messages.put_between.Goals as goal

pub returns-in_err-put_str_escaped-3-clause-err : goal.returns-in_err-put_str_escaped-3-clause-err
returns-in_err-put_str_escaped-3-clause-err c =
    on_err _ _ (lacks_next c.in_ok-put_char.ensures.ok (lacks_next c.in_ok-put_str_escaped.ensures.ok (lacks_next c.in_ok-put_str_escaped-2.ensures.ok (lacks_first _ c.in_err-put_str_escaped-3.ensures.err))))
