use Rattle.si_ops.proofs.Adding.{on_err, adds_as, lacks_as, adds_more, lacks_first, lacks_next}
use Rattle.si_ops.proofs.Quoting.{bytes_quoted}
use Rattle.si_ops.proofs.quoted.put_bytes_quoted.Goals as goal

pub returns-in_err-put_char-clause-err : goal.returns-in_err-put_char-clause-err
returns-in_err-put_char-clause-err c =
    on_err _ _ (lacks_as (bytes_quoted c.args.bytes.now _ c.narrow_quote-quote.ensures) (lacks_first _ (lacks_first _ c.in_err-put_char.ensures.err)))

pub returns-in_err-put_bytes_escaped-clause-err : goal.returns-in_err-put_bytes_escaped-clause-err
returns-in_err-put_bytes_escaped-clause-err c =
    on_err _ _ (lacks_as (bytes_quoted c.args.bytes.now _ c.narrow_quote-quote.ensures) (lacks_first _ (lacks_next c.in_ok-put_char.ensures.ok c.in_err-put_bytes_escaped.ensures.err)))

pub returns-in_err-put_char-2-clause-err : goal.returns-in_err-put_char-2-clause-err
returns-in_err-put_char-2-clause-err c =
    on_err _ _ (lacks_as (bytes_quoted c.args.bytes.now _ c.narrow_quote-quote.ensures) (lacks_next (adds_more c.in_ok-put_char.ensures.ok c.in_ok-put_bytes_escaped.ensures.ok) c.in_err-put_char-2.ensures.err))

pub returns-clause-ok : goal.returns-clause-ok
returns-clause-ok c =
    adds_as (bytes_quoted c.args.bytes.now _ c.narrow_quote-quote.ensures) (adds_more (adds_more c.in_ok-put_char.ensures.ok c.in_ok-put_bytes_escaped.ensures.ok) c.in_ok-put_char-2.ensures.ok)
