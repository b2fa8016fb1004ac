use Rattle.std.proofs.lemmas.Result.{err_from_is_err_and}
use Rattle.si_parse.proofs.Refusals.{no_tokens, text_found, text_refused, text_only}
use Rattle.si_parse.proofs.parser.parse.Goals as goal

pub returns-in_err-all-clause-refused : goal.returns-in_err-all-clause-refused
returns-in_err-all-clause-refused c =
    let p = err_from_is_err_and c.from_residual.result c.from_residual.ensures.1 in
    rw (p.1, p.2) (no_tokens c.args.text.now c.in_err-all.field-0.0 c.in_err-all.ensures.refused c.in_err-all.ensures.long)

pub returns-clause-found : goal.returns-clause-found
returns-clause-found c =
    text_found c.args.text.now c.in_ok-all.all c.in_ok-all.ensures.tokens c.in_ok-all.ensures.only c.in_ok-all.ensures.short c.module_of.result c.module_of.ensures.found

pub returns-clause-refused : goal.returns-clause-refused
returns-clause-refused c =
    text_refused c.args.text.now c.in_ok-all.all c.in_ok-all.ensures.tokens c.in_ok-all.ensures.only c.module_of.result c.module_of.ensures.refused

pub returns-clause-only : goal.returns-clause-only
returns-clause-only c =
    text_only c.args.text.now c.in_ok-all.all c.in_ok-all.ensures.tokens c.in_ok-all.ensures.only c.module_of.result c.module_of.ensures.only
