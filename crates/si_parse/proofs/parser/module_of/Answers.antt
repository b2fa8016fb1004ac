use Rattle.std.proofs.Common.{sym, ◌∙◌, subst}
use Rattle.std.proofs.lemmas.Result.{err_from_is_err_and}
use Rattle.si_semantics.specs.Grammar.{Derives}
use Rattle.si_parse.specs.inner.Gives.{from}
use Rattle.si_parse.proofs.Limits.{derived_within}
use Rattle.si_parse.proofs.Modules.{found, one_module}
use Rattle.si_parse.proofs.Refusals.{refused}
use Rattle.si_parse.proofs.parser.module_of.Goals as goal

pub returns-in_err-body-clause-refused : goal.returns-in_err-body-clause-refused
returns-in_err-body-clause-refused c =
    let p = err_from_is_err_and c.from_residual.result c.from_residual.ensures.1 in
    rw (p.1, p.2) (refused (from c.args.tokens.now 0) c.in_err-body.field-0.0 c.in_err-body.ensures)

pub new-requires : goal.new-requires
new-requires c = derived_within _ (from c.args.tokens.now 0) (found (from c.args.tokens.now 0) _ c.in_ok-body.ensures)

pub returns-clause-found : goal.returns-clause-found
returns-clause-found c = subst (λ t. Derives t (from c.args.tokens.now 0)) (sym c.new.ensures) (found (from c.args.tokens.now 0) _ c.in_ok-body.ensures)

pub returns-clause-only : goal.returns-clause-only
returns-clause-only c = λ body d. c.new.ensures ∙ one_module _ body (from c.args.tokens.now 0) (found (from c.args.tokens.now 0) _ c.in_ok-body.ensures) d
