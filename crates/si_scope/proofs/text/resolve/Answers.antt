use Rattle.std.proofs.Common.{false, sym, ap, subst, ◌∙◌}
use Rattle.si_syntax.specs.Modules.{tree_of}
use Rattle.si_scope.specs.Faults.{Fails}
use Rattle.si_scope.specs.inner.Walk.{resolved_all}
use Rattle.si_scope.proofs.Resolved.{script_resolved, refused_for}
use Rattle.si_scope.proofs.text.resolve.Goals as goal

pub new-requires : goal.new-requires
new-requires c =
    let walk = ap (λ b. resolved_all b false c.new-locals.result.items) c.body.ensures.tree ∙ ap (resolved_all (tree_of c.args.tree) false) c.new-locals.ensures.items in
    script_resolved (tree_of c.args.tree) c.resolve_suite.new.locals.items (sym walk ∙ c.in_ok-resolve_suite.ensures)

pub returns-in_err-resolve_suite-clause-scope : goal.returns-in_err-resolve_suite-clause-scope
returns-in_err-resolve_suite-clause-scope c =
    let walk = ap (λ b. resolved_all b false c.new-locals.result.items) c.body.ensures.tree ∙ ap (resolved_all (tree_of c.args.tree) false) c.new-locals.ensures.items in
    refused_for (tree_of c.args.tree) c.from_residual.result c.in_err-resolve_suite.field-0.0 c.from_residual.ensures.1 (subst (Fails c.in_err-resolve_suite.field-0.0) walk c.in_err-resolve_suite.ensures)
