use Rattle.std.proofs.Common.{◌≡◌, map}
use Rattle.si_semantics.specs.Grammar.{exprs_of}
use Rattle.si_semantics.specs.Grammar as grammar
use Rattle.si_syntax.specs.Trees.{expr_of, target_of}
use Rattle.si_parse.specs.inner.Targets.{with_targets}
use Rattle.si_parse.proofs.target.+targets.Given as goal

-- the targets that were made, in front of those of the expressions that are left
abbrev pub invariant-as_targets-loop-expr : goal.invariant-as_targets-loop-expr
invariant-as_targets-loop-expr l =
    with_targets (map target_of l.targets.items) (grammar.targets_of (exprs_of (map expr_of l.expr-iterator.rest.items))) ≡ grammar.targets_of (exprs_of (map expr_of l.fn.exprs.items))
