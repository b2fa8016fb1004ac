use Rattle.std.proofs.Common.{◌≡◌, map, drop}
use Rattle.si_semantics.specs.Grammar.{exprs_of, chain_of}
use Rattle.si_semantics.specs.Scope.{names_of_all, names_of_chain}
use Rattle.si_syntax.specs.Trees.{expr_of, link_of}
use Rattle.si_scope.specs.inner.Walk.{with_names}
use Rattle.si_scope.proofs.expression.+expression.Given as goal

-- with the names of the rest they are those of all
abbrev pub invariant-use_all-loop-expr : goal.invariant-use_all-loop-expr
invariant-use_all-loop-expr l = with_names l.initial.used (names_of_all (exprs_of (map expr_of l.exprs))) ≡ with_names l.used (names_of_all (exprs_of (map expr_of (drop l.expr-index l.exprs))))

abbrev pub invariant-use_chain-loop-operand : goal.invariant-use_chain-loop-operand
invariant-use_chain-loop-operand l = with_names l.initial.used (names_of_chain (chain_of (map link_of l.links))) ≡ with_names l.used (names_of_chain (chain_of (map link_of (drop l.operand-index l.links))))
