use Rattle.std.proofs.Common.{◌≡◌, ◌+◌, ◌-◌, ◌*◌, ◌≤◌, length, map}
use Rattle.si_semantics.specs.Tokens as token
use Rattle.si_semantics.specs.Grammar.{item_level}
use Rattle.si_token.specs.Views.{symbol_of}
use Rattle.si_syntax.specs.Trees.{expr_of, link_of}
use Rattle.si_parse.specs.inner.Lookahead.{after_boolean}
use Rattle.si_parse.specs.inner.Lists.{enclosed_by, chain_by, alone}
use Rattle.si_parse.specs.inner.Expressions.{continued_by, arguments_by, items_by, operands_by, links_by, with_word, comparison_at, compared_by, argument_by, expression_at, both, pair_by, pairs_by}
use Rattle.si_parse.specs.inner.Gives.{from, argument_of}
use Rattle.si_parse.proofs.expression.+expressions.Given as goal

abbrev pub decreases-expression : goal.decreases-expression
decreases-expression l = 8 * l.budget

abbrev pub decreases-continued : goal.decreases-continued
decreases-continued l = 8 * l.parts + 7

abbrev pub decreases-extended : goal.decreases-extended
decreases-extended l = 8 * l.parts + 6

abbrev pub decreases-binary : goal.decreases-binary
decreases-binary l = 8 * l.parts + 5

abbrev pub decreases-call : goal.decreases-call
decreases-call l = 8 * l.parts + 5

abbrev pub decreases-subscript : goal.decreases-subscript
decreases-subscript l = 8 * l.parts + 5

abbrev pub decreases-compare : goal.decreases-compare
decreases-compare l = 8 * l.parts + 5

abbrev pub decreases-boolean : goal.decreases-boolean
decreases-boolean l = 8 * l.parts + 5

abbrev pub decreases-conditional : goal.decreases-conditional
decreases-conditional l = 8 * l.parts + 5

abbrev pub decreases-arguments : goal.decreases-arguments
decreases-arguments l = 8 * l.parts + 4

abbrev pub decreases-argument : goal.decreases-argument
decreases-argument l = 8 * l.parts + 3

abbrev pub decreases-operands : goal.decreases-operands
decreases-operands l = 8 * l.parts + 4

abbrev pub decreases-links : goal.decreases-links
decreases-links l = 8 * l.parts + 4

abbrev pub decreases-compared : goal.decreases-compared
decreases-compared l = 8 * l.parts + 3

abbrev pub decreases-operand : goal.decreases-operand
decreases-operand l = 8 * l.parts + 5

abbrev pub decreases-atom : goal.decreases-atom
decreases-atom l = 8 * l.parts + 4

abbrev pub decreases-unary : goal.decreases-unary
decreases-unary l = 8 * l.parts + 3

abbrev pub decreases-bracketed : goal.decreases-bracketed
decreases-bracketed l = 8 * l.parts + 3

abbrev pub decreases-list : goal.decreases-list
decreases-list l = 8 * l.parts + 3

abbrev pub decreases-dict : goal.decreases-dict
decreases-dict l = 8 * l.parts + 3

abbrev pub decreases-pairs : goal.decreases-pairs
decreases-pairs l = 8 * l.parts + 2

abbrev pub decreases-pair : goal.decreases-pair
decreases-pair l = 8 * l.parts + 1

abbrev pub decreases-items : goal.decreases-items
decreases-items l = 8 * l.parts + 1

abbrev pub invariant-continued-loop-turn : goal.invariant-continued-loop-turn
invariant-continued-loop-turn l = record {
  shallow : l.depth ≤ l.parts + 1;
  reads : continued_by (expression_at l.parts) (l.parts + 1) l.level (l.parts + 1 - l._turn) (expr_of l.left) l.depth (from l.tokens l.at)
      ≡ continued_by (expression_at l.parts) (l.parts + 1) l.level (l.parts + 1) (expr_of l.fn.operand) l.operand_depth (from l.tokens l.start);
}

abbrev pub invariant-arguments-loop-turn : goal.invariant-arguments-loop-turn
invariant-arguments-loop-turn l = record {
  shallow : l.depth ≤ l.parts;
  reads : enclosed_by alone (argument_by (expression_at l.parts)) token.RightParenthesis (length l.tokens.items - l._turn) (map argument_of l.arguments.items, l.depth) (from l.tokens l.at)
      ≡ arguments_by (expression_at l.parts) (from l.tokens l.start);
}

abbrev pub invariant-items-loop-turn : goal.invariant-items-loop-turn
invariant-items-loop-turn l = record {
  shallow : l.depth ≤ l.parts;
  reads : enclosed_by alone (expression_at l.parts 1) (symbol_of l.bracket) (length l.tokens.items - l._turn) (map expr_of l.values.items, l.depth) (from l.tokens l.at)
      ≡ items_by (expression_at l.parts) (symbol_of l.bracket) (map expr_of l.fn.before.items, l.before_depth) (from l.tokens l.start);
}

abbrev pub invariant-pairs-loop-turn : goal.invariant-pairs-loop-turn
invariant-pairs-loop-turn l = record {
  shallow : l.depth ≤ l.parts;
  reads : enclosed_by both (pair_by (expression_at l.parts)) token.RightBrace (length l.tokens.items - l._turn) (map expr_of l.values.items, l.depth) (from l.tokens l.at)
      ≡ pairs_by (expression_at l.parts) (from l.tokens l.start);
}

abbrev pub invariant-operands-loop-turn : goal.invariant-operands-loop-turn
invariant-operands-loop-turn l = record {
  shallow : l.depth ≤ l.parts;
  reads : chain_by (λ o e. e) (λ ts. with_word l.operator (after_boolean l.operator ts)) (λ o. expression_at l.parts (item_level o)) (length l.tokens.items - l._turn) (map expr_of l.others.items, l.depth) (from l.tokens l.at)
      ≡ operands_by (expression_at l.parts) l.operator (from l.tokens l.start);
}

abbrev pub invariant-links-loop-turn : goal.invariant-links-loop-turn
invariant-links-loop-turn l = record {
  shallow : l.depth ≤ l.parts;
  reads : chain_by (λ o e. (o, e)) comparison_at (compared_by (expression_at l.parts)) (length l.tokens.items - l._turn) (map link_of l.links.items, l.depth) (from l.tokens l.at)
      ≡ links_by (expression_at l.parts) (from l.tokens l.start);
}
