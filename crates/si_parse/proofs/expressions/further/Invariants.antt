use Rattle.std.proofs.Common.{◌≡◌, ◌-◌, ◌≤◌, ◌∷◌, [], length, map}
use Rattle.si_semantics.specs.Grammar.{max_depth}
use Rattle.si_syntax.specs.Trees.{expr_of}
use Rattle.si_parse.specs.inner.Lists.{chain_by}
use Rattle.si_parse.specs.inner.Expressions.{expression_at}
use Rattle.si_parse.specs.inner.Unbracketed.{item_follows, after_comma, further_by}
use Rattle.si_parse.specs.inner.Gives.{from}
use Rattle.si_parse.proofs.expressions.further.Given as goal

abbrev pub invariant-loop-turn : goal.invariant-loop-turn
invariant-loop-turn l = record {
  shallow : l.depth ≤ max_depth;
  reads : chain_by (λ o e. e) (λ ts. item_follows (after_comma ts)) (λ o. expression_at max_depth l.level) (length l.tokens.items - l._turn) (map expr_of l.items.items, l.depth) (from l.tokens l.at)
      ≡ further_by (expression_at max_depth) l.level (expr_of l.fn.first ∷ [], l.first_depth) (from l.tokens l.start);
}
