use Rattle.std.proofs.Common.{◌≡◌, ◌+◌, ◌-◌, ◌<◌, ◌≤◌, [], ◌++◌, append_assoc, length, sym, ◌∙◌, ap, subst, Some, map, arith}
use Rattle.std.proofs.lemmas.Result.{err_from_is_err_and}
use Rattle.std.proofs.lemmas.List.{map-append}
use Rattle.std.specs.Prelude.{option_map, ◌∷◌}
use Rattle.si_semantics.specs.Tokens as token
use Rattle.si_semantics.specs.Grammar.{item_level}
use Rattle.si_token.specs.Views.{symbol_of}
use Rattle.si_parse.specs.inner.Lists.{alone}
use Rattle.si_syntax.specs.Trees.{expr_of, link_of}
use Rattle.si_parse.specs.inner.Lookahead.{after_boolean, strength_of}
use Rattle.si_parse.specs.inner.Expressions.{with_word, comparison_at, compared_by, argument_by, expression_at, both, pair_by}
use Rattle.si_parse.specs.inner.Gives.{Fails, from, continuation_view, argument_of}
use Rattle.si_parse.proofs.Enclosed.{enclosed_fails, enclosed_last, enclosed_on, enclosed_stuck}
use Rattle.si_parse.proofs.Turns.{continued_on, continued_stops, continued_fails, chain_ends, chain_next, chain_fails}
use Rattle.si_parse.proofs.expression.+expressions.Goals as goal

pub continued-returns-then-strength-level-clause-reads : goal.continued-returns-then-strength-level-clause-reads
continued-returns-then-strength-level-clause-reads t c =
    let weak : strength_of (continuation_view c.what_follows-next.result.0) < c.args.level = omega arith in
    sym c.loop-turn.invariant.reads ∙ continued_stops _ _ _ _ _ _ _ _ c.what_follows-next.ensures.role (omega arith) weak

pub continued-loop-turn-preserved : goal.continued-loop-turn-preserved
continued-loop-turn-preserved t c =
    let strong : c.args.level ≤ strength_of (continuation_view c.what_follows-next.result.0) = omega arith in
    record {
      shallow = omega (arith, c.in_ok-longer.ensures.shallow);
      reads = sym (continued_on _ _ _ _ _ _ _ _ c.what_follows-next.ensures.role _ (omega arith) strong _ _ _ c.in_ok-longer.ensures.reads)
          ∙ c.loop-turn.invariant.reads;
    }

pub continued-returns-in_err-longer-clause-reads : goal.continued-returns-in_err-longer-clause-reads
continued-returns-in_err-longer-clause-reads t c =
    let strong : c.args.level ≤ strength_of (continuation_view c.what_follows-next.result.0) = omega arith in
    let fails = continued_fails (expression_at c.args.parts) (c.args.parts + 1) c.args.level (c.args.parts + 1 - c.loop-turn._turn) (expr_of c.loop-turn.left) c.loop-turn.depth (from c.args.tokens.now c.loop-turn.at) _ c.what_follows-next.ensures.role
    (c.args.parts - c.loop-turn._turn) (omega arith) strong _ c.in_err-longer.ensures.reads in
    let p = err_from_is_err_and c.from_residual.result c.from_residual.ensures.1 in
    rw (p.1, p.2) (subst (Fails _) c.loop-turn.invariant.reads fails)

pub arguments-returns-in_err-next-clause-reads : goal.arguments-returns-in_err-next-clause-reads
arguments-returns-in_err-next-clause-reads t c =
    let fails = enclosed_fails alone (argument_by (expression_at c.args.parts)) token.RightParenthesis (length c.args.tokens.now.items - c.loop-turn._turn) (length c.args.tokens.now.items - (c.loop-turn._turn + 1)) (map argument_of c.loop-turn.arguments.items, c.loop-turn.depth) (from c.args.tokens.now c.loop-turn.at)
    (omega arith) _ c.in_err-next.ensures.reads in
    let p = err_from_is_err_and c.from_residual.result c.from_residual.ensures.1 in
    rw (p.1, p.2) (subst (Fails _) c.loop-turn.invariant.reads fails)

pub arguments-returns-in-Some-after_items-clause-reads : goal.arguments-returns-in-Some-after_items-clause-reads
arguments-returns-in-Some-after_items-clause-reads t c =
    let rest = sym c.after_items.ensures ∙ ap (option_map (from c.args.tokens.now)) c.in-Some-after_items.is in
    let pushed = ap (map argument_of) c.in_ok-push.ensures.items ∙ map-append argument_of c.loop-turn.arguments.items (c.in_ok-next.next ∷ []) in
    sym c.loop-turn.invariant.reads
    ∙ enclosed_last alone (argument_by (expression_at c.args.parts)) token.RightParenthesis (length c.args.tokens.now.items - c.loop-turn._turn) (length c.args.tokens.now.items - (c.loop-turn._turn + 1)) (map argument_of c.loop-turn.arguments.items, c.loop-turn.depth) (from c.args.tokens.now c.loop-turn.at)
    (omega arith) _ _ _ c.in_ok-next.ensures.reads _ _ pushed c.max-depth.ensures _ rest

pub arguments-returns-in_default-after-clause-reads : goal.arguments-returns-in_default-after-clause-reads
arguments-returns-in_default-after-clause-reads t c =
    let rest = sym c.after_items.ensures ∙ ap (option_map (from c.args.tokens.now)) c.in_default-after_items.is in
    let next = sym c.after-in-loop-turn.ensures ∙ ap (option_map (from c.args.tokens.now)) c.in_default-after.is in
    sym c.loop-turn.invariant.reads
    ∙ enclosed_stuck alone (argument_by (expression_at c.args.parts)) token.RightParenthesis (length c.args.tokens.now.items - c.loop-turn._turn) (length c.args.tokens.now.items - (c.loop-turn._turn + 1)) (map argument_of c.loop-turn.arguments.items, c.loop-turn.depth) (from c.args.tokens.now c.loop-turn.at)
    (omega arith) _ _ _ c.in_ok-next.ensures.reads rest next

pub arguments-loop-turn-preserved : goal.arguments-loop-turn-preserved
arguments-loop-turn-preserved t c =
    let rest = sym c.after_items.ensures ∙ ap (option_map (from c.args.tokens.now)) c.in_default-after_items.is in
    let next = sym c.after-in-loop-turn.ensures ∙ ap (option_map (from c.args.tokens.now)) c.in-Some-after.is in
    let pushed = ap (map argument_of) c.in_ok-push.ensures.items ∙ map-append argument_of c.loop-turn.arguments.items (c.in_ok-next.next ∷ []) in
    record {
      shallow = omega (arith, c.in_ok-next.ensures.shallow);
      reads = enclosed_on alone (argument_by (expression_at c.args.parts)) token.RightParenthesis (length c.args.tokens.now.items - c.loop-turn._turn) (length c.args.tokens.now.items - (c.loop-turn._turn + 1)) (map argument_of c.loop-turn.arguments.items, c.loop-turn.depth) (from c.args.tokens.now c.loop-turn.at)
          (omega arith) _ _ _ c.in_ok-next.ensures.reads _ _ pushed c.max-depth.ensures _ rest next
          ∙ c.loop-turn.invariant.reads;
    }

pub items-returns-in_err-next-clause-reads : goal.items-returns-in_err-next-clause-reads
items-returns-in_err-next-clause-reads t c =
    let fails = enclosed_fails alone (expression_at c.args.parts 1) (symbol_of c.args.bracket) (length c.args.tokens.now.items - c.loop-turn._turn) (length c.args.tokens.now.items - (c.loop-turn._turn + 1)) (map expr_of c.loop-turn.values.items, c.loop-turn.depth) (from c.args.tokens.now c.loop-turn.at)
    (omega arith) _ c.in_err-next.ensures.reads in
    let p = err_from_is_err_and c.from_residual.result c.from_residual.ensures.1 in
    rw (p.1, p.2) (subst (Fails _) c.loop-turn.invariant.reads fails)

pub items-returns-in-Some-after_items-clause-reads : goal.items-returns-in-Some-after_items-clause-reads
items-returns-in-Some-after_items-clause-reads t c =
    let rest = sym c.after_items.ensures ∙ ap (option_map (from c.args.tokens.now)) c.in-Some-after_items.is in
    let pushed = ap (map expr_of) c.in_ok-push.ensures.items ∙ map-append expr_of c.loop-turn.values.items (c.in_ok-next.next ∷ []) in
    sym c.loop-turn.invariant.reads
    ∙ enclosed_last alone (expression_at c.args.parts 1) (symbol_of c.args.bracket) (length c.args.tokens.now.items - c.loop-turn._turn) (length c.args.tokens.now.items - (c.loop-turn._turn + 1)) (map expr_of c.loop-turn.values.items, c.loop-turn.depth) (from c.args.tokens.now c.loop-turn.at)
    (omega arith) _ _ _ c.in_ok-next.ensures.reads _ _ pushed c.max-depth.ensures _ rest
    ∙ ap (λ l. Some ((map expr_of l, c.max-depth.result), from c.args.tokens.now c.in-Some-after_items.end)) (sym c.fitted.ensures)

pub items-returns-in_default-after-clause-reads : goal.items-returns-in_default-after-clause-reads
items-returns-in_default-after-clause-reads t c =
    let rest = sym c.after_items.ensures ∙ ap (option_map (from c.args.tokens.now)) c.in_default-after_items.is in
    let next = sym c.after-in-loop-turn.ensures ∙ ap (option_map (from c.args.tokens.now)) c.in_default-after.is in
    sym c.loop-turn.invariant.reads
    ∙ enclosed_stuck alone (expression_at c.args.parts 1) (symbol_of c.args.bracket) (length c.args.tokens.now.items - c.loop-turn._turn) (length c.args.tokens.now.items - (c.loop-turn._turn + 1)) (map expr_of c.loop-turn.values.items, c.loop-turn.depth) (from c.args.tokens.now c.loop-turn.at)
    (omega arith) _ _ _ c.in_ok-next.ensures.reads rest next

pub items-loop-turn-preserved : goal.items-loop-turn-preserved
items-loop-turn-preserved t c =
    let rest = sym c.after_items.ensures ∙ ap (option_map (from c.args.tokens.now)) c.in_default-after_items.is in
    let next = sym c.after-in-loop-turn.ensures ∙ ap (option_map (from c.args.tokens.now)) c.in-Some-after.is in
    let pushed = ap (map expr_of) c.in_ok-push.ensures.items ∙ map-append expr_of c.loop-turn.values.items (c.in_ok-next.next ∷ []) in
    record {
      shallow = omega (arith, c.in_ok-next.ensures.shallow);
      reads = enclosed_on alone (expression_at c.args.parts 1) (symbol_of c.args.bracket) (length c.args.tokens.now.items - c.loop-turn._turn) (length c.args.tokens.now.items - (c.loop-turn._turn + 1)) (map expr_of c.loop-turn.values.items, c.loop-turn.depth) (from c.args.tokens.now c.loop-turn.at)
          (omega arith) _ _ _ c.in_ok-next.ensures.reads _ _ pushed c.max-depth.ensures _ rest next
          ∙ c.loop-turn.invariant.reads;
    }

pub pairs-returns-in_err-key-clause-reads : goal.pairs-returns-in_err-key-clause-reads
pairs-returns-in_err-key-clause-reads t c =
    let fails = enclosed_fails both (pair_by (expression_at c.args.parts)) token.RightBrace (length c.args.tokens.now.items - c.loop-turn._turn) (length c.args.tokens.now.items - (c.loop-turn._turn + 1)) (map expr_of c.loop-turn.values.items, c.loop-turn.depth) (from c.args.tokens.now c.loop-turn.at)
    (omega arith) _ c.in_err-key.ensures.reads in
    let p = err_from_is_err_and c.from_residual.result c.from_residual.ensures.1 in
    rw (p.1, p.2) (subst (Fails _) c.loop-turn.invariant.reads fails)

pub pairs-returns-in-Some-after_items-clause-reads : goal.pairs-returns-in-Some-after_items-clause-reads
pairs-returns-in-Some-after_items-clause-reads t c =
    let rest = sym c.after_items.ensures ∙ ap (option_map (from c.args.tokens.now)) c.in-Some-after_items.is in
    let first = ap (map expr_of) c.in_ok-push.ensures.items ∙ map-append expr_of c.loop-turn.values.items (c.in_ok-key.key ∷ []) in
    let pushed = ap (map expr_of) c.in_ok-push-2.ensures.items ∙ map-append expr_of c.push.new.self.items (c.in_ok-key.value ∷ []) ∙ ap (λ l. l ++ expr_of c.in_ok-key.value ∷ []) first
    ∙ append_assoc (map expr_of c.loop-turn.values.items) (expr_of c.in_ok-key.key ∷ []) (expr_of c.in_ok-key.value ∷ []) in
    sym c.loop-turn.invariant.reads
    ∙ enclosed_last both (pair_by (expression_at c.args.parts)) token.RightBrace (length c.args.tokens.now.items - c.loop-turn._turn) (length c.args.tokens.now.items - (c.loop-turn._turn + 1)) (map expr_of c.loop-turn.values.items, c.loop-turn.depth) (from c.args.tokens.now c.loop-turn.at)
    (omega arith) _ _ _ c.in_ok-key.ensures.reads _ _ pushed c.max-depth.ensures _ rest
    ∙ ap (λ l. Some ((map expr_of l, c.max-depth.result), from c.args.tokens.now c.in-Some-after_items.end)) (sym c.fitted.ensures)

pub pairs-returns-in_default-after-clause-reads : goal.pairs-returns-in_default-after-clause-reads
pairs-returns-in_default-after-clause-reads t c =
    let rest = sym c.after_items.ensures ∙ ap (option_map (from c.args.tokens.now)) c.in_default-after_items.is in
    let next = sym c.after-in-loop-turn.ensures ∙ ap (option_map (from c.args.tokens.now)) c.in_default-after.is in
    sym c.loop-turn.invariant.reads
    ∙ enclosed_stuck both (pair_by (expression_at c.args.parts)) token.RightBrace (length c.args.tokens.now.items - c.loop-turn._turn) (length c.args.tokens.now.items - (c.loop-turn._turn + 1)) (map expr_of c.loop-turn.values.items, c.loop-turn.depth) (from c.args.tokens.now c.loop-turn.at)
    (omega arith) _ _ _ c.in_ok-key.ensures.reads rest next

pub pairs-loop-turn-preserved : goal.pairs-loop-turn-preserved
pairs-loop-turn-preserved t c =
    let rest = sym c.after_items.ensures ∙ ap (option_map (from c.args.tokens.now)) c.in_default-after_items.is in
    let next = sym c.after-in-loop-turn.ensures ∙ ap (option_map (from c.args.tokens.now)) c.in-Some-after.is in
    let first = ap (map expr_of) c.in_ok-push.ensures.items ∙ map-append expr_of c.loop-turn.values.items (c.in_ok-key.key ∷ []) in
    let pushed = ap (map expr_of) c.in_ok-push-2.ensures.items ∙ map-append expr_of c.push.new.self.items (c.in_ok-key.value ∷ []) ∙ ap (λ l. l ++ expr_of c.in_ok-key.value ∷ []) first
    ∙ append_assoc (map expr_of c.loop-turn.values.items) (expr_of c.in_ok-key.key ∷ []) (expr_of c.in_ok-key.value ∷ []) in
    record {
      shallow = omega (arith, c.in_ok-key.ensures.shallow);
      reads = enclosed_on both (pair_by (expression_at c.args.parts)) token.RightBrace (length c.args.tokens.now.items - c.loop-turn._turn) (length c.args.tokens.now.items - (c.loop-turn._turn + 1)) (map expr_of c.loop-turn.values.items, c.loop-turn.depth) (from c.args.tokens.now c.loop-turn.at)
          (omega arith) _ _ _ c.in_ok-key.ensures.reads _ _ pushed c.max-depth.ensures _ rest next
          ∙ c.loop-turn.invariant.reads;
    }

pub operands-returns-in_default-clause-reads : goal.operands-returns-in_default-clause-reads
operands-returns-in_default-clause-reads t c =
    let next = sym c.after_boolean.ensures ∙ ap (option_map (from c.args.tokens.now)) c.in_default.is in
    sym c.loop-turn.invariant.reads ∙ chain_ends _ _ _ _ _ _ (omega arith) (ap (with_word c.args.operator) next)
    ∙ ap (λ l. Some ((map expr_of l, c.loop-turn.depth), from c.args.tokens.now c.loop-turn.at)) (sym c.fitted.ensures)

pub operands-returns-in_err-other-clause-reads : goal.operands-returns-in_err-other-clause-reads
operands-returns-in_err-other-clause-reads t c =
    let next = sym c.after_boolean.ensures ∙ ap (option_map (from c.args.tokens.now)) c.in-Some.is in
    let here = subst (λ l. Fails c.in_err-other.field-0.0 (expression_at c.args.parts l (from c.args.tokens.now c.in-Some.rest))) c.item_level.ensures c.in_err-other.ensures.reads in
    let fails = chain_fails (λ o e. e) (λ ts. with_word c.args.operator (after_boolean c.args.operator ts)) (λ o. expression_at c.args.parts (item_level o))
    (length c.args.tokens.now.items - c.loop-turn._turn) (map expr_of c.loop-turn.others.items, c.loop-turn.depth) (from c.args.tokens.now c.loop-turn.at) (length c.args.tokens.now.items - (c.loop-turn._turn + 1)) (omega arith) c.args.operator (from c.args.tokens.now c.in-Some.rest)
    (ap (with_word c.args.operator) next) _ here in
    let p = err_from_is_err_and c.from_residual-in_err-other.result c.from_residual-in_err-other.ensures.1 in
    rw (p.1, p.2) (subst (Fails _) c.loop-turn.invariant.reads fails)

pub operands-loop-turn-preserved : goal.operands-loop-turn-preserved
operands-loop-turn-preserved t c =
    let next = sym c.after_boolean.ensures ∙ ap (option_map (from c.args.tokens.now)) c.in-Some.is in
    let pushed = ap (map expr_of) c.in_ok-push.ensures.items ∙ map-append expr_of c.loop-turn.others.items (c.in_ok-other.other ∷ []) in
    let here = subst (λ l. expression_at c.args.parts l (from c.args.tokens.now c.in-Some.rest) ≡ Some (expr_of c.in_ok-other.other, c.in_ok-other.other_depth, from c.args.tokens.now c.in_ok-other.end)) c.item_level.ensures c.in_ok-other.ensures.reads in
    record {
      shallow = omega (arith, c.in_ok-other.ensures.shallow);
      reads = chain_next (λ o e. e) (λ ts. with_word c.args.operator (after_boolean c.args.operator ts)) (λ o. expression_at c.args.parts (item_level o))
          (length c.args.tokens.now.items - c.loop-turn._turn) (map expr_of c.loop-turn.others.items, c.loop-turn.depth) (from c.args.tokens.now c.loop-turn.at) (length c.args.tokens.now.items - (c.loop-turn._turn + 1)) (omega arith) c.args.operator (from c.args.tokens.now c.in-Some.rest)
          (ap (with_word c.args.operator) next) _ _ _ here _ _ pushed c.max-depth.ensures
          ∙ c.loop-turn.invariant.reads;
    }

pub links-returns-in_default-clause-reads : goal.links-returns-in_default-clause-reads
links-returns-in_default-clause-reads t c =
    let next = sym c.comparison_at.ensures ∙ ap (option_map (λ x. (x.0, from c.args.tokens.now x.1))) c.in_default.is in
    sym c.loop-turn.invariant.reads ∙ chain_ends _ _ _ _ _ _ (omega arith) next
    ∙ ap (λ l. Some ((map link_of l, c.loop-turn.depth), from c.args.tokens.now c.loop-turn.at)) (sym c.fitted.ensures)

pub links-returns-in_err-operand-clause-reads : goal.links-returns-in_err-operand-clause-reads
links-returns-in_err-operand-clause-reads t c =
    let next = sym c.comparison_at.ensures ∙ ap (option_map (λ x. (x.0, from c.args.tokens.now x.1))) c.in-Some.is in
    let fails = chain_fails (λ o e. (o, e)) comparison_at (compared_by (expression_at c.args.parts)) (length c.args.tokens.now.items - c.loop-turn._turn) (map link_of c.loop-turn.links.items, c.loop-turn.depth) (from c.args.tokens.now c.loop-turn.at)
    (length c.args.tokens.now.items - (c.loop-turn._turn + 1)) (omega arith) c.in-Some.operator (from c.args.tokens.now c.in-Some.rest) next _ c.in_err-operand.ensures.reads in
    let p = err_from_is_err_and c.from_residual-in_err-operand.result c.from_residual-in_err-operand.ensures.1 in
    rw (p.1, p.2) (subst (Fails _) c.loop-turn.invariant.reads fails)

pub links-loop-turn-preserved : goal.links-loop-turn-preserved
links-loop-turn-preserved t c =
    let next = sym c.comparison_at.ensures ∙ ap (option_map (λ x. (x.0, from c.args.tokens.now x.1))) c.in-Some.is in
    let pushed = ap (map link_of) c.in_ok-push.ensures.items ∙ map-append link_of c.loop-turn.links.items ((c.in-Some.operator, c.in_ok-operand.operand) ∷ []) in
    record {
      shallow = omega (arith, c.in_ok-operand.ensures.shallow);
      reads = chain_next (λ o e. (o, e)) comparison_at (compared_by (expression_at c.args.parts)) (length c.args.tokens.now.items - c.loop-turn._turn) (map link_of c.loop-turn.links.items, c.loop-turn.depth) (from c.args.tokens.now c.loop-turn.at)
          (length c.args.tokens.now.items - (c.loop-turn._turn + 1)) (omega arith) c.in-Some.operator (from c.args.tokens.now c.in-Some.rest) next _ _ _ c.in_ok-operand.ensures.reads _ _ pushed c.max-depth.ensures
          ∙ c.loop-turn.invariant.reads;
    }
