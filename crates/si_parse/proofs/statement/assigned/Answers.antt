use Rattle.std.proofs.Common.{◌+◌, ◌-◌, [], ◌∷◌, length, Some, sym, ◌∙◌, ap, map, arith}
use Rattle.std.specs.Prelude.{option_map}
use Rattle.std.proofs.lemmas.List.{map-append}
use Rattle.si_semantics.specs.Grammar.{max_depth}
use Rattle.si_syntax.specs.Trees.{expr_of, target_of}
use Rattle.si_parse.specs.inner.Lists.{then_read, many_by, is_none}
use Rattle.si_parse.specs.inner.Expressions.{expression_at}
use Rattle.si_parse.specs.inner.Statements.{chained_by, no_equal, assigned}
use Rattle.si_parse.specs.inner.Gives.{from}
use Rattle.si_parse.proofs.Built.{assign_built}
use Rattle.si_parse.proofs.Turns.{many_on, many_over, chained_read}
use Rattle.si_parse.proofs.statement.assigned.Goals as goal

pub returns-in_default : goal.returns-in_default
returns-in_default c =
    let next = sym c.after.ensures ∙ ap (option_map (from c.args.tokens.now)) c.in_default.is in
    let over = many_over (chained_by (expression_at max_depth)) no_equal (length c.args.tokens.now.items - c.loop-turn._turn) (map target_of c.loop-turn.targets.items, expr_of c.loop-turn.value) (from c.args.tokens.now c.loop-turn.at) (omega arith) (ap is_none next) in
    ap (λ o. then_read o assigned) (sym c.loop-turn.invariant ∙ over ∙ ap (λ l. Some ((map target_of l, expr_of c.loop-turn.value), from c.args.tokens.now c.loop-turn.at)) (sym c.fitted-targets.ensures)) ∙ ap (λ s. Some (s, from c.args.tokens.now c.loop-turn.at)) (sym (assign_built _))

pub loop-turn-preserved : goal.loop-turn-preserved
loop-turn-preserved c =
    let next = sym c.after.ensures ∙ ap (option_map (from c.args.tokens.now)) c.in-Some.is in
    let pushed = ap (map target_of) c.in_ok-push.ensures.items ∙ map-append target_of c.loop-turn.targets.items (c.in_ok-target.target ∷ []) in
    let read = chained_read (expression_at max_depth) (map target_of c.loop-turn.targets.items, expr_of c.loop-turn.value) (from c.args.tokens.now c.loop-turn.at) (from c.args.tokens.now c.in-Some.rest) _ _ _ _ next c.in_ok-target.ensures c.in_ok-next.ensures in
    ap (λ l. many_by (chained_by (expression_at max_depth)) no_equal (length c.args.tokens.now.items - (c.loop-turn._turn + 1)) (l, expr_of c.in_ok-next.next) (from c.args.tokens.now c.in_ok-next.end)) pushed
    ∙ sym (many_on (chained_by (expression_at max_depth)) no_equal (length c.args.tokens.now.items - c.loop-turn._turn) (length c.args.tokens.now.items - (c.loop-turn._turn + 1)) (map target_of c.loop-turn.targets.items, expr_of c.loop-turn.value) (from c.args.tokens.now c.loop-turn.at)
    (omega arith) (ap is_none next) _ _ read)
    ∙ c.loop-turn.invariant
