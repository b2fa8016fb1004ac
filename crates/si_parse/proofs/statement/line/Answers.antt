use Rattle.std.proofs.Common.{◌+◌, ◌-◌, [], ◌∷◌, length, sym, ◌∙◌, ap, map, subst, Some, arith}
use Rattle.std.specs.Prelude.{option_map}
use Rattle.std.proofs.lemmas.Result.{err_from_is_err_and}
use Rattle.std.proofs.lemmas.List.{map-append}
use Rattle.si_semantics.specs.Tokens as token
use Rattle.si_semantics.specs.Grammar.{max_depth, Sign, NEWLINE}
use Rattle.si_syntax.specs.Trees.{stmt_of}
use Rattle.si_parse.specs.inner.Lookahead.{after}
use Rattle.si_parse.specs.inner.Lists.{separated_by}
use Rattle.si_parse.specs.inner.Expressions.{expression_at}
use Rattle.si_parse.specs.inner.Statements.{statement_by, with_statement}
use Rattle.si_parse.specs.inner.Gives.{Fails, from}
use Rattle.si_parse.proofs.Turns.{separated_fails, separated_last, separated_on, separated_stuck}
use Rattle.si_parse.proofs.statement.line.Goals as goal

pub returns-in_err-next : goal.returns-in_err-next
returns-in_err-next c =
    let fails = separated_fails with_statement (λ r. r.1) (statement_by (expression_at max_depth)) (after (Sign token.Semicolon)) (after NEWLINE) (length c.args.tokens.now.items - c.loop-turn._turn) (length c.args.tokens.now.items - (c.loop-turn._turn + 1)) (map stmt_of c.loop-turn.body.items) (from c.args.tokens.now c.loop-turn.at)
    (omega arith) _ c.in_err-next.ensures in
    let p = err_from_is_err_and c.from_residual.result c.from_residual.ensures.1 in
    rw (p.1, p.2) (subst (Fails _) c.loop-turn.invariant fails)

pub returns-in-Some : goal.returns-in-Some
returns-in-Some c =
    let rest = sym c.after_line.ensures ∙ ap (option_map (from c.args.tokens.now)) c.in-Some.is in
    let pushed = ap (map stmt_of) c.in_ok-push.ensures.items ∙ map-append stmt_of c.loop-turn.body.items (c.in_ok-next.next ∷ []) in
    sym c.loop-turn.invariant
    ∙ separated_last with_statement (λ r. r.1) (statement_by (expression_at max_depth)) (after (Sign token.Semicolon)) (after NEWLINE) (length c.args.tokens.now.items - c.loop-turn._turn) (length c.args.tokens.now.items - (c.loop-turn._turn + 1)) (map stmt_of c.loop-turn.body.items) (from c.args.tokens.now c.loop-turn.at)
    (omega arith) _ c.in_ok-next.ensures _ rest
    ∙ ap (λ items. Some (items, from c.args.tokens.now c.in-Some.end)) (sym pushed)

pub returns-in_default-after : goal.returns-in_default-after
returns-in_default-after c =
    let rest = sym c.after_line.ensures ∙ ap (option_map (from c.args.tokens.now)) c.in_default.is in
    let next = sym c.after.ensures ∙ ap (option_map (from c.args.tokens.now)) c.in_default-after.is in
    sym c.loop-turn.invariant
    ∙ separated_stuck with_statement (λ r. r.1) (statement_by (expression_at max_depth)) (after (Sign token.Semicolon)) (after NEWLINE) (length c.args.tokens.now.items - c.loop-turn._turn) (length c.args.tokens.now.items - (c.loop-turn._turn + 1)) (map stmt_of c.loop-turn.body.items) (from c.args.tokens.now c.loop-turn.at)
    (omega arith) _ c.in_ok-next.ensures rest next

pub loop-turn-preserved : goal.loop-turn-preserved
loop-turn-preserved c =
    let rest = sym c.after_line.ensures ∙ ap (option_map (from c.args.tokens.now)) c.in_default.is in
    let next = sym c.after.ensures ∙ ap (option_map (from c.args.tokens.now)) c.in-Some-after.is in
    let pushed = ap (map stmt_of) c.in_ok-push.ensures.items ∙ map-append stmt_of c.loop-turn.body.items (c.in_ok-next.next ∷ []) in
    ap (λ items. separated_by with_statement (λ r. r.1) (statement_by (expression_at max_depth)) (after (Sign token.Semicolon)) (after NEWLINE) (length c.args.tokens.now.items - (c.loop-turn._turn + 1)) items (from c.args.tokens.now c.in-Some-after.more)) pushed
    ∙ sym (separated_on with_statement (λ r. r.1) (statement_by (expression_at max_depth)) (after (Sign token.Semicolon)) (after NEWLINE) (length c.args.tokens.now.items - c.loop-turn._turn) (length c.args.tokens.now.items - (c.loop-turn._turn + 1)) (map stmt_of c.loop-turn.body.items) (from c.args.tokens.now c.loop-turn.at)
    (omega arith) _ c.in_ok-next.ensures _ rest next)
    ∙ c.loop-turn.invariant
