use Rattle.std.proofs.Common.{◌+◌, ◌-◌, [], ◌∷◌, length, sym, ◌∙◌, ap, map, string_bytes, subst, Some, arith}
use Rattle.std.specs.Prelude.{option_map}
use Rattle.std.proofs.lemmas.Result.{err_from_is_err_and}
use Rattle.std.proofs.lemmas.List.{map-append}
use Rattle.si_semantics.specs.Tokens as token
use Rattle.si_semantics.specs.Grammar.{Sign}
use Rattle.si_parse.specs.inner.Lookahead.{after}
use Rattle.si_parse.specs.inner.Lists.{separated_by}
use Rattle.si_parse.specs.inner.Names.{name_at, with_parameter}
use Rattle.si_parse.specs.inner.Gives.{Fails, from}
use Rattle.si_parse.proofs.Turns.{separated_fails, separated_last, separated_on, separated_stuck}
use Rattle.si_parse.proofs.name.listed.Goals as goal

pub returns-in_err-next : goal.returns-in_err-next
returns-in_err-next c =
    let fails = separated_fails with_parameter (λ r. r.1) name_at (after (Sign token.Comma)) (after (Sign token.RightParenthesis)) (length c.args.tokens.now.items - c.loop-turn._turn) (length c.args.tokens.now.items - (c.loop-turn._turn + 1)) (map string_bytes c.loop-turn.names.items) (from c.args.tokens.now c.loop-turn.at)
    (omega arith) _ c.in_err-next.ensures in
    let p = err_from_is_err_and c.from_residual.result c.from_residual.ensures.1 in
    rw (p.1, p.2) (subst (Fails _) c.loop-turn.invariant fails)

pub returns-in-Some-after_items : goal.returns-in-Some-after_items
returns-in-Some-after_items c =
    let rest = sym c.after_items.ensures ∙ ap (option_map (from c.args.tokens.now)) c.in-Some-after_items.is in
    let pushed = ap (map string_bytes) c.in_ok-push.ensures.items ∙ map-append string_bytes c.loop-turn.names.items (c.in_ok-next.next ∷ []) in
    sym c.loop-turn.invariant
    ∙ separated_last with_parameter (λ r. r.1) name_at (after (Sign token.Comma)) (after (Sign token.RightParenthesis)) (length c.args.tokens.now.items - c.loop-turn._turn) (length c.args.tokens.now.items - (c.loop-turn._turn + 1)) (map string_bytes c.loop-turn.names.items) (from c.args.tokens.now c.loop-turn.at)
    (omega arith) _ c.in_ok-next.ensures _ rest
    ∙ ap (λ items. Some (items, from c.args.tokens.now c.in-Some-after_items.end)) (sym pushed)

pub returns-in_default-after : goal.returns-in_default-after
returns-in_default-after c =
    let rest = sym c.after_items.ensures ∙ ap (option_map (from c.args.tokens.now)) c.in_default-after_items.is in
    let next = sym c.after-in-loop-turn.ensures ∙ ap (option_map (from c.args.tokens.now)) c.in_default-after.is in
    sym c.loop-turn.invariant
    ∙ separated_stuck with_parameter (λ r. r.1) name_at (after (Sign token.Comma)) (after (Sign token.RightParenthesis)) (length c.args.tokens.now.items - c.loop-turn._turn) (length c.args.tokens.now.items - (c.loop-turn._turn + 1)) (map string_bytes c.loop-turn.names.items) (from c.args.tokens.now c.loop-turn.at)
    (omega arith) _ c.in_ok-next.ensures rest next

pub loop-turn-preserved : goal.loop-turn-preserved
loop-turn-preserved c =
    let rest = sym c.after_items.ensures ∙ ap (option_map (from c.args.tokens.now)) c.in_default-after_items.is in
    let next = sym c.after-in-loop-turn.ensures ∙ ap (option_map (from c.args.tokens.now)) c.in-Some-after.is in
    let pushed = ap (map string_bytes) c.in_ok-push.ensures.items ∙ map-append string_bytes c.loop-turn.names.items (c.in_ok-next.next ∷ []) in
    ap (λ items. separated_by with_parameter (λ r. r.1) name_at (after (Sign token.Comma)) (after (Sign token.RightParenthesis)) (length c.args.tokens.now.items - (c.loop-turn._turn + 1)) items (from c.args.tokens.now c.in-Some-after.more)) pushed
    ∙ sym (separated_on with_parameter (λ r. r.1) name_at (after (Sign token.Comma)) (after (Sign token.RightParenthesis)) (length c.args.tokens.now.items - c.loop-turn._turn) (length c.args.tokens.now.items - (c.loop-turn._turn + 1)) (map string_bytes c.loop-turn.names.items) (from c.args.tokens.now c.loop-turn.at)
    (omega arith) _ c.in_ok-next.ensures _ rest next)
    ∙ c.loop-turn.invariant
