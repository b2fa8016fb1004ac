use Rattle.std.proofs.Common.{◌+◌, ◌-◌, [], ◌∷◌, length, Some, sym, ◌∙◌, ap, subst, map, arith}
use Rattle.std.proofs.lemmas.Result.{err_from_is_err_and}
use Rattle.std.proofs.lemmas.List.{map-append}
use Rattle.std.specs.Prelude.{option_map}
use Rattle.si_semantics.specs.Grammar.{max_depth}
use Rattle.si_syntax.specs.Trees.{expr_of}
use Rattle.si_parse.specs.inner.Expressions.{expression_at}
use Rattle.si_parse.specs.inner.Unbracketed.{item_follows, after_comma}
use Rattle.si_parse.specs.inner.Gives.{Fails, from}
use Rattle.si_parse.proofs.Turns.{chain_ends, chain_next, chain_fails}
use Rattle.si_parse.proofs.expressions.further.Goals as goal

pub returns-in_default-clause-reads : goal.returns-in_default-clause-reads
returns-in_default-clause-reads c =
    let next = sym c.after_comma.ensures ∙ ap (option_map (from c.args.tokens.now)) c.in_default.is in
    sym c.loop-turn.invariant.reads ∙ chain_ends _ _ _ _ _ _ (omega arith) (ap item_follows next)
    ∙ ap (λ l. Some ((map expr_of l, c.loop-turn.depth), from c.args.tokens.now c.loop-turn.at)) (sym c.fitted.ensures)

pub returns-in_err-next-clause-reads : goal.returns-in_err-next-clause-reads
returns-in_err-next-clause-reads c =
    let next = sym c.after_comma.ensures ∙ ap (option_map (from c.args.tokens.now)) c.in-Some.is in
    let fails = chain_fails (λ o e. e) (λ ts. item_follows (after_comma ts)) (λ o. expression_at max_depth c.args.level)
    (length c.args.tokens.now.items - c.loop-turn._turn) (map expr_of c.loop-turn.items.items, c.loop-turn.depth) (from c.args.tokens.now c.loop-turn.at) (length c.args.tokens.now.items - (c.loop-turn._turn + 1)) (omega arith) _ (from c.args.tokens.now c.in-Some.rest)
    (ap item_follows next) _ c.in_err-next.ensures.reads in
    let p = err_from_is_err_and c.from_residual-in_err-next.result c.from_residual-in_err-next.ensures.1 in
    rw (p.1, p.2) (subst (Fails _) c.loop-turn.invariant.reads fails)

pub loop-turn-preserved : goal.loop-turn-preserved
loop-turn-preserved c =
    let next = sym c.after_comma.ensures ∙ ap (option_map (from c.args.tokens.now)) c.in-Some.is in
    let pushed = ap (map expr_of) c.in_ok-push-2.ensures.items ∙ map-append expr_of c.loop-turn.items.items (c.in_ok-next.next ∷ []) in
    record {
      shallow = omega (arith, c.in_ok-next.ensures.shallow);
      reads = chain_next (λ o e. e) (λ ts. item_follows (after_comma ts)) (λ o. expression_at max_depth c.args.level)
          (length c.args.tokens.now.items - c.loop-turn._turn) (map expr_of c.loop-turn.items.items, c.loop-turn.depth) (from c.args.tokens.now c.loop-turn.at) (length c.args.tokens.now.items - (c.loop-turn._turn + 1)) (omega arith) _ (from c.args.tokens.now c.in-Some.rest)
          (ap item_follows next) _ _ _ c.in_ok-next.ensures.reads _ _ pushed c.max-depth.ensures
          ∙ c.loop-turn.invariant.reads;
    }
