use Rattle.std.proofs.Common.{◌+◌, ◌-◌, ◌<◌, [], ◌∷◌, length, sym, ◌∙◌, ap, Some, map, arith}
use Rattle.std.specs.Prelude.{option_map, not}
use Rattle.std.proofs.lemmas.List.{map-append, length-map}
use Rattle.si_syntax.proofs.Forms.{while_is, for_is, define_is}
use Rattle.si_syntax.specs.Trees.{stmt_of, branch_of, clause_of, for_of, while_of}
use Rattle.si_parse.specs.inner.Lists.{many_by, is_none}
use Rattle.si_parse.specs.inner.Blocks.{elif_by, no_elif, is_dedent}
use Rattle.si_parse.specs.inner.Handlers.{catch_by, no_catch}
use Rattle.si_parse.specs.inner.Lines.{block_at}
use Rattle.si_parse.specs.inner.Gives.{from, header_view}
use Rattle.si_plain.proofs.Lengths.{not_empty}
use Rattle.si_parse.proofs.Turns.{many_on, block_compound, elif_read, catch_read, while_read, for_read, define_read, try_read, finally_read}
use Rattle.si_parse.proofs.Built.{try_built, finally_built}
use Rattle.si_parse.proofs.+blocks.Goals as goal

pub block::block-returns : goal.block::block-returns
block::block-returns t c =
    let is = sym c.header_at.ensures ∙ ap (option_map (λ x. (header_view x.0, from c.args.tokens.now x.1))) c.in-Some.is in
    let pushed = ap (map stmt_of) c.in_ok-push.ensures.items ∙ map-append stmt_of c.args.before.items (c.in_ok-statement.statement ∷ []) in
    block_compound c.args.nesting (map stmt_of c.args.before.items) (from c.args.tokens.now c.args.at) _ _ _ _ (omega arith) is c.in_ok-statement.ensures
    ∙ ap (λ l. Some (l, from c.args.tokens.now c.in_ok-statement.end)) (sym pushed)

pub block::elifs-loop-turn-preserved : goal.block::elifs-loop-turn-preserved
block::elifs-loop-turn-preserved t c =
    let next = sym c.after_word.ensures ∙ ap (option_map (from c.args.tokens.now)) c.in-Some.is in
    let pushed = ap (map branch_of) c.in_ok-push.ensures.items ∙ map-append branch_of c.loop-turn.elifs.items (c.in_ok-next.next ∷ []) in
    let read = elif_read (block_at c.args.parts) (map branch_of c.loop-turn.elifs.items) (from c.args.tokens.now c.loop-turn.at) (from c.args.tokens.now c.in-Some.rest) _ _ next c.in_ok-next.ensures in
    ap (λ l. many_by (elif_by (block_at c.args.parts)) no_elif (length c.args.tokens.now.items - (c.loop-turn._turn + 1)) l (from c.args.tokens.now c.in_ok-next.end)) pushed
    ∙ sym (many_on (elif_by (block_at c.args.parts)) no_elif (length c.args.tokens.now.items - c.loop-turn._turn) (length c.args.tokens.now.items - (c.loop-turn._turn + 1)) (map branch_of c.loop-turn.elifs.items) (from c.args.tokens.now c.loop-turn.at)
    (omega arith) (ap is_none next) _ _ read)
    ∙ c.loop-turn.invariant

pub block::indented-loop-turn-preserved : goal.block::indented-loop-turn-preserved
block::indented-loop-turn-preserved t c =
    let inside = sym c.after_dedent-in-loop-turn.ensures ∙ ap (option_map (from c.args.tokens.now)) c.in_default.is in
    sym (many_on (block_at c.args.parts) is_dedent (length c.args.tokens.now.items - c.loop-turn._turn) (length c.args.tokens.now.items - (c.loop-turn._turn + 1)) (map stmt_of c.loop-turn.body.items) (from c.args.tokens.now c.loop-turn.at)
    (omega arith) (ap (λ o. not (is_none o)) inside) _ _ c.in_ok-longer.ensures)
    ∙ c.loop-turn.invariant

pub handler::catches-loop-turn-preserved : goal.handler::catches-loop-turn-preserved
handler::catches-loop-turn-preserved t c =
    let next = sym c.after_catch.ensures ∙ ap (option_map (from c.args.tokens.now)) c.in-Some.is in
    let pushed = ap (map clause_of) c.in_ok-push.ensures.items ∙ map-append clause_of c.loop-turn.clauses.items (c.in_ok-next.next ∷ []) in
    let read = catch_read (block_at c.args.parts) (map clause_of c.loop-turn.clauses.items) (from c.args.tokens.now c.loop-turn.at) (from c.args.tokens.now c.in-Some.rest) _ _ next c.in_ok-next.ensures in
    ap (λ l. many_by (catch_by (block_at c.args.parts)) no_catch (length c.args.tokens.now.items - (c.loop-turn._turn + 1)) l (from c.args.tokens.now c.in_ok-next.end)) pushed
    ∙ sym (many_on (catch_by (block_at c.args.parts)) no_catch (length c.args.tokens.now.items - c.loop-turn._turn) (length c.args.tokens.now.items - (c.loop-turn._turn + 1)) (map clause_of c.loop-turn.clauses.items) (from c.args.tokens.now c.loop-turn.at)
    (omega arith) (ap is_none next) _ _ read)
    ∙ c.loop-turn.invariant

pub handler::try_statement-returns : goal.handler::try_statement-returns
handler::try_statement-returns t c =
    let over = sym c.after_word.ensures ∙ ap (option_map (from c.args.tokens.now)) c.in_default.is in
    let some : 0 < length (map clause_of c.in_ok-clauses.clauses.items) =
    omega (arith, length-map c.in_ok-clauses.clauses.items clause_of, c.in_ok-clauses.clauses.ok.0, not_empty c.in_ok-clauses.clauses.len _ c.is_empty.ensures c.if-is_empty.false) in
    try_read (block_at c.args.parts) (from c.args.tokens.now c.args.start) _ _ _ _ _ c.in_ok-body.ensures c.in_ok-clauses.ensures over some
    ∙ ap (λ s. Some (s, from c.args.tokens.now c.in_ok-clauses.at)) (sym (try_built (record { body = c.in_ok-body.body; clauses = c.in_ok-clauses.clauses; last = c.in_ok-clauses.last })))

pub handler::try_statement-returns-in-Some : goal.handler::try_statement-returns-in-Some
handler::try_statement-returns-in-Some t c =
    let over = sym c.after_word.ensures ∙ ap (option_map (from c.args.tokens.now)) c.in-Some.is in
    finally_read (block_at c.args.parts) (from c.args.tokens.now c.args.start) _ _ _ _ _ _ _ _ c.in_ok-body.ensures c.in_ok-clauses.ensures over c.in_ok-cleanup.ensures
    ∙ ap (λ s. Some (s, from c.args.tokens.now c.in_ok-cleanup.end)) (sym (finally_built c.in_ok-new.field-0 (record { body = c.in_ok-body.body; clauses = c.in_ok-clauses.clauses; last = c.in_ok-clauses.last }) c.in_ok-cleanup.cleanup c.in_ok-new.ensures.ok))

pub block::while_statement-returns : goal.block::while_statement-returns
block::while_statement-returns t c =
    while_read (block_at c.args.parts) (from c.args.tokens.now c.args.start) _ _ _ _ c.in_ok-first.ensures c.in_ok-last.ensures
    ∙ ap (λ s. Some (s, from c.args.tokens.now c.in_ok-last.end)) (sym (while_is c.in_ok-statement.statement ∙ ap while_of c.in_ok-statement.ensures.ok))

pub block::for_statement-returns : goal.block::for_statement-returns
block::for_statement-returns t c =
    for_read (block_at c.args.parts) (from c.args.tokens.now c.args.start) _ _ _ _ _ _ c.in_ok-target.ensures c.in_ok-first.ensures c.in_ok-last.ensures
    ∙ ap (λ s. Some (s, from c.args.tokens.now c.in_ok-last.end)) (sym (for_is c.in_ok-new.field-0 ∙ ap for_of c.in_ok-new.ensures.ok))

pub block::definition-returns : goal.block::definition-returns
block::definition-returns t c =
    let opened = sym c.after.ensures ∙ ap (option_map (from c.args.tokens.now)) c.in-Some.is in
    define_read (block_at c.args.parts) (from c.args.tokens.now c.args.start) _ _ _ _ _ _ _ c.in_ok-name.ensures opened c.in_ok-parameters.ensures c.in_ok-body.ensures
    ∙ ap (λ s. Some (s, from c.args.tokens.now c.in_ok-body.end)) (sym (define_is _))
