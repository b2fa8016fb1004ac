use Rattle.std.proofs.Common.{[], ◌∷◌, ◌++◌, ◌+◌, ◌-◌, None, arith, ◌≡◌, ◌<◌, ◌≤◌, ◌∙◌, length, map, refl, sym, ap, subst, string_bytes}
use denote.Param.Weighed.{most}
use Rattle.std.specs.Option.{option_map}
use Rattle.std.specs.List.{AllByRecursion}
use Rattle.std.proofs.lemmas.Result.{on_ok_weaker}
use Rattle.si_syntax.specs.declared.stmt.Stmt.{size-Stmt}
use Rattle.si_syntax.specs.declared.stmt.Stmt.TheViews as views
use Rattle.si_syntax.specs.declared.stmt.Try.{out-Try}
use Rattle.si_syntax.specs.declared.stmt.If.{out-If}
use Rattle.si_semantics.specs.Grammar.{elifs_of}
use Rattle.si_semantics.specs.Tree.{functions_in}
use Rattle.si_syntax.specs.Trees.{body_of, branch_of, expr_of, others_of, target_of}
use Rattle.si_emit.specs.inner.Silence.{silent_suite}
use Rattle.si_emit.proofs.Silent.{loud_code}
use Rattle.si_emit.proofs.Seen.{while_seen, for_seen, try_seen, finally_seen}
use Rattle.si_emit.proofs.LoopStmts.{while_stmt, loop_number, for_stmt, for_number, entry_after}
use Rattle.si_plain.proofs.Lengths.{empty, not_empty}
use Rattle.si_slots.specs.Machine as machine
use Rattle.si_slots.specs.Code.{stmts_code, named_code}
use Rattle.si_slots.specs.Views.{Gains}
use Rattle.si_slots.proofs.Gained.{Extends-trans, Gains-append, locals_kept}
use Rattle.si_slots.proofs.Growth.{Extends-same}
use Rattle.si_emit.proofs.Noted.{noted_gains, noted_extends, noted_after}
use Rattle.si_emit.proofs.Branches.{MakesAll-step, all_aimed}
use Rattle.si_emit.proofs.LoopCode.{put_extends}
use Rattle.si_emit.proofs.TryCode.{clause_test_after}
use Rattle.si_emit.proofs.Tried.{front_gains, finally_stmt, finally_number, finally_gains, plain_try, plain_number, tried_stmt, tried_number, tried_gains, tried_front, entered_gains, with_clauses, stays, place_stays, jump_more, nameless_suite, named_suite, tested_clause, next_clause, next_clause_number, last_clause_number, clause_after, clauses_end, no_items, some_items}
use Rattle.si_emit.proofs.Elifs.{next_stmt, last_stmt, next_number, last_number, opens_kept, skips_over, jump_at, if_gains, alone_gains, next_elif, last_elif, elifs_end, next_elif_number, last_elif_number, two_number, alone_number, end_after, follows, none_left, stays_quiet}
use Rattle.si_emit.proofs.+stmts.Goals as goal

pub handlers::emit_finally-emit_suite-requires : goal.handlers::emit_finally-emit_suite-requires
handlers::emit_finally-emit_suite-requires t c =
    let size = views.size_is-Finally c.args.statement.now in
    let suite = ap (most size-Stmt) c.deref.ensures.value in
    let front = front_gains _ c.len-enter.result c.len-enter.ensures c.in_ok-put.ensures.ok c.in_ok-emit_try.ensures.ok c.in_ok-start_finally.ensures.ok in
    (omega (arith, c.decreases, size, suite), locals_kept front c.requires)

pub handlers::emit_finally-returns-in_err-emit_suite-clause-extends : goal.handlers::emit_finally-returns-in_err-emit_suite-clause-extends
handlers::emit_finally-returns-in_err-emit_suite-clause-extends t c =
    let started = place_stays c.in_ok-start_finally.ensures.extends _ c.len-enter.ensures (Extends-same c.args.table.now) (Extends-trans _ _ _ c.in_ok-put.ensures.extends c.in_ok-emit_try.ensures.extends) in
    Extends-trans _ _ _ started c.emit_suite.ensures.extends

pub handlers::emit_finally-returns-clause-ok : goal.handlers::emit_finally-returns-clause-ok
handlers::emit_finally-returns-clause-ok t c =
    let seen = finally_seen c.args.statement.now c.deref.result.now c.deref.ensures.value in
    let front = front_gains _ c.len-enter.result c.len-enter.ensures c.in_ok-put.ensures.ok c.in_ok-emit_try.ensures.ok c.in_ok-start_finally.ensures.ok in
    on_ok_weaker c.put-2.result (λ h. finally_stmt c.args.locals.now _ _ _ _ _ _ _ seen c.in_ok-emit_try.ensures.next (finally_gains _ _ front c.in_ok-emit_suite.ensures.ok h)) c.put-2.ensures.ok

pub handlers::emit_finally-returns-clause-next : goal.handlers::emit_finally-returns-clause-next
handlers::emit_finally-returns-clause-next t c =
    let seen = finally_seen c.args.statement.now c.deref.result.now c.deref.ensures.value in
    on_ok_weaker c.put-2.result (λ h. finally_number _ _ _ _ _ _ _ _ seen c.in_ok-emit_try.ensures.next c.in_ok-emit_suite.ensures.next) c.put-2.ensures.ok

pub handlers::emit_finally-returns-clause-extends : goal.handlers::emit_finally-returns-clause-extends
handlers::emit_finally-returns-clause-extends t c =
    let started = place_stays c.in_ok-start_finally.ensures.extends _ c.len-enter.ensures (Extends-same c.args.table.now) (Extends-trans _ _ _ c.in_ok-put.ensures.extends c.in_ok-emit_try.ensures.extends) in
    put_extends _ _ _ c.put-2.result (Extends-trans _ _ _ started c.in_ok-emit_suite.ensures.extends) c.put-2.ensures.extends c.put-2.ensures.err

pub handlers::emit_handler-returns-clause-ok : goal.handlers::emit_handler-returns-clause-ok
handlers::emit_handler-returns-clause-ok t c =
    let name = option_map string_bytes c.args.name.now in
    let some = ap (option_map string_bytes) c.in-Some.is in
    on_ok_weaker c.leave_handler-2.result
    (Gains-append _ _ _ _ _ (named_suite c.args.locals.now name (string_bytes c.in-Some.name) _ _ _ c.in_ok-enter.enter some c.as_str.ensures.value c.as_str-2.ensures.value c.in_ok-enter.ensures.at
    c.in_ok-enter.ensures.ok c.in_ok-emit_suite-2.ensures.ok c.in_ok-leave_named.ensures.ok))
    c.leave_handler-2.ensures.ok

pub handlers::emit_handler-returns-clause-extends : goal.handlers::emit_handler-returns-clause-extends
handlers::emit_handler-returns-clause-extends t c =
    let entered = Extends-trans _ _ _ c.in_ok-enter.ensures.extends c.in_ok-emit_suite-2.ensures.extends in
    let left = stays c.in_ok-enter.enter 2 c.in_ok-leave_named.ensures.extends c.in_ok-enter.ensures.at (Extends-same c.args.table.now) entered in
    Extends-trans _ _ _ left c.leave_handler-2.ensures.extends

pub handlers::emit_handler-returns-in_default-clause-ok : goal.handlers::emit_handler-returns-in_default-clause-ok
handlers::emit_handler-returns-in_default-clause-ok t c =
    let none : option_map string_bytes c.args.name.now ≡ None = grind (arith, c.in_default.not-Some) in
    on_ok_weaker c.leave_handler.result (Gains-append _ _ _ _ _ (nameless_suite c.args.locals.now _ _ none c.in_ok-emit_suite.ensures.ok)) c.leave_handler.ensures.ok

pub handlers::emit_clause-returns-clause-ok : goal.handlers::emit_clause-returns-clause-ok
handlers::emit_clause-returns-clause-ok t c =
    let handled = subst (λ l. Gains c.test_clause.new.table c.emit_handler-2.new.table (named_code c.args.locals.now (option_map string_bytes c.args.clause.now.name) (stmts_code c.args.locals.now c.args.next.now (body_of l)) ++ (machine.LeaveBlock ∷ (machine.Jump 0 ∷ [])))) c.deref-2.ensures.value c.in_ok-end.ensures.ok in
    let value = option_map expr_of c.args.clause.now.value in
    let some = ap (option_map expr_of) c.in-Some.is in
    let suite = named_code c.args.locals.now (option_map string_bytes c.args.clause.now.name) (stmts_code c.args.locals.now c.args.next.now (body_of c.args.clause.now.body.items)) in
    tested_clause c.args.locals.now value (expr_of c.in-Some.value) suite c.in_ok-skip.skip some c.in_ok-skip.ensures.at c.in_ok-skip.ensures.ok handled c.in_ok-aim.ensures.ok

pub handlers::emit_clause-returns-clause-extends : goal.handlers::emit_clause-returns-clause-extends
handlers::emit_clause-returns-clause-extends t c =
    c.in_ok-aim.ensures.extends _ (clause_test_after c.args.locals.now (expr_of c.in-Some.value) c.in_ok-skip.skip c.in_ok-skip.ensures.at c.in_ok-skip.ensures.ok) (Extends-trans _ _ _ c.in_ok-skip.ensures.extends c.in_ok-end.ensures.extends)

pub handlers::emit_clauses-loop-clause-preserved : goal.handlers::emit_clauses-loop-clause-preserved
handlers::emit_clauses-loop-clause-preserved t c =
    let old = c.loop-clause.invariant in
    let cs = c.args.clauses.now in
    let at = c.in_ok-emit_clause.field-0 in
    let gains = noted_gains c.note_statement.ensures c.in_ok-emit_clause.ensures.ok in
    record {
      due = MakesAll-step c.loop-clause.ends.items _ _ _ _ at c.in_ok-push.ensures.items
          (next_clause c.args.locals.now cs c.loop-clause.clause-index c.clause-item.result at _ _ c.loop-clause-test.true (sym c.clause-item.is)
          c.in_ok-emit_clause.ensures.next c.in_ok-emit_clause.ensures.at gains)
          old.due;
      after = jump_more c.loop-clause.ends.items at c.in_ok-push.ensures.items (clause_after _ at c.in_ok-emit_clause.ensures.at gains) old.extends old.after;
      number = next_clause_number cs c.loop-clause.clause-index c.clause-item.result _ _ _ c.loop-clause-test.true (sym c.clause-item.is) c.in_ok-emit_clause.ensures.next old.number;
      extends = Extends-trans _ _ _ old.extends (noted_extends c.note_statement.ensures c.in_ok-emit_clause.ensures.extends);
      names = locals_kept gains old.names;
    }

pub handlers::emit_clauses-returns-clause-ok : goal.handlers::emit_clauses-returns-clause-ok
handlers::emit_clauses-returns-clause-ok t c =
    let due = clauses_end c.args.locals.now c.args.clauses.now c.loop-clause.clause-index c.loop-clause.ends.items _ _ c.loop-clause-test.false c.loop-clause.invariant.due c.in_ok-put.ensures.ok in
    on_ok_weaker c.aim_all.result (all_aimed c.deref.ensures.value due) c.aim_all.ensures.ok

pub handlers::emit_clauses-returns-clause-next : goal.handlers::emit_clauses-returns-clause-next
handlers::emit_clauses-returns-clause-next t c =
    on_ok_weaker c.aim_all.result (λ aims. last_clause_number c.args.clauses.now c.loop-clause.clause-index _ _ c.loop-clause-test.false c.loop-clause.invariant.number) c.aim_all.ensures.ok

pub handlers::emit_clauses-returns-clause-extends : goal.handlers::emit_clauses-returns-clause-extends
handlers::emit_clauses-returns-clause-extends t c =
    c.aim_all.ensures.extends _ (subst (AllByRecursion (λ at. length c.args.table.now.lines ≤ at)) (sym c.deref.ensures.value) c.loop-clause.invariant.after) (Extends-trans _ _ _ c.loop-clause.invariant.extends c.in_ok-put.ensures.extends)

pub handlers::emit_try-returns-then-is_empty-clause-ok : goal.handlers::emit_try-returns-then-is_empty-clause-ok
handlers::emit_try-returns-then-is_empty-clause-ok t c =
    let cs = (out-Try c.args.statement.now).clauses in
    let seen = try_seen c.args.statement.now c.deref.result.now c.deref-then-is_empty.result.now cs.items c.deref.ensures.value refl c.deref-then-is_empty.ensures.value in
    on_ok_weaker c.emit_suite-then-is_empty.result
    (plain_try c.args.locals.now _ _ _ c.deref.result.now c.deref-then-is_empty.result.now cs.items (no_items cs.items (omega (arith, cs.ok.0, empty cs.len _ c.is_empty.ensures c.if-is_empty.true))) seen c.in_ok-emit_suite.ensures.next c.in_ok-emit_suite.ensures.ok)
    c.emit_suite-then-is_empty.ensures.ok

pub handlers::emit_try-returns-then-is_empty-clause-next : goal.handlers::emit_try-returns-then-is_empty-clause-next
handlers::emit_try-returns-then-is_empty-clause-next t c =
    let cs = (out-Try c.args.statement.now).clauses in
    let seen = try_seen c.args.statement.now c.deref.result.now c.deref-then-is_empty.result.now cs.items c.deref.ensures.value refl c.deref-then-is_empty.ensures.value in
    on_ok_weaker c.emit_suite-then-is_empty.result
    (plain_number _ _ _ _ c.deref.result.now c.deref-then-is_empty.result.now cs.items (no_items cs.items (omega (arith, cs.ok.0, empty cs.len _ c.is_empty.ensures c.if-is_empty.true))) seen c.in_ok-emit_suite.ensures.next)
    c.emit_suite-then-is_empty.ensures.next

pub handlers::emit_try-returns-clause-ok : goal.handlers::emit_try-returns-clause-ok
handlers::emit_try-returns-clause-ok t c =
    let cs = (out-Try c.args.statement.now).clauses in
    let some : 0 < length c.deref-3.result.now = omega (arith, cs.ok.0, ap length c.deref-3.ensures.value, not_empty cs.len _ c.is_empty.ensures c.if-is_empty.false) in
    let seen = try_seen c.args.statement.now c.deref-2.result.now c.deref-4.result.now c.deref-3.result.now c.deref-2.ensures.value c.deref-3.ensures.value c.deref-4.ensures.value in
    on_ok_weaker c.aim-2.result
    (λ aims. tried_stmt c.args.locals.now _ _ _ _ c.deref-2.result.now c.deref-4.result.now c.deref-3.result.now seen c.in_ok-emit_suite-2.ensures.next c.in_ok-emit_clauses.ensures.next
    (with_clauses c.deref-3.result.now _ _ _ (some_items c.deref-3.result.now some)
    (tried_gains _ _ _ c.len-enter.result c.in_ok-skip.skip c.len-end.result c.len-enter.ensures c.in_ok-skip.ensures.at c.len-end.ensures
    c.in_ok-put.ensures.ok c.in_ok-emit_suite-2.ensures.ok c.in_ok-skip.ensures.ok c.in_ok-emit_clauses.ensures.ok c.in_ok-put-2.ensures.ok c.in_ok-aim.ensures.ok c.in_ok-emit_suite-3.ensures.ok aims)))
    c.aim-2.ensures.ok

pub handlers::emit_try-returns-clause-next : goal.handlers::emit_try-returns-clause-next
handlers::emit_try-returns-clause-next t c =
    let seen = try_seen c.args.statement.now c.deref-2.result.now c.deref-4.result.now c.deref-3.result.now c.deref-2.ensures.value c.deref-3.ensures.value c.deref-4.ensures.value in
    on_ok_weaker c.aim-2.result
    (λ aims. tried_number _ _ _ _ _ c.deref-2.result.now c.deref-4.result.now _ seen c.in_ok-emit_suite-2.ensures.next c.in_ok-emit_clauses.ensures.next c.in_ok-emit_suite-3.ensures.next)
    c.aim-2.ensures.ok

pub handlers::emit_try-emit_clauses-requires : goal.handlers::emit_try-emit_clauses-requires
handlers::emit_try-emit_clauses-requires t c =
    let size = views.size_is-Try c.args.statement.now in
    let clauses = ap (most views.size-Clause) c.deref-3.ensures.value in
    (omega (arith, c.decreases, size, clauses), locals_kept (entered_gains _ c.len-enter.result c.len-enter.ensures c.in_ok-put.ensures.ok c.in_ok-emit_suite-2.ensures.ok c.in_ok-skip.ensures.ok) c.requires)

pub handlers::emit_try-emit_suite-requires-3 : goal.handlers::emit_try-emit_suite-requires-3
handlers::emit_try-emit_suite-requires-3 t c =
    let size = views.size_is-Try c.args.statement.now in
    let suite = ap (most size-Stmt) c.deref-4.ensures.value in
    let front = tried_front _ _ c.len-enter.result c.in_ok-skip.skip c.len-enter.ensures c.in_ok-skip.ensures.at c.in_ok-put.ensures.ok c.in_ok-emit_suite-2.ensures.ok c.in_ok-skip.ensures.ok c.in_ok-emit_clauses.ensures.ok c.in_ok-put-2.ensures.ok c.in_ok-aim.ensures.ok in
    (omega (arith, c.decreases, size, suite), locals_kept front c.requires)

pub handlers::emit_try-returns-in_err-emit_clauses-clause-extends : goal.handlers::emit_try-returns-in_err-emit_clauses-clause-extends
handlers::emit_try-returns-in_err-emit_clauses-clause-extends t c =
    let skipped = place_stays c.in_ok-skip.ensures.extends _ c.len-enter.ensures (Extends-same c.args.table.now) (Extends-trans _ _ _ c.in_ok-put.ensures.extends c.in_ok-emit_suite-2.ensures.extends) in
    Extends-trans _ _ _ skipped c.emit_clauses.ensures.extends

pub handlers::emit_try-returns-in_err-put-2-clause-extends : goal.handlers::emit_try-returns-in_err-put-2-clause-extends
handlers::emit_try-returns-in_err-put-2-clause-extends t c =
    let skipped = place_stays c.in_ok-skip.ensures.extends _ c.len-enter.ensures (Extends-same c.args.table.now) (Extends-trans _ _ _ c.in_ok-put.ensures.extends c.in_ok-emit_suite-2.ensures.extends) in
    put_extends _ _ _ c.put-2.result (Extends-trans _ _ _ skipped c.in_ok-emit_clauses.ensures.extends) c.put-2.ensures.extends c.put-2.ensures.err

pub handlers::emit_try-returns-in_err-aim-clause-extends : goal.handlers::emit_try-returns-in_err-aim-clause-extends
handlers::emit_try-returns-in_err-aim-clause-extends t c =
    let entered = Extends-trans _ _ _ c.in_ok-put.ensures.extends c.in_ok-emit_suite-2.ensures.extends in
    let skipped = place_stays c.in_ok-skip.ensures.extends _ c.len-enter.ensures (Extends-same c.args.table.now) entered in
    stays c.in_ok-skip.skip 1 c.aim.ensures.extends c.in_ok-skip.ensures.at entered (Extends-trans _ _ _ skipped (Extends-trans _ _ _ c.in_ok-emit_clauses.ensures.extends c.in_ok-put-2.ensures.extends))

pub handlers::emit_try-returns-in_err-emit_suite-3-clause-extends : goal.handlers::emit_try-returns-in_err-emit_suite-3-clause-extends
handlers::emit_try-returns-in_err-emit_suite-3-clause-extends t c =
    let entered = Extends-trans _ _ _ c.in_ok-put.ensures.extends c.in_ok-emit_suite-2.ensures.extends in
    let skipped = place_stays c.in_ok-skip.ensures.extends _ c.len-enter.ensures (Extends-same c.args.table.now) entered in
    let aimed = stays c.in_ok-skip.skip 1 c.in_ok-aim.ensures.extends c.in_ok-skip.ensures.at entered (Extends-trans _ _ _ skipped (Extends-trans _ _ _ c.in_ok-emit_clauses.ensures.extends c.in_ok-put-2.ensures.extends)) in
    Extends-trans _ _ _ aimed c.emit_suite-3.ensures.extends

pub handlers::emit_try-returns-clause-extends : goal.handlers::emit_try-returns-clause-extends
handlers::emit_try-returns-clause-extends t c =
    let entered = Extends-trans _ _ _ c.in_ok-put.ensures.extends c.in_ok-emit_suite-2.ensures.extends in
    let skipped = place_stays c.in_ok-skip.ensures.extends _ c.len-enter.ensures (Extends-same c.args.table.now) entered in
    let handled = Extends-trans _ _ _ skipped c.in_ok-emit_clauses.ensures.extends in
    let aimed = stays c.in_ok-skip.skip 1 c.in_ok-aim.ensures.extends c.in_ok-skip.ensures.at entered (Extends-trans _ _ _ handled c.in_ok-put-2.ensures.extends) in
    place_stays c.aim-2.ensures.extends _ c.len-end.ensures handled (Extends-trans _ _ _ aimed c.in_ok-emit_suite-3.ensures.extends)

pub suite::emit_suite-loop-stmt-preserved : goal.suite::emit_suite-loop-stmt-preserved
suite::emit_suite-loop-stmt-preserved t c =
    let old = c.loop-stmt.invariant in
    let gains = noted_gains c.note_statement.ensures c.in_ok-emit_stmt.ensures.ok in
    record {
      gains = next_stmt c.args.locals.now c.args.body.now c.loop-stmt.stmt-index c.stmt-item.result _ _ _ c.loop-stmt-test.true (sym c.stmt-item.is) c.in_ok-emit_stmt.ensures.next old.gains gains;
      number = next_number c.args.body.now c.loop-stmt.stmt-index c.stmt-item.result _ _ _ c.loop-stmt-test.true (sym c.stmt-item.is) c.in_ok-emit_stmt.ensures.next old.number;
      extends = Extends-trans _ _ _ old.extends (noted_extends c.note_statement.ensures c.in_ok-emit_stmt.ensures.extends);
      names = locals_kept gains old.names;
    }

pub suite::emit_suite-returns-clause-ok : goal.suite::emit_suite-returns-clause-ok
suite::emit_suite-returns-clause-ok t c = last_stmt c.args.locals.now c.args.body.now c.loop-stmt.stmt-index _ _ c.loop-stmt-test.false c.loop-stmt.invariant.gains

pub suite::emit_suite-returns-clause-next : goal.suite::emit_suite-returns-clause-next
suite::emit_suite-returns-clause-next t c = last_number c.args.body.now c.loop-stmt.stmt-index _ _ c.loop-stmt-test.false c.loop-stmt.invariant.number

pub choosing::emit_branch-emit_suite-requires : goal.choosing::emit_branch-emit_suite-requires
choosing::emit_branch-emit_suite-requires t c =
    let one = views.size_is-Branch c.args.branch.now in
    let suite = ap (most size-Stmt) c.deref.ensures.value in
    (omega (arith, c.decreases, one, suite), opens_kept c.args.locals.now c.in_ok-jumps.jumps.items (expr_of c.args.branch.now.test) c.in_ok-jumps.ensures.ok c.requires)

pub choosing::emit_branch-returns-in_err-aim_all-clause-extends : goal.choosing::emit_branch-returns-in_err-aim_all-clause-extends
choosing::emit_branch-returns-in_err-aim_all-clause-extends t c =
    c.aim_all.ensures.extends _ (subst (AllByRecursion (λ at. length c.args.table.now.lines ≤ at)) (sym c.deref-2.ensures.value) c.in_ok-jumps.ensures.after)
    (Extends-trans _ _ _ c.in_ok-jumps.ensures.extends (Extends-trans _ _ _ c.in_ok-emit_suite.ensures.extends c.in_ok-put.ensures.extends))

pub choosing::emit_branch-returns-clause-ok : goal.choosing::emit_branch-returns-clause-ok
choosing::emit_branch-returns-clause-ok t c =
    let emitted = subst (λ l. Gains c.emit_skip.new.table c.emit_suite.new.table (stmts_code c.args.locals.now c.args.next.now (body_of l))) c.deref.ensures.value c.in_ok-emit_suite.ensures.ok in
    let suite = stmts_code c.args.locals.now c.args.next.now (body_of c.args.branch.now.body.items) in
    skips_over c.args.locals.now c.in_ok-jumps.jumps.items _ (expr_of c.args.branch.now.test) (suite ++ machine.Jump 0 ∷ []) c.deref-2.ensures.value c.in_ok-jumps.ensures.ok (Gains-append _ _ _ _ _ emitted c.in_ok-put.ensures.ok) c.in_ok-aim_all.ensures.ok

pub choosing::emit_branch-returns-clause-at : goal.choosing::emit_branch-returns-clause-at
choosing::emit_branch-returns-clause-at t c =
    let emitted = subst (λ l. Gains c.emit_skip.new.table c.emit_suite.new.table (stmts_code c.args.locals.now c.args.next.now (body_of l))) c.deref.ensures.value c.in_ok-emit_suite.ensures.ok in
    let suite = stmts_code c.args.locals.now c.args.next.now (body_of c.args.branch.now.body.items) in
    jump_at c.args.locals.now c.in_ok-jumps.jumps.items _ (expr_of c.args.branch.now.test) suite c.len-end.result c.len-end.ensures c.deref-2.ensures.value c.in_ok-jumps.ensures.ok emitted c.in_ok-put.ensures.ok c.in_ok-aim_all.ensures.ok

pub choosing::emit_branch-returns-clause-after : goal.choosing::emit_branch-returns-clause-after
choosing::emit_branch-returns-clause-after t c = end_after c.len-end.result c.len-end.ensures (Extends-trans _ _ _ c.in_ok-jumps.ensures.extends c.in_ok-emit_suite.ensures.extends)

pub choosing::emit_branch-returns-clause-extends : goal.choosing::emit_branch-returns-clause-extends
choosing::emit_branch-returns-clause-extends t c =
    c.in_ok-aim_all.ensures.extends _ (subst (AllByRecursion (λ at. length c.args.table.now.lines ≤ at)) (sym c.deref-2.ensures.value) c.in_ok-jumps.ensures.after)
    (Extends-trans _ _ _ c.in_ok-jumps.ensures.extends (Extends-trans _ _ _ c.in_ok-emit_suite.ensures.extends c.in_ok-put.ensures.extends))

pub choosing::emit_alone-emit_suite-requires : goal.choosing::emit_alone-emit_suite-requires
choosing::emit_alone-emit_suite-requires t c =
    let one = views.size_is-Branch c.args.branch.now in
    let suite = ap (most size-Stmt) c.deref.ensures.value in
    (omega (arith, c.decreases, one, suite), opens_kept c.args.locals.now c.in_ok-jumps.jumps.items (expr_of c.args.branch.now.test) c.in_ok-jumps.ensures.ok c.requires)

pub choosing::emit_alone-returns-clause-ok : goal.choosing::emit_alone-returns-clause-ok
choosing::emit_alone-returns-clause-ok t c =
    let emitted = subst (λ l. Gains c.emit_skip.new.table c.emit_suite.new.table (stmts_code c.args.locals.now c.args.next.now (body_of l))) c.deref.ensures.value c.in_ok-emit_suite.ensures.ok in
    let suite = stmts_code c.args.locals.now c.args.next.now (body_of c.args.branch.now.body.items) in
    on_ok_weaker c.aim_all.result (λ aims. skips_over c.args.locals.now c.in_ok-jumps.jumps.items _ (expr_of c.args.branch.now.test) suite c.deref-2.ensures.value c.in_ok-jumps.ensures.ok emitted aims) c.aim_all.ensures.ok

pub choosing::emit_alone-returns-clause-next : goal.choosing::emit_alone-returns-clause-next
choosing::emit_alone-returns-clause-next t c =
    on_ok_weaker c.aim_all.result (λ aims. subst (λ l. c.emit_suite.new.next ≡ c.args.next.now + length (functions_in (body_of l))) c.deref.ensures.value c.in_ok-emit_suite.ensures.next) c.aim_all.ensures.ok

pub choosing::emit_alone-returns-clause-extends : goal.choosing::emit_alone-returns-clause-extends
choosing::emit_alone-returns-clause-extends t c =
    c.aim_all.ensures.extends _ (subst (AllByRecursion (λ at. length c.args.table.now.lines ≤ at)) (sym c.deref-2.ensures.value) c.in_ok-jumps.ensures.after)
    (Extends-trans _ _ _ c.in_ok-jumps.ensures.extends c.in_ok-emit_suite.ensures.extends)

pub choosing::emit_if-returns-then-stands_alone-clause-ok : goal.choosing::emit_if-returns-then-stands_alone-clause-ok
choosing::emit_if-returns-then-stands_alone-clause-ok t c =
    on_ok_weaker c.emit_alone.result
    (alone_gains c.args.locals.now _ (branch_of (out-If c.args.statement.now).first) (others_of c.args.statement.now) (sym c.stands_alone.ensures ∙ c.if-stands_alone.true))
    c.emit_alone.ensures.ok

pub choosing::emit_if-returns-then-stands_alone-clause-next : goal.choosing::emit_if-returns-then-stands_alone-clause-next
choosing::emit_if-returns-then-stands_alone-clause-next t c =
    on_ok_weaker c.emit_alone.result
    (alone_number _ _ (branch_of (out-If c.args.statement.now).first).1 (others_of c.args.statement.now) (sym c.stands_alone.ensures ∙ c.if-stands_alone.true))
    c.emit_alone.ensures.next

pub choosing::emit_if-returns-clause-ok : goal.choosing::emit_if-returns-clause-ok
choosing::emit_if-returns-clause-ok t c =
    on_ok_weaker c.aim.result
    (if_gains c.args.locals.now _ _ (branch_of (out-If c.args.statement.now).first) (others_of c.args.statement.now) c.in_ok-end.end c.in_ok-end.ensures.next c.in_ok-end.ensures.at
    (loud_code (others_of c.args.statement.now) (sym c.stands_alone.ensures ∙ c.if-stands_alone.false) c.args.locals.now _) c.in_ok-end.ensures.ok c.in_ok-emit_others.ensures.ok)
    c.aim.ensures.ok

pub choosing::emit_if-returns-clause-next : goal.choosing::emit_if-returns-clause-next
choosing::emit_if-returns-clause-next t c =
    on_ok_weaker c.aim.result
    (λ aims. two_number _ _ _ (branch_of (out-If c.args.statement.now).first).1 (others_of c.args.statement.now) c.in_ok-end.ensures.next c.in_ok-emit_others.ensures.next)
    c.aim.ensures.ok

pub choosing::emit_if-returns-clause-extends : goal.choosing::emit_if-returns-clause-extends
choosing::emit_if-returns-clause-extends t c =
    c.aim.ensures.extends c.args.table.now c.in_ok-end.ensures.after (Extends-trans _ _ _ c.in_ok-end.ensures.extends c.in_ok-emit_others.ensures.extends)

pub choosing::emit_others-loop-branch-preserved : goal.choosing::emit_others-loop-branch-preserved
choosing::emit_others-loop-branch-preserved t c =
    let old = c.loop-branch.invariant in
    let elifs = c.deref-branch-items.result.now in
    let last = body_of (out-If c.args.statement.now).last.items in
    let at = c.in_ok-emit_branch.field-0 in
    let many : c.loop-branch.left - 1 + (c.loop-branch.branch-index + 1) ≡ length elifs = omega (arith, old.left, c.loop-branch-test.true) in
    let quiet = subst (λ l. c.is_silent-quiet.result ≡ silent_suite (body_of l)) c.deref.ensures.value c.is_silent-quiet.ensures in
    let gains = noted_gains c.note_statement.ensures c.in_ok-emit_branch.ensures.ok in
    record {
      due = MakesAll-step c.loop-branch.ends.items _ _ _ _ at c.in_ok-push.ensures.items
          (next_elif c.args.locals.now elifs c.loop-branch.branch-index c.branch-item.result last at _ _ c.loop-branch-test.true (sym c.branch-item.is) c.in_ok-emit_branch.ensures.next c.in_ok-emit_branch.ensures.at
          (follows elifs last c.loop-branch.branch-index (c.loop-branch.left - 1) c.is_silent-quiet.result c.ends_here.result many quiet c.ends_here.ensures c.if-ends_here.false) gains)
          old.due;
      after = jump_more c.loop-branch.ends.items at c.in_ok-push.ensures.items (noted_after c.note_statement.ensures c.in_ok-emit_branch.ensures.after) old.extends old.after;
      number = next_elif_number elifs c.loop-branch.branch-index c.branch-item.result last _ _ _ c.loop-branch-test.true (sym c.branch-item.is) c.in_ok-emit_branch.ensures.next old.number;
      extends = Extends-trans _ _ _ old.extends (noted_extends c.note_statement.ensures c.in_ok-emit_branch.ensures.extends);
      names = locals_kept gains old.names;
      left = many;
    }

pub choosing::emit_others-loop-branch-preserved-then-ends_here : goal.choosing::emit_others-loop-branch-preserved-then-ends_here
choosing::emit_others-loop-branch-preserved-then-ends_here t c =
    let old = c.loop-branch.invariant in
    let elifs = c.deref-branch-items.result.now in
    let last = body_of (out-If c.args.statement.now).last.items in
    let many : c.loop-branch.left - 1 + (c.loop-branch.branch-index + 1) ≡ length elifs = omega (arith, old.left, c.loop-branch-test.true) in
    let quiet = subst (λ l. c.is_silent-quiet.result ≡ silent_suite (body_of l)) c.deref.ensures.value c.is_silent-quiet.ensures in
    let gains = noted_gains c.note_statement.ensures c.in_ok-emit_alone.ensures.ok in
    record {
      due = last_elif c.args.locals.now elifs c.loop-branch.branch-index c.branch-item.result last c.loop-branch.ends.items _ _ _ c.loop-branch-test.true (sym c.branch-item.is) c.in_ok-emit_alone.ensures.next
          (none_left elifs c.loop-branch.branch-index (c.loop-branch.left - 1) c.is_silent-quiet.result c.ends_here.result many c.ends_here.ensures c.if-ends_here.true)
          (stays_quiet last (c.loop-branch.left - 1) c.is_silent-quiet.result c.ends_here.result quiet c.ends_here.ensures c.if-ends_here.true)
          gains old.due;
      after = old.after;
      number = next_elif_number elifs c.loop-branch.branch-index c.branch-item.result last _ _ _ c.loop-branch-test.true (sym c.branch-item.is) c.in_ok-emit_alone.ensures.next old.number;
      extends = Extends-trans _ _ _ old.extends (noted_extends c.note_statement.ensures c.in_ok-emit_alone.ensures.extends);
      names = locals_kept gains old.names;
      left = many;
    }

pub choosing::emit_others-returns-clause-ok : goal.choosing::emit_others-returns-clause-ok
choosing::emit_others-returns-clause-ok t c =
    let due = elifs_end c.args.locals.now c.deref-branch-items.result.now c.loop-branch.branch-index (out-If c.args.statement.now).last.items c.deref-2.result.now c.loop-branch.ends.items _ _ c.loop-branch-test.false c.deref-2.ensures.value c.loop-branch.invariant.due c.in_ok-emit_suite.ensures.ok in
    on_ok_weaker c.aim_all.result
    (λ aims. subst (λ l. Gains c.args.table.now c.aim_all.new.self (stmts_code c.args.locals.now c.args.next.now (elifs_of (map branch_of l) (body_of (out-If c.args.statement.now).last.items)))) c.deref-branch-items.ensures.value (all_aimed c.deref-3.ensures.value due aims))
    c.aim_all.ensures.ok

pub choosing::emit_others-returns-clause-next : goal.choosing::emit_others-returns-clause-next
choosing::emit_others-returns-clause-next t c =
    on_ok_weaker c.aim_all.result
    (λ aims. subst (λ l. c.emit_suite.new.next ≡ c.args.next.now + length (functions_in (elifs_of (map branch_of l) (body_of (out-If c.args.statement.now).last.items)))) c.deref-branch-items.ensures.value
    (last_elif_number c.deref-branch-items.result.now c.loop-branch.branch-index (out-If c.args.statement.now).last.items c.deref-2.result.now _ _ _ c.loop-branch-test.false c.deref-2.ensures.value c.in_ok-emit_suite.ensures.next c.loop-branch.invariant.number))
    c.aim_all.ensures.ok

pub choosing::emit_others-returns-clause-extends : goal.choosing::emit_others-returns-clause-extends
choosing::emit_others-returns-clause-extends t c =
    c.aim_all.ensures.extends c.args.table.now
    (subst (AllByRecursion (λ at. length c.args.table.now.lines ≤ at)) (sym c.deref-3.ensures.value) c.loop-branch.invariant.after)
    (Extends-trans _ _ _ c.loop-branch.invariant.extends c.in_ok-emit_suite.ensures.extends)

pub repeats::emit_while-returns-clause-ok : goal.repeats::emit_while-returns-clause-ok
repeats::emit_while-returns-clause-ok t c =
    let seen = while_seen c.args.statement.now c.deref.result.now c.deref-2.result.now c.deref.ensures.value c.deref-2.ensures.value in
    on_ok_weaker c.aim_loop.result
    (while_stmt c.args.locals.now _ _ c.args.statement.now.test c.deref.result.now c.deref-2.result.now _ c.len-start.result c.len-body.result c.len-turn.result seen c.in_ok-emit_suite.ensures.next
    c.len-start.ensures c.len-body.ensures c.len-turn.ensures c.in_ok-put.ensures.ok c.in_ok-emit_suite.ensures.ok c.in_ok-emit_turn.ensures.ok c.in_ok-emit_suite-2.ensures.ok)
    c.aim_loop.ensures.ok

pub repeats::emit_while-returns-clause-next : goal.repeats::emit_while-returns-clause-next
repeats::emit_while-returns-clause-next t c =
    let seen = while_seen c.args.statement.now c.deref.result.now c.deref-2.result.now c.deref.ensures.value c.deref-2.ensures.value in
    on_ok_weaker c.aim_loop.result (λ bounds. loop_number _ _ _ c.args.statement.now.test c.deref.result.now c.deref-2.result.now _ seen c.in_ok-emit_suite.ensures.next c.in_ok-emit_suite-2.ensures.next) c.aim_loop.ensures.ok

pub repeats::emit_while-returns-clause-extends : goal.repeats::emit_while-returns-clause-extends
repeats::emit_while-returns-clause-extends t c =
    place_stays c.aim_loop.ensures.extends _ c.len-start.ensures (Extends-same c.args.table.now)
    (Extends-trans _ _ _ c.in_ok-put.ensures.extends (Extends-trans _ _ _ c.in_ok-emit_suite.ensures.extends (Extends-trans _ _ _ c.in_ok-emit_turn.ensures.extends c.in_ok-emit_suite-2.ensures.extends)))

pub repeats::emit_for-returns-clause-ok : goal.repeats::emit_for-returns-clause-ok
repeats::emit_for-returns-clause-ok t c =
    let seen = for_seen c.args.statement.now c.deref.result.now c.deref-2.result.now c.deref.ensures.value c.deref-2.ensures.value in
    on_ok_weaker c.aim_loop.result
    (for_stmt c.args.locals.now _ _ (target_of c.args.statement.now.target) c.args.statement.now.items c.deref.result.now c.deref-2.result.now _ c.in_ok-entry.entry c.len-item.result seen c.in_ok-emit_suite.ensures.next
    c.in_ok-entry.ensures.at c.len-item.ensures c.in_ok-entry.ensures.ok c.in_ok-emit_suite.ensures.ok c.in_ok-emit_next.ensures.ok c.in_ok-emit_suite-2.ensures.ok)
    c.aim_loop.ensures.ok

pub repeats::emit_for-returns-clause-next : goal.repeats::emit_for-returns-clause-next
repeats::emit_for-returns-clause-next t c =
    let seen = for_seen c.args.statement.now c.deref.result.now c.deref-2.result.now c.deref.ensures.value c.deref-2.ensures.value in
    on_ok_weaker c.aim_loop.result (λ bounds. for_number _ _ _ (target_of c.args.statement.now.target) c.args.statement.now.items c.deref.result.now c.deref-2.result.now _ seen c.in_ok-emit_suite.ensures.next c.in_ok-emit_suite-2.ensures.next) c.aim_loop.ensures.ok

pub repeats::emit_for-returns-clause-extends : goal.repeats::emit_for-returns-clause-extends
repeats::emit_for-returns-clause-extends t c =
    c.aim_loop.ensures.extends _ (entry_after c.args.table.now c.args.locals.now (expr_of c.args.statement.now.items) c.in_ok-entry.entry c.in_ok-entry.ensures.at)
    (Extends-trans _ _ _ c.in_ok-entry.ensures.extends (Extends-trans _ _ _ c.in_ok-emit_suite.ensures.extends (Extends-trans _ _ _ c.in_ok-emit_next.ensures.extends c.in_ok-emit_suite-2.ensures.extends)))
