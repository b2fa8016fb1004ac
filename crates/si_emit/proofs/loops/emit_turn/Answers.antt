use Rattle.std.proofs.Common.{◌≤◌, ◌-◌, length, sym, subst}
use Rattle.std.specs.Prelude.{OnOk}
use Rattle.std.proofs.lemmas.Result.{on_ok_weaker}
use Rattle.si_syntax.specs.Trees.{expr_of}
use Rattle.si_slots.specs.Code.{condition_code}
use Rattle.si_slots.specs.Views.{Gains}
use Rattle.si_emit.specs.inner.Turns.{turn_code}
use Rattle.si_emit.proofs.Noted.{noted_extends}
use Rattle.si_emit.proofs.LoopCode.{turn_gains, turn_after, put_extends}
use Rattle.si_emit.proofs.loops.emit_turn.Goals as goal

pub returns-clause-ok : goal.returns-clause-ok
returns-clause-ok c =
    let noted = c.note_again.ensures in
    let code = turn_code (condition_code c.args.locals.now (expr_of c.args.test.now)) in
    let there = subst (λ t. c.args.body ≤ length t.lines) (sym noted) c.requires.there in
    subst (λ t. OnOk c.put.result (Gains t c.put.new.self (code (length t.lines - c.args.body)))) noted
    (on_ok_weaker c.put.result
    (turn_gains c.args.locals.now (expr_of c.args.test.now) c.in_ok-at.at c.args.body c.in_ok-at.ensures.at there c.in_ok-at.ensures.ok c.in_ok-aim_back.ensures.ok)
    c.put.ensures.ok)

pub returns-in_err-aim_back-clause-extends : goal.returns-in_err-aim_back-clause-extends
returns-in_err-aim_back-clause-extends c =
    noted_extends c.note_again.ensures
    (c.aim_back.ensures.extends c.note_again.new.self (turn_after c.args.locals.now (expr_of c.args.test.now) c.in_ok-at.at c.in_ok-at.ensures.at c.in_ok-at.ensures.ok) c.in_ok-at.ensures.extends)

pub returns-clause-extends : goal.returns-clause-extends
returns-clause-extends c =
    let turned = c.in_ok-aim_back.ensures.extends c.note_again.new.self (turn_after c.args.locals.now (expr_of c.args.test.now) c.in_ok-at.at c.in_ok-at.ensures.at c.in_ok-at.ensures.ok) c.in_ok-at.ensures.extends in
    noted_extends c.note_again.ensures (put_extends c.note_again.new.self c.aim_back.new.self c.put.new.self c.put.result turned c.put.ensures.extends c.put.ensures.err)
