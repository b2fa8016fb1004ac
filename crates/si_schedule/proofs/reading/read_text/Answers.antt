use Rattle.std.proofs.Common.{rules, ◌+◌, ◌∷◌, [], ℕ, List, length, length-append, refl, ap, sym, ◌∙◌, subst, arith}
use Rattle.std.specs.Fmt.{decimal}
use Rattle.si_schedule.specs.inner.Reading.{HasRead}
use Rattle.si_schedule.proofs.Schedules.{one_more}
use Rattle.si_schedule.proofs.BadLines.{no_caller, no_end, goes_on}
use Rattle.si_schedule.proofs.reading.read_text.Goals as goal

pub returns-in-None-clause-err : goal.returns-in-None-clause-err
returns-in-None-clause-err c =
    let h = c.loop-read.invariant in
    let t = c.loop-read-test.true in
    let a = h.2 in
    let b = h.3 in
    let d = c.len.ensures in
    no_caller c.args.text.now c.in-Ok.head.0 c.in-Ok.head.1 c.loop-read.callers.items c.loop-read.left.now (c.len.result + 4) h.1 (omega arith) c.in-None.ensures.none (omega arith)

pub loop-read-preserved : goal.loop-read-preserved
loop-read-preserved c =
    let h = c.loop-read.invariant in
    let t = c.loop-read-test.true in
    let a = h.2 in
    let b = h.3 in
    let e = c.in-Ok-push.ensures.items in
    let f = c.in-Some.ensures.some in
    let xs = c.loop-read.callers.items in
    let x = c.in-Some.by in
    let m = one_more c.args.text.now c.in-Ok.head.0 c.in-Ok.head.1 xs x c.loop-read.left.now (decimal x) c.in-Some.after.now h.1 (omega arith) f.1 refl f.0 in (
      search rules,
      subst (λ (ys : List ℕ). HasRead c.args.text.now c.in-Ok.head.0 c.in-Ok.head.1 ys c.in-Some.after.now) (sym e) m,
      ap (λ (ys : List ℕ). length ys) e ∙ length-append xs (x ∷ []) ∙ ap (λ (n : ℕ). n + 1) a,
      (let g = c.in-Ok-push.ensures.len in omega arith),
    )

pub returns-in-NotEnded-clause-err : goal.returns-in-NotEnded-clause-err
returns-in-NotEnded-clause-err c =
    let h = c.loop-read.invariant in
    let t = c.loop-read-test.false in
    let a = h.2 in
    let b = h.3 in
    let d = c.len-in-NotEnded.ensures in
    let g = h.1.few in
    no_end c.args.text.now c.in-Ok.head.0 c.in-Ok.head.1 c.loop-read.callers.items c.loop-read.left.now (c.len-in-NotEnded.result + 4) h.1 (omega arith) c.in-NotEnded.ensures (omega arith)

pub returns-in-GoesOn-clause-err : goal.returns-in-GoesOn-clause-err
returns-in-GoesOn-clause-err c =
    let h = c.loop-read.invariant in
    let t = c.loop-read-test.false in
    let a = h.2 in
    let b = h.3 in
    let d = c.len-in-GoesOn.ensures in
    let g = h.1.few in
    let z = c.in-GoesOn.ensures in
    goes_on c.args.text.now c.in-Ok.head.0 c.in-Ok.head.1 c.loop-read.callers.items c.loop-read.left.now z.0 (c.len-in-GoesOn.result + 5) h.1 (omega arith) z.1 z.2 (omega arith)
