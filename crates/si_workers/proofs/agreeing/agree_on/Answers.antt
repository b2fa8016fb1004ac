use Rattle.std.proofs.Common.{◌<◌, ◌∙◌, ap, sym, arith, refl, length}
use Rattle.std.proofs.lemmas.Option.{slice_get_read}
use Rattle.si_semantics.specs.History.{Call}
use Rattle.si_workers.proofs.Logs.{other_more, own_more, log_short, log_differs}
use Rattle.si_workers.proofs.agreeing.agree_on.Goals as goal

pub returns-then-call-i-clause-agrees : goal.returns-then-call-i-clause-agrees
returns-then-call-i-clause-agrees c =
    let by = ap (λ (x : Call). x.by) c.call.view_is in
    other_more c.args.i c.args.log.now c.args.next c.args.call.now (λ e. c.if-call-i.true (by ∙ e))

pub returns-then-next-log-clause-differs : goal.returns-then-next-log-clause-differs
returns-then-next-log-clause-differs c =
    let by = ap (λ (x : Call). x.by) c.call.view_is in
    log_short c.args.i c.args.log.now c.args.next c.args.call.now (let a = c.if-next-log.true in omega arith) (sym by ∙ c.if-call-i.false)

pub returns-then-not-is_same-clause-differs : goal.returns-then-not-is_same-clause-differs
returns-then-not-is_same-clause-differs c =
    let log = c.args.log.now in
    let by = ap (λ (x : Call). x.by) c.call.view_is in
    let lt : c.args.next < length log = (let a = c.if-next-log.false in omega arith) in
    let at = slice_get_read log (length log) c.args.next c.index-log-next.result refl lt c.index-log-next.is in
    log_differs c.args.i log c.args.next c.index-log-next.result c.args.call.now at (sym by ∙ c.if-call-i.false) (c.is_same.ensures.no c.if-not-is_same.true)

pub returns-clause-agrees : goal.returns-clause-agrees
returns-clause-agrees c =
    let log = c.args.log.now in
    let by = ap (λ (x : Call). x.by) c.call.view_is in
    let lt : c.args.next < length log = (let a = c.if-next-log.false in omega arith) in
    let at = slice_get_read log (length log) c.args.next c.index-log-next.result refl lt c.index-log-next.is in
    own_more c.args.i log c.args.next c.index-log-next.result c.args.call.now at (sym by ∙ c.if-call-i.false) (c.is_same.ensures.yes c.if-not-is_same.false)
