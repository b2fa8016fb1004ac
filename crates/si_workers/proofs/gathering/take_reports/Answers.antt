use Rattle.std.proofs.Common.{◌≡◌, ℕ, arith, subst}
use Rattle.si_workers.specs.inner.Members.{AreReports}
use Rattle.si_workers.proofs.Taking.{taken_more, next_left, taken_all}
use Rattle.si_workers.proofs.gathering.take_reports.Goals as goal

pub take_report-requires : goal.take_report-requires
take_report-requires c = next_left c.args.worked.items c.loop-i.reports.items c.loop-i.worked.items c.loop-i.i c.loop-i.invariant (c.requires c.loop-i.i c.loop-i-test.true)

pub loop-i-preserved : goal.loop-i-preserved
loop-i-preserved c =
    taken_more c.args.worked.items c.loop-i.reports.items c.loop-i.worked.items c.loop-i.i c.in_ok-take_report.field-0 c.push.new.self.items c.take_report.new.worked.items c.loop-i.invariant
    c.in_ok-take_report.ensures.id c.in_ok-take_report.ensures.others c.in_ok-push.ensures.items

pub returns : goal.returns
returns c =
    let all : c.loop-i.i ≡ c.args.count = (let a = c.loop-i-test.false in let b = c.loop-i.auto.i-end in omega arith) in
    subst (λ (n : ℕ). AreReports c.args.worked.items n c.loop-i.reports.items) all (taken_all c.args.worked.items c.loop-i.reports.items c.loop-i.worked.items c.loop-i.i c.loop-i.invariant)
