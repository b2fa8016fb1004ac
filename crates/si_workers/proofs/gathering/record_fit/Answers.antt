use Rattle.std.proofs.Common.{◌<◌, ◌∙◌, ap, inl, inr, refl, sym, subst, take, ℕ}
use Rattle.si_plain.specs.Ranges.{Numbers}
use Rattle.si_world.proofs.Copying.{recorded_is}
use Rattle.si_workers.specs.inner.Members.{AreReports}
use Rattle.si_workers.proofs.Left.{world_of, is_open, gathered, of_reports}
use Rattle.si_workers.proofs.Taking.{members_of}
use Rattle.si_workers.proofs.gathering.record_fit.Goals as goal

pub take_reports-requires : goal.take_reports-requires
take_reports-requires c =
    let n = c.interpreters.ensures.value ∙ ap (λ (l : Numbers). l.interpreters) c.limits.ensures in
    λ i lt. (c.requires.fit i (subst (λ (k : ℕ). i < k) n lt)).some

pub taking-requires : goal.taking-requires
taking-requires c =
    let p = c.args.hub.past in
    let worked = c.args.worked.items in
    let vs = c.in_ok-reports.reports.items in
    let n = c.interpreters.ensures.value ∙ ap (λ (l : Numbers). l.interpreters) c.limits.ensures in
    let m = members_of p worked p.limits.interpreters vs c.requires.fit (subst (λ (k : ℕ). AreReports worked k vs) n c.in_ok-reports.ensures) in
    let e = c.truncate.ensures.items ∙ ap (λ (k : ℕ). take k vs) c.requires.made in
    recorded_is p vs c.truncate.new.self.items e (world_of p worked vs c.facts.ensures.told c.facts.ensures.few m)

pub returns-in-Open-clause-fault : goal.returns-in-Open-clause-fault
returns-in-Open-clause-fault c =
    let p = c.args.hub.past in
    let worked = c.args.worked.items in
    let vs = c.in_ok-reports.reports.items in
    let n = c.interpreters.ensures.value ∙ ap (λ (l : Numbers). l.interpreters) c.limits.ensures in
    let m = members_of p worked p.limits.interpreters vs c.requires.fit (subst (λ (k : ℕ). AreReports worked k vs) n c.in_ok-reports.ensures) in
    let e = c.truncate.ensures.items ∙ ap (λ (k : ℕ). take k vs) c.requires.made in
    inl (refl, inr (is_open p worked vs c.truncate.new.self.items c.in_ok-recording.recording m e c.in_ok-recording.ensures (sym c.end.ensures ∙ c.in-Open.is)))

pub returns-in_default : goal.returns-in_default
returns-in_default c =
    let p = c.args.hub.past in
    let worked = c.args.worked.items in
    let vs = c.in_ok-reports.reports.items in
    let n = c.interpreters.ensures.value ∙ ap (λ (l : Numbers). l.interpreters) c.limits.ensures in
    let m = members_of p worked p.limits.interpreters vs c.requires.fit (subst (λ (k : ℕ). AreReports worked k vs) n c.in_ok-reports.ensures) in
    let e = c.truncate.ensures.items ∙ ap (λ (k : ℕ). take k vs) c.requires.made in
    record {
      gathered = gathered p worked vs c.truncate.new.self.items c.in_ok-recording.recording c.facts.ensures.told c.facts.ensures.few m e c.in_ok-recording.ensures (λ o. c.in_default.not-Open (c.end.ensures ∙ o));
      of = of_reports p worked vs c.truncate.new.self.items c.in_ok-recording.recording m e c.in_ok-recording.ensures;
      fault = tt;
    }
