use Rattle.std.proofs.Common.{◌≡◌, ◌∙◌, ap, arith, subst}
use Rattle.si_plain.specs.Ranges.{Numbers}
use borrow.Author.Count.{below_more}
use Rattle.si_workers.specs.inner.Members.{AreFit, IsFit}
use Rattle.si_workers.proofs.gathering.first_unfit.Goals as goal

pub loop-i-preserved : goal.loop-i-preserved
loop-i-preserved c = below_more (IsFit c.args.hub.now.past c.args.worked.now) c.loop-i.i c.loop-i.invariant (c.is_fit.ensures.yes c.if-not-is_fit.false)

pub returns-clause-none : goal.returns-clause-none
returns-clause-none c =
    let p = c.args.hub.now.past in
    let n : c.interpreters-i-end.result ≡ p.limits.interpreters = c.interpreters-i-end.ensures.value ∙ ap (λ (l : Numbers). l.interpreters) c.limits.ensures in
    let all : c.loop-i.i ≡ p.limits.interpreters = (let a = c.loop-i-test.false in let b = c.loop-i.auto.i-end in omega arith) in
    subst (AreFit p c.args.worked.now) all c.loop-i.invariant
