use Rattle.std.proofs.Common.{arith, ◌∙◌, subst}
use Rattle.si_schedule.specs.inner.Reading.{IsCanonical}
use Rattle.si_schedule.proofs.Numbers.{number_some, number_none, canonical_of}
use Rattle.si_schedule.proofs.line.number.Goals as goal

pub returns-then-not-is_canonical-clause-none : goal.returns-then-not-is_canonical-clause-none
returns-then-not-is_canonical-clause-none c = λ n lt e.
    let t = c.is_canonical.ensures.1 (canonical_of _ n lt (c.as_bytes.ensures.value ∙ e)) in
    let f = c.if-not-is_canonical.true in
    cc

pub returns-in-Ok-clause-some : goal.returns-in-Ok-clause-some
returns-in-Ok-clause-some c =
    number_some c.args.text.now c.in-Ok.n (subst IsCanonical c.as_bytes.ensures.value (c.is_canonical.ensures.0 c.if-not-is_canonical.false)) c.in-Ok.ensures.value.0

pub returns-in-Err-clause-none : goal.returns-in-Err-clause-none
returns-in-Err-clause-none c = λ n lt e. number_none c.args.text.now n lt e c.in-Err.ensures.value.0

pub returns-in-Ok-clause-small : goal.returns-in-Ok-clause-small
returns-in-Ok-clause-small c = let k = c.in-Ok.ensures.value.0 in let v = k.1 in let b = k.0.1 in omega arith
