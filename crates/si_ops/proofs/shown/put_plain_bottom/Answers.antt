use Rattle.std.proofs.Common.{[], Some, sym, subst}
use Rattle.si_semantics.specs.Opened.{opened_at}
use Rattle.si_arena.specs.Memory.{object_of}
use Rattle.si_ops.specs.Writing.{Puts}
use Rattle.si_ops.specs.inner.Written.{repr_within}
use Rattle.si_ops.proofs.Adding.{adds_none}
use Rattle.si_ops.proofs.Showing.{too_deep_at}
use Rattle.si_ops.proofs.shown.put_plain_bottom.Goals as goal

pub returns-in-Thread : goal.returns-in-Thread
returns-in-Thread c = λ m inside x start.
    subst (λ o. Puts {U = Unit {0}} (repr_within 0 m.store inside (opened_at x (Some (object_of m o)))) start c.args.out.now c.put_thread.new.out c.put_thread.result) (sym c.in-Thread.is) (c.put_thread.ensures start)

pub returns-in-Started : goal.returns-in-Started
returns-in-Started c = λ m inside x start.
    subst (λ o. Puts {U = Unit {0}} (repr_within 0 m.store inside (opened_at x (Some (object_of m o)))) start c.args.out.now c.put_thread-in-Started.new.out c.put_thread-in-Started.result) (sym c.in-Started.is) (c.put_thread-in-Started.ensures start)

pub returns-in_default : goal.returns-in_default
returns-in_default c = λ m inside x start.
    ([], too_deep_at m m.store inside x c.args.object c.in_default.not-Thread c.in_default.not-Started, adds_none c.args.out.now)
