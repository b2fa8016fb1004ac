use Rattle.std.proofs.Common.{sym, subst}
use Rattle.si_semantics.specs.Operations.{raised_by, type_error}
use Rattle.si_arena.specs.Memory.{value_of, contents_of, Lies}
use Rattle.si_ops.specs.Raised.{IsRaised}
use Rattle.si_ops.proofs.Gathered.{ok_to}
use Rattle.si_ops.proofs.Raising.{raised_none, raised_itself, no_exception}
use Rattle.si_ops.proofs.exceptions.raised_by.Goals as goal

pub returns-then-is_exception-clause-ok : goal.returns-then-is_exception-clause-ok
returns-then-is_exception-clause-ok c =
    let m = c.args.arena.now in
    let x = c.in-Object.address in
    subst (λ r. IsRaised (λ w. raised_by (value_of m r) w) m m x) (sym c.in-Object.is) (raised_itself m x (contents_of m c.object.result) c.is_exception.result (subst (Lies m) c.in-Object.is c.requires) c.object.ensures.object (c.is_exception.ensures m) c.if-is_exception.true)

pub returns-else-is_exception-clause-ok : goal.returns-else-is_exception-clause-ok
returns-else-is_exception-clause-ok c =
    let m = c.args.arena.now in
    let new = c.raised_for.new.arena in
    let a = c.in-Object.address in
    ok_to c.raised_for.result (λ x. IsRaised (λ w. type_error w) m new x) (λ x. IsRaised (λ w. raised_by (value_of m c.args.value) w) m new x)
    (λ x p. subst (λ r. IsRaised (λ w. raised_by (value_of m r) w) m new x) (sym c.in-Object.is) (raised_none m new a x (contents_of m c.object.result) c.is_exception.result (c.is_exception.ensures m) c.if-is_exception.false c.object.ensures.object p))
    c.raised_for.ensures.ok

pub returns-else-is_exception-clause-memory : goal.returns-else-is_exception-clause-memory
returns-else-is_exception-clause-memory c = λ x k a e f.
    let m = c.args.arena.now in
    absurd (no_exception m.store c.args.value c.in-Object.address x (contents_of m c.object.result) c.is_exception.result k a c.in-Object.is e c.object.ensures.object (c.is_exception.ensures m) c.if-is_exception.false f)
