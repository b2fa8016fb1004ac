use Rattle.std.proofs.Common.{[], Result, Ok, Err, sym, subst}
use Rattle.si_semantics.specs.Text.{Broken, unless_inside}
use Rattle.si_arena.specs.declared.cause.Fault.{Fault}
use Rattle.si_arena.specs.declared.cause.Fault.TheVariants.{NoMemory}
use Rattle.si_ops.specs.Writing.{Puts}
use Rattle.si_ops.specs.inner.Written.{addresses_of}
use Rattle.si_ops.proofs.Adding.{adds_none}
use Rattle.si_ops.proofs.Ends.{passed}
use Rattle.si_ops.proofs.Puts.{whole_put, whole_lacks}
use Rattle.si_ops.proofs.Showing.{short_inside, not_inside}
use Rattle.si_ops.proofs.shown.put_again.Goals as goal

pub returns-in_err-put : goal.returns-in_err-put
returns-in_err-put c = λ t start e.
    let ins = addresses_of c.args.inside.now in
    let P : Result (Unit {0}) Fault → Type 0 = λ r. Puts {U = Unit {0}} (unless_inside c.args.address ins t (Broken [])) start c.args.out.now c.put.new.out r in
    passed c.from_residual.result P NoMemory c.from_residual.ensures.1
    (subst (λ w. Puts {U = Unit {0}} w start c.args.out.now c.put.new.out (Err NoMemory)) (sym (short_inside c.args.address ins t (Broken []) c.is_inside.result c.is_inside.ensures c.if-is_inside.true))
    (whole_lacks t start c.args.out.now c.put.new.out e c.in_err-put.ensures.err))

pub returns-then-is_inside : goal.returns-then-is_inside
returns-then-is_inside c = λ t start e.
    let ins = addresses_of c.args.inside.now in
    subst (λ w. Puts {U = Unit {0}} w start c.args.out.now c.put.new.out (Ok tt)) (sym (short_inside c.args.address ins t (Broken []) c.is_inside.result c.is_inside.ensures c.if-is_inside.true))
    (whole_put t start c.args.out.now c.put.new.out e c.in_ok-put.ensures.ok)

pub returns : goal.returns
returns c = λ t start e.
    ([], not_inside c.args.address (addresses_of c.args.inside.now) t (Broken []) c.is_inside.result c.is_inside.ensures c.if-is_inside.false, adds_none c.args.out.now)
