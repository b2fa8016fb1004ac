use Rattle.std.proofs.Common.{false, arith}
use Rattle.si_syntax.specs.Trees.{expr_of}
use Rattle.si_slots.specs.Machine as machine
use Rattle.si_slots.proofs.Gained.{length_gained}
use Rattle.si_emit.proofs.Alone.{with_gains}
use Rattle.si_emit.proofs.trying.test_clause.Goals as goal

pub returns-clause-ok : goal.returns-clause-ok
returns-clause-ok c =
    with_gains c.args.locals.now (expr_of c.args.value.now) c.in_ok-operand.operand (λ s. machine.TestClause (machine.ToJump false (machine.Ahead 0)) s) c.requires c.in_ok-operand.ensures.ok c.in_ok-operand.ensures.is c.in_ok-put_named.ensures.ok

pub returns-clause-at : goal.returns-clause-at
returns-clause-at c = omega (arith, c.len-at.ensures, length_gained c.in_ok-put_named.ensures.ok)
