use Rattle.std.proofs.Common.{sym, subst}
use Rattle.si_arena.specs.Memory.{AllLie}
use Rattle.si_ops.proofs.Gathered.{ok_to, lie_joined}
use Rattle.si_ops.proofs.tuples.joined.Goals as goal

pub returns-clause-lie : goal.returns-clause-lie
returns-clause-lie c =
    let m = c.args.arena.now in
    ok_to c.gathered.result _ _ (λ all e. subst (AllLie m) (sym e) (lie_joined m _ _ c.members.ensures.lie c.members-2.ensures.lie)) c.gathered.ensures
