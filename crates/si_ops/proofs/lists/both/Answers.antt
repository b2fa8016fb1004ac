use Rattle.std.proofs.Common.{◌++◌, sym, ap, ap₂, subst, ◌∙◌}
use Rattle.si_arena.specs.Memory.{all_of, AllLie}
use Rattle.si_ops.proofs.Gathered.{ok_to, lie_joined, all_joined}
use Rattle.si_ops.proofs.lists.both.Goals as goal

pub returns-clause-all : goal.returns-clause-all
returns-clause-all c =
    let m = c.args.arena.now in
    ok_to c.gathered.result _ _ (λ all e. ap (all_of m) e ∙ all_joined m _ _ ∙ ap₂ (λ us vs. us ++ vs) c.items_at.ensures.items c.items_at-2.ensures.items) c.gathered.ensures

pub returns-clause-lie : goal.returns-clause-lie
returns-clause-lie c =
    let m = c.args.arena.now in
    ok_to c.gathered.result _ _ (λ all e. subst (AllLie m) (sym e) (lie_joined m _ _ c.items_at.ensures.lie c.items_at-2.ensures.lie)) c.gathered.ensures
