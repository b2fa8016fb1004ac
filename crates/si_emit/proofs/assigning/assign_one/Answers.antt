use Rattle.std.proofs.Common.{sym, ap, subst, ◌∙◌}
use Rattle.std.proofs.lemmas.Result.{on_ok_weaker}
use Rattle.si_semantics.specs.Tree as tree
use Rattle.si_syntax.specs.Trees.{expr_of, target_of, targets_of}
use Rattle.si_slots.specs.Code.{assign_target_code}
use Rattle.si_slots.specs.Views.{Gains}
use Rattle.si_emit.proofs.TargetCode.{unpack_is}
use Rattle.si_emit.proofs.assigning.assign_one.Goals as goal

pub returns-in-Unpack-clause-ok : goal.returns-in-Unpack-clause-ok
returns-in-Unpack-clause-ok c =
    let ls = c.args.locals.now in let v = expr_of c.args.value.now in
    let t = c.args.table.now in
    let same = ap target_of c.in-Unpack.is ∙ unpack_is c.in-Unpack.targets in
    on_ok_weaker c.assign_row.result
    (λ h. subst (λ g. Gains t c.assign_row.new.table (assign_target_code ls g v)) (sym same)
    (subst (λ l. Gains t c.assign_row.new.table (assign_target_code ls (tree.Unpack (targets_of l)) v)) c.deref.ensures.value h))
    c.assign_row.ensures.ok
