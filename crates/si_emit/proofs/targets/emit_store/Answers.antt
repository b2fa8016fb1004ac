use Rattle.std.proofs.Common.{◌+◌, subst}
use Rattle.std.proofs.lemmas.Result.{on_ok_weaker}
use Rattle.si_syntax.specs.Trees.{object_of, index_of}
use Rattle.si_slots.specs.Machine as machine
use Rattle.si_slots.specs.Code.{in_place, pair_code, expr_code}
use Rattle.si_slots.specs.Views.{Gains}
use Rattle.si_emit.proofs.targets.emit_store.Goals as goal

pub returns-clause-ok : goal.returns-clause-ok
returns-clause-ok c =
    let ls = c.args.locals.now in
    let a = object_of c.args.item.now in
    let b = index_of c.args.item.now in
    let i = λ (s t : machine.Source). machine.StoreItem (machine.Temporary c.args.d) s t in
    on_ok_weaker c.put_named.result
    (λ h. subst (λ n. Gains c.args.table.now c.put_named.new.self (pair_code (in_place ls a) (in_place ls b) (expr_code ls n (machine.ToTemporary n) a) (expr_code ls (n + 1) (machine.ToTemporary (n + 1)) b) n i)) c.in_ok-above.ensures
    (c.in_ok-object.ensures.ok i c.put_named.new.self h))
    c.put_named.ensures.ok
