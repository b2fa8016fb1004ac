use Rattle.std.proofs.Common.{◌≡◌, None, sym, subst, ◌∙◌}
use Rattle.std.proofs.lemmas.Result.{on_ok_weaker}
use Rattle.si_syntax.specs.Trees.{expr_of}
use Rattle.si_semantics.specs.Scope.{place_of}
use Rattle.si_slots.specs.Machine as machine
use Rattle.si_slots.specs.Code.{assign_code}
use Rattle.si_slots.specs.Views.{Gains}
use Rattle.si_emit.proofs.Places.{place_same}
use Rattle.si_emit.proofs.Alone.{with_gains}
use Rattle.si_emit.proofs.naming.bind_value.Goals as goal

pub returns-in_ok-operand-in-None-clause-ok : goal.returns-in_ok-operand-in-None-clause-ok
returns-in_ok-operand-in-None-clause-ok c =
    let x = c.args.name.now in let ls = c.args.locals.now in let a = expr_of c.args.value.now in
    let global : place_of x ls ≡ None = sym (place_same x ls) ∙ (sym c.position.ensures ∙ c.in-None.is) in
    on_ok_weaker c.put_named.result
    (λ h. subst (λ o. Gains c.args.table.now c.put_named.new.self (assign_code ls x o a)) (sym global)
    (with_gains ls a c.in_ok-operand-in-None.operand (λ s. machine.StoreGlobal x s) c.requires c.in_ok-operand-in-None.ensures.ok c.in_ok-operand-in-None.ensures.is h))
    c.put_named.ensures.ok
