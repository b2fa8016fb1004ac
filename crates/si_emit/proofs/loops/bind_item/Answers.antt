use Rattle.std.proofs.Common.{sym, subst, ◌∙◌}
use Rattle.std.proofs.lemmas.Result.{on_ok_weaker}
use Rattle.si_slots.specs.Code.{name_bound_code}
use Rattle.si_slots.specs.Views.{Gains}
use Rattle.si_slots.proofs.Gained.{Gains-nil}
use Rattle.si_emit.proofs.Places.{place_same}
use Rattle.si_emit.proofs.loops.bind_item.Goals as goal

pub returns-in-Some-clause-ok : goal.returns-in-Some-clause-ok
returns-in-Some-clause-ok c =
    let x = c.args.name.now in let t = c.args.table.now in
    subst (λ o. Gains t t (name_bound_code x o)) (sym (sym (place_same x c.args.locals.now) ∙ (sym c.position.ensures ∙ c.in-Some.is))) (Gains-nil t)

pub returns-in-None-clause-ok : goal.returns-in-None-clause-ok
returns-in-None-clause-ok c =
    let x = c.args.name.now in
    on_ok_weaker c.put_named.result
    (λ h. subst (λ o. Gains c.args.table.now c.put_named.new.self (name_bound_code x o)) (sym (sym (place_same x c.args.locals.now) ∙ (sym c.position.ensures ∙ c.in-None.is))) h)
    c.put_named.ensures.ok
