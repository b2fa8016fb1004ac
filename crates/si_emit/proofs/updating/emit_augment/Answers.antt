use Rattle.std.proofs.Common.{◌≡◌, [], ◌∷◌, Some, None, sym, ap, subst, ◌∙◌, string_bytes}
use Rattle.std.proofs.lemmas.Result.{on_ok_weaker}
use Rattle.si_semantics.specs.Scope.{place_of}
use Rattle.si_syntax.specs.Trees.{expr_of}
use Rattle.si_slots.specs.Machine as machine
use Rattle.si_slots.specs.Code.{augment_code, augmented_code}
use Rattle.si_slots.specs.Views.{Gains}
use Rattle.si_slots.proofs.Gained.{Gains-append}
use Rattle.si_emit.proofs.Places.{place_same}
use Rattle.si_emit.proofs.updating.emit_augment.Goals as goal

pub returns-in-Some-clause-ok : goal.returns-in-Some-clause-ok
returns-in-Some-clause-ok c =
    let x = string_bytes c.args.statement.now.name in let ls = c.args.locals.now in
    let place : place_of x ls ≡ Some c.in-Some.place = ap (λ y. place_of y ls) (sym c.as_str-name.ensures.value) ∙ sym (place_same c.as_str-name.result.now ls) ∙ sym c.position.ensures ∙ c.in-Some.is in
    on_ok_weaker c.emit_update.result
    (λ h. subst (λ p. Gains c.args.table.now c.emit_update.new.table (augment_code ls x p c.args.statement.now.operator (expr_of c.args.statement.now.value))) (sym place) h)
    c.emit_update.ensures.ok

pub returns-in_ok-emit_update-in-None-clause-ok : goal.returns-in_ok-emit_update-in-None-clause-ok
returns-in_ok-emit_update-in-None-clause-ok c =
    let x = string_bytes c.args.statement.now.name in let ls = c.args.locals.now in
    let a = expr_of c.args.statement.now.value in let o = c.args.statement.now.operator in
    let t = c.emit_update-in-None.new.table in
    let place : place_of x ls ≡ None = ap (λ y. place_of y ls) (sym c.as_str-name.ensures.value) ∙ sym (place_same c.as_str-name.result.now ls) ∙ sym c.position.ensures ∙ c.in-None.is in
    on_ok_weaker c.put_named.result
    (λ h. subst (λ p. Gains c.args.table.now c.put_named.new.self (augment_code ls x p o a)) (sym place)
    (Gains-append _ _ _ (augmented_code ls (machine.ToTemporary 0) x o a) (machine.StoreGlobal x (machine.Temporary 0) ∷ []) c.in_ok-emit_update-in-None.ensures.ok
    (subst (λ y. Gains t c.put_named.new.self (machine.StoreGlobal y (machine.Temporary 0) ∷ [])) c.as_str-name.ensures.value h)))
    c.put_named.ensures.ok
