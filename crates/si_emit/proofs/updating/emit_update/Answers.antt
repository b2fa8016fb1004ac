use Rattle.std.proofs.Common.{[], ◌∷◌, refl, subst}
use Rattle.std.proofs.lemmas.Result.{on_ok_weaker}
use Rattle.si_semantics.specs.Tree as tree
use Rattle.si_syntax.specs.Trees.{expr_of}
use Rattle.si_slots.specs.Code.{augment_instr, augmented_code}
use Rattle.si_slots.specs.Views.{Gains, target_of, words_now}
use Rattle.si_emit.proofs.Emitted.{pair_gains}
use Rattle.si_emit.proofs.updating.emit_update.Goals as goal

pub returns-clause-ok : goal.returns-clause-ok
returns-clause-ok c =
    let ls = c.args.locals.now in let g = target_of c.args.target in
    let o = c.args.statement.now.operator in let v = expr_of c.args.statement.now.value in
    let t = c.emit_operand.new.table in
    on_ok_weaker c.put_named.result
    (λ h. subst (λ x. Gains c.args.table.now c.put_named.new.self (augmented_code ls g x o v)) c.as_str.ensures.value
    (pair_gains ls 0 g 1 (tree.Name c.as_str.result.now) v c.lies_in_place-stays.result c.in_ok-a.a c.in_ok-b.b (λ s t. augment_instr o g s t) refl c.lies_in_place-stays.ensures c.requires
    c.in_ok-a.ensures.ok c.in_ok-a.ensures.is c.in_ok-b.ensures.ok c.in_ok-b.ensures.is (subst (λ i. Gains t c.put_named.new.self (i ∷ [])) (c.augmented.ensures.is (words_now t)) h)))
    c.put_named.ensures.ok
