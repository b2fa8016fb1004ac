-- What the code of augmented assignments gives, of its parts.
use Rattle.std.proofs.Common.{◌≡◌, ◌≢◌, [], ◌∷◌, ◌++◌, List, refl, sym, subst}
use Rattle.si_semantics.specs.Value.{Text}
use Rattle.si_semantics.specs.Tree as tree
use Rattle.si_semantics.specs.Tree.{BinaryOperator}
use Rattle.si_syntax.specs.declared.expr.Expr.{Expr}
use Rattle.si_syntax.specs.Trees.{expr_of}
use Rattle.si_slots.specs.declared.operand.Operand as operand
use Rattle.si_slots.specs.Machine as machine
use Rattle.si_slots.specs.Machine.{Source, Temporary, Kept, Target, ToTemporary}
use Rattle.si_slots.specs.Code.{in_place, single_code, expr_code, augment_instr, augment_item_code}
use Rattle.si_slots.specs.Contents.{Contents}
use Rattle.si_slots.specs.Views.{Gains, locals_now, words_now, operand_of}
use Rattle.si_slots.proofs.Gained.{Gains-append, locals_kept}
use Rattle.si_emit.specs.inner.Fronts.{front, held}
use Rattle.si_emit.proofs.Fronts.{single_is}
use Rattle.si_emit.proofs.Emitted.{Lies, operand_gains}

-- another operator than `+` does what it does in an expression
pub plain_instr : (o : BinaryOperator) (g : Target) (a b : Source) → o ≢ tree.Add → machine.Binary o g a b ≡ augment_instr o g a b
plain_instr tree.Add g a b h = absurd (h refl)
plain_instr o g a b h = refl

-- the object, the index, the item, the expression, the operation, and then the item is set
pub update_gains : {t0 t1 t2 t3 t4 t5 t6 : Contents} (ls : List Text) (o : BinaryOperator) (x y : Expr) (a b v : tree.Expr) (s : operand.Operand) → expr_of x ≡ a → expr_of y ≡ b → locals_now t0 ≡ ls
    → Gains t0 t1 (expr_code ls 0 (ToTemporary 0) (expr_of x)) → Gains t1 t2 (expr_code ls 1 (ToTemporary 1) (expr_of y)) → Gains t2 t3 (machine.Subscript (ToTemporary 2) (Kept 0) (Kept 1) ∷ [])
    → Gains t3 t4 (front (in_place ls v) (expr_code ls 3 (ToTemporary 3) v)) → Lies ls s (held (in_place ls v) 3) → Gains t4 t5 (augment_instr o (ToTemporary 2) (Temporary 2) (operand_of (words_now t4) s) ∷ [])
    → Gains t5 t6 (machine.StoreItem (Temporary 2) (Temporary 0) (Temporary 1) ∷ []) → Gains t0 t6 (augment_item_code ls a b o v)
update_gains {t0} {t1} {t2} {t3} {t4} {t5} {t6} ls o x y a b v s is_object is_index names h0 h1 h2 h3 lies h4 h5 =
    let i : Source → machine.Instr = λ w. augment_instr o (ToTemporary 2) (Temporary 2) w in
    let place = in_place ls v in
    let code = expr_code ls 3 (ToTemporary 3) v in
    let object = subst (λ e. Gains t0 t1 (expr_code ls 0 (ToTemporary 0) e)) is_object h0 in
    let index = subst (λ e. Gains t1 t2 (expr_code ls 1 (ToTemporary 1) e)) is_index h1 in
    let done : Gains t3 t5 (single_code place code 3 i) = subst (Gains t3 t5) (sym (single_is place code 3 i)) (operand_gains ls s (held place 3) (front place code) i (locals_kept h2 (locals_kept h1 (locals_kept h0 names))) h3 lies h4) in
    let last = machine.StoreItem (Temporary 2) (Temporary 0) (Temporary 1) ∷ [] in
    let item = machine.Subscript (ToTemporary 2) (Kept 0) (Kept 1) ∷ [] in
    Gains-append t0 t1 t6 _ _ object (Gains-append t1 t2 t6 _ _ index (Gains-append t2 t3 t6 item (single_code place code 3 i ++ last) h2 (Gains-append t3 t5 t6 (single_code place code 3 i) last done h5)))
