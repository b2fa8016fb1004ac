-- Instructions with an expression as their one operand, where no temporary is in use.
use Rattle.std.proofs.Common.{◌≡◌, [], ◌∷◌, List, sym, subst}
use Rattle.si_semantics.specs.Value.{Text}
use Rattle.si_semantics.specs.Tree as tree
use Rattle.si_slots.specs.declared.operand.Operand as operand
use Rattle.si_slots.specs.Machine as machine
use Rattle.si_slots.specs.Machine.{Source, ToTemporary}
use Rattle.si_slots.specs.Code.{in_place, expr_code, with_code}
use Rattle.si_slots.specs.Contents.{Contents}
use Rattle.si_slots.specs.Views.{Gains, locals_now, words_now, operand_of}
use Rattle.si_emit.specs.inner.Fronts.{front, held}
use Rattle.si_emit.proofs.Fronts.{single_is}
use Rattle.si_emit.proofs.Emitted.{Lies, operand_gains}

-- the operand and then the instruction are its code
pub with_gains : {t0 t1 t2 : Contents} (ls : List Text) (a : tree.Expr) (s : operand.Operand) (i : Source → machine.Instr) → locals_now t0 ≡ ls
    → Gains t0 t1 (front (in_place ls a) (expr_code ls 0 (ToTemporary 0) a)) → Lies ls s (held (in_place ls a) 0) → Gains t1 t2 (i (operand_of (words_now t1) s) ∷ []) → Gains t0 t2 (with_code ls a i)
with_gains {t0} {t1} {t2} ls a s i names h lies k =
    let code = expr_code ls 0 (ToTemporary 0) a in
    subst (Gains t0 t2) (sym (single_is (in_place ls a) code 0 i)) (operand_gains ls s (held (in_place ls a) 0) (front (in_place ls a) code) i names h lies k)
