-- What the code that binds targets gives, of its parts.
use Rattle.std.proofs.Common.{◌≡◌, ℕ, ◌+◌, ◌<◌, ◌≤◌, List, [], ◌∷◌, length, drop, get_or, Vec, Global, Bool, refl, sym, ap, subst, ◌∙◌, length-drop, arith}
use Rattle.std.proofs.lemmas.List.{drop_all}
use Rattle.si_semantics.specs.Value.{Text}
use Rattle.si_semantics.specs.Tree as tree
use Rattle.si_semantics.specs.Tree.{count_of_targets}
use Rattle.si_syntax.specs.declared.expr.Expr.{Expr}
use Rattle.si_syntax.specs.declared.target.Item.{Item}
use Rattle.si_syntax.specs.declared.target.Target.{Target}
use Rattle.si_syntax.specs.declared.target.Target.TheFolds.{fold-roll-Target}
use Rattle.si_syntax.specs.declared.target.Target.TheOpen.{Target-F}
use Rattle.si_syntax.specs.declared.target.Target.TheVariants.{rolls-Unpack}
use Rattle.si_syntax.specs.declared.target.Target.TheViews as views
use Rattle.si_syntax.specs.Trees.{expr_of, object_of, index_of, target_of, targets_of, target_step}
use Rattle.si_syntax.proofs.Rows.{rest_is}
use Rattle.si_slots.specs.declared.operand.Operand as operand
use Rattle.si_slots.specs.Machine as machine
use Rattle.si_slots.specs.Machine.{Source, ToTemporary}
use Rattle.si_slots.specs.Code.{in_place, pair_code, expr_code, target_code, targets_code}
use Rattle.si_slots.specs.Contents.{Contents}
use Rattle.si_slots.specs.Views.{Gains, locals_now, words_now, operand_of}
use Rattle.si_slots.proofs.Gained.{Gains-nil, Gains-append}
use Rattle.si_emit.specs.inner.Fronts.{kept, front, held, is_there}
use Rattle.si_emit.proofs.Emitted.{Lies, pair_gains}

-- the tree of a row of targets
pub unpack_is : (ts : Vec Target Global) → target_of (views.Unpack ts) ≡ tree.Unpack (targets_of ts.items)
unpack_is ts = ap target_of (sym (rolls-Unpack ts)) ∙ fold-roll-Target tree.Target target_step (Target-F.Unpack ts)

-- as many targets as there are trees of them
pub count_row : (ts : List Target) → count_of_targets (targets_of ts) ≡ length ts
count_row [] = refl
count_row (t ∷ ts) = omega (arith, count_row ts)

-- ---- an item

-- an object and an index, and an instruction with both
pub item_gains : {t0 t1 t2 t3 : Contents} (ls : List Text) (d up : ℕ) (item : Item) (x y z : Expr) (stays : Bool) (s u : operand.Operand) (i : Source → Source → machine.Instr)
    → x ≡ item.object.value → y ≡ item.index.value → z ≡ item.index.value → up ≡ d + 1 → stays ≡ is_there (in_place ls (expr_of z)) → locals_now t0 ≡ ls
    → Gains t0 t1 (front (kept stays (in_place ls (expr_of x))) (expr_code ls d (ToTemporary d) (expr_of x))) → Lies ls s (held (kept stays (in_place ls (expr_of x))) d)
    → Gains t1 t2 (front (in_place ls (expr_of y)) (expr_code ls up (ToTemporary up) (expr_of y))) → Lies ls u (held (in_place ls (expr_of y)) up)
    → Gains t2 t3 (i (operand_of (words_now t2) s) (operand_of (words_now t2) u) ∷ [])
    → Gains t0 t3 (pair_code (in_place ls (object_of item)) (in_place ls (index_of item)) (expr_code ls d (ToTemporary d) (object_of item)) (expr_code ls (d + 1) (ToTemporary (d + 1)) (index_of item)) d i)
item_gains {t0} {t1} {t2} {t3} ls d up item x y z stays s u i at_object at_index at_there next there names h lies k lies_right l =
    let first = subst (λ e. Gains t0 t1 (front (kept stays (in_place ls (expr_of e))) (expr_code ls d (ToTemporary d) (expr_of e)))) at_object h in
    let left = subst (λ e. Lies ls s (held (kept stays (in_place ls (expr_of e))) d)) at_object lies in
    let second = subst (λ e. Gains t1 t2 (front (in_place ls (expr_of e)) (expr_code ls up (ToTemporary up) (expr_of e)))) at_index k in
    let right = subst (λ e. Lies ls u (held (in_place ls (expr_of e)) up)) at_index lies_right in
    let known = there ∙ ap (λ e. is_there (in_place ls (expr_of e))) at_there in
    pair_gains ls d (ToTemporary d) up (object_of item) (index_of item) stays s u i next known names first left second right l

-- ---- targets in a row

module _ (ls : List Text) (d : ℕ) where
  -- with the code of the targets that are left it is this code
  abbrev pub SoFar : Contents → List machine.Instr → Contents → List Target → Type 0
  SoFar t0 code t1 left = (end : Contents) → Gains t1 end (targets_code ls d (targets_of left)) → Gains t0 end code

  -- an instruction with their number, and then all of them
  pub row_after : {t0 t1 t2 : Contents} (i : ℕ → machine.Instr) (ts : List Target) (n : ℕ) → n ≡ length ts → Gains t0 t1 (i n ∷ []) → Gains t1 t2 (targets_code ls d (targets_of ts))
      → Gains t0 t2 (i (count_of_targets (targets_of ts)) ∷ targets_code ls d (targets_of ts))
  row_after {t0} {t1} {t2} i ts n many h rest =
      Gains-append t0 t1 t2 (i (count_of_targets (targets_of ts)) ∷ []) (targets_code ls d (targets_of ts)) (subst (λ m. Gains t0 t1 (i m ∷ [])) (many ∙ sym (count_row ts)) h) rest

  -- one of several, whose item lies so far above those of the rest, and then the rest
  pub next_target : {t0 t1 t2 : Contents} (code : List machine.Instr) (at : ℕ) (ts : List Target) (i : ℕ) (t : Target) → i < length ts → get_or ts i t ≡ t → at + (i + 1) ≡ d + length ts
      → SoFar t0 code t1 (drop i ts) → Gains t1 t2 (target_code ls at (target_of t)) → SoFar t0 code t2 (drop (i + 1) ts)
  next_target {t0} {t1} {t2} code at ts i t lt is above before here end rest =
      let others = drop (i + 1) ts in
      let place : at ≡ d + count_of_targets (targets_of others) = omega (arith, lt, above, count_row others, length-drop (i + 1) ts) in
      let bound = subst (λ n. Gains t1 t2 (target_code ls n (target_of t))) place here in
      before end (subst (λ l. Gains t1 end (targets_code ls d (targets_of l))) (sym (rest_is ts i t lt is)) (Gains-append t1 t2 end _ _ bound rest))

  pub last_target : {t0 t1 : Contents} (code : List machine.Instr) (ts : List Target) (i : ℕ) → length ts ≤ i → SoFar t0 code t1 (drop i ts) → Gains t0 t1 code
  last_target {t0} {t1} code ts i le before = before t1 (subst (λ l. Gains t1 t1 (targets_code ls d (targets_of l))) (sym (drop_all i ts le)) (Gains-nil t1))
