-- What the code of assignments gives, of its parts.
use Rattle.std.proofs.Common.{◌≡◌, ℕ, ◌+◌, ◌<◌, ◌≤◌, List, [], ◌∷◌, ◌++◌, length, drop, get_or, map, nat_eq, false, Vec, Global, Option, Some, None, refl, sym, ap, subst, ◌∙◌, append_assoc, arith, eq-eqb, ne_eqb}
use Rattle.std.proofs.lemmas.List.{drop_all}
use Rattle.si_semantics.specs.Value.{Text}
use Rattle.si_semantics.specs.Tree as tree
use Rattle.si_semantics.specs.Tree.{count_of_targets}
use Rattle.si_semantics.specs.Grammar.{exprs_of}
use Rattle.si_semantics.specs.Meaning.{choose}
use Rattle.si_syntax.specs.declared.expr.Expr.{Expr}
use Rattle.si_syntax.specs.declared.expr.Expr.TheViews as views
use Rattle.si_syntax.specs.declared.target.Target.{Target}
use Rattle.si_syntax.specs.Trees.{expr_of, target_of, targets_of}
use Rattle.si_syntax.proofs.Rows.{rest_is}
use Rattle.si_slots.specs.declared.operand.Operand as operand
use Rattle.si_slots.specs.Machine as machine
use Rattle.si_slots.specs.Machine.{Source, Kept, ToTemporary, ToNowhere}
use Rattle.si_slots.specs.Code.{count, in_place, expr_code, target_code, exprs_code, targets_code, each_code, displayed, unpack_code, store_code, assign_target_code, assign_all_code}
use Rattle.si_slots.specs.Contents.{Contents}
use Rattle.si_slots.specs.Views.{Gains, locals_now, words_now, operand_of}
use Rattle.si_slots.proofs.Gained.{Gains-append, locals_kept}
use Rattle.si_emit.specs.inner.Fronts.{front, held}
use Rattle.si_emit.specs.inner.Stores.{stored, one_or}
use Rattle.si_emit.proofs.Fronts.{single_is}
use Rattle.si_emit.proofs.Emitted.{Lies, count_exprs, tuple_is}

-- ---- one target

-- to set an item is one instruction, or else this code
pub store_is : (a b c : Option Source) (code : List machine.Instr) → store_code a b c code ≡ one_or (stored a b c) code
store_is (Some a) (Some b) (Some c) code = refl
store_is (Some a) (Some b) None code = refl
store_is (Some a) None c code = refl
store_is None b c code = refl

-- no one instruction, where the object does not lie in place
pub object_not_stored : (o p r : Option Source) → None ≡ p → stored o p r ≡ None
object_not_stored (Some a) (Some b) r h = absurd cc
object_not_stored (Some a) None r h = refl
object_not_stored None p r h = refl

-- none does it, where the index is not in place
pub not_stored : (a b c : Option Source) (s t : Source) → Some s ≡ a → Some t ≡ b → None ≡ c → stored a b c ≡ None
not_stored a b c s t is_a is_b is_c = ap (λ o. stored o b c) (sym is_a) ∙ ap (λ o. stored (Some s) o c) (sym is_b) ∙ ap (stored (Some s) (Some t)) (sym is_c)

-- an operand that is unpacked, and the targets
pub unpacks : {t0 t1 t2 : Contents} (ls : List Text) (a : tree.Expr) (ts : tree.Targets) (s : operand.Operand) → locals_now t0 ≡ ls → Gains t0 t1 (front (in_place ls a) (expr_code ls 0 (ToTemporary 0) a)) → Lies ls s (held (in_place ls a) 0)
    → Gains t1 t2 (machine.Unpack (operand_of (words_now t1) s) 0 (count_of_targets ts) ∷ targets_code ls 0 ts) → displayed (count_of_targets ts) a ≡ None → Gains t0 t2 (assign_target_code ls (tree.Unpack ts) a)
unpacks {t0} {t1} {t2} ls a ts s names h lies k none =
    let code = expr_code ls 0 (ToTemporary 0) a in
    let before = front (in_place ls a) code in
    let i : Source → machine.Instr = λ v. machine.Unpack v 0 (count_of_targets ts) in
    let row = targets_code ls 0 ts in
    let last = subst (λ v. Gains t1 t2 (i v ∷ row)) (lies (words_now t1) (locals_kept h names)) k in
    let split = ap (λ l. l ++ row) (single_is (in_place ls a) code 0 i) ∙ append_assoc before (i (held (in_place ls a) 0) ∷ []) row in
    subst (Gains t0 t2) (sym (ap (unpack_code ls ts a) none ∙ split)) (Gains-append t0 t1 t2 before (i (held (in_place ls a) 0) ∷ row) h last)

-- a display, whose items are in as many temporaries
pub displays : {t0 t1 : Contents} (ls : List Text) (a : tree.Expr) (ts : tree.Targets) (items : tree.Exprs) → displayed (count_of_targets ts) a ≡ Some items → Gains t0 t1 (exprs_code ls 0 items ++ (machine.Reverse 0 (count_of_targets ts) ∷ targets_code ls 0 ts)) → Gains t0 t1 (assign_target_code ls (tree.Unpack ts) a)
displays {t0} {t1} ls a ts items is h = subst (Gains t0 t1) (sym (ap (unpack_code ls ts a) is)) h

-- the items of a display, where there are as many
pub display_there : (v : Expr) (items : Vec Expr Global) (n : ℕ) → v ≡ views.Tuple items → length items.items ≡ n → displayed n (expr_of v) ≡ Some (exprs_of (map expr_of items.items))
display_there v items n is many =
    let es = exprs_of (map expr_of items.items) in
    ap (λ e. displayed n (expr_of e)) is ∙ ap (displayed n) (tuple_is items) ∙ ap (λ b. choose b (Some es) None) (eq-eqb (count es) n (count_exprs items.items ∙ many))

pub display_other : (v : Expr) (items : Vec Expr Global) (n : ℕ) → v ≡ views.Tuple items → (length items.items ≡ n → ⊥) → displayed n (expr_of v) ≡ None
display_other v items n is other =
    let es = exprs_of (map expr_of items.items) in
    let none : nat_eq (count es) n ≡ false = ne_eqb (count es) n (λ e. other (sym (count_exprs items.items) ∙ e)) in
    ap (λ e. displayed n (expr_of e)) is ∙ ap (displayed n) (tuple_is items) ∙ ap (λ b. choose b (Some es) None) none

-- ---- several targets

-- the code that binds them to the value in the first temporary
abbrev pub Each : List Text → List Target → Target → List machine.Instr
Each ls [] last = target_code ls 0 (target_of last)
Each ls (t ∷ ts) last = machine.Copy (ToTemporary 1) (Kept 0) ∷ (target_code ls 1 (target_of t) ++ Each ls ts last)

each_is : (ls : List Text) (t : Target) (ts : List Target) (last : Target) → each_code ls (target_of t) (targets_of (ts ++ last ∷ [])) ≡ Each ls (t ∷ ts) last
each_is ls t [] last = refl
each_is ls t (u ∷ ts) last = ap (λ l. machine.Copy (ToTemporary 1) (Kept 0) ∷ (target_code ls 1 (target_of t) ++ l)) (each_is ls u ts last)

all_is : (ls : List Text) (others : List Target) (last : Target) (a : tree.Expr) → 0 < length others → assign_all_code ls (targets_of (others ++ last ∷ [])) a ≡ expr_code ls 0 (ToTemporary 0) a ++ Each ls others last
all_is ls [] last a some = absurd (omega (arith, some))
all_is ls (t ∷ []) last a some = refl
all_is ls (t ∷ u ∷ ts) last a some = ap (λ l. expr_code ls 0 (ToTemporary 0) a ++ l) (each_is ls t (u ∷ ts) last)

abbrev pub EachSoFar : List Text → Target → Contents → List Target → Contents → List Target → Type 0
EachSoFar ls last t0 all t1 left = (end : Contents) → Gains t1 end (Each ls left last) → Gains t0 end (Each ls all last)

-- one of them, and then the rest
pub next_each : {t0 t1 t2 t3 : Contents} (ls : List Text) (last : Target) (others : List Target) (i : ℕ) (t : Target) → i < length others → get_or others i t ≡ t → EachSoFar ls last t0 others t1 (drop i others)
    → Gains t1 t2 (machine.Copy (ToTemporary 1) (Kept 0) ∷ []) → Gains t2 t3 (target_code ls 1 (target_of t)) → EachSoFar ls last t0 others t3 (drop (i + 1) others)
next_each {t0} {t1} {t2} {t3} ls last others i t lt is before h k end rest =
    let copied = machine.Copy (ToTemporary 1) (Kept 0) ∷ [] in
    let code = target_code ls 1 (target_of t) in
    let more = Each ls (drop (i + 1) others) last in
    before end (subst (λ l. Gains t1 end (Each ls l last)) (sym (rest_is others i t lt is)) (Gains-append t1 t2 end copied (code ++ more) h (Gains-append t2 t3 end code more k rest)))

-- the value, each of them, and the last
pub all_gains : {t0 t1 t2 t3 : Contents} (ls : List Text) (last : Target) (others : List Target) (i : ℕ) (a : tree.Expr) → 0 < length others → length others ≤ i → EachSoFar ls last t1 others t2 (drop i others)
    → Gains t0 t1 (expr_code ls 0 (ToTemporary 0) a) → Gains t2 t3 (target_code ls 0 (target_of last)) → Gains t0 t3 (assign_all_code ls (targets_of (others ++ last ∷ [])) a)
all_gains {t0} {t1} {t2} {t3} ls last others i a some le before h k =
    let each = before t3 (subst (λ l. Gains t2 t3 (Each ls l last)) (sym (drop_all i others le)) k) in
    subst (Gains t0 t3) (sym (all_is ls others last a some)) (Gains-append t0 t1 t3 (expr_code ls 0 (ToTemporary 0) a) (Each ls others last) h each)

-- ---- how many there are

-- none
pub none_code : (ls : List Text) (all : List Target) (a : tree.Expr) → all ≡ [] → assign_all_code ls (targets_of all) a ≡ expr_code ls 0 ToNowhere a
none_code ls all a is = ap (λ ts. assign_all_code ls (targets_of ts) a) is

-- one
pub one_code : (ls : List Text) (all others : List Target) (last : Target) (a : tree.Expr) → all ≡ others ++ last ∷ [] → others ≡ [] → assign_all_code ls (targets_of all) a ≡ assign_target_code ls (target_of last) a
one_code ls all others last a is none = ap (λ ts. assign_all_code ls (targets_of ts) a) (is ∙ ap (λ l. l ++ last ∷ []) none)

-- two or more
pub more_code : (ls : List Text) (all others : List Target) (last : Target) (a : tree.Expr) → all ≡ others ++ last ∷ [] → assign_all_code ls (targets_of all) a ≡ assign_all_code ls (targets_of (others ++ last ∷ [])) a
more_code ls all others last a is = ap (λ ts. assign_all_code ls (targets_of ts) a) is
