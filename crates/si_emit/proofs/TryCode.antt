-- The code of `try`, once its jumps are aimed.
use Rattle.std.proofs.Common.{◌≡◌, ℕ, ◌+◌, ◌≤◌, List, [], ◌∷◌, ◌++◌, false, length, refl, sym, ap, subst, ◌∙◌, append_assoc, length-append, arith}
use Rattle.std.specs.Prelude.{Result, Ok, Err, OnOk, OnErr}
use Rattle.si_semantics.specs.Value.{Text}
use Rattle.si_semantics.specs.Tree as tree
use Rattle.si_slots.specs.Machine as machine
use Rattle.si_slots.specs.Machine.{Instr, Ahead, ToJump, ToTemporary, Aim}
use Rattle.si_slots.specs.Code.{expr_code, finally_code, in_place, with_code}
use Rattle.si_slots.specs.Contents.{Contents, Extends}
use Rattle.si_slots.specs.inner.Jumps.{Aims}
use Rattle.si_slots.specs.Views.{Gains}
use Rattle.si_slots.proofs.Growth.{Extends-same}
use Rattle.si_slots.proofs.Gained.{Gains-append}
use Rattle.si_emit.specs.inner.Fronts.{front, held}
use Rattle.si_emit.proofs.Fronts.{Ending, single_is}
use Rattle.si_emit.proofs.Branches.{test_at}

-- a call that adds to a table, or leaves it as it was
pub extends_put : {T E : Type 0} {a b : Contents} (r : Result T E) → OnOk r (Extends a b) → OnErr r (b ≡ a) → Extends a b
extends_put (Ok x) h k = h
extends_put {T} {E} {a} {b} (Err e) h k = subst (Extends a) (sym k) (Extends-same a)

-- ---- finally suites

-- what ends what stands in front of one: what is left there leads to what follows
abbrev pub Starts : Contents → ℕ → Contents → Type 0
Starts old enter new =
    (front : Contents) (before body : List Instr) → Gains front old (before ++ machine.EnterFinally 0 ∷ body) → enter ≡ length front.lines + length before
    → Gains front new (before ++ (machine.EnterFinally (length body + 1) ∷ (body ++ machine.StartFinally ∷ [])))

pub starts_gains : {t0 t1 t2 : Contents} (enter : ℕ) → Gains t0 t1 (machine.StartFinally ∷ []) → Aims t1 enter t2 → Starts t0 enter t2
starts_gains {t0} {t1} {t2} enter h aim front before body g here =
    let more = body ++ machine.StartFinally ∷ [] in
    let all = subst (Gains front t1) (append_assoc before (machine.EnterFinally 0 ∷ body) (machine.StartFinally ∷ [])) (Gains-append front t0 t1 (before ++ machine.EnterFinally 0 ∷ body) (machine.StartFinally ∷ []) g h) in
    let far : length more ≡ length body + 1 = omega (arith, length-append body (machine.StartFinally ∷ [])) in
    subst (Gains front t2) (ap (λ n. before ++ (machine.EnterFinally n ∷ more)) far) (aim front before more (machine.EnterFinally 0) all here)

-- what unbinds a name after a suite
abbrev pub Leaves : Contents → ℕ → Instr → Contents → Type 0
Leaves old enter unbind new =
    (front : Contents) (before body : List Instr) → Gains front old (before ++ machine.EnterFinally 0 ∷ body) → enter ≡ length front.lines + length before
    → Gains front new (before ++ finally_code body (unbind ∷ []))

pub leaves_gains : {t0 t1 t2 t3 : Contents} (unbind : Instr) (enter : ℕ) → Starts t0 enter t1 → Gains t1 t2 (unbind ∷ []) → Gains t2 t3 (machine.EndFinally ∷ []) → Leaves t0 enter unbind t3
leaves_gains {t0} {t1} {t2} {t3} unbind enter starts k l front before body g here =
    let more = body ++ machine.StartFinally ∷ [] in
    let end = unbind ∷ (machine.EndFinally ∷ []) in
    let first = machine.EnterFinally (length body + 1) in
    subst (Gains front t3) (append_assoc before (first ∷ more) end ∙ ap (λ x. before ++ (first ∷ x)) (append_assoc body (machine.StartFinally ∷ []) end))
    (Gains-append front t1 t3 (before ++ (first ∷ more)) end (starts front before body g here) (Gains-append t1 t2 t3 (unbind ∷ []) (machine.EndFinally ∷ []) k l))

-- ---- `try`

-- what ends the suite: an exception leads to what follows
abbrev pub Skips : Contents → ℕ → Contents → Type 0
Skips old enter new =
    (front : Contents) (before rest : List Instr) → Gains front old (before ++ machine.EnterTry 0 ∷ rest) → enter ≡ length front.lines + length before
    → Gains front new (before ++ (machine.EnterTry (length rest + 2) ∷ (rest ++ (machine.LeaveBlock ∷ (machine.Jump 0 ∷ [])))))

pub skips_gains : {t0 t1 t2 t3 : Contents} (enter : ℕ) → Gains t0 t1 (machine.LeaveBlock ∷ []) → Gains t1 t2 (machine.Jump 0 ∷ []) → Aims t2 enter t3 → Skips t0 enter t3
skips_gains {t0} {t1} {t2} {t3} enter h k aim front before rest g here =
    let end = machine.LeaveBlock ∷ (machine.Jump 0 ∷ []) in
    let more = rest ++ end in
    let ends = Gains-append t0 t1 t2 (machine.LeaveBlock ∷ []) (machine.Jump 0 ∷ []) h k in
    let all = subst (Gains front t2) (append_assoc before (machine.EnterTry 0 ∷ rest) end) (Gains-append front t0 t2 (before ++ machine.EnterTry 0 ∷ rest) end g ends) in
    let far : length more ≡ length rest + 2 = omega (arith, length-append rest end) in
    subst (Gains front t3) (ap (λ n. before ++ (machine.EnterTry n ∷ more)) far) (aim front before more (machine.EnterTry 0) all here)

-- ---- except clauses

-- the test of a clause, by where its jump leads
abbrev pub ClauseTest : List Text → tree.Expr → Aim → List Instr
ClauseTest ls e a = with_code ls e (λ s. machine.TestClause (ToJump false a) s)

pub ending_clause : (ls : List Text) (e : tree.Expr) → Ending (ClauseTest ls e)
ending_clause ls e =
    let o = in_place ls e in let code = expr_code ls 0 (ToTemporary 0) e in
    record { before = front o code; last = λ a. machine.TestClause (ToJump false a) (held o 0); is = λ a. single_is o code 0 (λ s. machine.TestClause (ToJump false a) s); leads = λ a b. refl }

-- a clause's test stands after what there was
pub clause_test_after : {t0 t1 : Contents} (ls : List Text) (e : tree.Expr) (at : ℕ) → at + 1 ≡ length t1.lines → Gains t0 t1 (ClauseTest ls e (Ahead 0)) → length t0.lines ≤ at
clause_test_after ls e at here h = omega (arith, here, test_at (ClauseTest ls e) (ending_clause ls e) h)

-- it passes over the suite and the jump after that
pub tested_gains : {t0 t1 t2 t3 : Contents} (ls : List Text) (e : tree.Expr) (body : List Instr) (skip : ℕ) → skip + 1 ≡ length t1.lines
    → Gains t0 t1 (ClauseTest ls e (Ahead 0)) → Gains t1 t2 (body ++ (machine.LeaveBlock ∷ (machine.Jump 0 ∷ []))) → Aims t2 skip t3
    → Gains t0 t3 (ClauseTest ls e (Ahead (length body + 2)) ++ (body ++ (machine.LeaveBlock ∷ (machine.Jump 0 ∷ []))))
tested_gains {t0} {t1} {t2} {t3} ls e body skip here h k aim =
    let test = ClauseTest ls e in let end = ending_clause ls e in
    let rest = body ++ (machine.LeaveBlock ∷ (machine.Jump 0 ∷ [])) in
    let all : Gains t0 t2 (test (Ahead 0) ++ rest) = Gains-append t0 t1 t2 (test (Ahead 0)) rest h k in
    let split : test (Ahead 0) ++ rest ≡ end.before ++ end.last (Ahead 0) ∷ rest = ap (λ l. l ++ rest) (end.is (Ahead 0)) ∙ append_assoc end.before (end.last (Ahead 0) ∷ []) rest in
    let place : skip ≡ length t0.lines + length end.before = omega (arith, here, test_at test end h) in
    let far : length rest ≡ length body + 2 = omega (arith, length-append body (machine.LeaveBlock ∷ (machine.Jump 0 ∷ []))) in
    let led = end.leads (Ahead 0) (Ahead (length rest)) ∙ ap (λ n. end.last (Ahead n)) far in
    let joins : test (Ahead (length body + 2)) ++ rest ≡ end.before ++ end.last (Ahead (length body + 2)) ∷ rest =
    ap (λ l. l ++ rest) (end.is (Ahead (length body + 2))) ∙ append_assoc end.before (end.last (Ahead (length body + 2)) ∷ []) rest in
    subst (Gains t0 t3) (ap (λ i. end.before ++ i ∷ rest) led ∙ sym joins) (aim t0 end.before rest (end.last (Ahead 0)) (subst (Gains t0 t2) split all) place)
