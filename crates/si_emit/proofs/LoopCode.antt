-- What the parts of loops give, once their starts are told where they lead.
use Rattle.std.proofs.Common.{◌≡◌, ℕ, ◌+◌, ◌-◌, ◌≤◌, List, [], ◌∷◌, ◌++◌, length, true, Result, Ok, Err, OnOk, OnErr, sym, ap, subst, ◌∙◌, append_assoc, length-append, arith}
use Rattle.si_semantics.specs.Value.{Text}
use Rattle.si_semantics.specs.Tree as tree
use Rattle.si_slots.specs.declared.operand.Operand as operand
use Rattle.si_slots.specs.Machine as machine
use Rattle.si_slots.specs.Machine.{Source, ToTemporary, ToJump, Target, Ahead, Back}
use Rattle.si_slots.specs.Code.{in_place, expr_code, with_code, condition_code, loop_code, for_code}
use Rattle.si_slots.specs.Contents.{Contents, Extends}
use Rattle.si_slots.specs.Views.{Gains, locals_now, words_now, operand_of}
use Rattle.si_slots.specs.inner.Jumps.{Leads, Bounds}
use Rattle.si_slots.proofs.Gained.{Extends-trans, Gains-append, length_gained}
use Rattle.si_emit.specs.inner.Fronts.{front, held}
use Rattle.si_emit.specs.inner.Turns.{turn_code}
use Rattle.si_emit.proofs.Fronts.{single_is}
use Rattle.si_emit.proofs.Emitted.{Lies, operand_gains}
use Rattle.si_emit.proofs.Conditions.{ending_repeat}

-- one instruction more, or the table as it was
pub put_extends : {X E : Type 0} (a b c : Contents) (r : Result X E) → Extends a b → OnOk r (Extends b c) → OnErr r (c ≡ b) → Extends a c
put_extends a b c (Ok x) h more same = Extends-trans a b c h more
put_extends a b c (Err e) h more same = subst (Extends a) (sym same) h

-- ---- `while`

-- a test that leads back is as long wherever it leads
long_as : (ls : List Text) (e : tree.Expr) (back : ℕ) → length (condition_code ls e (ToJump true (Back back))) ≡ length (condition_code ls e (ToJump true (Back 0)))
long_as ls e back =
    let n = ending_repeat ls e in
    omega (arith, ap length (n.is (Back back)), ap length (n.is (Back 0)), length-append n.before (n.last (Back back) ∷ []), length-append n.before (n.last (Back 0) ∷ []))

pub turn_gains : {t0 t1 t2 t3 : Contents} (ls : List Text) (e : tree.Expr) (at body : ℕ) → at + 1 ≡ length t1.lines → body ≤ length t0.lines
    → Gains t0 t1 (condition_code ls e (ToJump true (Ahead 0))) → Leads t1 at (Back (at + 1 - body)) t2 → Gains t2 t3 (machine.LeaveBlock ∷ []) → Gains t0 t3 (turn_code (condition_code ls e) (length t0.lines - body))
turn_gains {t0} {t1} {t2} {t3} ls e at body here le h leads leave =
    let test : Target → List machine.Instr = condition_code ls e in
    let n = ending_repeat ls e in
    let gains : Gains t0 t1 (n.before ++ n.last (Ahead 0) ∷ []) = subst (Gains t0 t1) (n.is (Ahead 0)) h in
    let place : at ≡ length t0.lines + length n.before = omega (arith, here, length_gained gains, length-append n.before (n.last (Ahead 0) ∷ [])) in
    let size : length (test (ToJump true (Back 0))) ≡ length n.before + 1 = omega (arith, ap length (n.is (Back 0)), length-append n.before (n.last (Back 0) ∷ [])) in
    let far : at + 1 - body ≡ length t0.lines - body + length (test (ToJump true (Back 0))) = omega (arith, place, size, le) in
    let same = ap (λ i. n.before ++ i ∷ []) (n.leads (Ahead 0) (Back (at + 1 - body))) ∙ sym (n.is (Back (at + 1 - body))) ∙ ap (λ k. test (ToJump true (Back k))) far in
    Gains-append t0 t2 t3 (test (ToJump true (Back (length t0.lines - body + length (test (ToJump true (Back 0))))))) (machine.LeaveBlock ∷ []) (subst (Gains t0 t2) same (leads t0 n.before [] (n.last (Ahead 0)) gains place)) leave

-- what stands after the test is after what stood in front of it
pub turn_after : {t0 t1 : Contents} (ls : List Text) (e : tree.Expr) (at : ℕ) → at + 1 ≡ length t1.lines → Gains t0 t1 (condition_code ls e (ToJump true (Ahead 0))) → length t0.lines ≤ at
turn_after {t0} {t1} ls e at here h =
    let n = ending_repeat ls e in
    omega (arith, here, length_gained h, ap length (n.is (Ahead 0)), length-append n.before (n.last (Ahead 0) ∷ []))

pub while_gains : {t0 t1 t2 t3 t4 t5 : Contents} (ls : List Text) (e : tree.Expr) (body last : List machine.Instr) (start turn : ℕ) → start ≡ length t0.lines → turn ≡ length t2.lines
    → Gains t0 t1 (machine.EnterLoop 0 0 ∷ []) → Gains t1 t2 body → Gains t2 t3 (turn_code (condition_code ls e) (length t2.lines - (start + 1))) → Gains t3 t4 last → Bounds t4 start turn t5
    → Gains t0 t5 (loop_code (condition_code ls e) body last)
while_gains {t0} {t1} {t2} {t3} {t4} {t5} ls e body last start turn here there h0 h1 h2 h3 bounds =
    let size = length (condition_code ls e (ToJump true (Back 0))) in
    let test = condition_code ls e (ToJump true (Back (length body + size))) in
    let long : length t2.lines ≡ start + 1 + length body = omega (arith, here, length_gained h0, length_gained h1) in
    let near : length t2.lines - (start + 1) ≡ length body = omega (arith, long) in
    let rest = body ++ (test ++ (machine.LeaveBlock ∷ last)) in
    let turned : Gains t2 t4 (test ++ (machine.LeaveBlock ∷ last)) =
    subst (Gains t2 t4) (append_assoc test (machine.LeaveBlock ∷ []) last) (Gains-append t2 t3 t4 (test ++ machine.LeaveBlock ∷ []) last (subst (λ n. Gains t2 t3 (turn_code (condition_code ls e) n)) near h2) h3) in
    let all : Gains t0 t4 (machine.EnterLoop 0 0 ∷ rest) = Gains-append t0 t1 t4 (machine.EnterLoop 0 0 ∷ []) rest h0 (Gains-append t1 t2 t4 body (test ++ (machine.LeaveBlock ∷ last)) h1 turned) in
    let place : start ≡ length t0.lines + 0 = omega (arith, here) in
    let to_test : turn - start - 1 ≡ length body = omega (arith, there, long) in
    let to_end : length rest ≡ length body + size + 1 + length last = omega (arith, length-append body (test ++ (machine.LeaveBlock ∷ last)), length-append test (machine.LeaveBlock ∷ last), long_as ls e (length body + size)) in
    subst (λ m. Gains t0 t5 (machine.EnterLoop (length body) m ∷ rest)) to_end (subst (λ m. Gains t0 t5 (machine.EnterLoop m (length rest) ∷ rest)) to_test (bounds t0 [] rest (machine.EnterLoop 0 0) all place))

-- ---- `for`

-- the entry of a `for` that isn't told yet where it leads, and what follows
abbrev pub entry : List Text → tree.Expr → List machine.Instr
entry ls a = with_code ls a (λ s. machine.StartFor 0 0 s)

module _ (ls : List Text) (a : tree.Expr) where
  -- what it goes over, and the entry
  pub entry_gains : {t0 t1 t2 t3 : Contents} (s : operand.Operand) (bound : List machine.Instr) → locals_now t0 ≡ ls → Gains t0 t1 (front (in_place ls a) (expr_code ls 0 (ToTemporary 0) a)) → Lies ls s (held (in_place ls a) 0)
      → Gains t1 t2 (machine.StartFor 0 0 (operand_of (words_now t1) s) ∷ []) → Gains t2 t3 bound → Gains t0 t3 (entry ls a ++ bound)
  entry_gains {t0} {t1} {t2} {t3} s bound names h lies k l =
      let place = in_place ls a in
      let code = expr_code ls 0 (ToTemporary 0) a in
      let i : Source → machine.Instr = λ v. machine.StartFor 0 0 v in
      let started = operand_gains ls s (held place 0) (front place code) i names h lies k in
      Gains-append t0 t2 t3 (entry ls a) bound (subst (Gains t0 t2) (sym (single_is place code 0 i)) started) l

  pub entry_at : {t0 t1 : Contents} (at : ℕ) → at ≡ length t1.lines → Gains t0 t1 (front (in_place ls a) (expr_code ls 0 (ToTemporary 0) a)) → at + 1 ≡ length t0.lines + length (entry ls a)
  entry_at {t0} {t1} at here h =
      let place = in_place ls a in
      let code = expr_code ls 0 (ToTemporary 0) a in
      omega (arith, here, length_gained h, ap length (single_is place code 0 (λ v. machine.StartFor 0 0 v)), length-append (front place code) (machine.StartFor 0 0 (held place 0) ∷ []))

  for_start : {t0 t4 t5 : Contents} (rest : List machine.Instr) (start next : ℕ) → start + 1 ≡ length t0.lines + length (entry ls a) → Gains t0 t4 (entry ls a ++ rest) → Bounds t4 start next t5
      → Gains t0 t5 (with_code ls a (λ s. machine.StartFor (next - start - 1) (length rest) s) ++ rest)
  for_start {t0} {t4} {t5} rest start next here all bounds =
      let place = in_place ls a in
      let code = expr_code ls 0 (ToTemporary 0) a in
      let before = front place code in
      let split : (m n : ℕ) → with_code ls a (λ s. machine.StartFor m n s) ++ rest ≡ before ++ machine.StartFor m n (held place 0) ∷ rest =
      λ m n. ap (λ l. l ++ rest) (single_is place code 0 (λ s. machine.StartFor m n s)) ∙ append_assoc before (machine.StartFor m n (held place 0) ∷ []) rest in
      let size : length (entry ls a) ≡ length before + 1 = omega (arith, ap length (single_is place code 0 (λ s. machine.StartFor 0 0 s)), length-append before (machine.StartFor 0 0 (held place 0) ∷ [])) in
      let at : start ≡ length t0.lines + length before = omega (arith, here, size) in
      subst (Gains t0 t5) (sym (split (next - start - 1) (length rest))) (bounds t0 before rest (machine.StartFor 0 0 (held place 0)) (subst (Gains t0 t4) (split 0 0) all) at)

  pub for_gains : {t0 t1 t2 t3 t4 t5 : Contents} (g : Target) (bind body last : List machine.Instr) (start next : ℕ) → start + 1 ≡ length t0.lines + length (entry ls a) → next ≡ length t2.lines
      → Gains t0 t1 (entry ls a ++ bind) → Gains t1 t2 body → Gains t2 t3 (machine.NextItem g (length t2.lines - start) ∷ []) → Gains t3 t4 last → Bounds t4 start next t5
      → Gains t0 t5 (for_code (λ i. with_code ls a i) g bind body last)
  for_gains {t0} {t1} {t2} {t3} {t4} {t5} g bind body last start next here there h0 h1 h2 h3 bounds =
      let item = machine.NextItem g (length bind + length body + 1) in
      let rest = bind ++ (body ++ (item ∷ last)) in
      let long : length t2.lines ≡ start + 1 + length bind + length body = omega (arith, here, length_gained h0, length-append (entry ls a) bind, length_gained h1) in
      let back : length t2.lines - start ≡ length bind + length body + 1 = omega (arith, long) in
      let tail : Gains t1 t4 (body ++ (item ∷ last)) = Gains-append t1 t2 t4 body (item ∷ last) h1 (Gains-append t2 t3 t4 (item ∷ []) last (subst (λ n. Gains t2 t3 (machine.NextItem g n ∷ [])) back h2) h3) in
      let all : Gains t0 t4 (entry ls a ++ rest) = subst (Gains t0 t4) (append_assoc (entry ls a) bind (body ++ (item ∷ last))) (Gains-append t0 t1 t4 (entry ls a ++ bind) (body ++ (item ∷ last)) h0 tail) in
      let to_next : next - start - 1 ≡ length bind + length body = omega (arith, there, long) in
      let to_end : length rest ≡ length bind + length body + 1 + length last = omega (arith, length-append bind (body ++ (item ∷ last)), length-append body (item ∷ last)) in
      subst (λ m. Gains t0 t5 (with_code ls a (λ s. machine.StartFor (length bind + length body) m s) ++ rest)) to_end
      (subst (λ m. Gains t0 t5 (with_code ls a (λ s. machine.StartFor m (length rest) s) ++ rest)) to_next (for_start rest start next here all bounds))
