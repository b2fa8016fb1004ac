-- The code of `try`, of its parts.
use Rattle.std.proofs.Common.{◌≡◌, ℕ, ◌+◌, ◌<◌, ◌≤◌, List, [], ◌∷◌, ◌++◌, map, length, drop, get_or, Option, Some, None, refl, sym, ap, subst, ◌∙◌, append_assoc, length-append, arith}
use Rattle.std.proofs.lemmas.List.{drop_all}
use Rattle.std.specs.List.{AllByRecursion}
use Rattle.si_semantics.specs.Value.{Text}
use Rattle.si_semantics.specs.Scope.{place_of}
use Rattle.si_semantics.specs.Tree as tree
use Rattle.si_semantics.specs.Tree.{Expr, functions_in, functions_in_clauses, functions_of}
use Rattle.si_semantics.specs.Grammar.{clauses_of}
use Rattle.si_plain.proofs.Begins.{length-Begins}
use Rattle.si_slots.specs.Machine as machine
use Rattle.si_slots.specs.Machine.{Instr, Temporary, ToTemporary, Ahead}
use Rattle.si_syntax.specs.declared.stmt.Clause.{Clause as ClauseParts}
use Rattle.si_syntax.specs.declared.stmt.Stmt.{Stmt}
use Rattle.si_syntax.specs.Trees.{body_of, clause_of}
use Rattle.si_syntax.proofs.Rows.{rest_is}
use Rattle.si_slots.specs.Code.{stmt_code, stmts_code, finally_code, named_code, bind_code, unbind_code, clause_code, clauses_code, try_code}
use Rattle.si_slots.specs.Contents.{Contents, Extends}
use Rattle.si_slots.specs.Views.{Gains}
use Rattle.si_slots.specs.inner.Jumps.{Due, Aims}
use Rattle.si_slots.proofs.Gained.{Gains-append, length_gained}
use Rattle.si_slots.proofs.Jumped.{All-push, Due-jump}
use Rattle.si_emit.specs.inner.Clauses.{clause_front}
use Rattle.si_emit.proofs.Branches.{MakesAll, MakesAll-end}
use Rattle.si_emit.proofs.TryCode.{Starts, Leaves, Skips, ClauseTest, tested_gains}

-- what the code of a tree gives, that of the same tree gives; so with its functions
pub same_gains : {t0 t1 : Contents} (ls : List Text) (first : ℕ) (t u : tree.Stmt) → t ≡ u → Gains t0 t1 (stmt_code ls first u) → Gains t0 t1 (stmt_code ls first t)
same_gains {t0} {t1} ls first t u same h = subst (λ x. Gains t0 t1 (stmt_code ls first x)) (sym same) h

pub same_number : (now first : ℕ) (t u : tree.Stmt) → t ≡ u → now ≡ first + length (functions_of u) → now ≡ first + length (functions_of t)
same_number now first t u same h = subst (λ x. now ≡ first + length (functions_of x)) (sym same) h

-- what stands in front of a place stays, where a table ended there
pub place_stays : {front old new : Contents} {at : ℕ} → ((c : Contents) → length c.lines ≤ at → Extends c old → Extends c new) → (seen : Contents) → at ≡ length seen.lines → Extends front seen → Extends front old → Extends front new
place_stays {front} {old} {new} {at} keeps seen here before all = keeps front (omega (arith, here, length-Begins front.lines seen.lines before.lines)) all

-- one jump more stands after what stood in front
pub jump_more : {t0 t1 : Contents} {more : List ℕ} (jumps : List ℕ) (at : ℕ) → more ≡ jumps ++ at ∷ [] → length t1.lines ≤ at → Extends t0 t1 → AllByRecursion (λ k. length t0.lines ≤ k) jumps → AllByRecursion (λ k. length t0.lines ≤ k) more
jump_more {t0} {t1} {more} jumps at push here before all =
    let after : length t0.lines ≤ at = omega (arith, length-Begins t0.lines t1.lines before.lines, here) in
    subst (AllByRecursion (λ k. length t0.lines ≤ k)) (sym push) (All-push (length t0.lines) jumps at all after)

-- what stands in front of a place stays, where that is in a table which has more by now
pub stays : {front old new seen : Contents} (at k : ℕ) → ((c : Contents) → length c.lines ≤ at → Extends c old → Extends c new) → at ≡ length seen.lines + k → Extends front seen → Extends front old → Extends front new
stays {front} {old} {new} {seen} at k keeps here before all = keeps front (omega (arith, here, length-Begins front.lines seen.lines before.lines)) all

-- the code of except clauses
abbrev pub Handlers : List Text → ℕ → List ClauseParts → List Instr
Handlers ls first cs = clauses_code ls first (clauses_of (map clause_of cs))

-- the number that the functions of a suite begin with, after those of others
pub number_after : {A : Type 0} (first now then : ℕ) (fs gs : List A) → now ≡ first + length fs → then ≡ now + length gs → then ≡ first + length (fs ++ gs)
number_after first now then fs gs goes on = omega (arith, goes, on, length-append fs gs)

-- ---- finally suites

-- what stands in front of one
pub front_gains : {t0 t1 t2 t3 : Contents} (body : List Instr) (enter : ℕ) → enter ≡ length t0.lines
    → Gains t0 t1 (machine.EnterFinally 0 ∷ []) → Gains t1 t2 body → Starts t2 enter t3
    → Gains t0 t3 (machine.EnterFinally (length body + 1) ∷ (body ++ machine.StartFinally ∷ []))
front_gains {t0} {t1} {t2} {t3} body enter e0 h0 h1 starts =
    let here : enter ≡ length t0.lines + 0 = omega (arith, e0) in
    starts t0 [] body (Gains-append t0 t1 t2 (machine.EnterFinally 0 ∷ []) body h0 h1) here

pub finally_gains : {t0 t1 t2 t3 : Contents} (body last : List Instr) → Gains t0 t1 (machine.EnterFinally (length body + 1) ∷ (body ++ machine.StartFinally ∷ [])) → Gains t1 t2 last → Gains t2 t3 (machine.EndFinally ∷ [])
    → Gains t0 t3 (finally_code body last)
finally_gains {t0} {t1} {t2} {t3} body last h k l =
    let after = last ++ machine.EndFinally ∷ [] in
    subst (Gains t0 t3) (ap (λ x. machine.EnterFinally (length body + 1) ∷ x) (append_assoc body (machine.StartFinally ∷ []) after))
    (Gains-append t0 t1 t3 (machine.EnterFinally (length body + 1) ∷ (body ++ machine.StartFinally ∷ [])) after h (Gains-append t1 t2 t3 last (machine.EndFinally ∷ []) k l))

-- a suite with a name for the exception
pub named_gains : {t0 t1 t2 t3 : Contents} (ls : List Text) (y : Text) (body : List Instr) (enter : ℕ) → enter ≡ length t0.lines + 2
    → Gains t0 t1 (machine.CopyException (ToTemporary 0) ∷ (bind_code y (place_of y ls) (Temporary 0) ∷ (machine.EnterFinally 0 ∷ []))) → Gains t1 t2 body → Leaves t2 enter (unbind_code y (place_of y ls)) t3
    → Gains t0 t3 (named_code ls (Some y) body)
named_gains {t0} {t1} {t2} {t3} ls y body enter here h k leaves =
    let bind = bind_code y (place_of y ls) (Temporary 0) in
    leaves t0 (machine.CopyException (ToTemporary 0) ∷ (bind ∷ [])) body (Gains-append t0 t1 t2 (machine.CopyException (ToTemporary 0) ∷ (bind ∷ (machine.EnterFinally 0 ∷ []))) body h k) here

-- a `try` with a finally suite, of its parts
pub finally_stmt : {t0 t1 : Contents} (ls : List Text) (first then : ℕ) (t : tree.Stmt) (b : tree.Stmts) (cs : tree.Clauses) (c f : tree.Stmts) → t ≡ tree.Finally b cs c f → then ≡ first + length (functions_of (tree.Try b cs c))
    → Gains t0 t1 (finally_code (stmt_code ls first (tree.Try b cs c)) (stmts_code ls then f)) → Gains t0 t1 (stmt_code ls first t)
finally_stmt {t0} {t1} ls first then t b cs c f seen goes h =
    same_gains ls first t (tree.Finally b cs c f) seen (subst (λ n. Gains t0 t1 (finally_code (stmt_code ls first (tree.Try b cs c)) (stmts_code ls n f))) goes h)

pub finally_number : (first then now : ℕ) (t : tree.Stmt) (b : tree.Stmts) (cs : tree.Clauses) (c f : tree.Stmts) → t ≡ tree.Finally b cs c f → then ≡ first + length (functions_of (tree.Try b cs c)) → now ≡ then + length (functions_in f)
    → now ≡ first + length (functions_of t)
finally_number first then now t b cs c f seen goes on = same_number now first t (tree.Finally b cs c f) seen (omega (
  arith,
  goes,
  on,
  length-append (functions_in b) (functions_in_clauses cs ++ functions_in c),
  length-append (functions_in_clauses cs) (functions_in c),
  length-append (functions_in b) (functions_in_clauses cs ++ (functions_in c ++ functions_in f)),
  length-append (functions_in_clauses cs) (functions_in c ++ functions_in f),
  length-append (functions_in c) (functions_in f),
))

-- the same, where there is a name
pub named_suite : {t0 t1 t2 t3 : Contents} (ls : List Text) (name : Option Text) (y bound unbound : Text) (body : List Instr) (enter : ℕ) → name ≡ Some y → bound ≡ y → unbound ≡ y → enter ≡ length t0.lines + 2
    → Gains t0 t1 (machine.CopyException (ToTemporary 0) ∷ (bind_code bound (place_of bound ls) (Temporary 0) ∷ (machine.EnterFinally 0 ∷ []))) → Gains t1 t2 body → Leaves t2 enter (unbind_code unbound (place_of unbound ls)) t3
    → Gains t0 t3 (named_code ls name body)
named_suite {t0} {t1} {t2} {t3} ls name y bound unbound body enter some is_bound is_unbound here h k leaves =
    let starts = subst (λ x. Gains t0 t1 (machine.CopyException (ToTemporary 0) ∷ (bind_code x (place_of x ls) (Temporary 0) ∷ (machine.EnterFinally 0 ∷ [])))) is_bound h in
    let ends = subst (λ x. Leaves t2 enter (unbind_code x (place_of x ls)) t3) is_unbound leaves in
    subst (λ x. Gains t0 t3 (named_code ls x body)) (sym some) (named_gains ls y body enter here starts k ends)

pub nameless_suite : {t0 t1 : Contents} (ls : List Text) (name : Option Text) (body : List Instr) → name ≡ None → Gains t0 t1 body → Gains t0 t1 (named_code ls name body)
nameless_suite {t0} {t1} ls name body none h = subst (λ x. Gains t0 t1 (named_code ls x body)) (sym none) h

-- ---- `try`

-- the suite, and the jump past the clauses
pub entered_gains : {t0 t1 t2 t3 : Contents} (body : List Instr) (enter : ℕ) → enter ≡ length t0.lines
    → Gains t0 t1 (machine.EnterTry 0 ∷ []) → Gains t1 t2 body → Skips t2 enter t3
    → Gains t0 t3 (machine.EnterTry (length body + 2) ∷ (body ++ (machine.LeaveBlock ∷ (machine.Jump 0 ∷ []))))
entered_gains {t0} {t1} {t2} {t3} body enter e0 h0 h1 skips =
    let here : enter ≡ length t0.lines + 0 = omega (arith, e0) in
    skips t0 [] body (Gains-append t0 t1 t2 (machine.EnterTry 0 ∷ []) body h0 h1) here

-- the clauses after that
pub tried_front : {t0 t1 t2 t3 t4 t5 t6 : Contents} (body handlers : List Instr) (enter skip : ℕ) → enter ≡ length t0.lines → skip ≡ length t2.lines + 1
    → Gains t0 t1 (machine.EnterTry 0 ∷ []) → Gains t1 t2 body → Skips t2 enter t3 → Gains t3 t4 handlers → Gains t4 t5 (machine.Jump 0 ∷ []) → Aims t5 skip t6
    → Gains t0 t6 ((machine.EnterTry (length body + 2) ∷ (body ++ machine.LeaveBlock ∷ [])) ++ (machine.Jump (length handlers + 1) ∷ (handlers ++ machine.Jump 0 ∷ [])))
tried_front {t0} {t1} {t2} {t3} {t4} {t5} {t6} body handlers enter skip e0 e2 h0 h1 skips h3 h4 aim_skip =
    let first = machine.EnterTry (length body + 2) in
    let front = first ∷ (body ++ machine.LeaveBlock ∷ []) in
    let once = entered_gains body enter e0 h0 h1 skips in
    let tried_so = subst (Gains t0 t3) (ap (λ l. first ∷ l) (sym (append_assoc body (machine.LeaveBlock ∷ []) (machine.Jump 0 ∷ [])))) once in
    let after = handlers ++ machine.Jump 0 ∷ [] in
    let all = subst (Gains t0 t5) (append_assoc front (machine.Jump 0 ∷ []) after) (Gains-append t0 t3 t5 (front ++ machine.Jump 0 ∷ []) after tried_so (Gains-append t3 t4 t5 handlers (machine.Jump 0 ∷ []) h3 h4)) in
    let place : skip ≡ length t0.lines + length front = omega (arith, e2, length_gained h0, length_gained h1, length-append body (machine.LeaveBlock ∷ [])) in
    let far : length after ≡ length handlers + 1 = omega (arith, length-append handlers (machine.Jump 0 ∷ [])) in
    subst (Gains t0 t6) (ap (λ n. front ++ (machine.Jump n ∷ after)) far) (aim_skip t0 front after (machine.Jump 0) all place)

-- the else suite after them, to which the suite leads
pub tried_gains : {t0 t1 t2 t3 t4 t5 t6 t7 t8 : Contents} (body handlers last : List Instr) (enter skip end : ℕ) → enter ≡ length t0.lines → skip ≡ length t2.lines + 1 → end ≡ length t4.lines
    → Gains t0 t1 (machine.EnterTry 0 ∷ []) → Gains t1 t2 body → Skips t2 enter t3 → Gains t3 t4 handlers → Gains t4 t5 (machine.Jump 0 ∷ []) → Aims t5 skip t6 → Gains t6 t7 last → Aims t7 end t8
    → Gains t0 t8 (machine.EnterTry (length body + 2) ∷ (body ++ (machine.LeaveBlock ∷ (machine.Jump (length handlers + 1) ∷ (handlers ++ (machine.Jump (length last) ∷ last))))))
tried_gains {t0} {t1} {t2} {t3} {t4} {t5} {t6} {t7} {t8} body handlers last enter skip end e0 e2 e4 h0 h1 skips h3 h4 aim_skip h6 aim_end =
    let first = machine.EnterTry (length body + 2) in
    let front = first ∷ (body ++ machine.LeaveBlock ∷ []) in
    let jump = machine.Jump (length handlers + 1) in
    let skipped = tried_front body handlers enter skip e0 e2 h0 h1 skips h3 h4 aim_skip in
    let before = front ++ (jump ∷ handlers) in
    let in_front = subst (Gains t0 t6) (sym (append_assoc front (jump ∷ handlers) (machine.Jump 0 ∷ []))) skipped in
    let whole = subst (Gains t0 t7) (append_assoc before (machine.Jump 0 ∷ []) last) (Gains-append t0 t6 t7 (before ++ machine.Jump 0 ∷ []) last in_front h6) in
    let at_end : end ≡ length t0.lines + length before = omega (arith, e4, length_gained (entered_gains body enter e0 h0 h1 skips), length_gained h3, length-append body (machine.LeaveBlock ∷ (machine.Jump 0 ∷ [])), length-append body (machine.LeaveBlock ∷ []), length-append front (jump ∷ handlers)) in
    let others = handlers ++ (machine.Jump (length last) ∷ last) in
    subst (Gains t0 t8) (append_assoc front (jump ∷ handlers) (machine.Jump (length last) ∷ last) ∙ ap (λ l. first ∷ l) (append_assoc body (machine.LeaveBlock ∷ []) (jump ∷ others)))
    (aim_end t0 before last (machine.Jump 0) whole at_end)

-- a `try` of its parts; the functions of each are numbered after those of the parts in front
pub tried_stmt : {t0 t1 : Contents} (ls : List Text) (first then now : ℕ) (t : tree.Stmt) (ss ends : List Stmt) (cs : List ClauseParts) → t ≡ tree.Try (body_of ss) (clauses_of (map clause_of cs)) (body_of ends)
    → then ≡ first + length (functions_in (body_of ss)) → now ≡ then + length (functions_in_clauses (clauses_of (map clause_of cs)))
    → Gains t0 t1 (try_code (stmts_code ls first (body_of ss)) (clauses_of (map clause_of cs)) (Handlers ls then cs) (stmts_code ls now (body_of ends))) → Gains t0 t1 (stmt_code ls first t)
tried_stmt {t0} {t1} ls first then now t ss ends cs seen goes on h =
    let clauses = clauses_of (map clause_of cs) in
    let body = stmts_code ls first (body_of ss) in
    let number = number_after first then now (functions_in (body_of ss)) (functions_in_clauses clauses) goes on in
    let numbered = subst (λ n. Gains t0 t1 (try_code body clauses (Handlers ls n cs) (stmts_code ls now (body_of ends)))) goes h in
    same_gains ls first t (tree.Try (body_of ss) clauses (body_of ends)) seen
    (subst (λ n. Gains t0 t1 (try_code body clauses (Handlers ls (first + length (functions_in (body_of ss))) cs) (stmts_code ls n (body_of ends)))) number numbered)

pub tried_number : (first then now last : ℕ) (t : tree.Stmt) (ss ends : List Stmt) (cs : tree.Clauses) → t ≡ tree.Try (body_of ss) cs (body_of ends)
    → then ≡ first + length (functions_in (body_of ss)) → now ≡ then + length (functions_in_clauses cs) → last ≡ now + length (functions_in (body_of ends)) → last ≡ first + length (functions_of t)
tried_number first then now last t ss ends cs seen goes on ends_at =
    let b = functions_in (body_of ss) in let c = functions_in (body_of ends) in
    same_number last first t (tree.Try (body_of ss) cs (body_of ends)) seen
    (omega (arith, goes, on, ends_at, length-append b (functions_in_clauses cs ++ c), length-append (functions_in_clauses cs) c))

-- with clauses, and with none
pub with_clauses : {t0 t1 : Contents} (cs : List ClauseParts) (body handlers last : List Instr) → (cs ≡ [] → ⊥)
    → Gains t0 t1 (machine.EnterTry (length body + 2) ∷ (body ++ (machine.LeaveBlock ∷ (machine.Jump (length handlers + 1) ∷ (handlers ++ (machine.Jump (length last) ∷ last))))))
    → Gains t0 t1 (try_code body (clauses_of (map clause_of cs)) handlers last)
with_clauses [] body handlers last some h = absurd (some refl)
with_clauses (c ∷ cs) body handlers last some h = h

pub without_clauses : {t0 t1 : Contents} (cs : List ClauseParts) (body handlers last : List Instr) → cs ≡ [] → Gains t0 t1 (body ++ last) → Gains t0 t1 (try_code body (clauses_of (map clause_of cs)) handlers last)
without_clauses [] body handlers last none h = h
without_clauses (c ∷ cs) body handlers last none h = absurd cc

-- none at all: the suite and the else suite
none_numbered : (cs : List ClauseParts) → cs ≡ [] → length (functions_in_clauses (clauses_of (map clause_of cs))) ≡ 0
none_numbered [] none = refl
none_numbered (c ∷ cs) none = absurd cc

pub plain_try : {t0 t1 t2 : Contents} (ls : List Text) (first then : ℕ) (t : tree.Stmt) (ss ends : List Stmt) (cs : List ClauseParts) → cs ≡ [] → t ≡ tree.Try (body_of ss) (clauses_of (map clause_of cs)) (body_of ends)
    → then ≡ first + length (functions_in (body_of ss)) → Gains t0 t1 (stmts_code ls first (body_of ss)) → Gains t1 t2 (stmts_code ls then (body_of ends)) → Gains t0 t2 (stmt_code ls first t)
plain_try {t0} {t1} {t2} ls first then t ss ends cs none seen goes h k =
    let body = stmts_code ls first (body_of ss) in let last = stmts_code ls then (body_of ends) in
    tried_stmt ls first then then t ss ends cs seen goes (omega (arith, none_numbered cs none))
    (without_clauses cs body (Handlers ls then cs) last none (Gains-append t0 t1 t2 body last h k))

pub plain_number : (first then now : ℕ) (t : tree.Stmt) (ss ends : List Stmt) (cs : List ClauseParts) → cs ≡ [] → t ≡ tree.Try (body_of ss) (clauses_of (map clause_of cs)) (body_of ends)
    → then ≡ first + length (functions_in (body_of ss)) → now ≡ then + length (functions_in (body_of ends)) → now ≡ first + length (functions_of t)
plain_number first then now t ss ends cs none seen goes on = tried_number first then then now t ss ends (clauses_of (map clause_of cs)) seen goes (omega (arith, none_numbered cs none)) on

-- ---- except clauses

-- a clause with its jump is its code
clause_whole : (ls : List Text) (a : Option Expr) (body rest : List Instr) → clause_front ls a body ++ machine.Jump (length rest) ∷ rest ≡ clause_code ls a body rest
clause_whole ls None body rest = append_assoc body (machine.LeaveBlock ∷ []) (machine.Jump (length rest) ∷ rest)
clause_whole ls (Some a) body rest =
    let test = ClauseTest ls a (Ahead (length body + 2)) in
    append_assoc test (body ++ machine.LeaveBlock ∷ []) (machine.Jump (length rest) ∷ rest)
    ∙ ap (λ l. test ++ l) (append_assoc body (machine.LeaveBlock ∷ []) (machine.Jump (length rest) ∷ rest))

-- after no expression
pub bare_clause : {t0 t1 : Contents} (ls : List Text) (a : Option Expr) (body : List Instr) → a ≡ None → Gains t0 t1 (body ++ (machine.LeaveBlock ∷ (machine.Jump 0 ∷ []))) → Gains t0 t1 (clause_front ls a body ++ machine.Jump 0 ∷ [])
bare_clause {t0} {t1} ls a body none h =
    subst (λ x. Gains t0 t1 (clause_front ls x body ++ machine.Jump 0 ∷ [])) (sym none) (subst (Gains t0 t1) (sym (append_assoc body (machine.LeaveBlock ∷ []) (machine.Jump 0 ∷ []))) h)

-- after one
pub tested_clause : {t0 t1 t2 t3 : Contents} (ls : List Text) (a : Option Expr) (e : Expr) (body : List Instr) (skip : ℕ) → a ≡ Some e → skip + 1 ≡ length t1.lines
    → Gains t0 t1 (ClauseTest ls e (Ahead 0)) → Gains t1 t2 (body ++ (machine.LeaveBlock ∷ (machine.Jump 0 ∷ []))) → Aims t2 skip t3
    → Gains t0 t3 (clause_front ls a body ++ machine.Jump 0 ∷ [])
tested_clause {t0} {t1} {t2} {t3} ls a e body skip some here h k aim =
    let test = ClauseTest ls e (Ahead (length body + 2)) in
    let joins : test ++ (body ++ (machine.LeaveBlock ∷ (machine.Jump 0 ∷ []))) ≡ clause_front ls (Some e) body ++ machine.Jump 0 ∷ [] =
    ap (λ l. test ++ l) (sym (append_assoc body (machine.LeaveBlock ∷ []) (machine.Jump 0 ∷ []))) ∙ sym (append_assoc test (body ++ machine.LeaveBlock ∷ []) (machine.Jump 0 ∷ [])) in
    subst (λ x. Gains t0 t3 (clause_front ls x body ++ machine.Jump 0 ∷ [])) (sym some) (subst (Gains t0 t3) joins (tested_gains ls e body skip here h k aim))

-- one clause of several, whose jump is due; the functions of those after it are numbered after its own
pub next_clause : {t1 t2 : Contents} (ls : List Text) (cs : List ClauseParts) (i : ℕ) (c : ClauseParts) (at now then : ℕ) → i < length cs → get_or cs i c ≡ c → then ≡ now + length (functions_in (clause_of c).2) → at + 1 ≡ length t2.lines
    → Gains t1 t2 (clause_front ls (clause_of c).0 (named_code ls (clause_of c).1 (stmts_code ls now (clause_of c).2)) ++ machine.Jump 0 ∷ [])
    → (end : Contents) (later : List ℕ) → Due t2 later (Handlers ls then (drop (i + 1) cs)) end → Due t1 (at ∷ later) (Handlers ls now (drop i cs)) end
next_clause {t1} {t2} ls cs i c at now then lt is goes here gains end later d =
    let body = named_code ls (clause_of c).1 (stmts_code ls now (clause_of c).2) in
    let front = clause_front ls (clause_of c).0 body in
    let rest = Handlers ls (now + length (functions_in (clause_of c).2)) (drop (i + 1) cs) in
    let others = subst (λ n. Due t2 later (Handlers ls n (drop (i + 1) cs)) end) goes d in
    let place : at ≡ length t1.lines + length front = omega (arith, here, length_gained gains, length-append front (machine.Jump 0 ∷ [])) in
    subst (λ l. Due t1 (at ∷ later) (Handlers ls now l) end) (sym (rest_is cs i c lt is))
    (subst (λ l. Due t1 (at ∷ later) l end) (clause_whole ls (clause_of c).0 body rest) (Due-jump front rest (machine.Jump 0) gains place others))

-- where that jump stands
pub clause_after : {t1 t2 : Contents} (front : List Instr) (at : ℕ) → at + 1 ≡ length t2.lines → Gains t1 t2 (front ++ machine.Jump 0 ∷ []) → length t1.lines ≤ at
clause_after front at here h = omega (arith, here, length_gained h, length-append front (machine.Jump 0 ∷ []))

-- the number moves on over a clause, and over the last
pub next_clause_number : (cs : List ClauseParts) (i : ℕ) (c : ClauseParts) (now then all : ℕ) → i < length cs → get_or cs i c ≡ c → then ≡ now + length (functions_in (clause_of c).2)
    → now + length (functions_in_clauses (clauses_of (map clause_of (drop i cs)))) ≡ all → then + length (functions_in_clauses (clauses_of (map clause_of (drop (i + 1) cs)))) ≡ all
next_clause_number cs i c now then all lt is goes before =
    omega (
      arith,
      goes,
      ap (λ l. length (functions_in_clauses (clauses_of (map clause_of l)))) (rest_is cs i c lt is),
      length-append (functions_in (clause_of c).2) (functions_in_clauses (clauses_of (map clause_of (drop (i + 1) cs)))),
    )

pub last_clause_number : (cs : List ClauseParts) (i now all : ℕ) → length cs ≤ i → now + length (functions_in_clauses (clauses_of (map clause_of (drop i cs)))) ≡ all → now ≡ all
last_clause_number cs i now all le before = omega (arith, ap (λ l. length (functions_in_clauses (clauses_of (map clause_of l)))) (drop_all i cs le))

-- after the last one
pub clauses_end : {t0 t1 t2 : Contents} (ls : List Text) (cs : List ClauseParts) (i : ℕ) (jumps : List ℕ) (first now : ℕ) → length cs ≤ i → MakesAll t0 jumps (Handlers ls first cs) t1 (Handlers ls now (drop i cs)) → Gains t1 t2 (machine.RaiseAgain ∷ [])
    → Due t0 jumps (Handlers ls first cs) t2
clauses_end {t0} {t1} {t2} ls cs i jumps first now le before h =
    MakesAll-end jumps (Handlers ls first cs) (Handlers ls now (drop i cs)) before (subst (λ l. Gains t1 t2 (Handlers ls now l)) (sym (drop_all i cs le)) h)

-- ---- whether there are any

pub no_items : {A : Type 0} (xs : List A) → length xs ≡ 0 → xs ≡ []
no_items [] h = refl
no_items (x ∷ xs) h = absurd (omega arith)

pub some_items : {A : Type 0} (xs : List A) → 0 < length xs → xs ≡ [] → ⊥
some_items xs h e = omega (arith, h, ap length e)
