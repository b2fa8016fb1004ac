-- The code of `if` and of the statements of a suite, of their parts.
use Rattle.std.proofs.Common.{◌≡◌, ℕ, zero, suc, ◌+◌, ◌<◌, ◌≤◌, List, [], ◌∷◌, ◌++◌, map, length, drop, get_or, Bool, true, false, refl, sym, ap, subst, ◌∙◌, append_assoc, append-nil, length-append, arith}
use Rattle.std.specs.Prelude.{◌&&◌, nat_eq}
use Rattle.std.proofs.lemmas.List.{drop_all, length-drop}
use Rattle.si_plain.proofs.Begins.{length-Begins}
use Rattle.si_plain.proofs.Lengths.{empty}
use Rattle.si_semantics.specs.Value.{Text}
use Rattle.si_semantics.specs.Tree as tree
use Rattle.si_semantics.specs.Tree.{functions_in, functions_of}
use Rattle.si_semantics.specs.Grammar.{elifs_of, Branch}
use Rattle.si_syntax.specs.declared.stmt.Branch.{Branch as BranchParts}
use Rattle.si_syntax.specs.declared.stmt.Stmt.{Stmt}
use Rattle.si_syntax.specs.Trees.{body_of, branch_of, stmt_of}
use Rattle.si_syntax.proofs.Rows.{rest_is}
use Rattle.si_slots.specs.Machine as machine
use Rattle.si_slots.specs.Machine.{Ahead, ToJump, Instr}
use Rattle.si_slots.specs.Code.{branch_code, condition_code, stmt_code, stmts_code}
use Rattle.si_slots.specs.Contents.{Contents, Extends}
use Rattle.si_slots.specs.Views.{Gains, locals_now}
use Rattle.si_slots.specs.inner.Jumps.{Due, Aims, AimsAll}
use Rattle.si_slots.proofs.Gained.{Gains-nil, Gains-append, length_gained, locals_kept}
use Rattle.si_slots.proofs.Jumped.{Due-jump, Due-before, Due-length}
use Rattle.si_emit.specs.inner.Conditions.{Opens, skipping}
use Rattle.si_emit.specs.inner.Silence.{silent_suite}
use Rattle.si_emit.proofs.Branches.{MakesAll, MakesAll-end}
use Rattle.si_emit.proofs.Seen.{elif_defines}
use Rattle.si_emit.proofs.Fronts.{Starts, starts_append, branch_is}
use Rattle.si_emit.proofs.Silent.{silent_code, silent_functions, loud_code, starts_if}

-- ---- statements in a row

module _ (ls : List Text) where
  pub next_stmt : {t0 t1 t2 : Contents} (ss : List Stmt) (i : ℕ) (s : Stmt) (first now then : ℕ) → i < length ss → get_or ss i s ≡ s → then ≡ now + length (functions_of (stmt_of s))
      → ((end : Contents) → Gains t1 end (stmts_code ls now (body_of (drop i ss))) → Gains t0 end (stmts_code ls first (body_of ss)))
      → Gains t1 t2 (stmt_code ls now (stmt_of s))
      → (end : Contents) → Gains t2 end (stmts_code ls then (body_of (drop (i + 1) ss))) → Gains t0 end (stmts_code ls first (body_of ss))
  next_stmt {t0} {t1} {t2} ss i s first now then lt at goes before here end rest =
      let others = subst (λ n. Gains t2 end (stmts_code ls n (body_of (drop (i + 1) ss)))) goes rest in
      before end (subst (λ l. Gains t1 end (stmts_code ls now (body_of l))) (sym (rest_is ss i s lt at)) (Gains-append t1 t2 end _ _ here others))

  pub last_stmt : {t0 t1 : Contents} (ss : List Stmt) (i : ℕ) (first now : ℕ) → length ss ≤ i
      → ((end : Contents) → Gains t1 end (stmts_code ls now (body_of (drop i ss))) → Gains t0 end (stmts_code ls first (body_of ss)))
      → Gains t0 t1 (stmts_code ls first (body_of ss))
  last_stmt {t0} {t1} ss i first now le before =
      before t1 (subst (λ l. Gains t1 t1 (stmts_code ls now (body_of l))) (sym (drop_all i ss le)) (Gains-nil t1))

-- the number moves on over a statement, and over the last
pub next_number : (ss : List Stmt) (i : ℕ) (s : Stmt) (now then all : ℕ) → i < length ss → get_or ss i s ≡ s → then ≡ now + length (functions_of (stmt_of s)) → now + length (functions_in (body_of (drop i ss))) ≡ all → then + length (functions_in (body_of (drop (i + 1) ss))) ≡ all
next_number ss i s now then all lt at goes before =
    omega (arith, ap (λ l. length (functions_in (body_of l))) (rest_is ss i s lt at), length-append (functions_of (stmt_of s)) (functions_in (body_of (drop (i + 1) ss))))

pub last_number : (ss : List Stmt) (i : ℕ) (now all : ℕ) → length ss ≤ i → now + length (functions_in (body_of (drop i ss))) ≡ all → now ≡ all
last_number ss i now all le before = omega (arith, ap (λ l. length (functions_in (body_of l))) (drop_all i ss le))

-- ---- one test and its suite

-- a test whose jumps are not aimed yet keeps the names of the locals
pub opens_kept : {t0 t1 : Contents} (ls : List Text) (jumps : List ℕ) (a : tree.Expr) → Opens t0 jumps (λ rest. skipping ls a rest) t1 → locals_now t0 ≡ ls → locals_now t1 ≡ ls
opens_kept {t0} {t1} ls jumps a opens names = let due : Due t0 jumps (skipping ls a []) t1 = opens t1 [] (Gains-nil t1) in locals_kept due.gains names

-- once they are aimed it passes over what has come
pub skips_over : {t0 t1 t2 t3 : Contents} (ls : List Text) (jumps seen : List ℕ) (a : tree.Expr) (rest : List Instr) → seen ≡ jumps → Opens t0 jumps (λ l. skipping ls a l) t1 → Gains t1 t2 rest → AimsAll t2 seen t3 → Gains t0 t3 (skipping ls a rest)
skips_over {t0} {t1} {t2} {t3} ls jumps seen a rest same opens h aims =
    aims t0 (skipping ls a rest) (subst (λ js. Due t0 js (skipping ls a rest) t2) (sym same) (opens t2 rest h))

-- a test and its suite, up to the jump after it
abbrev pub passed : List Text → tree.Expr → List Instr → List Instr
passed ls a suite = condition_code ls a (ToJump false (Ahead (length suite + 1))) ++ suite

pub passed_is : (ls : List Text) (a : tree.Expr) (suite : List Instr) → skipping ls a (suite ++ machine.Jump 0 ∷ []) ≡ passed ls a suite ++ machine.Jump 0 ∷ []
passed_is ls a suite =
    let far : length (suite ++ machine.Jump 0 ∷ []) ≡ length suite + 1 = omega (arith, length-append suite (machine.Jump 0 ∷ [])) in
    ap (λ n. condition_code ls a (ToJump false (Ahead n)) ++ (suite ++ machine.Jump 0 ∷ [])) far
    ∙ sym (append_assoc (condition_code ls a (ToJump false (Ahead (length suite + 1)))) suite (machine.Jump 0 ∷ []))

pub passed_gains : {t0 t1 : Contents} (ls : List Text) (a : tree.Expr) (suite : List Instr) → Gains t0 t1 (skipping ls a (suite ++ machine.Jump 0 ∷ [])) → Gains t0 t1 (passed ls a suite ++ machine.Jump 0 ∷ [])
passed_gains {t0} {t1} ls a suite h = subst (Gains t0 t1) (passed_is ls a suite) h

pub passed_place : {t0 t1 : Contents} (ls : List Text) (a : tree.Expr) (suite : List Instr) (end : ℕ) → end + 1 ≡ length t1.lines → Gains t0 t1 (skipping ls a (suite ++ machine.Jump 0 ∷ [])) → end ≡ length t0.lines + length (passed ls a suite)
passed_place {t0} {t1} ls a suite end here h = omega (arith, here, length_gained (passed_gains ls a suite h), length-append (passed ls a suite) (machine.Jump 0 ∷ []))

-- where the jump after it stands
pub jump_at : {t0 t1 t2 t3 t4 : Contents} (ls : List Text) (jumps seen : List ℕ) (a : tree.Expr) (suite : List Instr) (end : ℕ) → end ≡ length t2.lines → seen ≡ jumps → Opens t0 jumps (λ l. skipping ls a l) t1 → Gains t1 t2 suite → Gains t2 t3 (machine.Jump 0 ∷ []) → AimsAll t3 seen t4 → end + 1 ≡ length t4.lines
jump_at {t0} {t1} {t2} {t3} {t4} ls jumps seen a suite end here same opens h k aims =
    let rest = suite ++ machine.Jump 0 ∷ [] in
    let more = Gains-append t1 t2 t3 suite (machine.Jump 0 ∷ []) h k in
    let due : Due t0 jumps (skipping ls a rest) t3 = opens t3 rest more in
    let all = skips_over ls jumps seen a rest same opens more aims in
    omega (arith, here, length_gained k, length_gained all, Due-length due)

-- a branch that is not silent, and its code
pub branch_passed : (ls : List Text) (a : tree.Expr) (suite other : List Instr) → Starts other → passed ls a suite ++ (machine.Jump (length other) ∷ other) ≡ branch_code (condition_code ls a) suite other
branch_passed ls a suite other some =
    append_assoc (condition_code ls a (ToJump false (Ahead (length suite + 1)))) suite (machine.Jump (length other) ∷ other) ∙ sym (branch_is (condition_code ls a) suite other some)

branch_alone : (ls : List Text) (a : tree.Expr) (suite other : List Instr) → other ≡ [] → skipping ls a suite ≡ branch_code (condition_code ls a) suite other
branch_alone ls a suite [] none = refl
branch_alone ls a suite (i ∷ other) none = absurd cc

-- ---- `if`

module _ (ls : List Text) where
  -- with what follows, once the jump after its suite is aimed
  pub if_gains : {t0 t1 t2 t3 : Contents} (first then : ℕ) (b : Branch) (others : tree.Stmts) (end : ℕ) → then ≡ first + length (functions_in b.1) → end + 1 ≡ length t1.lines → Starts (stmts_code ls then others)
      → Gains t0 t1 (skipping ls b.0 (stmts_code ls first b.1 ++ machine.Jump 0 ∷ [])) → Gains t1 t2 (stmts_code ls then others) → Aims t2 end t3
      → Gains t0 t3 (stmt_code ls first (tree.If b.0 b.1 others))
  if_gains {t0} {t1} {t2} {t3} first then b others end goes here some front after aim =
      let suite = stmts_code ls first b.1 in let other = stmts_code ls then others in
      let start = passed ls b.0 suite in
      let all = subst (Gains t0 t2) (append_assoc start (machine.Jump 0 ∷ []) other) (Gains-append t0 t1 t2 (start ++ machine.Jump 0 ∷ []) other (passed_gains ls b.0 suite front) after) in
      let whole = aim t0 start other (machine.Jump 0) all (passed_place ls b.0 suite end here front) in
      subst (λ n. Gains t0 t3 (branch_code (condition_code ls b.0) suite (stmts_code ls n others))) goes (subst (Gains t0 t3) (branch_passed ls b.0 suite other some) whole)

  -- with nothing that follows
  pub alone_gains : {t0 t1 : Contents} (first : ℕ) (b : Branch) (others : tree.Stmts) → silent_suite others ≡ true → Gains t0 t1 (skipping ls b.0 (stmts_code ls first b.1)) → Gains t0 t1 (stmt_code ls first (tree.If b.0 b.1 others))
  alone_gains {t0} {t1} first b others none h =
      subst (Gains t0 t1) (branch_alone ls b.0 (stmts_code ls first b.1) (stmts_code ls (first + length (functions_in b.1)) others) (silent_code others none ls (first + length (functions_in b.1)))) h

  -- what stands after the suite has code, but where no `elif` is left and the else suite is silent
  pub elifs_start : (n : ℕ) (bs : List Branch) (last : tree.Stmts) → (bs ≡ [] → silent_suite last ≡ false) → Starts (stmts_code ls n (elifs_of bs last))
  elifs_start n [] last loud = loud_code last (loud refl) ls n
  elifs_start n (b ∷ bs) last loud = starts_append _ [] (starts_if ls n b.0 b.1 (elifs_of bs last))

abbrev pub Elifs : List Text → ℕ → List BranchParts → tree.Stmts → List Instr
Elifs ls first bs last = stmts_code ls first (elifs_of (map branch_of bs) last)

-- there are more, or the else suite has code
abbrev pub Follows : List BranchParts → tree.Stmts → Type 0
Follows bs last = bs ≡ [] → silent_suite last ≡ false

unmapped : (bs : List BranchParts) → map branch_of bs ≡ [] → bs ≡ []
unmapped [] h = refl
unmapped (b ∷ bs) h = absurd cc

pub others_start : (ls : List Text) (n : ℕ) (bs : List BranchParts) (last : tree.Stmts) → Follows bs last → Starts (Elifs ls n bs last)
others_start ls n bs last follows = elifs_start ls n (map branch_of bs) last (λ none. follows (unmapped bs none))

module _ (ls : List Text) where
  elif_due : {t1 t2 : Contents} (first : ℕ) (b : BranchParts) (more : List BranchParts) (last : tree.Stmts) (at : ℕ) → at + 1 ≡ length t2.lines → Follows more last
      → Gains t1 t2 (skipping ls (branch_of b).0 (stmts_code ls first (branch_of b).1 ++ machine.Jump 0 ∷ []))
      → (end : Contents) (later : List ℕ) → Due t2 later (Elifs ls (first + length (functions_in (branch_of b).1)) more last) end → Due t1 (at ∷ later) (Elifs ls first (b ∷ more) last) end
  elif_due {t1} {t2} first b more last at here follows h end later d =
      let a = (branch_of b).0 in
      let suite = stmts_code ls first (branch_of b).1 in
      let rest = Elifs ls (first + length (functions_in (branch_of b).1)) more last in
      let same : passed ls a suite ++ machine.Jump (length rest) ∷ rest ≡ Elifs ls first (b ∷ more) last =
      branch_passed ls a suite rest (others_start ls (first + length (functions_in (branch_of b).1)) more last follows) ∙ sym (append-nil (branch_code (condition_code ls a) suite rest)) in
      subst (λ c. Due t1 (at ∷ later) c end) same (Due-jump (passed ls a suite) rest (machine.Jump 0) (passed_gains ls a suite h) (passed_place ls a suite at here h) d)

  -- one `elif` of several
  pub next_elif : {t1 t2 : Contents} (bs : List BranchParts) (i : ℕ) (b : BranchParts) (last : tree.Stmts) (at now then : ℕ) → i < length bs → get_or bs i b ≡ b → then ≡ now + length (functions_in (branch_of b).1) → at + 1 ≡ length t2.lines
      → Follows (drop (i + 1) bs) last
      → Gains t1 t2 (skipping ls (branch_of b).0 (stmts_code ls now (branch_of b).1 ++ machine.Jump 0 ∷ []))
      → (end : Contents) (later : List ℕ) → Due t2 later (Elifs ls then (drop (i + 1) bs) last) end → Due t1 (at ∷ later) (Elifs ls now (drop i bs) last) end
  next_elif {t1} {t2} bs i b last at now then lt is goes here follows h end later d =
      let others = subst (λ n. Due t2 later (Elifs ls n (drop (i + 1) bs) last) end) goes d in
      subst (λ x. Due t1 (at ∷ later) (Elifs ls now x last) end) (sym (rest_is bs i b lt is)) (elif_due now b (drop (i + 1) bs) last at here follows h end later others)

  -- the last `elif`, with nothing that follows
  pub last_elif : {t0 t1 t2 : Contents} (bs : List BranchParts) (i : ℕ) (b : BranchParts) (last : tree.Stmts) (jumps : List ℕ) (all : List Instr) (now then : ℕ) → i < length bs → get_or bs i b ≡ b → then ≡ now + length (functions_in (branch_of b).1)
      → drop (i + 1) bs ≡ [] → silent_suite last ≡ true
      → Gains t1 t2 (skipping ls (branch_of b).0 (stmts_code ls now (branch_of b).1))
      → MakesAll t0 jumps all t1 (Elifs ls now (drop i bs) last) → MakesAll t0 jumps all t2 (Elifs ls then (drop (i + 1) bs) last)
  last_elif {t0} {t1} {t2} bs i b last jumps all now then lt is goes none quiet h before end later d =
      let a = (branch_of b).0 in
      let suite = stmts_code ls now (branch_of b).1 in
      let after = now + length (functions_in (branch_of b).1) in
      let rest = stmts_code ls after last in
      let at_end : Due t2 later rest end = subst (λ x. Due t2 later (Elifs ls after x last) end) none (subst (λ n. Due t2 later (Elifs ls n (drop (i + 1) bs) last) end) goes d) in
      let silence = silent_code last quiet ls after in
      let same : skipping ls a suite ++ rest ≡ Elifs ls now (b ∷ []) last =
      ap (λ l. skipping ls a suite ++ l) silence ∙ ap (λ l. l ++ []) (branch_alone ls a suite rest silence) in
      before end later (subst (λ x. Due t1 later (Elifs ls now x last) end) (sym (rest_is bs i b lt is ∙ ap (λ l. b ∷ l) none))
      (subst (λ c. Due t1 later c end) same (Due-before (skipping ls a suite) rest h at_end)))

  -- after the last one
  pub elifs_end : {t0 t1 t2 : Contents} (bs : List BranchParts) (i : ℕ) (ends ss : List Stmt) (jumps : List ℕ) (first now : ℕ) → length bs ≤ i → ss ≡ ends → MakesAll t0 jumps (Elifs ls first bs (body_of ends)) t1 (Elifs ls now (drop i bs) (body_of ends)) → Gains t1 t2 (stmts_code ls now (body_of ss))
      → Due t0 jumps (Elifs ls first bs (body_of ends)) t2
  elifs_end {t0} {t1} {t2} bs i ends ss jumps first now le same before h =
      MakesAll-end jumps (Elifs ls first bs (body_of ends)) (Elifs ls now (drop i bs) (body_of ends)) before
      (subst (λ x. Gains t1 t2 (Elifs ls now x (body_of ends))) (sym (drop_all i bs le)) (subst (λ x. Gains t1 t2 (stmts_code ls now (body_of x))) same h))

-- the number moves on over an `elif`, and over the suite after the last
pub next_elif_number : (bs : List BranchParts) (i : ℕ) (b : BranchParts) (last : tree.Stmts) (now then all : ℕ) → i < length bs → get_or bs i b ≡ b → then ≡ now + length (functions_in (branch_of b).1)
    → now + length (functions_in (elifs_of (map branch_of (drop i bs)) last)) ≡ all → then + length (functions_in (elifs_of (map branch_of (drop (i + 1) bs)) last)) ≡ all
next_elif_number bs i b last now then all lt is goes before =
    let others = functions_in (elifs_of (map branch_of (drop (i + 1) bs)) last) in
    omega (
      arith,
      goes,
      ap (λ l. length (functions_in (elifs_of (map branch_of l) last))) (rest_is bs i b lt is),
      ap length (elif_defines (branch_of b) (map branch_of (drop (i + 1) bs)) last),
      length-append (functions_in (branch_of b).1) others,
    )

pub last_elif_number : (bs : List BranchParts) (i : ℕ) (ends ss : List Stmt) (now then all : ℕ) → length bs ≤ i → ss ≡ ends → then ≡ now + length (functions_in (body_of ss)) → now + length (functions_in (elifs_of (map branch_of (drop i bs)) (body_of ends))) ≡ all → then ≡ all
last_elif_number bs i ends ss now then all le same goes before =
    omega (arith, goes, ap (λ l. length (functions_in (elifs_of (map branch_of l) (body_of ends)))) (drop_all i bs le), ap (λ l. length (functions_in (body_of l))) same)

-- the number moves on over two suites, and where the second is silent
pub two_number : (first then now : ℕ) (suite others : tree.Stmts) → then ≡ first + length (functions_in suite) → now ≡ then + length (functions_in others) → now ≡ first + length (functions_in suite ++ functions_in others)
two_number first then now suite others goes on = omega (arith, goes, on, length-append (functions_in suite) (functions_in others))

pub alone_number : (first now : ℕ) (suite others : tree.Stmts) → silent_suite others ≡ true → now ≡ first + length (functions_in suite) → now ≡ first + length (functions_in suite ++ functions_in others)
alone_number first now suite others quiet goes = omega (arith, goes, length-append (functions_in suite) (functions_in others), ap length (silent_functions others quiet))

-- ---- what follows

-- with so many left after an `elif`, there are more, or the else suite has code
pub follows : (bs : List BranchParts) (last : tree.Stmts) (i left : ℕ) (quiet b : Bool) → left + (i + 1) ≡ length bs → quiet ≡ silent_suite last → b ≡ quiet && nat_eq left 0 → b ≡ false → Follows (drop (i + 1) bs) last
follows bs last i left false b many is ends here none = sym is
follows bs last i zero true b many is ends here none = absurd (let false_is : false ≡ true = sym here ∙ ends in cc)
follows bs last i (suc left) true b many is ends here none = absurd (omega (arith, many, ap length none, length-drop (i + 1) bs))

-- with none left there is none, and the else suite has no code
pub none_left : (bs : List BranchParts) (i left : ℕ) (quiet b : Bool) → left + (i + 1) ≡ length bs → b ≡ quiet && nat_eq left 0 → b ≡ true → drop (i + 1) bs ≡ []
none_left bs i left false b many ends here = absurd (let true_is : true ≡ false = sym here ∙ ends in cc)
none_left bs i left true b many ends here =
    let zero_left : left ≡ 0 = empty left (nat_eq left 0) refl (sym (sym here ∙ ends)) in
    drop_all (i + 1) bs (omega (arith, many, zero_left))

pub stays_quiet : (last : tree.Stmts) (left : ℕ) (quiet b : Bool) → quiet ≡ silent_suite last → b ≡ quiet && nat_eq left 0 → b ≡ true → silent_suite last ≡ true
stays_quiet last left false b is ends here = absurd (let true_is : true ≡ false = sym here ∙ ends in cc)
stays_quiet last left true b is ends here = sym is

-- an `if` with an `elif` has code
pub elifs_loud : (bs : List BranchParts) (last : tree.Stmts) → 0 < length bs → false ≡ silent_suite (elifs_of (map branch_of bs) last)
elifs_loud [] last some = absurd (omega (arith, some))
elifs_loud (b ∷ bs) last some = refl

pub elifs_none : (bs : List BranchParts) (last : tree.Stmts) → length bs ≡ 0 → silent_suite last ≡ silent_suite (elifs_of (map branch_of bs) last)
elifs_none [] last none = refl
elifs_none (b ∷ bs) last none = absurd (omega (arith, none))

-- what was there stands before the end of what is there now
pub end_after : {t0 t1 : Contents} (end : ℕ) → end ≡ length t1.lines → Extends t0 t1 → length t0.lines ≤ end
end_after {t0} {t1} end here before = omega (arith, here, length-Begins t0.lines t1.lines before.lines)
