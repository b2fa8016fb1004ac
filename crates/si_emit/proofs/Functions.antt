-- The functions of a script, one after the other.
use Rattle.std.proofs.Common.{◌≡◌, ℕ, suc, ◌+◌, ◌<◌, ◌≤◌, List, [], ◌∷◌, ◌++◌, map, length, drop, get_or, Option, Some, None, string_bytes, refl, sym, ap, subst, ◌∙◌, append_assoc, append-nil, length-append, arith}
use Rattle.std.specs.List.{flat_map, fold}
use Rattle.std.specs.Prelude.{slice_get}
use Rattle.std.specs.Option.{option_map}
use Rattle.std.proofs.lemmas.Grind.{flat_map-append}
use Rattle.std.proofs.lemmas.List.{drop_all, length-map, map-append}
use Rattle.std.proofs.lemmas.List.Sums.{fold-append}
use Rattle.std.proofs.lemmas.Option.{slice_get-map}
use Rattle.si_plain.specs.Names.{with_name}
use Rattle.si_semantics.specs.Value.{Text, Nothing}
use Rattle.si_semantics.specs.Tree.{Function, Stmts, functions_of, functions_in, functions_in_clauses}
use Rattle.si_semantics.specs.Grammar.{elifs_of, clauses_of}
use Rattle.si_semantics.specs.Scope.{locals_of}
use Rattle.si_syntax.specs.declared.stmt.Branch.{Branch}
use Rattle.si_syntax.specs.declared.stmt.Clause.{Clause}
use Rattle.si_syntax.specs.declared.stmt.Define.{Define}
use Rattle.si_syntax.specs.declared.stmt.Finally.{Finally, out-Finally}
use Rattle.si_syntax.specs.declared.stmt.Stmt.{Stmt}
use Rattle.si_syntax.specs.declared.stmt.Stmt.TheVariants as stmts
use Rattle.si_syntax.specs.Trees.{stmt_of, body_of, branch_of, clause_of, tried_of, try_of, finally_of}
use Rattle.si_syntax.proofs.Forms.{define_is}
use Rattle.si_syntax.proofs.Rows.{rest_is}
use Rattle.si_slots.specs.Code.{stmts_code, function_code, functions_code, entries_from, module_code, compiled}
use Rattle.si_slots.specs.Contents.{Contents}
use Rattle.si_slots.specs.Machine as machine
use Rattle.si_slots.specs.declared.routine.Routine.{Routine}
use Rattle.si_slots.specs.Views.{code_of, entry_of, entries_of, literals_of, locals_now, locals_of as locals_of_number, names_of, table_of, Gains}
use Rattle.si_slots.proofs.Gained.{Gains-append, length-code_of, length-owned}
use Rattle.si_emit.specs.inner.Functions.{StandAt, GainsRoutines, GainsFunctions, owned_literals, owned_names}
use Rattle.si_emit.proofs.Seen.{finally_seen, elif_defines}

-- ---- code and routines that a table gains

-- but for whose code is being added, a table is as another
record Matches (a b : Contents) : Type 0 where
  pub lines : code_of b ≡ code_of a
  pub literals : b.literals ≡ a.literals
  pub names : b.names ≡ a.names
  pub routines : b.routines ≡ a.routines

matches_itself : (a : Contents) → Matches a a
matches_itself a = record { lines = refl; literals = refl; names = refl; routines = refl }

closed_matches : (a b : Contents) → b ≡ record a { current = 0 } → Matches a b
closed_matches a b closed = record { lines = ap code_of closed; literals = ap (λ t. t.literals) closed; names = ap (λ t. t.names) closed; routines = ap (λ t. t.routines) closed }

-- instructions of one function speak of what they speak of
literals_owned : (n : ℕ) (xs : List machine.Instr) → flat_map literals_of xs ≡ flat_map owned_literals (machine.owned n xs)
literals_owned n [] = refl
literals_owned n (x ∷ xs) = ap (λ l. literals_of x ++ l) (literals_owned n xs)

names_owned : (n : ℕ) (xs : List machine.Instr) → flat_map names_of xs ≡ flat_map owned_names (machine.owned n xs)
names_owned n [] = refl
names_owned n (x ∷ xs) = ap (λ l. names_of x ++ l) (names_owned n xs)

-- code without functions, between two changes of whose code is being added
Gains-between : (a b c d : Contents) (n : ℕ) (xs : List machine.Instr) → length (locals_now b) ≡ n → Matches a b → Gains b c xs → Matches c d → GainsRoutines a d (machine.owned n xs) []
Gains-between a b c d n xs many before h after = record {
  lines = after.lines ∙ h.lines ∙ ap (λ l. l ++ machine.owned (length (locals_now b)) xs) before.lines ∙ ap (λ k. code_of a ++ machine.owned k xs) many;
  literals = after.literals ∙ h.literals ∙ ap (λ l. l ++ flat_map literals_of xs) before.literals ∙ ap (λ l. a.literals ++ l) (literals_owned n xs);
  names = after.names ∙ h.names ∙ ap (λ l. fold with_name l (flat_map names_of xs)) before.names ∙ ap (fold with_name a.names) (names_owned n xs);
  more = ap (map entry_of) (after.routines ∙ h.routines ∙ before.routines) ∙ sym (append-nil (entries_of a));
}

-- code and functions, and then more of both
GainsRoutines-append : (a b c : Contents) (xs ys : List machine.Owned) (es fs : List machine.Entry) → GainsRoutines a b xs es → GainsRoutines b c ys fs → GainsRoutines a c (xs ++ ys) (es ++ fs)
GainsRoutines-append a b c xs ys es fs h k = record {
  lines = k.lines ∙ ap (λ l. l ++ ys) h.lines ∙ append_assoc (code_of a) xs ys;
  literals = k.literals ∙ ap (λ l. l ++ flat_map owned_literals ys) h.literals ∙ append_assoc a.literals (flat_map owned_literals xs) (flat_map owned_literals ys) ∙ ap (λ l. a.literals ++ l) (sym (flat_map-append owned_literals xs ys));
  names = k.names ∙ ap (λ l. fold with_name l (flat_map owned_names ys)) h.names ∙ sym (fold-append with_name a.names (flat_map owned_names xs) (flat_map owned_names ys)) ∙ ap (fold with_name a.names) (sym (flat_map-append owned_names xs ys));
  more = k.more ∙ ap (λ l. l ++ fs) h.more ∙ append_assoc (entries_of a) es fs;
}

-- the last of the functions with locals
last_one : (frames : List (List Text)) (ls : List Text) → get_or (frames ++ ls ∷ []) (length frames) [] ≡ ls
last_one [] ls = refl
last_one (f ∷ frames) ls = last_one frames ls

-- the code of a function
pub code_gains : (a b c d e : Contents) (xs ys : List machine.Instr) (ls : List Text) → b ≡ record a { frames = a.frames ++ ls ∷ []; current = length a.frames + 1 } → code_of b ≡ code_of a → Gains b c xs → Gains c d ys → e ≡ record d { current = 0 }
    → GainsRoutines a e (machine.owned (length ls) (xs ++ ys)) []
code_gains a b c d e xs ys ls opened same h k closed =
    let before : Matches a b = record { lines = same; literals = ap (λ t. t.literals) opened; names = ap (λ t. t.names) opened; routines = ap (λ t. t.routines) opened } in
    let number : length a.frames + 1 ≡ suc (length a.frames) = omega arith in
    let now : locals_now b ≡ ls = ap locals_now opened ∙ ap (locals_of_number (a.frames ++ ls ∷ [])) number ∙ last_one a.frames ls in
    Gains-between a b d e (length ls) (xs ++ ys) (ap length now) before (Gains-append b c d xs ys h k) (closed_matches d e closed)

-- the code of the statements of a script
pub body_gains : (a b c d : Contents) (xs ys : List machine.Instr) → b ≡ record a { current = 0 } → Gains b c xs → Gains c d ys → GainsRoutines a d (machine.owned 0 (xs ++ ys)) []
body_gains a b c d xs ys closed h k = Gains-between a b d d 0 (xs ++ ys) (ap (λ t. length (locals_now t)) closed) (closed_matches a b closed) (Gains-append b c d xs ys h k) (matches_itself d)

get_here : {A : Type 0} (xs : List A) (y : A) (ys : List A) → slice_get (xs ++ y ∷ ys) (length xs) ≡ Some y
get_here [] y ys = refl
get_here (x ∷ xs) y ys = get_here xs y ys

-- ---- their code

functions_code-append : (fs gs : List Function) → functions_code (fs ++ gs) ≡ functions_code fs ++ functions_code gs
functions_code-append [] gs = refl
functions_code-append (f ∷ fs) gs =
    let code = machine.owned (length (locals_of f)) (function_code f) in
    ap (λ l. code ++ l) (functions_code-append fs gs) ∙ sym (append_assoc code (functions_code fs) (functions_code gs))

entries_from-append : (at : ℕ) (fs gs : List Function) → entries_from at (fs ++ gs) ≡ entries_from at fs ++ entries_from (at + length (functions_code fs)) gs
entries_from-append at [] gs = let here : at ≡ at + 0 = omega arith in ap (λ k. entries_from k gs) here
entries_from-append at (f ∷ fs) gs =
    let first : machine.Entry = record { at = at; parameters = length f.parameters; locals = length (locals_of f) } in
    let next = at + length (function_code f) in
    let code = machine.owned (length (locals_of f)) (function_code f) in
    let far : next + length (functions_code fs) ≡ at + length (code ++ functions_code fs) = omega (arith, length-owned (length (locals_of f)) (function_code f), length-append code (functions_code fs)) in
    ap (λ l. first ∷ l) (entries_from-append next fs gs ∙ ap (λ k. entries_from next fs ++ entries_from k gs) far)

-- how many lines a table has, once it has more code and functions
pub length_with : {a b : Contents} {code : List machine.Owned} {entries : List machine.Entry} → GainsRoutines a b code entries → length b.lines ≡ length a.lines + length code
length_with {a} {b} {code} {entries} h = omega (arith, ap length h.lines, length-append (code_of a) code, length-code_of a, length-code_of b)

pub functions_none : (t : Contents) → GainsFunctions t t []
functions_none t = record { lines = sym (append-nil (code_of t)); literals = sym (append-nil t.literals); names = refl; more = sym (append-nil (entries_of t)) }

pub functions_more : (a b c : Contents) (fs gs : List Function) → GainsFunctions a b fs → GainsFunctions b c gs → GainsFunctions a c (fs ++ gs)
functions_more a b c fs gs h k =
    let at : length b.lines ≡ length a.lines + length (functions_code fs) = length_with h in
    let first = entries_from (length a.lines) fs in
    let others = entries_from (length a.lines + length (functions_code fs)) gs in
    let all = GainsRoutines-append a b c (functions_code fs) (functions_code gs) first others h (subst (λ n. GainsRoutines b c (functions_code gs) (entries_from n gs)) at k) in
    subst (λ code. GainsRoutines a c code (entries_from (length a.lines) (fs ++ gs))) (sym (functions_code-append fs gs))
    (subst (GainsRoutines a c (functions_code fs ++ functions_code gs)) (sym (entries_from-append (length a.lines) fs gs)) all)

-- ---- where they stand

pub stand_front : (all : List Function) (n : ℕ) (fs gs : List Function) → StandAt all n (fs ++ gs) → StandAt all n fs
stand_front all n [] gs h = tt
stand_front all n (f ∷ fs) gs h = (h.0, stand_front all (n + 1) fs gs h.1)

pub stand_after : (all : List Function) (n then : ℕ) (fs gs : List Function) → then ≡ n + length fs → StandAt all n (fs ++ gs) → StandAt all then gs
stand_after all n then [] gs goes h = let same : n ≡ then = omega (arith, goes) in subst (λ k. StandAt all k gs) same h
stand_after all n then (f ∷ fs) gs goes h = let on : then ≡ n + 1 + length fs = omega (arith, goes) in stand_after all (n + 1) then fs gs on h.1

stand_within : (before fs : List Function) → StandAt (before ++ fs) (length before) fs
stand_within before [] = tt
stand_within before (f ∷ fs) =
    let far : length (before ++ f ∷ []) ≡ length before + 1 = omega (arith, length-append before (f ∷ [])) in
    let others = subst (λ l. StandAt l (length (before ++ f ∷ [])) fs) (append_assoc before (f ∷ []) fs) (stand_within (before ++ f ∷ []) fs) in
    (get_here before f fs, subst (λ n. StandAt (before ++ f ∷ fs) n fs) far others)

-- all functions stand from 0 on
pub stand_all : (fs : List Function) → StandAt fs 0 fs
stand_all fs = stand_within [] fs

-- ---- a walk over them

-- between two moments of a walk these functions of a script are put, in order, of which the rest is to come
pub record Walk (all whole rest : List Function) (t0 t1 : Contents) (n0 n1 : ℕ) : Type 0 where
  pub gains : (end : Contents) → GainsFunctions t1 end rest → GainsFunctions t0 end whole
  pub stands : StandAt all n1 rest
  pub number : n1 + length rest ≡ n0 + length whole

pub walk_begins : (all whole : List Function) (t : Contents) (n : ℕ) → StandAt all n whole → Walk all whole whole t t n n
walk_begins all whole t n h = record { gains = λ end k. k; stands = h; number = refl }

-- the rest is this too
pub walk_from : {all whole rest : List Function} {t0 t1 : Contents} {n0 n1 : ℕ} (more : List Function) → rest ≡ more → Walk all whole rest t0 t1 n0 n1 → Walk all whole more t0 t1 n0 n1
walk_from {all} {whole} {rest} {t0} {t1} {n0} {n1} more is w = subst (λ l. Walk all whole l t0 t1 n0 n1) is w

pub walk_more : {all whole rest : List Function} {t0 t1 t2 : Contents} {n0 n1 n2 : ℕ} (fs more : List Function) → rest ≡ fs ++ more → GainsFunctions t1 t2 fs → n2 ≡ n1 + length fs → Walk all whole rest t0 t1 n0 n1 → Walk all whole more t0 t2 n0 n2
walk_more {all} {whole} {rest} {t0} {t1} {t2} {n0} {n1} {n2} fs more is h goes w = record {
  gains = λ end k. w.gains end (subst (GainsFunctions t1 end) (sym is) (functions_more t1 t2 end fs more h k));
  stands = stand_after all n1 n2 fs more goes (subst (StandAt all n1) is w.stands);
  number = omega (arith, goes, ap length is, length-append fs more, w.number);
}

-- these are the last
pub walk_gains : {all whole rest : List Function} {t0 t1 t2 : Contents} {n0 n1 : ℕ} (fs : List Function) → rest ≡ fs → GainsFunctions t1 t2 fs → Walk all whole rest t0 t1 n0 n1 → GainsFunctions t0 t2 whole
walk_gains {all} {whole} {rest} {t0} {t1} {t2} fs is h w = w.gains t2 (subst (GainsFunctions t1 t2) (sym is) h)

pub walk_number : {all whole rest : List Function} {t0 t1 : Contents} {n0 n1 n2 : ℕ} (fs : List Function) → rest ≡ fs → n2 ≡ n1 + length fs → Walk all whole rest t0 t1 n0 n1 → n2 ≡ n0 + length whole
walk_number fs is goes w = omega (arith, goes, ap length is, w.number)

-- ---- of statements

pub stmts_rest : (ss : List Stmt) (i : ℕ) (s : Stmt) → i < length ss → get_or ss i s ≡ s → functions_in (body_of (drop i ss)) ≡ functions_of (stmt_of s) ++ functions_in (body_of (drop (i + 1) ss))
stmts_rest ss i s lt at = ap (λ l. functions_in (body_of l)) (rest_is ss i s lt at)

pub stmts_none : (ss : List Stmt) (i : ℕ) → length ss ≤ i → functions_in (body_of (drop i ss)) ≡ []
stmts_none ss i le = ap (λ l. functions_in (body_of l)) (drop_all i ss le)

pub elifs_rest : (bs : List Branch) (i : ℕ) (b : Branch) (last : Stmts) (ss : List Stmt) → i < length bs → get_or bs i b ≡ b → ss ≡ b.body.items
    → functions_in (elifs_of (map branch_of (drop i bs)) last) ≡ functions_in (body_of ss) ++ functions_in (elifs_of (map branch_of (drop (i + 1) bs)) last)
elifs_rest bs i b last ss lt at all =
    let more = functions_in (elifs_of (map branch_of (drop (i + 1) bs)) last) in
    ap (λ l. functions_in (elifs_of (map branch_of l) last)) (rest_is bs i b lt at) ∙ elif_defines (branch_of b) (map branch_of (drop (i + 1) bs)) last ∙ ap (λ l. functions_in (body_of l) ++ more) (sym all)

pub elifs_last : (bs : List Branch) (i : ℕ) (ends ss : List Stmt) → length bs ≤ i → ss ≡ ends → functions_in (elifs_of (map branch_of (drop i bs)) (body_of ends)) ≡ functions_in (body_of ss)
elifs_last bs i ends ss le same = ap (λ l. functions_in (elifs_of (map branch_of l) (body_of ends))) (drop_all i bs le) ∙ ap (λ l. functions_in (body_of l)) (sym same)

-- ---- where those of a part stand

pub stmt_stands : (all : List Function) (n : ℕ) (ss : List Stmt) (i : ℕ) (s : Stmt) → s ≡ get_or ss i s → i < length ss → StandAt all n (functions_in (body_of (drop i ss))) → StandAt all n (functions_of (stmt_of s))
stmt_stands all n ss i s at lt h = stand_front all n (functions_of (stmt_of s)) (functions_in (body_of (drop (i + 1) ss))) (subst (StandAt all n) (stmts_rest ss i s lt (sym at)) h)

pub elif_stands : (all : List Function) (n : ℕ) (bs : List Branch) (i : ℕ) (b : Branch) (last : Stmts) (ss : List Stmt) → ss ≡ b.body.items → b ≡ get_or bs i b → i < length bs
    → StandAt all n (functions_in (elifs_of (map branch_of (drop i bs)) last)) → StandAt all n (functions_in (body_of ss))
elif_stands all n bs i b last ss body at lt h =
    stand_front all n (functions_in (body_of ss)) (functions_in (elifs_of (map branch_of (drop (i + 1) bs)) last)) (subst (StandAt all n) (elifs_rest bs i b last ss lt (sym at) body) h)

-- those in front, and those that are left
pub part_stands : (all : List Function) (n : ℕ) (whole fs gs : List Function) → whole ≡ fs ++ gs → StandAt all n whole → StandAt all n fs
part_stands all n whole fs gs is h = stand_front all n fs gs (subst (StandAt all n) is h)

pub rest_stands : (all : List Function) (n then : ℕ) (whole fs gs : List Function) → whole ≡ fs ++ gs → then ≡ n + length fs → StandAt all n whole → StandAt all then gs
rest_stands all n then whole fs gs is goes h = stand_after all n then fs gs goes (subst (StandAt all n) is h)

pub all_stand : (all : List Function) (n : ℕ) (whole fs : List Function) → whole ≡ fs → StandAt all n whole → StandAt all n fs
all_stand all n whole fs is h = subst (StandAt all n) is h

-- two parts, one after the other
pub both_gain : {a b c : Contents} (whole fs gs : List Function) → whole ≡ fs ++ gs → GainsFunctions a b fs → GainsFunctions b c gs → GainsFunctions a c whole
both_gain {a} {b} {c} whole fs gs is h k = subst (GainsFunctions a c) (sym is) (functions_more a b c fs gs h k)

pub both_pass : (n then now : ℕ) (whole fs gs : List Function) → whole ≡ fs ++ gs → then ≡ n + length fs → now ≡ then + length gs → now ≡ n + length whole
both_pass n then now whole fs gs is goes on = omega (arith, goes, on, ap length is, length-append fs gs)

-- ---- of except clauses

abbrev pub Handled : List Clause → List Function
Handled cs = functions_in_clauses (clauses_of (map clause_of cs))

pub clauses_rest : (cs : List Clause) (i : ℕ) (c : Clause) (ss : List Stmt) → i < length cs → get_or cs i c ≡ c → ss ≡ c.body.items → Handled (drop i cs) ≡ functions_in (body_of ss) ++ Handled (drop (i + 1) cs)
clauses_rest cs i c ss lt at all = ap Handled (rest_is cs i c lt at) ∙ ap (λ l. functions_in (body_of l) ++ Handled (drop (i + 1) cs)) (sym all)

pub clauses_none : (cs : List Clause) (i : ℕ) → length cs ≤ i → Handled (drop i cs) ≡ []
clauses_none cs i le = ap Handled (drop_all i cs le)

pub clause_stands : (all : List Function) (n : ℕ) (cs : List Clause) (i : ℕ) (c : Clause) (ss : List Stmt) → ss ≡ c.body.items → c ≡ get_or cs i c → i < length cs → StandAt all n (Handled (drop i cs)) → StandAt all n (functions_in (body_of ss))
clause_stands all n cs i c ss body at lt h = stand_front all n (functions_in (body_of ss)) (Handled (drop (i + 1) cs)) (subst (StandAt all n) (clauses_rest cs i c ss lt (sym at) body) h)

-- what stands in front of a finally suite, and that suite
pub finally_front : (f : Finally) (ss : List Stmt) → ss ≡ (out-Finally f).end.items → functions_of (finally_of f) ≡ functions_of (try_of (out-Finally f).tried) ++ functions_in (body_of ss)
finally_front f ss done =
    let t = tried_of (out-Finally f).tried in
    let b = functions_in t.0 in let cs = functions_in_clauses (clauses_of t.1) in let c = functions_in t.2 in let end = functions_in (body_of ss) in
    ap functions_of (finally_seen f ss done) ∙ ap (λ l. b ++ l) (sym (append_assoc cs c end)) ∙ sym (append_assoc b (cs ++ c) end)

-- ---- a definition

-- the function that it defines
abbrev pub defined : Define → Function
defined d = record { name = string_bytes d.name; parameters = map string_bytes d.parameters.items; body = body_of d.body.items }

defines : (d : Define) (s : Stmt) → s ≡ stmts.Define d → functions_of (stmt_of s) ≡ defined d ∷ []
defines d s is = ap (λ x. functions_of (stmt_of x)) is ∙ ap functions_of (define_is d)

-- the names that are local to it
pub locals_at : (all : List Function) (n : ℕ) (d : Define) (s : Stmt) → s ≡ stmts.Define d → StandAt all n (functions_of (stmt_of s)) → slice_get (map locals_of all) n ≡ Some (locals_of (defined d))
locals_at all n d s is h =
    let here = subst (StandAt all n) (defines d s is) h in
    slice_get-map locals_of all n ∙ ap (option_map locals_of) here.0

-- they are there, and are what is found
pub not_missing : {A B : Type 0} (g : A → B) (found : Option A) (there : Option B) (x : B) → option_map g found ≡ there → there ≡ Some x → found ≡ None → ⊥
not_missing g None there x h is none = cc
not_missing g (Some a) there x h is none = cc

pub found_is : {A B : Type 0} (g : A → B) (found : Option A) (there : Option B) (x : B) (a : A) → option_map g found ≡ there → there ≡ Some x → found ≡ Some a → g a ≡ x
found_is g None there x a h is some = absurd cc
found_is g (Some b) there x a h is some = cc

-- code that is put, and its routine
pub routine_gains : {a b c : Contents} (xs : List machine.Owned) (at k n parameters locals : ℕ) → at ≡ length a.lines → k ≡ parameters → n ≡ locals → GainsRoutines a b xs []
    → c ≡ record b { routines = b.routines ++ (record { at = at; parameters = k; locals = n }) ∷ [] } → GainsRoutines a c xs ((record { at = length a.lines; parameters = parameters; locals = locals }) ∷ [])
routine_gains {a} {b} {c} xs at k n parameters locals here many names h is =
    let r : Routine = record { at = at; parameters = k; locals = n } in
    let entry : ℕ → ℕ → ℕ → machine.Entry = λ x y z. record { at = x; parameters = y; locals = z } in
    let same : entry at k n ≡ entry (length a.lines) parameters locals = ap (λ x. entry x k n) here ∙ ap (λ y. entry (length a.lines) y n) many ∙ ap (entry (length a.lines) parameters) names in
    let put : GainsRoutines a (record b { routines = b.routines ++ r ∷ [] }) xs (entry at k n ∷ []) = record {
      lines = h.lines;
      literals = h.literals;
      names = h.names;
      more = map-append entry_of b.routines (r ∷ []) ∙ ap (λ l. l ++ entry at k n ∷ []) (h.more ∙ append-nil (entries_of a));
    } in
    subst (λ t. GainsRoutines a t xs (entry (length a.lines) parameters locals ∷ [])) (sym is) (subst (λ e. GainsRoutines a (record b { routines = b.routines ++ r ∷ [] }) xs (e ∷ [])) same put)

pub define_functions : {a b : Contents} (d : Define) (s : Stmt) (names : List Text) → s ≡ stmts.Define d → names ≡ locals_of (defined d)
    → GainsRoutines a b (machine.owned (length names) (stmts_code names 0 (body_of d.body.items) ++ machine.Return (machine.Literal Nothing) ∷ [])) (record { at = length a.lines; parameters = length d.parameters.items; locals = length names } ∷ [])
    → GainsFunctions a b (functions_of (stmt_of s))
define_functions {a} {b} d s names is named h =
    let f = defined d in
    let end = machine.Return (machine.Literal Nothing) ∷ [] in
    let entry : ℕ → ℕ → List machine.Entry = λ k n. record { at = length a.lines; parameters = k; locals = n } ∷ [] in
    let all = machine.owned (length (locals_of f)) (function_code f) in
    let code : machine.owned (length names) (stmts_code names 0 (body_of d.body.items) ++ end) ≡ all ++ [] = ap (λ l. machine.owned (length l) (stmts_code l 0 (body_of d.body.items) ++ end)) named ∙ sym (append-nil all) in
    let counted : length d.parameters.items ≡ length (map string_bytes d.parameters.items) = sym (length-map d.parameters.items string_bytes) in
    let entries : entry (length d.parameters.items) (length names) ≡ entry (length f.parameters) (length (locals_of f)) = ap (λ k. entry k (length names)) counted ∙ ap (λ l. entry (length f.parameters) (length l)) named in
    subst (GainsFunctions a b) (sym (defines d s is))
    (subst (GainsRoutines a b (all ++ [])) entries (subst (λ c. GainsRoutines a b c (entry (length d.parameters.items) (length names))) code h))

-- ---- a whole script

-- its functions, and then its statements
pub script_gains : {a b c : Contents} (body seen again : Stmts) (first count : ℕ) → seen ≡ body → again ≡ body → first ≡ count → GainsFunctions a b (functions_in seen) → GainsRoutines b c (machine.owned 0 (module_code first again)) []
    → GainsRoutines a c (functions_code (functions_in body) ++ machine.owned 0 (module_code count body)) (entries_from (length a.lines) (functions_in body))
script_gains {a} {b} {c} body seen again first count e0 e1 e2 h k =
    let entries = entries_from (length a.lines) (functions_in body) in
    let functions = subst (λ s. GainsFunctions a b (functions_in s)) e0 h in
    let statements = subst (λ n. GainsRoutines b c (machine.owned 0 (module_code n body)) []) e2 (subst (λ s. GainsRoutines b c (machine.owned 0 (module_code first s)) []) e1 k) in
    subst (GainsRoutines a c (functions_code (functions_in body) ++ machine.owned 0 (module_code count body))) (append-nil entries)
    (GainsRoutines-append a b c (functions_code (functions_in body)) (machine.owned 0 (module_code count body)) entries [] functions statements)

-- where its statements begin
pub script_at : {a b : Contents} (body seen : Stmts) (at : ℕ) → seen ≡ body → at ≡ length b.lines → GainsFunctions a b (functions_in seen) → at ≡ length a.lines + length (functions_code (functions_in body))
script_at {a} {b} body seen at e0 here h = here ∙ length_with (subst (λ s. GainsFunctions a b (functions_in s)) e0 h)

-- the table that it gives, and where its statements begin
pub script_compiled : {a b : Contents} (body : Stmts) (at : ℕ) → at ≡ length a.lines + length (functions_code (functions_in body))
    → GainsRoutines a b (functions_code (functions_in body) ++ machine.owned 0 (module_code (length a.routines) body)) (entries_from (length a.lines) (functions_in body))
    → (table_of b, at) ≡ compiled (table_of a) (record { body = body })
script_compiled {a} {b} body at here h =
    let fs = functions_in body in
    let code = functions_code fs in
    let made : List machine.Owned → List machine.Entry → ℕ → machine.Table × ℕ = λ lines entries place. (record { lines = lines; entries = entries }, place) in
    let counted : length a.routines ≡ length (entries_of a) = sym (length-map a.routines entry_of) in
    let long : length a.lines ≡ length (code_of a) = sym (length-code_of a) in
    let lines : code_of b ≡ code_of a ++ (code ++ machine.owned 0 (module_code (length (entries_of a)) body)) = h.lines ∙ ap (λ n. code_of a ++ (code ++ machine.owned 0 (module_code n body))) counted in
    let entries : entries_of b ≡ entries_of a ++ entries_from (length (code_of a)) fs = h.more ∙ ap (λ n. entries_of a ++ entries_from n fs) long in
    let place : at ≡ length (code_of a) + length code = here ∙ ap (λ n. n + length code) long in
    ap (λ l. made l (entries_of b) at) lines ∙ ap (λ l. made (code_of a ++ (code ++ machine.owned 0 (module_code (length (entries_of a)) body))) l at) entries
    ∙ ap (made (code_of a ++ (code ++ machine.owned 0 (module_code (length (entries_of a)) body))) (entries_of a ++ entries_from (length (code_of a)) fs)) place
