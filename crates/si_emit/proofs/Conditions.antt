-- What the tests of statements give, once their jumps are aimed.
use Rattle.std.proofs.Common.{◌≡◌, ℕ, ◌+◌, ◌<◌, ◌≤◌, List, [], ◌∷◌, ◌++◌, map, length, drop, get_or, Bool, true, false, refl, sym, ap, subst, ◌∙◌, append_assoc, append-nil, length-append, arith}
use Rattle.std.specs.List.{AllByRecursion}
use Rattle.std.proofs.lemmas.List.{drop_all}
use Rattle.si_semantics.specs.Value.{Text}
use Rattle.si_semantics.specs.Tree as tree
use Rattle.si_semantics.specs.Grammar.{exprs_of}
use Rattle.si_plain.proofs.Begins.{length-Begins}
use Rattle.si_syntax.specs.declared.expr.Expr.{Expr}
use Rattle.si_syntax.specs.Trees.{expr_of}
use Rattle.si_syntax.proofs.Rows.{rest_is}
use Rattle.si_slots.specs.Machine as machine
use Rattle.si_slots.specs.Machine.{ToJump, Target, Aim, Ahead}
use Rattle.si_slots.specs.Code.{simple_code, row_code, condition_code}
use Rattle.si_slots.specs.Contents.{Contents, Extends}
use Rattle.si_slots.specs.Views.{Gains}
use Rattle.si_slots.specs.inner.Jumps.{Due, AimsAll}
use Rattle.si_slots.proofs.Gained.{length_gained}
use Rattle.si_slots.proofs.Jumped.{All-push, Due-nil, Due-jump, Due-length}
use Rattle.si_emit.specs.inner.Conditions.{is_row, Opens, skipping}
use Rattle.si_emit.proofs.Fronts.{Ending, Test, ending_test}
use Rattle.si_emit.proofs.Branches.{MakesAll, all_aimed, test_after}

-- ---- one test

-- a test whose last instruction is due, and more code
pub ending_due : {t0 t1 t2 : Contents} {later : List ℕ} (test : Aim → List machine.Instr) (e : Ending test) (at : ℕ) (code : List machine.Instr) → at + 1 ≡ length t1.lines
    → Gains t0 t1 (test (Ahead 0)) → Due t1 later code t2 → Due t0 (at ∷ later) (test (Ahead (length code)) ++ code) t2
ending_due {t0} {t1} {t2} {later} test e at code here h d =
    let gains : Gains t0 t1 (e.before ++ e.last (Ahead 0) ∷ []) = subst (Gains t0 t1) (e.is (Ahead 0)) h in
    let place : at ≡ length t0.lines + length e.before = omega (arith, here, length_gained gains, length-append e.before (e.last (Ahead 0) ∷ [])) in
    let due = Due-jump e.before code (e.last (Ahead 0)) gains place d in
    let whole = ap (λ l. l ++ code) (e.is (Ahead (length code))) ∙ append_assoc e.before (e.last (Ahead (length code)) ∷ []) code in
    subst (λ c. Due t0 (at ∷ later) c t2) (ap (λ i. e.before ++ i ∷ code) (e.leads (Ahead 0) (Ahead (length code))) ∙ sym whole) due

-- one that opens what comes next
pub ending_opens : {t0 t1 : Contents} {jumps : List ℕ} (test : Aim → List machine.Instr) (e : Ending test) (at : ℕ) → jumps ≡ at ∷ [] → at + 1 ≡ length t1.lines → Gains t0 t1 (test (Ahead 0))
    → Opens t0 jumps (λ rest. test (Ahead (length rest)) ++ rest) t1
ending_opens {t0} {t1} {jumps} test e at one here h end rest gains =
    subst (λ js. Due t0 js (test (Ahead (length rest)) ++ rest) end) (sym one) (ending_due test e at rest here h (Due-nil gains))

-- ---- rows

abbrev pub Row : List Text → (ℕ → Target) → Target → Expr → List Expr → List machine.Instr
Row ls early g x es = row_code ls early g (expr_of x) (exprs_of (map expr_of es))

-- an operand before the last, which leads so many instructions past those after it
pub row_step : {t1 t2 : Contents} (ls : List Text) (soon : Bool) (early : ℕ → Target) (g : Target) (rest : List machine.Instr) → ((k : ℕ) → early k ≡ ToJump soon (Ahead (k + length rest)))
    → (x : Expr) (es : List Expr) (i : ℕ) (y : Expr) (at : ℕ) → i < length es → get_or es i y ≡ y → at + 1 ≡ length t2.lines → Gains t1 t2 (Test ls 0 soon (expr_of x) (Ahead 0))
    → (end : Contents) (later : List ℕ) → Due t2 later (Row ls early g y (drop (i + 1) es) ++ rest) end → Due t1 (at ∷ later) (Row ls early g x (drop i es) ++ rest) end
row_step {t1} {t2} ls soon early g rest leads x es i y at lt is here h end later d =
    let others = Row ls early g y (drop (i + 1) es) in
    let due = ending_due (Test ls 0 soon (expr_of x)) (ending_test ls 0 soon (expr_of x)) at (others ++ rest) here h d in
    let far : ToJump soon (Ahead (length (others ++ rest))) ≡ early (length others) = ap (λ n. ToJump soon (Ahead n)) (length-append others rest) ∙ sym (leads (length others)) in
    let first = simple_code ls (expr_of x) (early (length others)) in
    let same : simple_code ls (expr_of x) (ToJump soon (Ahead (length (others ++ rest)))) ++ (others ++ rest) ≡ Row ls early g x (drop i es) ++ rest =
    ap (λ j. simple_code ls (expr_of x) j ++ (others ++ rest)) far ∙ sym (append_assoc first others rest) ∙ ap (λ l. Row ls early g x l ++ rest) (sym (rest_is es i y lt is)) in
    subst (λ c. Due t1 (at ∷ later) c end) same due

-- the last one
row_end : (ls : List Text) (early : ℕ → Target) (g : Target) (x : Expr) (es : List Expr) (i : ℕ) → length es ≤ i → Row ls early g x (drop i es) ≡ simple_code ls (expr_of x) g
row_end ls early g x es i le = ap (Row ls early g x) (drop_all i es le)

abbrev pub RowSoFar : List Text → Bool → Contents → List ℕ → Expr → List Expr → Contents → Expr → List Expr → Type 0
RowSoFar ls soon t0 jumps x es t1 y others =
    (early : ℕ → Target) (g : Target) (rest : List machine.Instr) → ((k : ℕ) → early k ≡ ToJump soon (Ahead (k + length rest))) → MakesAll t0 jumps (Row ls early g x es ++ rest) t1 (Row ls early g y others ++ rest)

pub row_past : {t0 t1 t2 : Contents} (ls : List Text) (soon when : Bool) (jumps : List ℕ) (x : Expr) (es : List Expr) (y : Expr) (i at : ℕ) → length es ≤ i → RowSoFar ls soon t0 jumps x es t1 y (drop i es)
    → at + 1 ≡ length t2.lines → Gains t1 t2 (Test ls 0 when (expr_of y) (Ahead 0))
    → (early : ℕ → Target) (end : Contents) (rest : List machine.Instr) → ((k : ℕ) → early k ≡ ToJump soon (Ahead (k + length rest))) → Gains t2 end rest
    → Due t0 (jumps ++ at ∷ []) (Row ls early (ToJump when (Ahead (length rest))) x es ++ rest) end
row_past {t0} {t1} {t2} ls soon when jumps x es y i at le before here h early end rest leads gains =
    let g = ToJump when (Ahead (length rest)) in
    before early g rest leads end (at ∷ [])
    (subst (λ c. Due t1 (at ∷ []) (c ++ rest) end) (sym (row_end ls early g y es i le))
    (ending_due (Test ls 0 when (expr_of y)) (ending_test ls 0 when (expr_of y)) at rest here h (Due-nil gains)))

pub row_within : {t0 t1 t2 : Contents} (ls : List Text) (soon when : Bool) (jumps : List ℕ) (x : Expr) (es : List Expr) (y : Expr) (i : ℕ) → length es ≤ i → RowSoFar ls soon t0 jumps x es t1 y (drop i es)
    → Gains t1 t2 (Test ls 0 when (expr_of y) (Ahead 0))
    → (early : ℕ → Target) → ((k : ℕ) → early k ≡ ToJump soon (Ahead k)) → Due t0 jumps (Row ls early (ToJump when (Ahead 0)) x es) t2
row_within {t0} {t1} {t2} ls soon when jumps x es y i le before h early leads =
    let g = ToJump when (Ahead 0) in
    let none : (k : ℕ) → k ≡ k + 0 = λ k. omega arith in
    let last : Gains t1 t2 (Row ls early g y (drop i es) ++ []) = subst (Gains t1 t2) (sym (append-nil _ ∙ row_end ls early g y es i le)) h in
    let due = before early g [] (λ k. leads k ∙ ap (λ n. ToJump soon (Ahead n)) (none k)) t2 [] (Due-nil last) in
    subst (λ c. Due t0 jumps c t2) (append-nil (Row ls early g x es)) (subst (λ js. Due t0 js (Row ls early g x es ++ []) t2) (append-nil jumps) due)

-- a row's last instruction has its target
ending_row : (ls : List Text) (early : ℕ → Target) (when : Bool) (a : tree.Expr) (more : tree.Exprs) → Ending (λ x. row_code ls early (ToJump when x) a more)
ending_row ls early when a tree.NoExprs = ending_test ls 0 when a
ending_row ls early when a (tree.MoreExprs b more) =
    let e = ending_row ls early when b more in
    let first = simple_code ls a (early (length e.before + 1)) in
    let far : (x : Aim) → length (row_code ls early (ToJump when x) b more) ≡ length e.before + 1 = λ x. omega (arith, ap length (e.is x), length-append e.before (e.last x ∷ [])) in
    record {
      before = first ++ e.before;
      last = e.last;
      is = λ x. ap (λ n. simple_code ls a (early n) ++ row_code ls early (ToJump when x) b more) (far x) ∙ ap (λ l. first ++ l) (e.is x) ∙ sym (append_assoc first e.before (e.last x ∷ []));
      leads = e.leads;
    }

-- one jump more stands after what stood in front
pub all_after : {t0 t1 t2 : Contents} {more : List ℕ} (ls : List Text) (when : Bool) (a : tree.Expr) (jumps : List ℕ) (at : ℕ) → more ≡ jumps ++ at ∷ [] → at + 1 ≡ length t2.lines → Gains t1 t2 (Test ls 0 when a (Ahead 0)) → Extends t0 t1
    → AllByRecursion (λ k. length t0.lines ≤ k) jumps → AllByRecursion (λ k. length t0.lines ≤ k) more
all_after {t0} {t1} {t2} {more} ls when a jumps at push here h before all =
    let after : length t0.lines ≤ at = omega (arith, length-Begins t0.lines t1.lines before.lines, test_after ls 0 a when at here h) in
    subst (AllByRecursion (λ k. length t0.lines ≤ k)) (sym push) (All-push (length t0.lines) jumps at all after)

-- of places after another one, the last, and those before it
pub after_last : (low : ℕ) (xs : List ℕ) (x : ℕ) → AllByRecursion (λ k. low ≤ k) (xs ++ x ∷ []) → low ≤ x
after_last low [] x h = h.0
after_last low (y ∷ ys) x h = after_last low ys x h.1

pub after_soon : (low : ℕ) (xs : List ℕ) (x : ℕ) → AllByRecursion (λ k. low ≤ k) (xs ++ x ∷ []) → AllByRecursion (λ k. low ≤ k) xs
after_soon low [] x h = tt
after_soon low (y ∷ ys) x h = (h.0, after_soon low ys x h.1)

pub after_one : (low at : ℕ) (places : List ℕ) → places ≡ at ∷ [] → low ≤ at → AllByRecursion (λ k. low ≤ k) places
after_one low at places one h = subst (AllByRecursion (λ k. low ≤ k)) (sym one) (h, tt)

-- ---- tests of statements

-- one that is no row
simple_is : (ls : List Text) (a : tree.Expr) (g : Target) → is_row a ≡ false → condition_code ls a g ≡ simple_code ls a g
simple_is ls (tree.Constant v) g h = refl
simple_is ls (tree.Name x) g h = refl
simple_is ls (tree.Unary o a) g h = refl
simple_is ls (tree.Binary o a b) g h = refl
simple_is ls (tree.Subscript a b) g h = refl
simple_is ls (tree.Attribute a x) g h = refl
simple_is ls (tree.Call f x args names) g h = refl
simple_is ls (tree.Tuple items) g h = refl
simple_is ls (tree.ListDisplay items) g h = refl
simple_is ls (tree.DictDisplay items) g h = refl
simple_is ls (tree.Boolean o a more) g h = absurd cc
simple_is ls (tree.Compare a cs) g h = refl
simple_is ls (tree.Conditional a b c) g h = refl

-- the last instruction of a test has its target, where it leads on true
pub ending_repeat : (ls : List Text) (a : tree.Expr) → Ending (λ x. condition_code ls a (ToJump true x))
ending_repeat ls (tree.Constant v) = ending_test ls 0 true (tree.Constant v)
ending_repeat ls (tree.Name x) = ending_test ls 0 true (tree.Name x)
ending_repeat ls (tree.Unary o a) = ending_test ls 0 true (tree.Unary o a)
ending_repeat ls (tree.Binary o a b) = ending_test ls 0 true (tree.Binary o a b)
ending_repeat ls (tree.Subscript a b) = ending_test ls 0 true (tree.Subscript a b)
ending_repeat ls (tree.Attribute a x) = ending_test ls 0 true (tree.Attribute a x)
ending_repeat ls (tree.Call f x args names) = ending_test ls 0 true (tree.Call f x args names)
ending_repeat ls (tree.Tuple items) = ending_test ls 0 true (tree.Tuple items)
ending_repeat ls (tree.ListDisplay items) = ending_test ls 0 true (tree.ListDisplay items)
ending_repeat ls (tree.DictDisplay items) = ending_test ls 0 true (tree.DictDisplay items)
ending_repeat ls (tree.Boolean tree.And a more) = ending_row ls (λ k. ToJump false (Ahead k)) true a more
ending_repeat ls (tree.Boolean tree.Or a more) = ending_test ls 0 true (tree.Boolean tree.Or a more)
ending_repeat ls (tree.Compare a cs) = ending_test ls 0 true (tree.Compare a cs)
ending_repeat ls (tree.Conditional a b c) = ending_test ls 0 true (tree.Conditional a b c)

-- one alone
pub simple_opens : {t0 t1 : Contents} {jumps : List ℕ} (ls : List Text) (a : tree.Expr) (at : ℕ) → is_row a ≡ false → jumps ≡ at ∷ [] → at + 1 ≡ length t1.lines → Gains t0 t1 (Test ls 0 false a (Ahead 0))
    → Opens t0 jumps (λ rest. skipping ls a rest) t1
simple_opens {t0} {t1} {jumps} ls a at alone one here h end rest gains =
    subst (λ c. Due t0 jumps (c ++ rest) end) (sym (simple_is ls a (ToJump false (Ahead (length rest))) alone)) (ending_opens (Test ls 0 false a) (ending_test ls 0 false a) at one here h end rest gains)

pub simple_repeats : {t0 t1 : Contents} (ls : List Text) (a : tree.Expr) → is_row a ≡ false → Gains t0 t1 (Test ls 0 true a (Ahead 0)) → Gains t0 t1 (condition_code ls a (ToJump true (Ahead 0)))
simple_repeats {t0} {t1} ls a alone h = subst (Gains t0 t1) (sym (simple_is ls a (ToJump true (Ahead 0)) alone)) h

-- `or`, whose first operands lead to its end
pub or_opens : {t0 t1 t2 : Contents} {jumps : List ℕ} (ls : List Text) (x : Expr) (es : List Expr) (a : tree.Expr) (soon seen : List ℕ) (at : ℕ) → a ≡ tree.Boolean tree.Or (expr_of x) (exprs_of (map expr_of es))
    → seen ≡ soon → jumps ≡ at ∷ [] → at + 1 ≡ length t1.lines
    → ((early : ℕ → Target) → ((k : ℕ) → early k ≡ ToJump true (Ahead k)) → Due t0 soon (Row ls early (ToJump false (Ahead 0)) x es) t1) → AimsAll t1 seen t2
    → Opens t0 jumps (λ rest. skipping ls a rest) t2
or_opens {t0} {t1} {t2} {jumps} ls x es a soon seen at is same one here within aims end rest gains =
    let early : ℕ → Target = λ k. ToJump true (Ahead k) in
    let due = within early (λ k. refl) in
    let all : Gains t0 t2 (Row ls early (ToJump false (Ahead 0)) x es) = all_aimed same due aims in
    let stays : at + 1 ≡ length t2.lines = omega (arith, here, length_gained all, Due-length due) in
    subst (λ e. Due t0 jumps (skipping ls e rest) end) (sym is)
    (ending_opens (λ j. Row ls early (ToJump false j) x es) (ending_row ls early false (expr_of x) (exprs_of (map expr_of es))) at one stays all end rest gains)

-- `and`, each of whose operands leads past what comes next
pub and_opens : {t0 t1 : Contents} {jumps : List ℕ} (ls : List Text) (x : Expr) (es : List Expr) (a : tree.Expr) (all : List ℕ) → a ≡ tree.Boolean tree.And (expr_of x) (exprs_of (map expr_of es)) → jumps ≡ all
    → ((early : ℕ → Target) (end : Contents) (rest : List machine.Instr) → ((k : ℕ) → early k ≡ ToJump false (Ahead (k + length rest))) → Gains t1 end rest → Due t0 all (Row ls early (ToJump false (Ahead (length rest))) x es ++ rest) end)
    → Opens t0 jumps (λ rest. skipping ls a rest) t1
and_opens {t0} {t1} {jumps} ls x es a all is same past end rest gains =
    subst (λ e. Due t0 jumps (skipping ls e rest) end) (sym is)
    (subst (λ js. Due t0 js (Row ls (λ k. ToJump false (Ahead (k + length rest))) (ToJump false (Ahead (length rest))) x es ++ rest) end) (sym same) (past (λ k. ToJump false (Ahead (k + length rest))) end rest (λ k. refl) gains))

-- `and`, whose first operands lead to its end
pub and_repeats : {t0 t1 t2 : Contents} (ls : List Text) (x : Expr) (es : List Expr) (a : tree.Expr) (soon seen : List ℕ) → a ≡ tree.Boolean tree.And (expr_of x) (exprs_of (map expr_of es)) → seen ≡ soon
    → ((early : ℕ → Target) → ((k : ℕ) → early k ≡ ToJump false (Ahead k)) → Due t0 soon (Row ls early (ToJump true (Ahead 0)) x es) t1) → AimsAll t1 seen t2
    → Gains t0 t2 (condition_code ls a (ToJump true (Ahead 0)))
and_repeats {t0} {t1} {t2} ls x es a soon seen is same within aims =
    subst (λ e. Gains t0 t2 (condition_code ls e (ToJump true (Ahead 0)))) (sym is) (all_aimed same (within (λ k. ToJump false (Ahead k)) (λ k. refl)) aims)

pub and_last : {t0 t1 t2 : Contents} (ls : List Text) (x : Expr) (es : List Expr) (soon seen : List ℕ) (at : ℕ) → seen ≡ soon → at + 1 ≡ length t1.lines
    → ((early : ℕ → Target) → ((k : ℕ) → early k ≡ ToJump false (Ahead k)) → Due t0 soon (Row ls early (ToJump true (Ahead 0)) x es) t1) → AimsAll t1 seen t2 → at + 1 ≡ length t2.lines
and_last {t0} {t1} {t2} ls x es soon seen at same here within aims =
    let due = within (λ k. ToJump false (Ahead k)) (λ k. refl) in
    let all : Gains t0 t2 (Row ls (λ k. ToJump false (Ahead k)) (ToJump true (Ahead 0)) x es) = all_aimed same due aims in
    omega (arith, here, length_gained all, Due-length due)

-- `or` is a test alone there
pub or_repeats : {t0 t1 : Contents} (ls : List Text) (x : Expr) (es : List Expr) (a : tree.Expr) → a ≡ tree.Boolean tree.Or (expr_of x) (exprs_of (map expr_of es)) → Gains t0 t1 (Test ls 0 true a (Ahead 0))
    → Gains t0 t1 (condition_code ls a (ToJump true (Ahead 0)))
or_repeats {t0} {t1} ls x es a is h =
    subst (λ e. Gains t0 t1 (condition_code ls e (ToJump true (Ahead 0)))) (sym is) (subst (λ e. Gains t0 t1 (Test ls 0 true e (Ahead 0))) is h)
