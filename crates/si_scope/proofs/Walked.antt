-- What the walk over a function's suite finds is what is so by definition.
use Rattle.std.proofs.Common.{◌≡◌, Bool, true, false, ◌&&◌, ◌||◌, List, [], ◌∷◌, ◌++◌, Option, Some, None, refl, sym, ap, ◌∙◌, append_assoc, if◌then◌else◌}
use Rattle.std.specs.Prelude.{not}
use Rattle.std.specs.Option.{option_and_then, option_map}
use Rattle.std.proofs.Math.Bool.{and_assoc, or-false}
use Rattle.std.proofs.lemmas.List.{append-nil}
use Rattle.si_semantics.specs.Value.{Text}
use Rattle.si_semantics.specs.Tree as tree
use Rattle.si_semantics.specs.Tree.{Expr, Stmt, Target, Targets, Stmts, Clauses}
use Rattle.si_semantics.specs.Text.{module_name}
use Rattle.si_semantics.specs.Scope.{is_in, are_apart, are_distinct, with_new, names_of, names_of_value, name_in, bound_by_target, bound_by_targets, used_by_target, used_by_targets, bound_by, bound_in, bound_in_clauses, declared_by, declared_in, declared_in_clauses, used_by, used_in, used_in_clauses, declares_first, declare_first, clauses_declare_first, InText, InFunction, stmt_scoped, stmts_scoped, clauses_scoped}
use Rattle.si_scope.specs.declared.seen.Seen.{Seen}
use Rattle.si_scope.specs.inner.Walk.{with_names, using, binding_target, binding_targets, binding_any, declaring, after, after_all, after_clauses, local_to}
use Rattle.si_scope.proofs.Sets.{with_names-append}
use Rattle.si_scope.proofs.Apart.{and_both, first_of, second_of, apart_nil, apart_cons, apart_front, apart_back, in_names, apart_names}
use Rattle.si_scope.proofs.Declared.{seen_of}

-- ---- the locals

new_append : (names but xs ys : List Text) → with_new names but (xs ++ ys) ≡ with_new (with_new names but xs) but ys
new_append names but [] ys = refl
new_append names but (x ∷ xs) ys = new_append (if is_in x names || is_in x but then names else names ++ x ∷ []) but xs ys

-- they depend on which names are declared global alone
new_alike : (names but like xs : List Text) → ((x : Text) → is_in x but ≡ is_in x like) → with_new names but xs ≡ with_new names like xs
new_alike names but like [] same = refl
new_alike names but like (x ∷ xs) same =
    ap (λ b. with_new (if is_in x names || b then names else names ++ x ∷ []) but xs) (same x)
    ∙ new_alike (if is_in x names || is_in x like then names else names ++ x ∷ []) but like xs same

-- and on none that is declared after
new_before : (names but more xs : List Text) → are_apart xs more ≡ true → with_new names (with_names but more) xs ≡ with_new names but xs
new_before names but more [] h = refl
new_before names but more (x ∷ xs) h =
    ap (λ b. with_new (if is_in x names || b then names else names ++ x ∷ []) (with_names but more) xs)
    (in_names x but more ∙ ap (λ b. is_in x but || b) (not_there (is_in x more) (first_of (not (is_in x more)) (are_apart xs more) h)) ∙ or-false (is_in x but))
    ∙ new_before (if is_in x names || is_in x but then names else names ++ x ∷ []) but more xs (second_of (not (is_in x more)) (are_apart xs more) h)
  where
    not_there : (b : Bool) → not b ≡ true → b ≡ false
    not_there true e = cc
    not_there false e = refl

-- ---- what is seen of one row of statements, and of two

-- after statements that use, declare and bind these names
abbrev seen_in : Seen → List Text → List Text → List Text → Seen
seen_in s u d b = seen_of (with_names s.used u) (with_names s.declared d) (with_new s.locals (with_names s.declared d) b)

-- the same, if none that is declared was used, and this holds
abbrev given : Seen → List Text → List Text → List Text → Bool → Option Seen
given s u d b holds = if are_apart s.used d && holds then Some (seen_in s u d b) else None

seen_both : (s : Seen) (u1 d1 b1 u2 d2 b2 : List Text) → are_apart b1 d2 ≡ true → seen_in (seen_in s u1 d1 b1) u2 d2 b2 ≡ seen_in s (u1 ++ u2) (d1 ++ d2) (b1 ++ b2)
seen_both s u1 d1 b1 u2 d2 b2 h =
    let first = with_names s.declared d1 in
    let all = with_names first d2 in
    ap (λ u. seen_of u all (with_new (with_new s.locals first b1) all b2)) (sym (with_names-append s.used u1 u2))
    ∙ ap (λ l. seen_of (with_names s.used (u1 ++ u2)) all (with_new l all b2)) (sym (new_before s.locals first d2 b1 h))
    ∙ ap (λ l. seen_of (with_names s.used (u1 ++ u2)) all l) (sym (new_append s.locals all b1 b2))
    ∙ ap (λ d. seen_of (with_names s.used (u1 ++ u2)) d (with_new s.locals d (b1 ++ b2))) (sym (with_names-append s.declared d1 d2))

then_given : {X Y : Type 0} (b : Bool) (f : X → Option Y) (x : X) → option_and_then f (if b then Some x else None) ≡ (if b then f x else None)
then_given true f x = refl
then_given false f x = refl

pub then_same : {X Y : Type 0} (f g : X → Option Y) (o : Option X) → ((x : X) → f x ≡ g x) → option_and_then f o ≡ option_and_then g o
then_same f g None same = refl
then_same f g (Some x) same = same x

-- two steps are one
pub then_then : {X Y Z : Type 0} (f : Y → Option Z) (g : X → Option Y) (o : Option X) → option_and_then f (option_and_then g o) ≡ option_and_then (λ x. option_and_then f (g x)) o
then_then f g None = refl
then_then f g (Some x) = refl

both_hold : (x y : Seen) (a1 h1 a2 c h2 : Bool) → (c ≡ true → x ≡ y) → (if a1 && h1 then (if (a2 && c) && h2 then Some x else None) else None) ≡ (if (a1 && a2) && (c && (h1 && h2)) then Some y else None)
both_hold x y false h1 a2 c h2 same = refl
both_hold x y true false false c h2 same = refl
both_hold x y true false true true h2 same = refl
both_hold x y true false true false h2 same = refl
both_hold x y true true false c h2 same = refl
both_hold x y true true true false h2 same = refl
both_hold x y true true true true false same = refl
both_hold x y true true true true true same = ap Some (same refl)

-- one row of statements, and then another
two_rows : (f : Seen → Option Seen) (o : Option Seen) (s : Seen) (u1 d1 b1 : List Text) (h1 : Bool) (u2 d2 b2 : List Text) (h2 : Bool)
    → o ≡ given s u1 d1 b1 h1 → ((t : Seen) → f t ≡ given t u2 d2 b2 h2) → (are_apart u1 d2 ≡ true → are_apart b1 d2 ≡ true)
    → option_and_then f o ≡ given s (u1 ++ u2) (d1 ++ d2) (b1 ++ b2) (are_apart u1 d2 && (h1 && h2))
two_rows f o s u1 d1 b1 h1 u2 d2 b2 h2 now later within =
    let t = seen_in s u1 d1 b1 in
    ap (option_and_then f) now ∙ then_same f (λ t. given t u2 d2 b2 h2) (given s u1 d1 b1 h1) later
    ∙ then_given (are_apart s.used d1 && h1) (λ t. given t u2 d2 b2 h2) t
    ∙ ap (λ a. if are_apart s.used d1 && h1 then (if a && h2 then Some (seen_in t u2 d2 b2) else None) else None) (apart_names s.used u1 d2)
    ∙ both_hold (seen_in t u2 d2 b2) (seen_in s (u1 ++ u2) (d1 ++ d2) (b1 ++ b2)) (are_apart s.used d1) h1 (are_apart s.used d2) (are_apart u1 d2) h2 (λ h. seen_both s u1 d1 b1 u2 d2 b2 (within h))
    ∙ ap (λ a. if a && (are_apart u1 d2 && (h1 && h2)) then Some (seen_in s (u1 ++ u2) (d1 ++ d2) (b1 ++ b2)) else None) (sym (apart_back s.used d1 d2))

one_row : (s : Seen) (u b : List Text) → Some (seen_in s u [] b) ≡ given s u [] b true
one_row s u b = ap (λ a. if a && true then Some (seen_in s u [] b) else None) (sym (apart_nil s.used))

-- names that are used in front of a row, some of them bound
used_first : (s : Seen) (n m u d b : List Text) (h : Bool) → (are_apart n d ≡ true → are_apart m d ≡ true) → given (seen_in s n [] m) u d b h ≡ given s (n ++ u) d (m ++ b) (are_apart n d && h)
used_first s n m u d b h within = two_rows (λ t. given t u d b h) (Some (seen_in s n [] m)) s n [] m true u d b h (one_row s n m) (λ t. refl) within

regrouped : (p q f g r t : Bool) → (p && (q && ((f && r) && (g && t)))) ≡ ((((p && q) && f) && g) && (r && t))
regrouped false q f g r t = refl
regrouped true false f g r t = refl
regrouped true true false g r t = refl
regrouped true true true true true t = refl
regrouped true true true false true t = refl
regrouped true true true true false t = refl
regrouped true true true false false t = refl

-- the parts of a `try`, and of one with a finally suite
regrouped_try : (p q b c d r t u : Bool) → (p && ((b && r) && (q && ((c && t) && (d && u))))) ≡ ((((p && q) && b) && c) && d) && ((r && t) && u)
regrouped_try p q b c d r t u =
    ap (λ x. p && ((b && r) && x)) (regrouped true q c d t u) ∙ regrouped true p b ((q && c) && d) r (t && u)
    ∙ ap (λ x. x && (r && (t && u))) (by p q b c d) ∙ ap (λ x. ((((p && q) && b) && c) && d) && x) (sym (and_assoc r t u))
  where
    by : (p q b c d : Bool) → ((p && b) && ((q && c) && d)) ≡ ((((p && q) && b) && c) && d)
    by false q b c d = refl
    by true true true c d = refl
    by true true false c d = refl
    by true false true c d = refl
    by true false false c d = refl

regrouped_finally : (p q g b c d e r t u v : Bool) → (p && ((b && r) && (q && ((c && t) && (g && ((d && u) && (e && v))))))) ≡ ((((((p && q) && g) && b) && c) && d) && e) && (((r && t) && u) && v)
regrouped_finally p q g b c d e r t u v =
    ap (λ x. p && ((b && r) && x)) (regrouped_try q g c d e t u v) ∙ regrouped true p b ((((q && g) && c) && d) && e) r ((t && u) && v)
    ∙ ap (λ x. x && (r && ((t && u) && v))) (by p q g b c d e)
    ∙ ap (λ x. ((((((p && q) && g) && b) && c) && d) && e) && x) (sym (and_assoc r (t && u) v) ∙ ap (λ x. x && v) (sym (and_assoc r t u)))
  where
    by : (p q g b c d e : Bool) → ((p && b) && ((((q && g) && c) && d) && e)) ≡ ((((((p && q) && g) && b) && c) && d) && e)
    by false q g b c d e = refl
    by true false g true c d e = refl
    by true false g false c d e = refl
    by true true false true c d e = refl
    by true true false false c d e = refl
    by true true true true c d e = refl
    by true true true false c d e = refl

declaring_is : (xs : List Text) (s : Seen) → declaring xs s ≡ given s [] xs [] true
declaring_is [] s = one_row s [] []
declaring_is (x ∷ xs) s =
    let rest = declaring_is xs (seen_of s.used (with_names s.declared (x ∷ [])) s.locals) in
    let y = seen_in s [] (x ∷ xs) [] in
    ap (λ o. if is_in x s.used then None else o) rest ∙ by (is_in x s.used) (are_apart s.used xs) y ∙ ap (λ a. if a && true then Some y else None) (sym (apart_cons s.used x xs))
  where
    by : (b a : Bool) (y : Seen) → (if b then None else (if a && true then Some y else None)) ≡ (if (not b && a) && true then Some y else None)
    by true a y = refl
    by false a y = refl

-- ---- names that are bound are used

-- the names that a row binds are of those that it uses
abbrev Within : List Text → List Text → Type 0
Within bound used = (ys : List Text) → are_apart used ys ≡ true → are_apart bound ys ≡ true

no_names : (used : List Text) → Within [] used
no_names used ys h = refl

-- of two rows
in_both : (us vs bs cs : List Text) → Within bs us → Within cs vs → Within (bs ++ cs) (us ++ vs)
in_both us vs bs cs in_b in_c ys h =
    let parts = sym (apart_front us vs ys) ∙ h in
    apart_front bs cs ys
    ∙ and_both (are_apart bs ys) (are_apart cs ys) (in_b ys (first_of (are_apart us ys) (are_apart vs ys) parts)) (in_c ys (second_of (are_apart us ys) (are_apart vs ys) parts))

-- after names that are used
after_names : (ns us bs : List Text) → Within bs us → Within bs (ns ++ us)
after_names ns us bs in_b ys h = in_b ys (second_of (are_apart ns ys) (are_apart us ys) (sym (apart_front ns us ys) ∙ h))

-- a name that is bound in front of those
name_first : (x : Text) (us bs : List Text) → Within bs us → Within (x ∷ bs) (x ∷ us)
name_first x us bs in_b = in_both (x ∷ []) us (x ∷ []) bs (λ ys h. h) in_b

-- in front of names that are used
in_front : (us ns bs : List Text) → Within bs us → Within bs (us ++ ns)
in_front us ns bs in_b ys h = in_b ys (first_of (are_apart us ys) (are_apart ns ys) (sym (apart_front us ns ys) ∙ h))

two_suites : (n ub uc bb bc : List Text) → Within bb ub → Within bc uc → Within (bb ++ bc) ((n ++ ub) ++ uc)
two_suites n ub uc bb bc in_b in_c = in_both (n ++ ub) uc bb bc (after_names n ub bb in_b) in_c

mutual
  target_bound_apart : (t : Target) → Within (bound_by_target t) (used_by_target t)
  target_bound_apart (tree.Named x) = λ ys h. h
  target_bound_apart (tree.Item a b) = no_names (names_of a ++ names_of b)
  target_bound_apart (tree.Unpack ts) = targets_bound_apart ts

  targets_bound_apart : (ts : Targets) → Within (bound_by_targets ts) (used_by_targets ts)
  targets_bound_apart tree.NoTargets = no_names []
  targets_bound_apart (tree.MoreTargets t ts) = in_both (used_by_target t) (used_by_targets ts) (bound_by_target t) (bound_by_targets ts) (target_bound_apart t) (targets_bound_apart ts)

mutual
  bound_apart : (a : Stmt) → Within (bound_by a) (used_by a)
  bound_apart (tree.Evaluate e) = no_names (names_of e)
  bound_apart (tree.Assign ts e) = in_front (used_by_targets ts) (names_of e) (bound_by_targets ts) (targets_bound_apart ts)
  bound_apart (tree.Augment x o e) = name_first x (names_of e) [] (no_names (names_of e))
  bound_apart (tree.AugmentItem a b o e) = no_names (names_of a ++ (names_of b ++ names_of e))
  bound_apart (tree.Delete a b) = no_names (names_of a ++ names_of b)
  bound_apart tree.Pass = no_names []
  bound_apart (tree.If a b c) = two_suites (names_of a) (used_in b) (used_in c) (bound_in b) (bound_in c) (all_bound_apart b) (all_bound_apart c)
  bound_apart (tree.While a b c) = two_suites (names_of a) (used_in b) (used_in c) (bound_in b) (bound_in c) (all_bound_apart b) (all_bound_apart c)
  bound_apart (tree.For t a b c) =
      in_both (used_by_target t) ((names_of a ++ used_in b) ++ used_in c) (bound_by_target t) (bound_in b ++ bound_in c) (target_bound_apart t)
      (two_suites (names_of a) (used_in b) (used_in c) (bound_in b) (bound_in c) (all_bound_apart b) (all_bound_apart c))
  bound_apart tree.Break = no_names []
  bound_apart tree.Continue = no_names []
  bound_apart (tree.Define f ps b) = λ ys h. h
  bound_apart (tree.Return a) = no_names (names_of_value a)
  bound_apart (tree.Global xs) = no_names []
  bound_apart (tree.Import m) = λ ys h. h
  bound_apart (tree.Raise a) = no_names (names_of_value a)
  bound_apart (tree.Try b cs c) =
      in_both (used_in b) (used_in_clauses cs ++ used_in c) (bound_in b) (bound_in_clauses cs ++ bound_in c) (all_bound_apart b)
      (in_both (used_in_clauses cs) (used_in c) (bound_in_clauses cs) (bound_in c) (clauses_bound_apart cs) (all_bound_apart c))
  bound_apart (tree.Finally b cs c f) =
      in_both (used_in b) (used_in_clauses cs ++ (used_in c ++ used_in f)) (bound_in b) (bound_in_clauses cs ++ (bound_in c ++ bound_in f)) (all_bound_apart b)
      (in_both (used_in_clauses cs) (used_in c ++ used_in f) (bound_in_clauses cs) (bound_in c ++ bound_in f) (clauses_bound_apart cs)
      (in_both (used_in c) (used_in f) (bound_in c) (bound_in f) (all_bound_apart c) (all_bound_apart f)))

  all_bound_apart : (b : Stmts) → Within (bound_in b) (used_in b)
  all_bound_apart tree.NoStmts = no_names []
  all_bound_apart (tree.MoreStmts a b) = in_both (used_by a) (used_in b) (bound_by a) (bound_in b) (bound_apart a) (all_bound_apart b)

  clauses_bound_apart : (cs : Clauses) → Within (bound_in_clauses cs) (used_in_clauses cs)
  clauses_bound_apart tree.NoClauses = no_names []
  clauses_bound_apart (tree.MoreClauses a y b cs) =
      after_names (names_of_value a) (name_in y ++ (used_in b ++ used_in_clauses cs)) (name_in y ++ (bound_in b ++ bound_in_clauses cs))
      (in_both (name_in y) (used_in b ++ used_in_clauses cs) (name_in y) (bound_in b ++ bound_in_clauses cs) (λ ys h. h)
      (in_both (used_in b) (used_in_clauses cs) (bound_in b) (bound_in_clauses cs) (all_bound_apart b) (clauses_bound_apart cs)))

-- ---- the theorem

-- a test, a suite and another suite
suites_are : (f : Seen → Option Seen) (o : Option Seen) (s : Seen) (n m ub db bb uc dc bc : List Text) (fb sb fc sc : Bool)
    → o ≡ given (seen_in s n [] m) ub db bb (fb && sb) → ((t : Seen) → f t ≡ given t uc dc bc (fc && sc)) → Within m n → Within bb ub
    → option_and_then f o ≡ given s ((n ++ ub) ++ uc) (db ++ dc) (m ++ (bb ++ bc)) ((((are_apart n (db ++ dc) && are_apart ub dc) && fb) && fc) && (sb && sc))
suites_are f o s n m ub db bb uc dc bc fb sb fc sc now later front within =
    two_rows f o (seen_in s n [] m) ub db bb (fb && sb) uc dc bc (fc && sc) now later (within dc)
    ∙ used_first s n m (ub ++ uc) (db ++ dc) (bb ++ bc) (are_apart ub dc && ((fb && sb) && (fc && sc))) (front (db ++ dc))
    ∙ ap (λ u. given s u (db ++ dc) (m ++ (bb ++ bc)) (are_apart n (db ++ dc) && (are_apart ub dc && ((fb && sb) && (fc && sc))))) (sym (append_assoc n ub uc))
    ∙ ap (given s ((n ++ ub) ++ uc) (db ++ dc) (m ++ (bb ++ bc))) (regrouped (are_apart n (db ++ dc)) (are_apart ub dc) fb fc sb sc)

-- what an except clause uses and binds in front of its suite
named : (s : Seen) (a : Option Expr) (y : Option Text) → binding_any y (using (names_of_value a) s) ≡ seen_in s (names_of_value a ++ name_in y) [] (name_in y)
named s a None = ap (λ u. using u s) (sym (append-nil (names_of_value a)))
named s a (Some x) = ap (λ u. seen_of u s.declared (with_new s.locals s.declared (x ∷ []))) (sym (with_names-append s.used (names_of_value a) (x ∷ [])))

-- names that are used after others
used_after : (s : Seen) (n m b : List Text) → using m (seen_in s n [] b) ≡ seen_in s (n ++ m) [] b
used_after s n m b = ap (λ u. seen_of u s.declared (with_new s.locals s.declared b)) (sym (with_names-append s.used n m))

mutual
  -- what a target uses and binds
  target_is : (t : Target) (s : Seen) → binding_target t s ≡ seen_in s (used_by_target t) [] (bound_by_target t)
  target_is (tree.Named x) s = refl
  target_is (tree.Item a b) s = used_after s (names_of a) (names_of b) []
  target_is (tree.Unpack ts) s = targets_are ts s

  targets_are : (ts : Targets) (s : Seen) → binding_targets ts s ≡ seen_in s (used_by_targets ts) [] (bound_by_targets ts)
  targets_are tree.NoTargets s = refl
  targets_are (tree.MoreTargets t ts) s =
      targets_are ts (binding_target t s) ∙ ap (λ x. seen_in x (used_by_targets ts) [] (bound_by_targets ts)) (target_is t s)
      ∙ seen_both s (used_by_target t) [] (bound_by_target t) (used_by_targets ts) [] (bound_by_targets ts) (apart_nil (bound_by_target t))

-- targets that are bound, and an expression after them
targets_then : (s : Seen) (ts : Targets) (n : List Text) → using n (binding_targets ts s) ≡ seen_in s (used_by_targets ts ++ n) [] (bound_by_targets ts)
targets_then s ts n = ap (using n) (targets_are ts s) ∙ used_after s (used_by_targets ts) n (bound_by_targets ts)

target_then : (s : Seen) (t : Target) (n : List Text) → using n (binding_target t s) ≡ seen_in s (used_by_target t ++ n) [] (bound_by_target t)
target_then s t n = ap (using n) (target_is t s) ∙ used_after s (used_by_target t) n (bound_by_target t)

mutual
  stmt_is : (a : Stmt) (loop returns : Bool) (s : Seen) → after a loop returns s ≡ given s (used_by a) (declared_by a) (bound_by a) (declares_first a && stmt_scoped (InFunction loop returns) a)
  stmt_is (tree.Evaluate e) loop returns s = one_row s (names_of e) []
  stmt_is (tree.Assign ts e) loop returns s = ap Some (targets_then s ts (names_of e)) ∙ one_row s (used_by_targets ts ++ names_of e) (bound_by_targets ts)
  stmt_is (tree.Augment x o e) loop returns s = one_row s (x ∷ names_of e) (x ∷ [])
  stmt_is (tree.AugmentItem a b o e) loop returns s =
      ap (λ t. Some (using (names_of e) t)) (used_after s (names_of a) (names_of b) []) ∙ ap Some (used_after s (names_of a ++ names_of b) (names_of e) [])
      ∙ ap (λ u. Some (seen_in s u [] [])) (append_assoc (names_of a) (names_of b) (names_of e)) ∙ one_row s (names_of a ++ (names_of b ++ names_of e)) []
  stmt_is (tree.Delete a b) loop returns s = ap Some (used_after s (names_of a) (names_of b) []) ∙ one_row s (names_of a ++ names_of b) []
  stmt_is tree.Pass loop returns s = one_row s [] []
  stmt_is (tree.If a b c) loop returns s =
      suites_are (after_all c loop returns) (after_all b loop returns (using (names_of a) s)) s (names_of a) [] (used_in b) (declared_in b) (bound_in b) (used_in c) (declared_in c) (bound_in c)
      (declare_first b) (stmts_scoped (InFunction loop returns) b) (declare_first c) (stmts_scoped (InFunction loop returns) c)
      (stmts_are b loop returns (using (names_of a) s)) (stmts_are c loop returns) (no_names (names_of a)) (all_bound_apart b)
  stmt_is (tree.While a b c) loop returns s =
      suites_are (after_all c loop returns) (after_all b true returns (using (names_of a) s)) s (names_of a) [] (used_in b) (declared_in b) (bound_in b) (used_in c) (declared_in c) (bound_in c)
      (declare_first b) (stmts_scoped (InFunction true returns) b) (declare_first c) (stmts_scoped (InFunction loop returns) c)
      (stmts_are b true returns (using (names_of a) s)) (stmts_are c loop returns) (no_names (names_of a)) (all_bound_apart b)
  stmt_is (tree.For t a b c) loop returns s =
      let n = used_by_target t ++ names_of a in
      let front = seen_in s n [] (bound_by_target t) in
      ap (λ x. option_and_then (after_all c loop returns) (after_all b true returns x)) (target_then s t (names_of a))
      ∙ suites_are (after_all c loop returns) (after_all b true returns front) s n (bound_by_target t) (used_in b) (declared_in b) (bound_in b) (used_in c) (declared_in c) (bound_in c)
      (declare_first b) (stmts_scoped (InFunction true returns) b) (declare_first c) (stmts_scoped (InFunction loop returns) c)
      (stmts_are b true returns front) (stmts_are c loop returns) (in_front (used_by_target t) (names_of a) (bound_by_target t) (target_bound_apart t)) (all_bound_apart b)
      ∙ ap (λ u. given s u (declared_in b ++ declared_in c) (bound_by_target t ++ (bound_in b ++ bound_in c)) (declares_first (tree.For t a b c) && stmt_scoped (InFunction loop returns) (tree.For t a b c)))
      (ap (λ u. u ++ used_in c) (append_assoc (used_by_target t) (names_of a) (used_in b)) ∙ append_assoc (used_by_target t) (names_of a ++ used_in b) (used_in c))
  stmt_is tree.Break loop returns s = ap (λ a. if a && loop then Some s else None) (sym (apart_nil s.used))
  stmt_is tree.Continue loop returns s = ap (λ a. if a && loop then Some s else None) (sym (apart_nil s.used))
  stmt_is (tree.Define f ps b) loop returns s = ap (λ a. if a && false then Some (seen_in s (f ∷ []) [] (f ∷ [])) else None) (sym (apart_nil s.used))
  stmt_is (tree.Return a) loop returns s = ap (λ b. if b && returns then Some (using (names_of_value a) s) else None) (sym (apart_nil s.used))
  stmt_is (tree.Global xs) loop returns s = declaring_is xs s
  stmt_is (tree.Import m) loop returns s = ap (λ a. if a && false then Some (seen_in s (module_name m ∷ []) [] (module_name m ∷ [])) else None) (sym (apart_nil s.used))
  stmt_is (tree.Raise a) loop returns s = one_row s (names_of_value a) []
  stmt_is (tree.Try b cs c) loop returns s =
      let w = InFunction loop returns in
      two_rows (λ t. option_and_then (after_all c loop returns) (after_clauses cs loop returns t)) (after_all b loop returns s) s (used_in b) (declared_in b) (bound_in b) (declare_first b && stmts_scoped w b)
      (used_in_clauses cs ++ used_in c) (declared_in_clauses cs ++ declared_in c) (bound_in_clauses cs ++ bound_in c)
      (are_apart (used_in_clauses cs) (declared_in c) && ((clauses_declare_first cs && clauses_scoped w cs) && (declare_first c && stmts_scoped w c)))
      (stmts_are b loop returns s)
      (λ t. two_rows (after_all c loop returns) (after_clauses cs loop returns t) t (used_in_clauses cs) (declared_in_clauses cs) (bound_in_clauses cs) (clauses_declare_first cs && clauses_scoped w cs)
      (used_in c) (declared_in c) (bound_in c) (declare_first c && stmts_scoped w c) (clauses_are cs loop returns t) (stmts_are c loop returns) (clauses_bound_apart cs (declared_in c)))
      (all_bound_apart b (declared_in_clauses cs ++ declared_in c))
      ∙ ap (given s (used_in b ++ (used_in_clauses cs ++ used_in c)) (declared_in b ++ (declared_in_clauses cs ++ declared_in c)) (bound_in b ++ (bound_in_clauses cs ++ bound_in c)))
      (regrouped_try (are_apart (used_in b) (declared_in_clauses cs ++ declared_in c)) (are_apart (used_in_clauses cs) (declared_in c)) (declare_first b) (clauses_declare_first cs) (declare_first c) (stmts_scoped w b) (clauses_scoped w cs) (stmts_scoped w c))
  stmt_is (tree.Finally b cs c f) loop returns s =
      let w = InFunction loop returns in
      let last = are_apart (used_in c) (declared_in f) && ((declare_first c && stmts_scoped w c) && (declare_first f && stmts_scoped (InFunction false false) f)) in
      two_rows (λ t. option_and_then (after_all f false false) (option_and_then (after_all c loop returns) (after_clauses cs loop returns t))) (after_all b loop returns s) s (used_in b) (declared_in b) (bound_in b) (declare_first b && stmts_scoped w b)
      (used_in_clauses cs ++ (used_in c ++ used_in f)) (declared_in_clauses cs ++ (declared_in c ++ declared_in f)) (bound_in_clauses cs ++ (bound_in c ++ bound_in f))
      (are_apart (used_in_clauses cs) (declared_in c ++ declared_in f) && ((clauses_declare_first cs && clauses_scoped w cs) && last))
      (stmts_are b loop returns s)
      (λ t. then_then (after_all f false false) (after_all c loop returns) (after_clauses cs loop returns t)
      ∙ two_rows (λ u. option_and_then (after_all f false false) (after_all c loop returns u)) (after_clauses cs loop returns t) t (used_in_clauses cs) (declared_in_clauses cs) (bound_in_clauses cs) (clauses_declare_first cs && clauses_scoped w cs)
      (used_in c ++ used_in f) (declared_in c ++ declared_in f) (bound_in c ++ bound_in f) last (clauses_are cs loop returns t)
      (λ u. two_rows (after_all f false false) (after_all c loop returns u) u (used_in c) (declared_in c) (bound_in c) (declare_first c && stmts_scoped w c)
      (used_in f) (declared_in f) (bound_in f) (declare_first f && stmts_scoped (InFunction false false) f) (stmts_are c loop returns u) (stmts_are f false false) (all_bound_apart c (declared_in f)))
      (clauses_bound_apart cs (declared_in c ++ declared_in f)))
      (all_bound_apart b (declared_in_clauses cs ++ (declared_in c ++ declared_in f)))
      ∙ ap (given s (used_in b ++ (used_in_clauses cs ++ (used_in c ++ used_in f))) (declared_in b ++ (declared_in_clauses cs ++ (declared_in c ++ declared_in f))) (bound_in b ++ (bound_in_clauses cs ++ (bound_in c ++ bound_in f))))
      (regrouped_finally (are_apart (used_in b) (declared_in_clauses cs ++ (declared_in c ++ declared_in f))) (are_apart (used_in_clauses cs) (declared_in c ++ declared_in f)) (are_apart (used_in c) (declared_in f))
      (declare_first b) (clauses_declare_first cs) (declare_first c) (declare_first f) (stmts_scoped w b) (clauses_scoped w cs) (stmts_scoped w c) (stmts_scoped (InFunction false false) f))

  stmts_are : (b : Stmts) (loop returns : Bool) (s : Seen) → after_all b loop returns s ≡ given s (used_in b) (declared_in b) (bound_in b) (declare_first b && stmts_scoped (InFunction loop returns) b)
  stmts_are tree.NoStmts loop returns s = one_row s [] []
  stmts_are (tree.MoreStmts a b) loop returns s =
      let w = InFunction loop returns in
      two_rows (after_all b loop returns) (after a loop returns s) s (used_by a) (declared_by a) (bound_by a) (declares_first a && stmt_scoped w a) (used_in b) (declared_in b) (bound_in b) (declare_first b && stmts_scoped w b)
      (stmt_is a loop returns s) (stmts_are b loop returns) (bound_apart a (declared_in b))
      ∙ ap (given s (used_by a ++ used_in b) (declared_by a ++ declared_in b) (bound_by a ++ bound_in b))
      (regrouped true (are_apart (used_by a) (declared_in b)) (declares_first a) (declare_first b) (stmt_scoped w a) (stmts_scoped w b))

  clauses_are : (cs : Clauses) (loop returns : Bool) (s : Seen)
      → after_clauses cs loop returns s ≡ given s (used_in_clauses cs) (declared_in_clauses cs) (bound_in_clauses cs) (clauses_declare_first cs && clauses_scoped (InFunction loop returns) cs)
  clauses_are tree.NoClauses loop returns s = one_row s [] []
  clauses_are (tree.MoreClauses a y b cs) loop returns s =
      let w = InFunction loop returns in
      let n = names_of_value a ++ name_in y in
      let u = used_in b ++ used_in_clauses cs in
      let d = declared_in b ++ declared_in_clauses cs in
      let m = name_in y ++ (bound_in b ++ bound_in_clauses cs) in
      ap (λ t. option_and_then (after_clauses cs loop returns) (after_all b loop returns t)) (named s a y)
      ∙ suites_are (after_clauses cs loop returns) (after_all b loop returns (seen_in s n [] (name_in y))) s n (name_in y) (used_in b) (declared_in b) (bound_in b) (used_in_clauses cs) (declared_in_clauses cs) (bound_in_clauses cs)
      (declare_first b) (stmts_scoped w b) (clauses_declare_first cs) (clauses_scoped w cs)
      (stmts_are b loop returns (seen_in s n [] (name_in y))) (clauses_are cs loop returns) (after_names (names_of_value a) (name_in y) (name_in y) (λ ys h. h)) (all_bound_apart b)
      ∙ ap (λ r. given s r d m (clauses_declare_first (tree.MoreClauses a y b cs) && clauses_scoped w (tree.MoreClauses a y b cs))) (append_assoc n (used_in b) (used_in_clauses cs) ∙ append_assoc (names_of_value a) (name_in y) u)

-- what is local to a function, if it is well scoped
pub local_is : (ps : List Text) (b : Stmts) → local_to ps b ≡ (if stmt_scoped (InText false) (tree.Define [] ps b) then Some (with_new ps (declared_in b) (bound_in b)) else None)
local_is ps b =
    let s = seen_of ps [] ps in
    ap (λ o. if are_distinct ps then option_map (λ (t : Seen). t.locals) o else None) (stmts_are b false true s)
    ∙ by (are_distinct ps) (are_apart ps (declared_in b)) (declare_first b) (stmts_scoped (InFunction false true) b) (seen_in s (used_in b) (declared_in b) (bound_in b))
    ∙ ap (λ l. if stmt_scoped (InText false) (tree.Define [] ps b) then Some l else None) (new_alike ps (with_names [] (declared_in b)) (declared_in b) (bound_in b) (λ x. in_names x [] (declared_in b)))
  where
    by : (d a f h : Bool) (t : Seen) → (if d then option_map (λ (u : Seen). u.locals) (if a && (f && h) then Some t else None) else None) ≡ (if ((d && a) && f) && h then Some t.locals else None)
    by false a f h t = refl
    by true false f h t = refl
    by true true false h t = refl
    by true true true false t = refl
    by true true true true t = refl
