-- Except clauses and `try`: what is read is in the grammar, and what is in the grammar is read.
use Rattle.std.proofs.Common.{◌≡◌, ◌<◌, List, [], ◌∷◌, ◌++◌, inl, inr, length, Bool, Option, Some, None, true, false, refl, sym, ap, ◌∙◌, subst, arith, append_assoc, length-append}
use Rattle.std.specs.Prelude.{if◌then◌else◌}
use Rattle.std.proofs.lemmas.List.{append-nil}
use Rattle.si_semantics.specs.Value.{Text}
use Rattle.si_semantics.specs.Tree as tree
use Rattle.si_semantics.specs.Tree.{Expr, Stmt, Stmts, Clauses}
use Rattle.si_semantics.specs.Tokens as token
use Rattle.si_semantics.specs.Grammar.{Terminal, NAME, Sign, Word, Many, After, max_depth, IsExpression, stmts_of, Lines, Suite, Otherwise, Clause, clauses_of, clause_list, Excepts, bare_is_last, Handlers, Compound}
use Rattle.si_parse.specs.inner.Lookahead.{after}
use Rattle.si_parse.specs.inner.Lists.{then_read, is_none}
use Rattle.si_parse.specs.inner.Names.{name_at}
use Rattle.si_parse.specs.inner.Expressions.{expression_at}
use Rattle.si_parse.specs.inner.Statements.{LineParser}
use Rattle.si_parse.specs.inner.Blocks.{suite_by, otherwise_from, otherwise_by}
use Rattle.si_parse.specs.inner.Handlers.{after_catch, no_catch, Catch, caught_from, caught_by, clause_by, with_clause, catch_by, catches_by, bare_from, bare_by, clauses_by, Handled, handled_from, handlers_by, tried, finally_from, try_by}
use Rattle.si_parse.proofs.Laws.{then_read_some, some_inj, Items, spells_deeper, name_at_some, after_as_some, after_except_some, after_finally_some}
use Rattle.si_parse.proofs.Levels.{at_condition}
use Rattle.si_parse.proofs.Lists.{added, many_sound, many_complete}
use Rattle.si_parse.proofs.Starts.{expression_begins, colon_not}
use Rattle.si_parse.proofs.Sound.{expression_sound}
use Rattle.si_parse.proofs.Complete.{expression_complete}
use Rattle.si_parse.proofs.Turns.{tried_some}

clauses_are : (cs : List Clause) → clause_list (clauses_of cs) ≡ cs
clauses_are [] = refl
clauses_are (c ∷ cs) = ap (λ l. c ∷ l) (clauses_are cs)

list_is : (cs : Clauses) → clauses_of (clause_list cs) ≡ cs
list_is tree.NoClauses = refl
list_is (tree.MoreClauses a y b cs) = ap (λ l. tree.MoreClauses a y b l) (list_is cs)

abbrev and_clause : List Clause → Clause → List Clause
and_clause cs c = cs ++ c ∷ []

added_clauses : (cs xs : List Clause) → added and_clause cs xs ≡ cs ++ xs
added_clauses cs [] = sym (append-nil cs)
added_clauses cs (x ∷ xs) = added_clauses (cs ++ x ∷ []) xs ∙ append_assoc cs (x ∷ []) xs

many_both : {A : Type 0} (I : Items A) (xs ys : List A) (f g : List Terminal) → Many I xs f → Many I ys g → Many I (xs ++ ys) (f ++ g)
many_both I [] ys f g h i = subst (λ t. Many I ys (t ++ g)) (sym h) i
many_both I (x ∷ xs) ys f g h i = (h.0, h.1 ++ g, ap (λ t. t ++ g) h.2 ∙ append_assoc h.0 h.1 g, h.3, many_both I xs ys h.1 g h.4 i)

-- whether a clause has an expression
abbrev catches : Clause → Bool
catches (None, y, b) = false
catches (Some e, y, b) = true

-- the words with which a clause binds a name
abbrev Binds : Option Text → List Terminal → Type 0
Binds None g = g ≡ []
Binds (Some y) g = g ≡ Word token.AsWord ∷ (NAME y ∷ [])

module _ (L : Lines) where
  abbrev Catches : Clause → List Terminal → Type 0
  Catches c f = Excepts L c f × (catches c ≡ true)

  uncaught : (xs : List Clause) (f : List Terminal) → Many Catches xs f → Many (Excepts L) xs f
  uncaught [] f h = h
  uncaught (x ∷ xs) f h = (h.0, h.1, h.2, h.3.0, uncaught xs h.1 h.4)

  -- after clauses with expressions any clause may stand
  caught_last : (xs : List Clause) (f : List Terminal) → Many Catches xs f → bare_is_last xs ≡ true
  caught_last [] f h = refl
  caught_last (x ∷ []) f h = refl
  caught_last ((None, y, b) ∷ (x ∷ xs)) f h = let bad : false ≡ true = h.3.1 in cc
  caught_last ((Some e, y, b) ∷ (x ∷ xs)) f h = caught_last (x ∷ xs) h.1 h.4

  bare_last : (xs : List Clause) (f : List Terminal) (c : Clause) → Many Catches xs f → bare_is_last (xs ++ c ∷ []) ≡ true
  bare_last [] f c h = refl
  bare_last ((None, y, b) ∷ xs) f c h = let bad : false ≡ true = h.3.1 in cc
  bare_last ((Some e, y, b) ∷ []) f c h = refl
  bare_last ((Some e, y, b) ∷ (x ∷ xs)) f c h = bare_last (x ∷ xs) h.1 c h.4

  bare_after : (e : Expr) (y : Option Text) (b : Stmts) (cs : List Clause) → bare_is_last ((Some e, y, b) ∷ cs) ≡ true → bare_is_last cs ≡ true
  bare_after e y b [] h = refl
  bare_after e y b (c ∷ cs) h = h

  clause_spelled : (e : Expr) (y : Option Text) (b : Stmts) (f g k : List Terminal) → IsExpression e f → Binds y g → Suite L b k → Excepts L (Some e, y, b) (Word token.ExceptWord ∷ (f ++ (g ++ k)))
  clause_spelled e None b f g k he hy hb = (f ++ (g ++ k), refl, (f, k, ap (λ t. f ++ (t ++ k)) hy, he, hb))
  clause_spelled e (Some y) b f g k he hy hb = (f, k, ap (λ t. Word token.ExceptWord ∷ (f ++ (t ++ k))) hy, he, hb)

  -- the parts of a clause with an expression
  abbrev Parts : Expr → Option Text → Stmts → List Terminal → Type 0
  Parts e y b ts =
      (f : List Terminal) × (g : List Terminal) × (k : List Terminal) × (ts ≡ Word token.ExceptWord ∷ (f ++ (g ++ k))) × IsExpression e f × Binds y g × Suite L b k

  clause_parts : (e : Expr) (y : Option Text) (b : Stmts) (ts : List Terminal) → Excepts L (Some e, y, b) ts → Parts e y b ts
  clause_parts e None b ts h = (h.2.0, [], h.2.1, h.1 ∙ ap (λ t. Word token.ExceptWord ∷ t) h.2.2, h.2.3, refl, h.2.4)
  clause_parts e (Some y) b ts h = (h.0, Word token.AsWord ∷ (NAME y ∷ []), h.1, h.2, h.3, refl, h.4)

  -- the bare clause at the end, where there is one
  abbrev Last : Option Stmts → List Terminal → Type 0
  Last None k = k ≡ []
  Last (Some b) k = After (Word token.ExceptWord) (Suite L) b k

  abbrev bare_list : Option Stmts → List Clause
  bare_list None = []
  bare_list (Some b) = (None, None, b) ∷ []

  abbrev Parted : List Clause → List Terminal → Type 0
  Parted cs ts =
      (xs : List Clause) × (o : Option Stmts) × (f : List Terminal) × (k : List Terminal) × (cs ≡ xs ++ bare_list o) × (ts ≡ f ++ k) × Many Catches xs f × Last o k

  clauses_parted : (cs : List Clause) (ts : List Terminal) → Many (Excepts L) cs ts → bare_is_last cs ≡ true → Parted cs ts
  clauses_parted [] ts h last = ([], None, [], [], refl, h, refl, refl)
  clauses_parted ((None, None, b) ∷ []) ts h last =
      ([], Some b, [], h.0, refl, h.2 ∙ ap (λ t. h.0 ++ t) h.4 ∙ append-nil h.0, refl, h.3)
  clauses_parted ((None, None, b) ∷ (c ∷ cs)) ts h last = let bad : false ≡ true = last in cc
  clauses_parted ((None, Some y, b) ∷ cs) ts h last = absurd h.3
  clauses_parted ((Some e, y, b) ∷ cs) ts h last =
      let p = clauses_parted cs h.1 h.4 (bare_after e y b cs last) in (
        (Some e, y, b) ∷ p.0,
        p.1,
        h.0 ++ p.2,
        p.3,
        ap (λ l. (Some e, y, b) ∷ l) p.4,
        h.2 ∙ ap (λ t. h.0 ++ t) p.5 ∙ sym (append_assoc h.0 p.2 p.3),
        (h.0, p.2, refl, (h.3, refl), p.6),
        p.7,
      )

-- ---- what is read is in the grammar

catch_some : (ts : List Terminal) (o : Option (List Terminal)) → after (Word token.ExceptWord) ts ≡ o → (rest : List Terminal) → then_read o (λ rest. if is_none (after (Sign token.Colon) rest) then Some rest else None) ≡ Some rest → ts ≡ Word token.ExceptWord ∷ rest
catch_some ts None is rest h = cc
catch_some ts (Some more) is rest h = after_except_some ts more is ∙ ap (λ t. Word token.ExceptWord ∷ t) (by (is_none (after (Sign token.Colon) more)) h)
  where
    by : (b : Bool) → (if b then Some more else None) ≡ Some rest → more ≡ rest
    by true h = some_inj more rest h
    by false h = cc

abbrev CaughtRead : List Terminal → Catch × List Terminal → Type 0
CaughtRead ts r = (f : List Terminal) × (g : List Terminal) × (ts ≡ f ++ (g ++ r.1)) × IsExpression r.0.0 f × Binds r.0.1 g

caught_from_reads : (e : Expr) (f ts : List Terminal) (o : Option (List Terminal)) → after (Word token.AsWord) ts ≡ o → IsExpression e f → (r : Catch × List Terminal) → caught_from e ts o ≡ Some r → CaughtRead (f ++ ts) r
caught_from_reads e f ts None is spelled r h =
    let P : Catch × List Terminal → Type 0 = CaughtRead (f ++ ts) in subst P (some_inj ((e, None), ts) r h) (f, [], refl, spelled, refl)
caught_from_reads e f ts (Some rest) is spelled r h =
    let n = then_read_some (name_at rest) (λ n. Some ((e, Some n.0), n.1)) r h in
    let P : Catch × List Terminal → Type 0 = CaughtRead (f ++ ts) in
    subst P (some_inj ((e, Some n.0.0), n.0.1) r n.2) (
      f,
      Word token.AsWord ∷ (NAME n.0.0 ∷ []),
      ap (λ t. f ++ t) (after_as_some ts rest is ∙ ap (λ t. Word token.AsWord ∷ t) (name_at_some rest n.0 n.1)),
      spelled,
      refl,
    )

caught_reads : (ts : List Terminal) (r : Catch × List Terminal) → caught_by ts ≡ Some r → CaughtRead ts r
caught_reads ts r h =
    let t = then_read_some (expression_at max_depth 1 ts) (λ t. caught_from t.0 t.2 (after (Word token.AsWord) t.2)) r h in
    let a = expression_sound max_depth 1 (omega arith) at_condition ts t.0 t.1 in
    let P : List Terminal → Type 0 = λ t. CaughtRead t r in
    subst P (sym a.0.split) (caught_from_reads t.0.0 a.0.front t.0.2 (after (Word token.AsWord) t.0.2) refl (spells_deeper t.0.1 max_depth a.1 1 t.0.0 a.0.front a.0.spelled) r t.2)

abbrev pub SuiteSound : Lines → LineParser → Type 0
SuiteSound L line = (ts : List Terminal) (r : List Stmt × List Terminal) → suite_by line ts ≡ Some r → (f : List Terminal) × (ts ≡ f ++ r.1) × Suite L (stmts_of r.0) f

abbrev pub OtherwiseSound : Lines → LineParser → Type 0
OtherwiseSound L line = (ts : List Terminal) (r : List Stmt × List Terminal) → otherwise_by line ts ≡ Some r → (f : List Terminal) × (ts ≡ f ++ r.1) × Otherwise L (stmts_of r.0) f

module _ (L : Lines) (line : LineParser) (suite_reads : SuiteSound L line) where
  abbrev ClauseRead : List Terminal → Clause × List Terminal → Type 0
  ClauseRead ts r = (f : List Terminal) × (Word token.ExceptWord ∷ ts ≡ f ++ r.1) × Catches L r.0 f

  clause_reads : (ts : List Terminal) (r : Clause × List Terminal) → clause_by line ts ≡ Some r → ClauseRead ts r
  clause_reads ts r h =
      let c = then_read_some (caught_by ts) (λ c. then_read (suite_by line c.1) (λ b. Some ((Some c.0.0, c.0.1, stmts_of b.0), b.1))) r h in
      let b = then_read_some (suite_by line c.0.1) (λ b. Some ((Some c.0.0.0, c.0.0.1, stmts_of b.0), b.1)) r c.2 in
      let a = caught_reads ts c.0 c.1 in
      let s = suite_reads c.0.1 b.0 b.1 in
      let P : Clause × List Terminal → Type 0 = ClauseRead ts in
      subst P (some_inj ((Some c.0.0.0, c.0.0.1, stmts_of b.0.0), b.0.1) r b.2) (
        Word token.ExceptWord ∷ (a.0 ++ (a.1 ++ s.0)),
        ap (λ t. Word token.ExceptWord ∷ t) (a.2 ∙ ap (λ t. a.0 ++ t) (ap (λ t. a.1 ++ t) s.1 ∙ sym (append_assoc a.1 s.0 b.0.1)) ∙ sym (append_assoc a.0 (a.1 ++ s.0) b.0.1)),
        (clause_spelled L c.0.0.0 c.0.0.1 (stmts_of b.0.0) a.0 a.1 s.0 a.3 a.4 s.2, refl),
      )

  abbrev CatchRead : List Clause → List Terminal → List Clause × List Terminal → Type 0
  CatchRead cs ts r = (x : Clause) × (f : List Terminal) × (r.0 ≡ and_clause cs x) × (ts ≡ f ++ r.1) × Catches L x f

  catch_reads : (cs : List Clause) (ts : List Terminal) (r : List Clause × List Terminal) → catch_by line cs ts ≡ Some r → CatchRead cs ts r
  catch_reads cs ts r h =
      let x = then_read_some (after_catch ts) (λ rest. then_read (clause_by line rest) (with_clause cs)) r h in
      let y = then_read_some (clause_by line x.0) (with_clause cs) r x.2 in
      let c = clause_reads x.0 y.0 y.1 in
      let P : List Clause × List Terminal → Type 0 = CatchRead cs ts in
      subst P (some_inj (cs ++ y.0.0 ∷ [], y.0.1) r y.2) (y.0.0, c.0, refl, catch_some ts (after (Word token.ExceptWord) ts) refl x.0 x.1 ∙ c.1, c.2)

  catches_read : (ts : List Terminal) (r : List Clause × List Terminal) → catches_by line ts ≡ Some r → (f : List Terminal) × (ts ≡ f ++ r.1) × Many (Catches L) r.0 f
  catches_read ts r h =
      let m = many_sound and_clause (catch_by line) no_catch (Catches L) catch_reads (length ts) [] ts r h in
      (m.1, m.3, subst (λ cs. Many (Catches L) cs m.1) (sym (m.2 ∙ added_clauses [] m.0)) m.4)

  abbrev ClausesRead : List Terminal → List Clause × List Terminal → Type 0
  ClausesRead ts r = (f : List Terminal) × (ts ≡ f ++ r.1) × Many (Excepts L) r.0 f × (bare_is_last r.0 ≡ true)

  bare_reads : (cs : List Clause) (f ts : List Terminal) → Many (Catches L) cs f → (o : Option (List Terminal)) → after (Word token.ExceptWord) ts ≡ o → (r : List Clause × List Terminal) → bare_from line cs ts o ≡ Some r → ClausesRead (f ++ ts) r
  bare_reads cs f ts m None is r h =
      let P : List Clause × List Terminal → Type 0 = ClausesRead (f ++ ts) in
      subst P (some_inj (cs, ts) r h) (f, refl, uncaught L cs f m, caught_last L cs f m)
  bare_reads cs f ts m (Some rest) is r h =
      let b = then_read_some (suite_by line rest) (λ b. Some (cs ++ (None, None, stmts_of b.0) ∷ [], b.1)) r h in
      let s = suite_reads rest b.0 b.1 in
      let P : List Clause × List Terminal → Type 0 = ClausesRead (f ++ ts) in
      let front = Word token.ExceptWord ∷ s.0 in
      subst P (some_inj (cs ++ (None, None, stmts_of b.0.0) ∷ [], b.0.1) r b.2) (
        f ++ front,
        ap (λ t. f ++ t) (after_except_some ts rest is ∙ ap (λ t. Word token.ExceptWord ∷ t) s.1) ∙ sym (append_assoc f front b.0.1),
        many_both (Excepts L) cs ((None, None, stmts_of b.0.0) ∷ []) f front (uncaught L cs f m) (front, [], sym (append-nil front), (s.0, refl, s.2), refl),
        bare_last L cs f (None, None, stmts_of b.0.0) m,
      )

  clauses_read : (ts : List Terminal) (r : List Clause × List Terminal) → clauses_by line ts ≡ Some r → ClausesRead ts r
  clauses_read ts r h =
      let c = then_read_some (catches_by line ts) (λ cs. bare_by line cs.0 cs.1) r h in
      let m = catches_read ts c.0 c.1 in
      let P : List Terminal → Type 0 = λ t. ClausesRead t r in
      subst P (sym m.1) (bare_reads c.0.0 m.0 c.0.1 m.2 (after (Word token.ExceptWord) c.0.1) refl r c.2)

  abbrev HandlersRead : List Terminal → Handled × List Terminal → Type 0
  HandlersRead ts r = (f : List Terminal) × (ts ≡ f ++ r.1) × Handlers L r.0.0 (stmts_of r.0.1) f

  module _ (otherwise_reads : OtherwiseSound L line) where
    handled_reads : (cs : List Clause) (f ts : List Terminal) → Many (Excepts L) cs f → bare_is_last cs ≡ true → (r : Handled × List Terminal) → handled_from line cs ts ≡ Some r → HandlersRead (f ++ ts) r
    handled_reads [] f ts m last r h =
        let P : Handled × List Terminal → Type 0 = HandlersRead (f ++ ts) in subst P (some_inj (([], []), ts) r h) (f, refl, (refl, m))
    handled_reads (c ∷ cs) f ts m last r h =
        let o = then_read_some (otherwise_by line ts) (λ o. Some ((c ∷ cs, o.0), o.1)) r h in
        let e = otherwise_reads ts o.0 o.1 in
        let P : Handled × List Terminal → Type 0 = HandlersRead (f ++ ts) in
        subst P (some_inj ((c ∷ cs, o.0.0), o.0.1) r o.2) (f ++ e.0, ap (λ t. f ++ t) e.1 ∙ sym (append_assoc f e.0 o.0.1), (f, e.0, refl, m, last, e.2))

    handlers_read : (ts : List Terminal) (r : Handled × List Terminal) → handlers_by line ts ≡ Some r → HandlersRead ts r
    handlers_read ts r h =
        let c = then_read_some (clauses_by line ts) (λ cs. handled_from line cs.0 cs.1) r h in
        let m = clauses_read ts c.0 c.1 in
        let P : List Terminal → Type 0 = λ t. HandlersRead t r in
        subst P (sym m.1) (handled_reads c.0.0 m.0 c.0.1 m.2 m.3 r c.2)

    abbrev TryRead : List Terminal → Stmt × List Terminal → Type 0
    TryRead ts r = (f : List Terminal) × (Word token.TryWord ∷ ts ≡ f ++ r.1) × Compound L r.0 f

    tried_reads : (body : Stmts) (f g ts : List Terminal) (cs : List Clause) (last : List Stmt) → Suite L body f → Handlers L cs (stmts_of last) g → (r : Stmt × List Terminal) → tried body cs last ts ≡ Some r → TryRead (f ++ (g ++ ts)) r
    tried_reads body f g ts [] last hb hc r h = cc
    tried_reads body f g ts (c ∷ cs) last hb hc r h =
        let P : Stmt × List Terminal → Type 0 = TryRead (f ++ (g ++ ts)) in
        let Q : List Clause → Type 0 = λ l. (0 < length l) × Handlers L l (stmts_of last) g in
        let q : Q (clause_list (clauses_of (c ∷ cs))) = subst Q (sym (clauses_are (c ∷ cs))) (omega arith, hc) in
        subst P (some_inj (tree.Try body (clauses_of (c ∷ cs)) (stmts_of last), ts) r h)
        (Word token.TryWord ∷ (f ++ g), ap (λ t. Word token.TryWord ∷ t) (sym (append_assoc f g ts)), (f, g, refl, hb, q.0, q.1))

    finally_reads : (body : Stmts) (f g : List Terminal) (c : Handled × List Terminal) → Suite L body f → Handlers L c.0.0 (stmts_of c.0.1) g → (o : Option (List Terminal)) → after (Word token.FinallyWord) c.1 ≡ o
        → (r : Stmt × List Terminal) → finally_from line body c o ≡ Some r → TryRead (f ++ (g ++ c.1)) r
    finally_reads body f g c hb hc None is r h = tried_reads body f g c.1 c.0.0 c.0.1 hb hc r h
    finally_reads body f g c hb hc (Some rest) is r h =
        let b = then_read_some (suite_by line rest) (λ b. Some (tree.Finally body (clauses_of c.0.0) (stmts_of c.0.1) (stmts_of b.0), b.1)) r h in
        let s = suite_reads rest b.0 b.1 in
        let Q : List Clause → Type 0 = λ l. Handlers L l (stmts_of c.0.1) g in
        let q : Q (clause_list (clauses_of c.0.0)) = subst Q (sym (clauses_are c.0.0)) hc in
        let tail = Word token.FinallyWord ∷ s.0 in
        let P : Stmt × List Terminal → Type 0 = TryRead (f ++ (g ++ c.1)) in
        subst P (some_inj (tree.Finally body (clauses_of c.0.0) (stmts_of c.0.1) (stmts_of b.0.0), b.0.1) r b.2) (
          Word token.TryWord ∷ (f ++ (g ++ tail)),
          ap (λ t. Word token.TryWord ∷ t) (
              ap (λ t. f ++ t) (ap (λ t. g ++ t) (after_finally_some c.1 rest is ∙ ap (λ t. Word token.FinallyWord ∷ t) s.1) ∙ sym (append_assoc g tail b.0.1))
              ∙ sym (append_assoc f (g ++ tail) b.0.1)
              ),
          (f, g, s.0, refl, hb, q, s.2),
        )

    pub try_reads : (ts : List Terminal) (r : Stmt × List Terminal) → try_by line ts ≡ Some r → TryRead ts r
    try_reads ts r h =
        let b = then_read_some (suite_by line ts) (λ b. then_read (handlers_by line b.1) (λ h. finally_from line (stmts_of b.0) h (after (Word token.FinallyWord) h.1))) r h in
        let c = then_read_some (handlers_by line b.0.1) (λ h. finally_from line (stmts_of b.0.0) h (after (Word token.FinallyWord) h.1)) r b.2 in
        let s = suite_reads ts b.0 b.1 in
        let m = handlers_read b.0.1 c.0 c.1 in
        let P : List Terminal → Type 0 = λ t. TryRead t r in
        subst P (sym (s.1 ∙ ap (λ t. s.0 ++ t) m.1)) (finally_reads (stmts_of b.0.0) s.0 m.0 c.0 s.2 m.2 (after (Word token.FinallyWord) c.0.1) refl r c.2)

-- ---- what is in the grammar is read

-- a clause that begins with an expression has no colon after its `except`
catch_is : (rest : List Terminal) → after (Sign token.Colon) rest ≡ None → after_catch (Word token.ExceptWord ∷ rest) ≡ Some rest
catch_is rest h = ap (λ o. if is_none o then Some rest else None) h

colon_after : (rest more : List Terminal) → after (Sign token.Colon) rest ≡ Some more → after_catch (Word token.ExceptWord ∷ rest) ≡ None
colon_after rest more h = ap (λ o. if is_none o then Some rest else None) h

uncatching : (ts : List Terminal) → after (Word token.ExceptWord) ts ≡ None → no_catch ts ≡ true
uncatching ts h = ap (λ o. is_none (then_read o (λ rest. if is_none (after (Sign token.Colon) rest) then Some rest else None))) h

caught_complete : (e : Expr) (y : Option Text) (f g more k : List Terminal) → IsExpression e f → Binds y g → more ≡ Sign token.Colon ∷ k → caught_by (f ++ (g ++ more)) ≡ Some ((e, y), more)
caught_complete e None f g more k he hy colon =
    let c = expression_complete max_depth max_depth 1 e f (Sign token.Colon ∷ k) (omega arith) (omega arith) he (omega arith) refl in
    let P : List Terminal → Type 0 = λ t. caught_by (f ++ t) ≡ Some ((e, None), t) in
    ap (λ t. caught_by (f ++ (t ++ more))) hy ∙ subst P (sym colon) (ap (λ o. then_read o (λ t. caught_from t.0 t.2 (after (Word token.AsWord) t.2))) c.3)
caught_complete e (Some y) f g more k he hy colon =
    let c = expression_complete max_depth max_depth 1 e f (Word token.AsWord ∷ (NAME y ∷ more)) (omega arith) (omega arith) he (omega arith) refl in
    ap (λ t. caught_by (f ++ (t ++ more))) hy ∙ ap (λ o. then_read o (λ t. caught_from t.0 t.2 (after (Word token.AsWord) t.2))) c.3

-- what stands after the clauses and their `else`
pub record Closes (ts : List Terminal) : Type 0 where
  pub no_except : (after (Word token.ExceptWord)) ts ≡ None
  pub no_else : (after (Word token.ElseWord)) ts ≡ None
  pub some : 0 < length ts

abbrev pub SuiteComplete : Lines → LineParser → Type 0
SuiteComplete L line = (body : Stmts) (f more : List Terminal) → Suite L body f → (ss : List Stmt) × (body ≡ stmts_of ss) × (suite_by line (f ++ more) ≡ Some (ss, more))

abbrev suite_front : (L : Lines) (body : Stmts) (f : List Terminal) → Suite L body f → (g : List Terminal) × (f ≡ Sign token.Colon ∷ g)
suite_front L body f (inl h) = (h.1, h.2)
suite_front L body f (inr h) = (_, h.1)

module _ (L : Lines) (line : LineParser) (suite_complete : SuiteComplete L line) where
  clause_complete : (e : Expr) (y : Option Text) (b : Stmts) (f g k more : List Terminal) → IsExpression e f → Binds y g → Suite L b k → clause_by line ((f ++ (g ++ k)) ++ more) ≡ Some ((Some e, y, b), more)
  clause_complete e y b f g k more he hy hb =
      let s = suite_complete b k more hb in
      let colon = suite_front L b k hb in
      ap (clause_by line) (append_assoc f (g ++ k) more ∙ ap (λ t. f ++ t) (append_assoc g k more))
      ∙ ap (λ o. then_read o (λ c. then_read (suite_by line c.1) (λ b. Some ((Some c.0.0, c.0.1, stmts_of b.0), b.1)))) (caught_complete e y f g (k ++ more) (colon.0 ++ more) he hy (ap (λ t. t ++ more) colon.1))
      ∙ ap (λ o. then_read o (λ s. Some ((Some e, y, stmts_of s.0), s.1))) s.2
      ∙ ap (λ ss. Some ((Some e, y, ss), more)) (sym s.1)

  abbrev Any : List Terminal → Type 0
  Any ts = Unit {0}

  abbrev CatchFound : List Clause → Clause → List Terminal → List Terminal → Type 0
  CatchFound cs c f more = (catch_by line cs (f ++ more) ≡ Some (and_clause cs c, more)) × (no_catch (f ++ more) ≡ false) × (0 < length f)

  parts_found : (cs : List Clause) (e : Expr) (y : Option Text) (b : Stmts) (ts more : List Terminal) → Parts L e y b ts → CatchFound cs (Some e, y, b) ts more
  parts_found cs e y b ts more p =
      let inner = p.0 ++ (p.1 ++ p.2) in
      let split : inner ++ more ≡ p.0 ++ ((p.1 ++ p.2) ++ more) = append_assoc p.0 (p.1 ++ p.2) more in
      let open_yet : (after (Sign token.Colon)) (inner ++ more) ≡ None = ap (after (Sign token.Colon)) split ∙ colon_not (p.0 ++ ((p.1 ++ p.2) ++ more)) (expression_begins max_depth 1 e p.0 p.4 ((p.1 ++ p.2) ++ more)) in
      let is = catch_is (inner ++ more) open_yet in (
        ap (λ t. catch_by line cs (t ++ more)) p.3
            ∙ ap (λ o. then_read o (λ rest. then_read (clause_by line rest) (with_clause cs))) is
            ∙ ap (λ o. then_read o (with_clause cs)) (clause_complete e y b p.0 p.1 p.2 more p.4 p.5 p.6),
        ap (λ t. no_catch (t ++ more)) p.3 ∙ ap is_none is,
        omega (arith, ap length p.3),
      )

  next_catch : (cs : List Clause) (c : Clause) (f more : List Terminal) → Catches L c f → Any more → CatchFound cs c f more
  next_catch cs (None, y, b) f more h any = let bad : false ≡ true = h.1 in cc
  next_catch cs (Some e, y, b) f more h any = parts_found cs e y b f more (clause_parts L e y b f h.0)

  catches_complete : (cs : List Clause) (f more : List Terminal) → 0 < length more → no_catch more ≡ true → Many (Catches L) cs f → catches_by line (f ++ more) ≡ Some (cs, more)
  catches_complete cs f more some over h =
      let fuel : length f < length (f ++ more) = omega (arith, length-append f more) in
      many_complete and_clause (catch_by line) no_catch (Catches L) Any (λ c f more h any. tt) next_catch (length (f ++ more)) [] cs f more fuel h tt over ∙ ap (λ b. Some (b, more)) (added_clauses [] cs)

  -- no clause with an expression stands where the bare one does, or after it
  bare_begins : (o : Option Stmts) (k more : List Terminal) → Last L o k → after (Word token.ExceptWord) more ≡ None → no_catch (k ++ more) ≡ true
  bare_begins None k more h not_except = ap (λ t. no_catch (t ++ more)) h ∙ uncatching more not_except
  bare_begins (Some b) k more h not_except =
      let colon = suite_front L b h.0 h.2 in
      ap (λ t. no_catch (t ++ more)) h.1 ∙ ap is_none (colon_after (h.0 ++ more) (colon.0 ++ more) (ap (λ t. after (Sign token.Colon) (t ++ more)) colon.1))

  bare_complete : (xs : List Clause) (o : Option Stmts) (k more : List Terminal) → Last L o k → after (Word token.ExceptWord) more ≡ None → bare_by line xs (k ++ more) ≡ Some (xs ++ bare_list L o, more)
  bare_complete xs None k more h not_except =
      ap (λ t. bare_by line xs (t ++ more)) h ∙ ap (bare_from line xs more) not_except ∙ ap (λ l. Some (l, more)) (sym (append-nil xs))
  bare_complete xs (Some b) k more h not_except =
      let s = suite_complete b h.0 more h.2 in
      ap (λ t. bare_by line xs (t ++ more)) h.1
      ∙ ap (λ o. then_read o (λ b. Some (xs ++ (None, None, stmts_of b.0) ∷ [], b.1))) s.2
      ∙ ap (λ ss. Some (xs ++ (None, None, ss) ∷ [], more)) (sym s.1)

  clauses_complete : (cs : List Clause) (f more : List Terminal) → Many (Excepts L) cs f → bare_is_last cs ≡ true → 0 < length more → after (Word token.ExceptWord) more ≡ None → clauses_by line (f ++ more) ≡ Some (cs, more)
  clauses_complete cs f more h last some not_except =
      let p = clauses_parted L cs f h last in
      let long : 0 < length (p.3 ++ more) = omega (arith, length-append p.3 more) in
      ap (clauses_by line) (ap (λ t. t ++ more) p.5 ∙ append_assoc p.2 p.3 more)
      ∙ ap (λ o. then_read o (λ cs. bare_by line cs.0 cs.1)) (catches_complete p.0 p.2 (p.3 ++ more) long (bare_begins p.1 p.3 more p.7 not_except) p.6)
      ∙ bare_complete p.0 p.1 p.3 more p.7 not_except
      ∙ ap (λ l. Some (l, more)) (sym p.4)

  abbrev ElseFound : Stmts → List Terminal → List Terminal → Type 0
  ElseFound last g more = (ss : List Stmt) × (last ≡ stmts_of ss) × (otherwise_by line (g ++ more) ≡ Some (ss, more)) × (after (Word token.ExceptWord) (g ++ more) ≡ None)

  else_complete : (last : Stmts) (g more : List Terminal) → Otherwise L last g → after (Word token.ElseWord) more ≡ None → after (Word token.ExceptWord) more ≡ None → ElseFound last g more
  else_complete last g more (inl h) not_else not_except =
      let P : List Terminal → Type 0 = λ g. ElseFound last g more in
      subst P (sym h.1) ([], h.0, ap (otherwise_from line more) not_else, not_except)
  else_complete last g more (inr h) not_else not_except =
      let s = suite_complete last h.0 more h.2 in (s.0, s.1, ap (λ t. otherwise_by line (t ++ more)) h.1 ∙ s.2, ap (λ t. after (Word token.ExceptWord) (t ++ more)) h.1)

  abbrev HandlersFound : List Clause → Stmts → List Terminal → List Terminal → Type 0
  HandlersFound cs other f more = (ss : List Stmt) × (other ≡ stmts_of ss) × (handlers_by line (f ++ more) ≡ Some ((cs, ss), more))

  handlers_complete : (cs : List Clause) (other : Stmts) (f more : List Terminal) → Handlers L cs other f → Closes more → HandlersFound cs other f more
  handlers_complete [] other f more h e =
      ([], h.0, ap (λ o. then_read o (λ cs. handled_from line cs.0 cs.1)) (clauses_complete [] f more h.1 refl e.some e.no_except))
  handlers_complete (c ∷ cs) other f more h e =
      let o = else_complete other h.1 more h.5 e.no_else e.no_except in
      let long : 0 < length (h.1 ++ more) = omega (arith, length-append h.1 more, e.some) in (
        o.0,
        o.1,
        ap (handlers_by line) (ap (λ t. t ++ more) h.2 ∙ append_assoc h.0 h.1 more)
            ∙ ap (λ o. then_read o (λ cs. handled_from line cs.0 cs.1)) (clauses_complete (c ∷ cs) h.0 (h.1 ++ more) h.3 h.4 long o.3)
            ∙ ap (λ o. then_read o (λ o. Some ((c ∷ cs, o.0), o.1))) o.2,
      )

  abbrev TryFound : Stmt → List Terminal → List Terminal → Type 0
  TryFound s f more = (g : List Terminal) × (f ≡ Word token.TryWord ∷ g) × (try_by line (g ++ more) ≡ Some (s, more))

  pub try_complete : (body : Stmts) (cs : Clauses) (other : Stmts) (f more : List Terminal) → Compound L (tree.Try body cs other) f → Closes more → after (Word token.FinallyWord) more ≡ None → TryFound (tree.Try body cs other) f more
  try_complete body cs other f more h e not_finally =
      let s = suite_complete body h.0 (h.1 ++ more) h.3 in
      let m = handlers_complete (clause_list cs) other h.1 more h.5 e in (
        h.0 ++ h.1,
        h.2,
        ap (try_by line) (append_assoc h.0 h.1 more)
            ∙ ap (λ o. then_read o (λ b. then_read (handlers_by line b.1) (λ h. finally_from line (stmts_of b.0) h (after (Word token.FinallyWord) h.1)))) s.2
            ∙ ap (λ o. then_read o (λ h. finally_from line (stmts_of s.0) h (after (Word token.FinallyWord) h.1))) m.2
            ∙ ap (λ o. finally_from line (stmts_of s.0) ((clause_list cs, m.0), more) o) not_finally
            ∙ tried_some (stmts_of s.0) (clause_list cs) m.0 more h.4
            ∙ ap (λ b. Some (tree.Try b (clauses_of (clause_list cs)) (stmts_of m.0), more)) (sym s.1)
            ∙ ap (λ l. Some (tree.Try body l (stmts_of m.0), more)) (list_is cs)
            ∙ ap (λ o. Some (tree.Try body cs o, more)) (sym m.1),
      )

  pub finally_complete : (body : Stmts) (cs : Clauses) (other last : Stmts) (f more : List Terminal) → Compound L (tree.Finally body cs other last) f → TryFound (tree.Finally body cs other last) f more
  finally_complete body cs other last f more h =
      let tail = Word token.FinallyWord ∷ h.2 in
      let s = suite_complete body h.0 (h.1 ++ (tail ++ more)) h.4 in
      let m = handlers_complete (clause_list cs) other h.1 (tail ++ more) h.5 (record { no_except = refl; no_else = refl; some = omega arith }) in
      let l = suite_complete last h.2 more h.6 in (
        h.0 ++ (h.1 ++ tail),
        h.3,
        ap (try_by line) (append_assoc h.0 (h.1 ++ tail) more ∙ ap (λ t. h.0 ++ t) (append_assoc h.1 tail more))
            ∙ ap (λ o. then_read o (λ b. then_read (handlers_by line b.1) (λ h. finally_from line (stmts_of b.0) h (after (Word token.FinallyWord) h.1)))) s.2
            ∙ ap (λ o. then_read o (λ h. finally_from line (stmts_of s.0) h (after (Word token.FinallyWord) h.1))) m.2
            ∙ ap (λ o. then_read o (λ b. Some (tree.Finally (stmts_of s.0) (clauses_of (clause_list cs)) (stmts_of m.0) (stmts_of b.0), b.1))) l.2
            ∙ ap (λ b. Some (tree.Finally b (clauses_of (clause_list cs)) (stmts_of m.0) (stmts_of l.0), more)) (sym s.1)
            ∙ ap (λ c. Some (tree.Finally body c (stmts_of m.0) (stmts_of l.0), more)) (list_is cs)
            ∙ ap (λ o. Some (tree.Finally body cs o (stmts_of l.0), more)) (sym m.1)
            ∙ ap (λ z. Some (tree.Finally body cs other z, more)) (sym l.1),
      )
