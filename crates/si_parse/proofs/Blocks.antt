-- Compound statements: what is read is in the grammar, and what is in the grammar is read.
use Rattle.std.proofs.Common.{◌≡◌, ℕ, zero, suc, ◌<◌, List, [], ◌∷◌, ◌++◌, ◌⊎◌, inl, inr, length, Option, Some, None, true, false, refl, sym, ap, ◌∙◌, subst, ⊎_elim, arith, append_assoc, length-append}
use Rattle.std.specs.Prelude.{flat_map, if◌then◌else◌}
use Rattle.std.proofs.lemmas.List.{append-nil}
use Rattle.si_semantics.specs.Value.{Text}
use Rattle.si_semantics.specs.Tree as tree
use Rattle.si_semantics.specs.Tree.{Expr, Stmt, Target, Stmts}
use Rattle.si_semantics.specs.Tokens as token
use Rattle.si_semantics.specs.Grammar.{Terminal, NAME, Sign, Word, NEWLINE, INDENT, DEDENT, Many, After, max_depth, IsExpression, Simple, stmts_of, Lines, Block, Suite, Branch, Tested, Over, Otherwise, elifs_of, Compound, Nests}
use Rattle.si_parse.specs.inner.Lookahead.{rest_of, Header, if_header, while_header, for_header, try_header, def_header, header_at, after}
use Rattle.si_parse.specs.inner.Lists.{then_read, many_by, is_none}
use Rattle.si_parse.specs.inner.Names.{name_at, parameters_by}
use Rattle.si_parse.specs.inner.Expressions.{expression_at}
use Rattle.si_parse.specs.inner.Unbracketed.{expressions_by}
use Rattle.si_parse.specs.inner.Targets.{target_by}
use Rattle.si_parse.specs.inner.Statements.{LineParser}
use Rattle.si_parse.specs.inner.Blocks.{defined_by, define_by, is_dedent, indented_by, suite_from, suite_by, branch_by, over_by, with_branch, elif_by, no_elif, elifs_by, otherwise_from, otherwise_by, joined_if, if_by, joined_while, while_by, joined_for, for_by}
use Rattle.si_parse.specs.inner.Lines.{compound_by, with_compound, block_from, block_at}
use Rattle.si_parse.proofs.Laws.{then_read_some, some_inj, spells_deeper, after_newline_some, after_colon_some, after_indent_some, after_elif_some, header_word, header_at_some, after_open_some, name_at_some, after_else_some}
use Rattle.si_parse.proofs.Levels.{at_condition}
use Rattle.si_parse.proofs.Lists.{chosen, added, many_sound, many_complete}
use Rattle.si_parse.proofs.Starts.{newline_not, dedent_not, header_not, elif_not, else_not, except_not, finally_not}
use Rattle.si_parse.proofs.Sound.{expression_sound}
use Rattle.si_parse.proofs.Names.{parameters_reads, parameters_complete}
use Rattle.si_parse.proofs.Complete.{expression_complete}
use Rattle.si_parse.proofs.Unbracketed.{expressions_reads, expressions_complete}
use Rattle.si_parse.proofs.Targets.{target_reads, target_complete}
use Rattle.si_parse.proofs.Handlers.{try_reads, try_complete, finally_complete}
use Rattle.si_parse.proofs.Statements.{with_line, line_reads, line_complete, line_starts, line_terminals}

abbrev pub all_of : List (List Stmt) → List Stmt
all_of lines = flat_map (λ line. line) lines

pub added_lines : (body : List Stmt) (lines : List (List Stmt)) → added with_line body lines ≡ body ++ all_of lines
added_lines body [] = sym (append-nil body)
added_lines body (line ∷ lines) = added_lines (body ++ line) lines ∙ append_assoc body line (all_of lines)

abbrev and_branch : List Branch → Branch → List Branch
and_branch bs b = bs ++ b ∷ []

added_branches : (bs xs : List Branch) → added and_branch bs xs ≡ bs ++ xs
added_branches bs [] = sym (append-nil bs)
added_branches bs (x ∷ xs) = added_branches (bs ++ x ∷ []) xs ∙ append_assoc bs (x ∷ []) xs

dedent_only : (ts : List Terminal) → is_dedent ts ≡ true → ts ≡ DEDENT ∷ rest_of ts
dedent_only [] h = cc
dedent_only (DEDENT ∷ ts) h = refl
dedent_only (_ ∷ ts) h = cc

-- ---- what is read is in the grammar

abbrev pub LineSound : Lines → LineParser → Type 0
LineSound L line = (body : List Stmt) (ts : List Terminal) (r : List Stmt × List Terminal) → line body ts ≡ Some r → (ss : List Stmt) × (f : List Terminal) × (r.0 ≡ with_line body ss) × (ts ≡ f ++ r.1) × L ss f

module _ (L : Lines) (line : LineParser) (sound : LineSound L line) where
  abbrev SuiteRead : List Terminal → List Stmt × List Terminal → Type 0
  SuiteRead ts r = (f : List Terminal) × (ts ≡ f ++ r.1) × Suite L (stmts_of r.0) f

  some_front : (f ts rest : List Terminal) → is_dedent ts ≡ false → ts ≡ f ++ rest → is_dedent rest ≡ true → 0 < length f
  some_front [] ts rest inside split is = let bad : false ≡ true = sym inside ∙ ap is_dedent split ∙ is in cc
  some_front (t ∷ f) ts rest inside split is = omega arith

  abbrev IndentedRead : List Terminal → List Stmt × List Terminal → Type 0
  IndentedRead ts r = (f : List Terminal) × (ts ≡ f ++ DEDENT ∷ r.1) × (0 < length f) × Block L (stmts_of r.0) f

  indented_lines : (ts : List Terminal) (r : List Stmt × List Terminal) → is_dedent ts ≡ false → then_read (many_by line is_dedent (length ts) [] ts) (λ r. Some (r.0, rest_of r.1)) ≡ Some r → IndentedRead ts r
  indented_lines ts r inside h =
      let s = then_read_some (many_by line is_dedent (length ts) [] ts) (λ r. Some (r.0, rest_of r.1)) r h in
      let m = many_sound with_line line is_dedent L sound (length ts) [] ts s.0 s.1 in
      let P : List Stmt × List Terminal → Type 0 = IndentedRead ts in
      subst P (some_inj (s.0.0, rest_of s.0.1) r s.2) (
        m.1,
        m.3 ∙ ap (λ t. m.1 ++ t) (dedent_only s.0.1 m.5),
        some_front m.1 ts s.0.1 inside m.3 m.5,
        (m.0, ap stmts_of (m.2 ∙ added_lines [] m.0), m.4),
      )

  indented_reads : (ts : List Terminal) (r : List Stmt × List Terminal) → indented_by line ts ≡ Some r → IndentedRead ts r
  indented_reads ts r h =
      ⊎_elim (λ y. let bad : None ≡ Some r = y.1 in cc) (λ n. indented_lines ts r n.0 n.1)
      (chosen (is_dedent ts) None (then_read (many_by line is_dedent (length ts) [] ts) (λ r. Some (r.0, rest_of r.1))) (Some r) h)

  suite_from_reads : (ts : List Terminal) (o : Option (List Terminal)) → after NEWLINE ts ≡ o → (r : List Stmt × List Terminal) → suite_from line ts o ≡ Some r → SuiteRead (Sign token.Colon ∷ ts) r
  suite_from_reads ts None is r h =
      let l = line_reads [] ts r h in (Sign token.Colon ∷ l.1, ap (λ t. Sign token.Colon ∷ t) l.3, inl (l.0, l.1, refl, ap stmts_of l.2, l.4))
  suite_from_reads ts (Some rest) is r h =
      let x = then_read_some (after INDENT rest) (indented_by line) r h in
      let i = indented_reads x.0 r x.2 in (
        Sign token.Colon ∷ (NEWLINE ∷ (INDENT ∷ (i.0 ++ DEDENT ∷ []))),
        ap (λ t. Sign token.Colon ∷ t)
            (after_newline_some ts rest is ∙ ap (λ t. NEWLINE ∷ t) (after_indent_some rest x.0 x.1 ∙ ap (λ t. INDENT ∷ t) (i.1 ∙ sym (append_assoc i.0 (DEDENT ∷ []) r.1)))),
        inr (i.0, refl, i.2, i.3),
      )

  suite_reads : (ts : List Terminal) (r : List Stmt × List Terminal) → suite_by line ts ≡ Some r → SuiteRead ts r
  suite_reads ts r h =
      let x = then_read_some (after (Sign token.Colon) ts) (λ rest. suite_from line rest (after NEWLINE rest)) r h in
      let P : List Terminal → Type 0 = λ t. SuiteRead t r in
      subst P (sym (after_colon_some ts x.0 x.1)) (suite_from_reads x.0 (after NEWLINE x.0) refl r x.2)

  abbrev BranchRead : List Terminal → Branch × List Terminal → Type 0
  BranchRead ts r = (f : List Terminal) × (ts ≡ f ++ r.1) × Tested L r.0 f

  branch_reads : (ts : List Terminal) (r : Branch × List Terminal) → branch_by line ts ≡ Some r → BranchRead ts r
  branch_reads ts r h =
      let t = then_read_some (expression_at max_depth 1 ts) (λ t. then_read (suite_by line t.2) (λ b. Some ((t.0, stmts_of b.0), b.1))) r h in
      let a = expression_sound max_depth 1 (omega arith) at_condition ts t.0 t.1 in
      let b = then_read_some (suite_by line t.0.2) (λ b. Some ((t.0.0, stmts_of b.0), b.1)) r t.2 in
      let s = suite_reads t.0.2 b.0 b.1 in
      let P : Branch × List Terminal → Type 0 = BranchRead ts in
      subst P (some_inj ((t.0.0, stmts_of b.0.0), b.0.1) r b.2) (
        a.0.front ++ s.0,
        a.0.split ∙ ap (λ t. a.0.front ++ t) s.1 ∙ sym (append_assoc a.0.front s.0 b.0.1),
        (a.0.front, s.0, refl, spells_deeper t.0.1 max_depth a.1 1 t.0.0 a.0.front a.0.spelled, s.2),
      )

  abbrev OverRead : List Terminal → Branch × List Terminal → Type 0
  OverRead ts r = (f : List Terminal) × (ts ≡ f ++ r.1) × Over L r.0 f

  over_reads : (ts : List Terminal) (r : Branch × List Terminal) → over_by line ts ≡ Some r → OverRead ts r
  over_reads ts r h =
      let t = then_read_some (expressions_by (expression_at max_depth) 1 ts) (λ t. then_read (suite_by line t.2) (λ b. Some ((t.0, stmts_of b.0), b.1))) r h in
      let a = expressions_reads ts t.0 t.1 in
      let b = then_read_some (suite_by line t.0.2) (λ b. Some ((t.0.0, stmts_of b.0), b.1)) r t.2 in
      let s = suite_reads t.0.2 b.0 b.1 in
      let P : Branch × List Terminal → Type 0 = OverRead ts in
      subst P (some_inj ((t.0.0, stmts_of b.0.0), b.0.1) r b.2) (a.0 ++ s.0, a.1 ∙ ap (λ t. a.0 ++ t) s.1 ∙ sym (append_assoc a.0 s.0 b.0.1), (a.0, s.0, refl, a.2, s.2))

  abbrev Elif : Branch → List Terminal → Type 0
  Elif = After (Word token.ElifWord) (Tested L)

  elif_reads : (bs : List Branch) (ts : List Terminal) (r : List Branch × List Terminal) → elif_by line bs ts ≡ Some r → (x : Branch) × (f : List Terminal) × (r.0 ≡ and_branch bs x) × (ts ≡ f ++ r.1) × Elif x f
  elif_reads bs ts r h =
      let x = then_read_some (after (Word token.ElifWord) ts) (λ rest. then_read (branch_by line rest) (with_branch bs)) r h in
      let y = then_read_some (branch_by line x.0) (with_branch bs) r x.2 in
      let t = branch_reads x.0 y.0 y.1 in
      let P : List Branch × List Terminal → Type 0 = λ r. (x : Branch) × (f : List Terminal) × (r.0 ≡ and_branch bs x) × (ts ≡ f ++ r.1) × Elif x f in
      subst P (some_inj (bs ++ y.0.0 ∷ [], y.0.1) r y.2) (y.0.0, Word token.ElifWord ∷ t.0, refl, after_elif_some ts x.0 x.1 ∙ ap (λ t. Word token.ElifWord ∷ t) t.1, (t.0, refl, t.2))

  elifs_reads : (ts : List Terminal) (r : List Branch × List Terminal) → elifs_by line ts ≡ Some r → (f : List Terminal) × (ts ≡ f ++ r.1) × Many Elif r.0 f
  elifs_reads ts r h =
      let m = many_sound and_branch (elif_by line) no_elif Elif elif_reads (length ts) [] ts r h in
      (m.1, m.3, subst (λ bs. Many Elif bs m.1) (sym (m.2 ∙ added_branches [] m.0)) m.4)

  abbrev LastRead : List Terminal → List Stmt × List Terminal → Type 0
  LastRead ts r = (f : List Terminal) × (ts ≡ f ++ r.1) × Otherwise L (stmts_of r.0) f

  otherwise_reads : (ts : List Terminal) (o : Option (List Terminal)) → after (Word token.ElseWord) ts ≡ o → (r : List Stmt × List Terminal) → otherwise_from line ts o ≡ Some r → LastRead ts r
  otherwise_reads ts None is r h = let P : List Stmt × List Terminal → Type 0 = LastRead ts in subst P (some_inj ([], ts) r h) ([], refl, inl (refl, refl))
  otherwise_reads ts (Some rest) is r h =
      let s = suite_reads rest r h in (Word token.ElseWord ∷ s.0, after_else_some ts rest is ∙ ap (λ t. Word token.ElseWord ∷ t) s.1, inr (s.0, refl, s.2))

  abbrev CompoundRead : List Terminal → Stmt × List Terminal → Type 0
  CompoundRead ts r = (f : List Terminal) × (ts ≡ f ++ r.1) × Compound L r.0 f

  if_reads : (ts : List Terminal) (r : Stmt × List Terminal) → if_by line ts ≡ Some r → CompoundRead (Word token.IfWord ∷ ts) r
  if_reads ts r h =
      let b = then_read_some (branch_by line ts) (λ b. then_read (elifs_by line b.1) (λ es. then_read (otherwise_by line es.1) (joined_if b.0 es.0))) r h in
      let e = then_read_some (elifs_by line b.0.1) (λ es. then_read (otherwise_by line es.1) (joined_if b.0.0 es.0)) r b.2 in
      let o = then_read_some (otherwise_by line e.0.1) (joined_if b.0.0 e.0.0) r e.2 in
      let f = branch_reads ts b.0 b.1 in
      let g = elifs_reads b.0.1 e.0 e.1 in
      let i = otherwise_reads e.0.1 (after (Word token.ElseWord) e.0.1) refl o.0 o.1 in
      let P : Stmt × List Terminal → Type 0 = CompoundRead (Word token.IfWord ∷ ts) in
      subst P (some_inj (tree.If b.0.0.0 b.0.0.1 (elifs_of e.0.0 (stmts_of o.0.0)), o.0.1) r o.2) (
        Word token.IfWord ∷ (f.0 ++ (g.0 ++ i.0)),
        ap (λ t. Word token.IfWord ∷ t) (f.1 ∙ ap (λ t. f.0 ++ t) (g.1 ∙ ap (λ t. g.0 ++ t) i.1 ∙ sym (append_assoc g.0 i.0 o.0.1)) ∙ sym (append_assoc f.0 (g.0 ++ i.0) o.0.1)),
        (e.0.0, stmts_of o.0.0, f.0, g.0, i.0, refl, refl, f.2, g.2, i.2),
      )

  while_reads : (ts : List Terminal) (r : Stmt × List Terminal) → while_by line ts ≡ Some r → CompoundRead (Word token.WhileWord ∷ ts) r
  while_reads ts r h =
      let b = then_read_some (branch_by line ts) (λ b. then_read (otherwise_by line b.1) (joined_while b.0)) r h in
      let o = then_read_some (otherwise_by line b.0.1) (joined_while b.0.0) r b.2 in
      let f = branch_reads ts b.0 b.1 in
      let g = otherwise_reads b.0.1 (after (Word token.ElseWord) b.0.1) refl o.0 o.1 in
      let P : Stmt × List Terminal → Type 0 = CompoundRead (Word token.WhileWord ∷ ts) in
      subst P (some_inj (tree.While b.0.0.0 b.0.0.1 (stmts_of o.0.0), o.0.1) r o.2) (
        Word token.WhileWord ∷ (f.0 ++ g.0),
        ap (λ t. Word token.WhileWord ∷ t) (f.1 ∙ ap (λ t. f.0 ++ t) g.1 ∙ sym (append_assoc f.0 g.0 o.0.1)),
        (f.0, g.0, refl, f.2, g.2),
      )

  for_reads : (ts : List Terminal) (r : Stmt × List Terminal) → for_by line ts ≡ Some r → CompoundRead (Word token.ForWord ∷ ts) r
  for_reads ts r h =
      let x = then_read_some (target_by ts) (λ x. then_read (over_by line x.1) (λ b. then_read (otherwise_by line b.1) (joined_for x.0 b.0))) r h in
      let b = then_read_some (over_by line x.0.1) (λ b. then_read (otherwise_by line b.1) (joined_for x.0.0 b.0)) r x.2 in
      let o = then_read_some (otherwise_by line b.0.1) (joined_for x.0.0 b.0.0) r b.2 in
      let e = target_reads ts x.0 x.1 in
      let f = over_reads x.0.1 b.0 b.1 in
      let g = otherwise_reads b.0.1 (after (Word token.ElseWord) b.0.1) refl o.0 o.1 in
      let rest : x.0.1 ≡ (f.0 ++ g.0) ++ o.0.1 = f.1 ∙ ap (λ t. f.0 ++ t) g.1 ∙ sym (append_assoc f.0 g.0 o.0.1) in
      let P : Stmt × List Terminal → Type 0 = CompoundRead (Word token.ForWord ∷ ts) in
      subst P (some_inj (tree.For x.0.0 b.0.0.0 b.0.0.1 (stmts_of o.0.0), o.0.1) r o.2) (
        Word token.ForWord ∷ (e.0 ++ Word token.InWord ∷ (f.0 ++ g.0)),
        ap (λ t. Word token.ForWord ∷ t) (e.1 ∙ ap (λ t. e.0 ++ Word token.InWord ∷ t) rest ∙ sym (append_assoc e.0 (Word token.InWord ∷ (f.0 ++ g.0)) o.0.1)),
        (e.0, f.0, g.0, refl, e.2, f.2, g.2),
      )

  define_reads : (ts : List Terminal) (r : Stmt × List Terminal) → define_by line ts ≡ Some r → CompoundRead (Word token.DefWord ∷ ts) r
  define_reads ts r h =
      let n = then_read_some (name_at ts) (λ n. then_read (after (Sign token.LeftParenthesis) n.1) (λ rest. then_read (parameters_by rest) (defined_by line n.0))) r h in
      let o = then_read_some (after (Sign token.LeftParenthesis) n.0.1) (λ rest. then_read (parameters_by rest) (defined_by line n.0.0)) r n.2 in
      let p = then_read_some (parameters_by o.0) (defined_by line n.0.0) r o.2 in
      let b = then_read_some (suite_by line p.0.1) (λ b. Some (tree.Define n.0.0 p.0.0 (stmts_of b.0), b.1)) r p.2 in
      let g = parameters_reads o.0 p.0 p.1 in
      let s = suite_reads p.0.1 b.0 b.1 in
      let P : Stmt × List Terminal → Type 0 = CompoundRead (Word token.DefWord ∷ ts) in
      let opened : n.0.1 ≡ Sign token.LeftParenthesis ∷ ((g.0 ++ Sign token.RightParenthesis ∷ s.0) ++ b.0.1) =
      after_open_some n.0.1 o.0 o.1 ∙ ap (λ t. Sign token.LeftParenthesis ∷ t) (g.1 ∙ ap (λ t. g.0 ++ Sign token.RightParenthesis ∷ t) s.1 ∙ sym (append_assoc g.0 (Sign token.RightParenthesis ∷ s.0) b.0.1)) in
      subst P (some_inj (tree.Define n.0.0 p.0.0 (stmts_of b.0.0), b.0.1) r b.2) (
        Word token.DefWord ∷ (NAME n.0.0 ∷ (Sign token.LeftParenthesis ∷ (g.0 ++ Sign token.RightParenthesis ∷ s.0))),
        ap (λ t. Word token.DefWord ∷ t) (name_at_some ts n.0 n.1 ∙ ap (λ t. NAME n.0.0 ∷ t) opened),
        (g.0, s.0, refl, g.2, g.3, s.2),
      )

  abbrev LineRead : List Stmt → List Terminal → List Stmt × List Terminal → Type 0
  LineRead body ts r =
      (ss : List Stmt) × (f : List Terminal) × (r.0 ≡ with_line body ss) × (ts ≡ f ++ r.1) × (Simple ss f ⊎ ((s : Stmt) × (ss ≡ s ∷ []) × Compound L s f))

  compound_reads : (body : List Stmt) (ts : List Terminal) (c : Stmt × List Terminal) (r : List Stmt × List Terminal) → CompoundRead ts c → with_compound body c ≡ Some r → LineRead body ts r
  compound_reads body ts c r f h =
      let P : List Stmt × List Terminal → Type 0 = LineRead body ts in subst P (some_inj (body ++ c.0 ∷ [], c.1) r h) (c.0 ∷ [], f.0, refl, f.1, inr (c.0, refl, f.2))

  header_reads : (header : Header) (ts : List Terminal) (r : Stmt × List Terminal) → compound_by line header ts ≡ Some r → CompoundRead (Word (header_word header) ∷ ts) r
  header_reads if_header ts r h = if_reads ts r h
  header_reads while_header ts r h = while_reads ts r h
  header_reads for_header ts r h = for_reads ts r h
  header_reads try_header ts r h = try_reads L line suite_reads (λ ts r h. otherwise_reads ts (after (Word token.ElseWord) ts) refl r h) ts r h
  header_reads def_header ts r h = define_reads ts r h

  block_reads : (body : List Stmt) (ts : List Terminal) (o : Option (Header × List Terminal)) → header_at ts ≡ o → (r : List Stmt × List Terminal) → block_from line body ts o ≡ Some r → LineRead body ts r
  block_reads body ts (Some header) is r h =
      let x = then_read_some (compound_by line header.0 header.1) (with_compound body) r h in
      let P : List Terminal → Type 0 = λ t. LineRead body t r in
      subst P (sym (header_at_some ts header is)) (compound_reads body (Word (header_word header.0) ∷ header.1) x.0 r (header_reads header.0 header.1 x.0 x.1) x.2)
  block_reads body ts None is r h = let l = line_reads body ts r h in (l.0, l.1, l.2, l.3, inl l.4)

pub block_sound : (n : ℕ) → LineSound (Nests n) (block_at n)
unfolding block_at
block_sound zero body ts r h = line_reads body ts r h
block_sound (suc n) body ts r h = block_reads (Nests n) (block_at n) (block_sound n) body ts (header_at ts) refl r h

-- ---- what is in the grammar is read

-- what may stand after a line, and how one begins
pub record Ends (ts : List Terminal) : Type 0 where
  pub elifs : (after (Word token.ElifWord)) ts ≡ None
  pub elses : (after (Word token.ElseWord)) ts ≡ None
  pub excepts : (after (Word token.ExceptWord)) ts ≡ None
  pub finals : (after (Word token.FinallyWord)) ts ≡ None
  pub some : 0 < length ts

pub record Begun (f more : List Terminal) : Type 0 where
  pub ends : Ends (f ++ more)
  pub in_block : is_dedent (f ++ more) ≡ false
  pub long : 0 < length f

line_begun : (line : List Stmt) (f more : List Terminal) → Simple line f → Begun f more
line_begun line f more h =
    let start = line_starts line f more h in
    let some = line_terminals line f h in
    record {
      ends = record { elifs = elif_not (f ++ more) start; elses = else_not (f ++ more) start; excepts = except_not (f ++ more) start; finals = finally_not (f ++ more) start; some = omega (arith, length-append f more) };
      in_block = dedent_not (f ++ more) start;
      long = some;
    }

compound_begun : (L : Lines) (s : Stmt) (f more : List Terminal) → Compound L s f → Begun f more
compound_begun L (tree.If test body other) f more h =
    let P : List Terminal → Type 0 = λ f. Begun f more in
    subst P (sym h.5) (record { ends = record { elifs = refl; elses = refl; excepts = refl; finals = refl; some = omega arith }; in_block = refl; long = omega arith })
compound_begun L (tree.While test body other) f more h =
    let P : List Terminal → Type 0 = λ f. Begun f more in
    subst P (sym h.2) (record { ends = record { elifs = refl; elses = refl; excepts = refl; finals = refl; some = omega arith }; in_block = refl; long = omega arith })
compound_begun L (tree.For t over body other) f more h =
    let P : List Terminal → Type 0 = λ f. Begun f more in
    subst P (sym h.3) (record { ends = record { elifs = refl; elses = refl; excepts = refl; finals = refl; some = omega arith }; in_block = refl; long = omega arith })
compound_begun L (tree.Try body cs other) f more h =
    let P : List Terminal → Type 0 = λ f. Begun f more in
    subst P (sym h.2) (record { ends = record { elifs = refl; elses = refl; excepts = refl; finals = refl; some = omega arith }; in_block = refl; long = omega arith })
compound_begun L (tree.Finally body cs other last) f more h =
    let P : List Terminal → Type 0 = λ f. Begun f more in
    subst P (sym h.3) (record { ends = record { elifs = refl; elses = refl; excepts = refl; finals = refl; some = omega arith }; in_block = refl; long = omega arith })
compound_begun L (tree.Define x ps body) f more h =
    let P : List Terminal → Type 0 = λ f. Begun f more in
    subst P (sym h.2) (record { ends = record { elifs = refl; elses = refl; excepts = refl; finals = refl; some = omega arith }; in_block = refl; long = omega arith })
compound_begun L (tree.Return a) f more h = absurd h
compound_begun L (tree.Raise a) f more h = absurd h
compound_begun L (tree.Global xs) f more h = absurd h
compound_begun L (tree.Import m) f more h = absurd h
compound_begun L (tree.Evaluate e) f more h = absurd h
compound_begun L (tree.Assign t e) f more h = absurd h
compound_begun L (tree.AugmentItem a b op e) f more h = absurd h
compound_begun L (tree.Delete a b) f more h = absurd h
compound_begun L (tree.Augment t op e) f more h = absurd h
compound_begun L tree.Pass f more h = absurd h
compound_begun L tree.Break f more h = absurd h
compound_begun L tree.Continue f more h = absurd h

pub begun : (n : ℕ) (ss : List Stmt) (f more : List Terminal) → Nests n ss f → Begun f more
begun zero ss f more h = line_begun ss f more h
begun (suc n) ss f more (inl h) = line_begun ss f more h
begun (suc n) ss f more (inr h) = compound_begun (Nests n) h.0 f more h.2

abbrev pub LineComplete : Lines → LineParser → Type 0
LineComplete L line = (body ss : List Stmt) (f more : List Terminal) → L ss f → Ends more → line body (f ++ more) ≡ Some (with_line body ss, more)

module _ (L : Lines) (line : LineParser) (complete : LineComplete L line) (begins : (ss : List Stmt) (f more : List Terminal) → L ss f → Begun f more) where
  good : (ss : List Stmt) (f more : List Terminal) → L ss f → Ends more → Ends (f ++ more)
  good ss f more h e = let b = begins ss f more h in b.ends

  next_line : (body ss : List Stmt) (f more : List Terminal) → L ss f → Ends more → (line body (f ++ more) ≡ Some (with_line body ss, more)) × (is_dedent (f ++ more) ≡ false) × (0 < length f)
  next_line body ss f more h e = let b = begins ss f more h in (complete body ss f more h e, b.in_block, b.long)

  in_block : (lines : List (List Stmt)) (f more : List Terminal) → 0 < length f → Many L lines f → is_dedent (f ++ more) ≡ false
  in_block [] f more some h = absurd (omega (arith, ap length h))
  in_block (ss ∷ lines) f more some h =
      let b = begins ss h.0 (h.1 ++ more) h.3 in ap is_dedent (ap (λ t. t ++ more) h.2 ∙ append_assoc h.0 h.1 more) ∙ b.in_block

  indented_complete : (lines : List (List Stmt)) (f more : List Terminal) → 0 < length f → Many L lines f → indented_by line (f ++ DEDENT ∷ more) ≡ Some (all_of lines, more)
  indented_complete lines f more some h =
      let ts = f ++ DEDENT ∷ more in
      let fuel : length f < length ts = omega (arith, length-append f (DEDENT ∷ more)) in
      ap (λ b. if b then None else then_read (many_by line is_dedent (length ts) [] ts) (λ r. Some (r.0, rest_of r.1))) (in_block lines f (DEDENT ∷ more) some h)
      ∙ ap (λ o. then_read o (λ r. Some (r.0, rest_of r.1)))
      (many_complete with_line line is_dedent L Ends good next_line (length ts) [] lines f (DEDENT ∷ more) fuel h (record { elifs = refl; elses = refl; excepts = refl; finals = refl; some = omega arith }) refl)
      ∙ ap (λ b. Some (b, more)) (added_lines [] lines)

  abbrev SuiteFound : Stmts → List Terminal → List Terminal → Type 0
  SuiteFound body f more = (ss : List Stmt) × (body ≡ stmts_of ss) × (suite_by line (f ++ more) ≡ Some (ss, more))

  suite_complete : (body : Stmts) (f more : List Terminal) → Suite L body f → SuiteFound body f more
  suite_complete body f more (inl h) = (
    h.0,
    h.3,
    ap (λ t. suite_by line (t ++ more)) h.2
        ∙ ap (suite_from line (h.1 ++ more)) (newline_not (h.1 ++ more) (line_starts h.0 h.1 more h.4))
        ∙ line_complete [] h.0 h.1 more h.4,
  )
  suite_complete body f more (inr h) = (
    all_of h.3.0,
    h.3.1,
    ap (λ t. suite_by line (t ++ more)) h.1 ∙ ap (indented_by line) (append_assoc h.0 (DEDENT ∷ []) more) ∙ indented_complete h.3.0 h.0 more h.2 h.3.2,
  )

  suite_colon : (body : Stmts) (f : List Terminal) → Suite L body f → (g : List Terminal) × (f ≡ Sign token.Colon ∷ g)
  suite_colon body f (inl h) = (h.1, h.2)
  suite_colon body f (inr h) = (NEWLINE ∷ (INDENT ∷ (h.0 ++ DEDENT ∷ [])), h.1)

  test_complete : (e : Expr) (f g more : List Terminal) → IsExpression e f → (k : List Terminal) × (g ≡ Sign token.Colon ∷ k) → (d : ℕ) × (expression_at max_depth 1 (f ++ (g ++ more)) ≡ Some (e, d, g ++ more))
  test_complete e f g more h k =
      let c = expression_complete max_depth max_depth 1 e f (Sign token.Colon ∷ (k.0 ++ more)) (omega arith) (omega arith) h (omega arith) refl in
      let P : List Terminal → Type 0 = λ g. expression_at max_depth 1 (f ++ (g ++ more)) ≡ Some (e, c.0, g ++ more) in
      (c.0, subst P (sym k.1) c.3)

  over_complete : (b : Branch) (f more : List Terminal) → Over L b f → over_by line (f ++ more) ≡ Some (b, more)
  over_complete b f more h =
      let k = suite_colon b.1 h.1 h.4 in
      let c = expressions_complete b.0 h.0 (Sign token.Colon ∷ (k.0 ++ more)) h.3 (omega arith, refl) refl refl in
      let P : List Terminal → Type 0 = λ g. expressions_by (expression_at max_depth) 1 (h.0 ++ (g ++ more)) ≡ Some (b.0, c.0, g ++ more) in
      let s = suite_complete b.1 h.1 more h.4 in
      ap (over_by line) (ap (λ t. t ++ more) h.2 ∙ append_assoc h.0 h.1 more)
      ∙ ap (λ o. then_read o (λ t. then_read (suite_by line t.2) (λ b. Some ((t.0, stmts_of b.0), b.1)))) (subst P (sym k.1) c.1)
      ∙ ap (λ o. then_read o (λ s. Some ((b.0, stmts_of s.0), s.1))) s.2
      ∙ ap (λ ss. Some ((b.0, ss), more)) (sym s.1)

  branch_complete : (b : Branch) (f more : List Terminal) → Tested L b f → branch_by line (f ++ more) ≡ Some (b, more)
  branch_complete b f more h =
      let t = test_complete b.0 h.0 h.1 more h.3 (suite_colon b.1 h.1 h.4) in
      let s = suite_complete b.1 h.1 more h.4 in
      ap (branch_by line) (ap (λ t. t ++ more) h.2 ∙ append_assoc h.0 h.1 more)
      ∙ ap (λ o. then_read o (λ t. then_read (suite_by line t.2) (λ b. Some ((t.0, stmts_of b.0), b.1)))) t.1
      ∙ ap (λ o. then_read o (λ s. Some ((b.0, stmts_of s.0), s.1))) s.2
      ∙ ap (λ ss. Some ((b.0, ss), more)) (sym s.1)

  abbrev ElifOf : Branch → List Terminal → Type 0
  ElifOf = After (Word token.ElifWord) (Tested L)

  abbrev Any : List Terminal → Type 0
  Any ts = Unit {0}

  next_elif : (bs : List Branch) (b : Branch) (f more : List Terminal) → ElifOf b f → Any more → (elif_by line bs (f ++ more) ≡ Some (and_branch bs b, more)) × (no_elif (f ++ more) ≡ false) × (0 < length f)
  next_elif bs b f more h any = (
    ap (λ t. elif_by line bs (t ++ more)) h.1 ∙ ap (λ o. then_read o (with_branch bs)) (branch_complete b h.0 more h.2),
    ap (λ t. no_elif (t ++ more)) h.1,
    omega (arith, ap length h.1),
  )

  elifs_complete : (bs : List Branch) (f more : List Terminal) → 0 < length more → no_elif more ≡ true → Many ElifOf bs f → elifs_by line (f ++ more) ≡ Some (bs, more)
  elifs_complete bs f more some over h =
      let fuel : length f < length (f ++ more) = omega (arith, length-append f more) in
      many_complete and_branch (elif_by line) no_elif ElifOf Any (λ b f more h any. tt) next_elif (length (f ++ more)) [] bs f more fuel h tt over ∙ ap (λ b. Some (b, more)) (added_branches [] bs)

  abbrev LastFound : Stmts → List Terminal → List Terminal → Type 0
  LastFound last f more = (ss : List Stmt) × (last ≡ stmts_of ss) × (otherwise_by line (f ++ more) ≡ Some (ss, more)) × (no_elif (f ++ more) ≡ true)

  otherwise_complete : (last : Stmts) (f more : List Terminal) → Otherwise L last f → Ends more → LastFound last f more
  otherwise_complete last f more (inl h) e =
      let P : List Terminal → Type 0 = λ f. LastFound last f more in
      subst P (sym h.1) ([], h.0, ap (otherwise_from line more) e.elses, ap is_none e.elifs)
  otherwise_complete last f more (inr h) e =
      let s = suite_complete last h.0 more h.2 in (s.0, s.1, ap (λ t. otherwise_by line (t ++ more)) h.1 ∙ s.2, ap (λ t. no_elif (t ++ more)) h.1)

  if_complete : (test : Expr) (body other : Stmts) (f more : List Terminal) → Compound L (tree.If test body other) f → Ends more → (g : List Terminal) × (f ≡ Word token.IfWord ∷ g) × (if_by line (g ++ more) ≡ Some (tree.If test body other, more))
  if_complete test body other f more h e =
      let o = otherwise_complete h.1 h.4 more h.9 e in
      let some : 0 < length (h.4 ++ more) = omega (arith, length-append h.4 more, e.some) in
      let split : (h.2 ++ (h.3 ++ h.4)) ++ more ≡ h.2 ++ (h.3 ++ (h.4 ++ more)) = append_assoc h.2 (h.3 ++ h.4) more ∙ ap (λ t. h.2 ++ t) (append_assoc h.3 h.4 more) in (
        h.2 ++ (h.3 ++ h.4),
        h.5,
        ap (if_by line) split
            ∙ ap (λ o. then_read o (λ b. then_read (elifs_by line b.1) (λ es. then_read (otherwise_by line es.1) (joined_if b.0 es.0)))) (branch_complete (test, body) h.2 (h.3 ++ (h.4 ++ more)) h.7)
            ∙ ap (λ o. then_read o (λ es. then_read (otherwise_by line es.1) (joined_if (test, body) es.0))) (elifs_complete h.0 h.3 (h.4 ++ more) some o.3 h.8)
            ∙ ap (λ o. then_read o (joined_if (test, body) h.0)) o.2
            ∙ ap (λ last. Some (tree.If test body (elifs_of h.0 last), more)) (sym o.1)
            ∙ ap (λ rest. Some (tree.If test body rest, more)) (sym h.6),
      )

  while_complete : (test : Expr) (body other : Stmts) (f more : List Terminal) → Compound L (tree.While test body other) f → Ends more → (g : List Terminal) × (f ≡ Word token.WhileWord ∷ g) × (while_by line (g ++ more) ≡ Some (tree.While test body other, more))
  while_complete test body other f more h e =
      let o = otherwise_complete other h.1 more h.4 e in (
        h.0 ++ h.1,
        h.2,
        ap (while_by line) (append_assoc h.0 h.1 more)
            ∙ ap (λ o. then_read o (λ b. then_read (otherwise_by line b.1) (joined_while b.0))) (branch_complete (test, body) h.0 (h.1 ++ more) h.3)
            ∙ ap (λ o. then_read o (joined_while (test, body))) o.2
            ∙ ap (λ last. Some (tree.While test body last, more)) (sym o.1),
      )

  for_complete : (t : Target) (over : Expr) (body other : Stmts) (f more : List Terminal) → Compound L (tree.For t over body other) f → Ends more → (g : List Terminal) × (f ≡ Word token.ForWord ∷ g) × (for_by line (g ++ more) ≡ Some (tree.For t over body other, more))
  for_complete t over body other f more h e =
      let o = otherwise_complete other h.2 more h.6 e in
      let split : (h.0 ++ Word token.InWord ∷ (h.1 ++ h.2)) ++ more ≡ h.0 ++ Word token.InWord ∷ (h.1 ++ (h.2 ++ more)) =
      append_assoc h.0 (Word token.InWord ∷ (h.1 ++ h.2)) more ∙ ap (λ t. h.0 ++ Word token.InWord ∷ t) (append_assoc h.1 h.2 more) in (
        h.0 ++ Word token.InWord ∷ (h.1 ++ h.2),
        h.3,
        ap (for_by line) split
            ∙ ap (λ o. then_read o (λ x. then_read (over_by line x.1) (λ b. then_read (otherwise_by line b.1) (joined_for x.0 b.0)))) (target_complete t h.0 (h.1 ++ (h.2 ++ more)) h.4)
            ∙ ap (λ o. then_read o (λ b. then_read (otherwise_by line b.1) (joined_for t b.0))) (over_complete (over, body) h.1 (h.2 ++ more) h.5)
            ∙ ap (λ o. then_read o (joined_for t (over, body))) o.2
            ∙ ap (λ last. Some (tree.For t over body last, more)) (sym o.1),
      )

  define_complete : (x : Text) (ps : List Text) (body : Stmts) (f more : List Terminal) → Compound L (tree.Define x ps body) f → (g : List Terminal) × (f ≡ Word token.DefWord ∷ g) × (define_by line (g ++ more) ≡ Some (tree.Define x ps body, more))
  define_complete x ps body f more h =
      let s = suite_complete body h.1 more h.5 in (
        NAME x ∷ (Sign token.LeftParenthesis ∷ (h.0 ++ Sign token.RightParenthesis ∷ h.1)),
        h.2,
        ap (λ t. then_read (parameters_by t) (defined_by line x)) (append_assoc h.0 (Sign token.RightParenthesis ∷ h.1) more)
            ∙ ap (λ o. then_read o (defined_by line x)) (parameters_complete ps h.0 (h.1 ++ more) h.3 h.4)
            ∙ ap (λ o. then_read o (λ b. Some (tree.Define x ps (stmts_of b.0), b.1))) s.2
            ∙ ap (λ l. Some (tree.Define x ps l, more)) (sym s.1),
      )

  abbrev Read : List Stmt → List Stmt → List Terminal → List Terminal → Type 0
  Read body ss f more = block_from line body (f ++ more) (header_at (f ++ more)) ≡ Some (with_line body ss, more)

  simple_read : (body ss : List Stmt) (f more : List Terminal) → Simple ss f → Read body ss f more
  simple_read body ss f more h =
      ap (block_from line body (f ++ more)) (header_not (f ++ more) (line_starts ss f more h)) ∙ line_complete body ss f more h

  compound_read : (body : List Stmt) (s : Stmt) (f more : List Terminal) → Compound L s f → Ends more → Read body (s ∷ []) f more
  compound_read body (tree.If test rest other) f more h e =
      let c = if_complete test rest other f more h e in
      let P : List Terminal → Type 0 = λ f. Read body (tree.If test rest other ∷ []) f more in
      subst P (sym c.1) (ap (λ o. then_read o (with_compound body)) c.2)
  compound_read body (tree.While test rest other) f more h e =
      let c = while_complete test rest other f more h e in
      let P : List Terminal → Type 0 = λ f. Read body (tree.While test rest other ∷ []) f more in
      subst P (sym c.1) (ap (λ o. then_read o (with_compound body)) c.2)
  compound_read body (tree.For t over rest other) f more h e =
      let c = for_complete t over rest other f more h e in
      let P : List Terminal → Type 0 = λ f. Read body (tree.For t over rest other ∷ []) f more in
      subst P (sym c.1) (ap (λ o. then_read o (with_compound body)) c.2)
  compound_read body (tree.Try rest cs other) f more h e =
      let c = try_complete L line suite_complete rest cs other f more h (record { no_except = e.excepts; no_else = e.elses; some = e.some }) e.finals in
      let P : List Terminal → Type 0 = λ f. Read body (tree.Try rest cs other ∷ []) f more in
      subst P (sym c.1) (ap (λ o. then_read o (with_compound body)) c.2)
  compound_read body (tree.Finally rest cs other last) f more h e =
      let c = finally_complete L line suite_complete rest cs other last f more h in
      let P : List Terminal → Type 0 = λ f. Read body (tree.Finally rest cs other last ∷ []) f more in
      subst P (sym c.1) (ap (λ o. then_read o (with_compound body)) c.2)
  compound_read body (tree.Define x ps rest) f more h e =
      let c = define_complete x ps rest f more h in
      let P : List Terminal → Type 0 = λ f. Read body (tree.Define x ps rest ∷ []) f more in
      subst P (sym c.1) (ap (λ o. then_read o (with_compound body)) c.2)
  compound_read body (tree.Return x) f more h e = absurd h
  compound_read body (tree.Raise x) f more h e = absurd h
  compound_read body (tree.Global xs) f more h e = absurd h
  compound_read body (tree.Import m) f more h e = absurd h
  compound_read body (tree.Evaluate x) f more h e = absurd h
  compound_read body (tree.Assign t v) f more h e = absurd h
  compound_read body (tree.AugmentItem a b op v) f more h e = absurd h
  compound_read body (tree.Delete a b) f more h e = absurd h
  compound_read body (tree.Augment t op v) f more h e = absurd h
  compound_read body tree.Pass f more h e = absurd h
  compound_read body tree.Break f more h e = absurd h
  compound_read body tree.Continue f more h e = absurd h

pub block_complete : (n : ℕ) → LineComplete (Nests n) (block_at n)
unfolding block_at
block_complete zero body ss f more h e = line_complete body ss f more h
block_complete (suc n) body ss f more (inl h) e = simple_read (Nests n) (block_at n) (block_complete n) (begun n) body ss f more h
block_complete (suc n) body ss f more (inr h) e =
    compound_read (Nests n) (block_at n) (block_complete n) (begun n) body h.0 f more h.2 e ∙ ap (λ l. Some (body ++ l, more)) (sym h.1)
