-- For the worked cases of reading: trees with the terminals that spell them, production by production.
use Rattle.std.proofs.Common.{ℕ, suc, ◌<◌, ◌≤◌, List, [], ◌∷◌, ◌++◌, length, inl, inr, refl, sym, ap, lit<, ◌≡◌, ◌∙◌, true, false, Some}
use Rattle.std.specs.Prelude.{pos}
use Rattle.std.proofs.lemmas.List.{append-nil}
use Rattle.si_semantics.specs.Value.{Text}
use Rattle.si_semantics.specs.Tree as tree
use Rattle.si_semantics.specs.Tree.{BinaryOperator, UnaryOperator, ComparisonOperator, Expr, Exprs, Comparisons, Stmt, Target, Targets, Stmts}
use Rattle.si_semantics.specs.Tokens as tokens
use Rattle.si_semantics.specs.Grammar.{Terminal, NAME, NUMBER, Sign, Word, NEWLINE, INDENT, DEDENT, ENDMARKER, level_of, left_level, right_level, symbol_of, prefix_level, prefix_of, comparison_of, is_identity, value_of_int, items_of, exprs_of, Many, Following, Separated, Link, links_of, Compares, Spells, max_depth, max_item_depth, target_of, IsTarget, Targeted, augmented_of, Small, Simple, Suite, Nests, max_nesting, Derives}
use Rattle.si_semantics.specs.Worked.Straight.{int, arguments, suite}

-- ---- expressions

pub record Expression (n l : ℕ) (e : Expr) : Type 0 where
  pub terminals : List Terminal
  pub spelled : Spells n l e terminals

abbrev pub name : {n l : ℕ} (y : Text) → Expression (suc n) l (tree.Name y)
name y = record { terminals = NAME y ∷ []; spelled = inl refl }

abbrev pub number : {n l : ℕ} (digits : List ℕ) (k : ℕ) → value_of_int digits ≡ Some (pos k)
    → Expression (suc n) l (int k)
number digits k h = record { terminals = NUMBER digits ∷ []; spelled = inl (digits, refl, h) }

abbrev pub in_brackets : {n l : ℕ} {e : Expr} → Expression n 1 e → Expression (suc n) l e
in_brackets e =
    record {
      terminals = Sign tokens.LeftParenthesis ∷ (e.terminals ++ Sign tokens.RightParenthesis ∷ []);
      spelled = inr (e.terminals, refl, e.spelled);
    }

abbrev pub unary : {n l : ℕ} {a : Expr} (op : UnaryOperator) → l ≤ prefix_level op → Expression n (prefix_level op) a
    → Expression (suc n) l (tree.Unary op a)
unary op h a = record { terminals = prefix_of op ∷ a.terminals; spelled = inl (a.terminals, refl, h, a.spelled) }

abbrev pub binary : {n l : ℕ} {a b : Expr} (op : BinaryOperator) → l ≤ level_of op → Expression n (left_level op) a
    → Expression n (right_level op) b
    → Expression (suc n) l (tree.Binary op a b)
binary op h a b =
    record {
      terminals = a.terminals ++ Sign (symbol_of op) ∷ b.terminals;
      spelled = inl (a.terminals, b.terminals, refl, h, a.spelled, b.spelled);
    }

-- operators of comparisons with the operands after them
pub record Chain (n : ℕ) (links : List Link) : Type 0 where
  pub terminals : List Terminal
  pub spelled : Many (Compares (Spells n)) links terminals

abbrev pub no_more : {n : ℕ} → Chain n []
no_more = record { terminals = []; spelled = refl }

pub not_identity : {A : Type 0} (op : ComparisonOperator) → is_identity op ≡ false → is_identity op ≡ true → A
not_identity op h i = absurd (let bad : false ≡ true = sym h ∙ i in cc)

abbrev pub compares : {n : ℕ} {e : Expr} {links : List Link} (op : ComparisonOperator) → is_identity op ≡ false
    → Expression n 10 e → Chain n links
    → Chain n ((op, e) ∷ links)
compares op h e more =
    record {
      terminals = (comparison_of op ++ e.terminals) ++ more.terminals;
      spelled = (comparison_of op ++ e.terminals, more.terminals, refl, (e.terminals, refl, e.spelled, not_identity op h), more.spelled);
    }

abbrev pub comparison : {n l : ℕ} {a : Expr} {cs : Comparisons} → l ≤ 8 → 0 < length (links_of cs) → Expression n 10 a
    → Chain n (links_of cs)
    → Expression (suc n) l (tree.Compare a cs)
comparison h some a cs =
    record {
      terminals = a.terminals ++ cs.terminals;
      spelled = inl (a.terminals, cs.terminals, refl, h, a.spelled, some, cs.spelled);
    }

-- two operands with `or` between them
abbrev pub either : {n l : ℕ} {a b : Expr} → l ≤ 3 → Expression n 5 a → Expression n 5 b
    → Expression (suc n) l (tree.Boolean tree.Or a (arguments (b ∷ [])))
either h a b =
    record {
      terminals = a.terminals ++ Word tokens.OrWord ∷ b.terminals;
      spelled =
          inl (
            a.terminals,
            Word tokens.OrWord ∷ b.terminals,
            refl,
            h,
            a.spelled,
            lit< tt,
            (Word tokens.OrWord ∷ b.terminals, [], sym (append-nil (Word tokens.OrWord ∷ b.terminals)), (b.terminals, refl, b.spelled), refl),
          );
    }

-- an item of a subscription
abbrev pub subscripted : {n l : ℕ} {a b : Expr} → l ≤ 18 → Expression n 18 a → Expression n 1 b → Expression (suc n) l (tree.Subscript a b)
subscripted h a b =
    record {
      terminals = a.terminals ++ Sign tokens.LeftBracket ∷ (b.terminals ++ Sign tokens.RightBracket ∷ []);
      spelled = inl (a.terminals, b.terminals, refl, h, a.spelled, b.spelled);
    }

-- what stands after the first of expressions in a row: others, or none, or a last comma
pub record Rest (n l : ℕ) (es : List Expr) : Type 0 where
  pub terminals : List Terminal
  pub spelled : Following (Spells n l) tokens.Comma es terminals

abbrev pub no_rest : {n l : ℕ} → Rest n l []
no_rest = record { terminals = []; spelled = inl refl }

abbrev pub more_rest : {n l : ℕ} {e : Expr} {es : List Expr} → Expression n l e → Rest n l es → Rest n l (e ∷ es)
more_rest e more =
    record { terminals = Sign tokens.Comma ∷ (e.terminals ++ more.terminals); spelled = (e.terminals, more.terminals, refl, e.spelled, more.spelled) }

-- expressions in a row
pub record Row (n l : ℕ) (es : List Expr) : Type 0 where
  pub terminals : List Terminal
  pub spelled : Separated (Spells n l) tokens.Comma es terminals

abbrev pub no_row : {n l : ℕ} → Row n l []
no_row = record { terminals = []; spelled = refl }

abbrev pub row : {n l : ℕ} {e : Expr} {es : List Expr} → Expression n l e → Rest n l es → Row n l (e ∷ es)
row e more = record { terminals = e.terminals ++ more.terminals; spelled = (e.terminals, more.terminals, refl, e.spelled, more.spelled) }

abbrev pub list_display : {n l : ℕ} {items : Exprs} → Row n 1 (items_of items) → Expression (suc n) l (tree.ListDisplay items)
list_display r = record {
  terminals = Sign tokens.LeftBracket ∷ (r.terminals ++ Sign tokens.RightBracket ∷ []);
  spelled = inl (r.terminals, refl, r.spelled);
}

-- a dict of one pair, with a comma after it
abbrev pub one_pair : {n l : ℕ} {k v : Expr} → Expression n 1 k → Expression n 1 v → Expression (suc n) l (tree.DictDisplay (arguments (k ∷ v ∷ [])))
one_pair {k = k} {v = v} key value =
    let pair : List Terminal = key.terminals ++ Sign tokens.Colon ∷ value.terminals in
    record {
      terminals = Sign tokens.LeftBrace ∷ ((pair ++ Sign tokens.Comma ∷ []) ++ Sign tokens.RightBrace ∷ []);
      spelled =
          inl (
            (k, v) ∷ [],
            pair ++ Sign tokens.Comma ∷ [],
            refl,
            refl,
            (pair, Sign tokens.Comma ∷ [], refl, (key.terminals, value.terminals, refl, key.spelled, value.spelled), inr refl),
          );
    }

-- two items in brackets
abbrev pub two_in_brackets : {n l : ℕ} {a b : Expr} → Expression n 1 a → Expression n 1 b → Expression (suc n) l (tree.Tuple (arguments (a ∷ b ∷ [])))
two_in_brackets a b =
    let r = row a (more_rest b no_rest) in
    record {
      terminals = Sign tokens.LeftParenthesis ∷ (r.terminals ++ Sign tokens.RightParenthesis ∷ []);
      spelled = inl (r.terminals, refl, r.spelled);
    }

-- ---- targets

pub record Aim (t : Target) : Type 0 where
  pub terminals : List Terminal
  pub spelled : IsTarget t terminals

-- an expression that is a target, and two with a comma between them
abbrev pub aim : {t : Target} {e : Expr} → target_of e ≡ Some t → Expression max_depth 1 e → Aim t
aim {e = e} h x = record { terminals = x.terminals; spelled = (e, h, inl x.spelled) }

abbrev pub two_aims : {t : Target} {a b : Expr} → target_of (tree.Tuple (exprs_of (a ∷ b ∷ []))) ≡ Some t → Expression max_item_depth 1 a
    → Expression max_item_depth 1 b
    → Aim t
two_aims {a = a} {b = b} h x y =
    let r = row x (more_rest y no_rest) in
    record { terminals = r.terminals; spelled = (tree.Tuple (exprs_of (a ∷ b ∷ [])), h, inr (a ∷ b ∷ [], refl, lit< tt, r.spelled)) }

-- targets, each with `=` after it
pub record Aims (ts : Targets) : Type 0 where
  pub terminals : List Terminal
  pub spelled : Targeted ts terminals

abbrev pub one_aim : {t : Target} → Aim t → Aims (tree.only t)
one_aim a = record { terminals = a.terminals ++ Sign tokens.Equal ∷ []; spelled = (a.terminals, refl, a.spelled) }

abbrev pub more_aims : {t u : Target} {us : Targets} → Aim t → Aims (tree.MoreTargets u us) → Aims (tree.MoreTargets t (tree.MoreTargets u us))
more_aims a more =
    record {
      terminals = (a.terminals ++ Sign tokens.Equal ∷ []) ++ more.terminals;
      spelled = (a.terminals ++ Sign tokens.Equal ∷ [], more.terminals, refl, (a.terminals, refl, a.spelled), more.spelled);
    }

-- ---- statements

pub record Statement (s : Stmt) : Type 0 where
  pub terminals : List Terminal
  pub spelled : Small s terminals

abbrev pub assigned : {e : Expr} (y : Text) → Expression max_depth 1 e → Statement (tree.Assign (tree.only (tree.Named y)) e)
assigned y e =
    record {
      terminals = NAME y ∷ (Sign tokens.Equal ∷ e.terminals);
      spelled = (NAME y ∷ Sign tokens.Equal ∷ [], e.terminals, refl, (NAME y ∷ [], refl, (tree.Name y, refl, inl (inl refl))), inl e.spelled);
    }

abbrev pub assigned_to : {ts : Targets} {e : Expr} → Aims ts → Expression max_depth 1 e → Statement (tree.Assign ts e)
assigned_to aims e = record { terminals = aims.terminals ++ e.terminals; spelled = (aims.terminals, e.terminals, refl, aims.spelled, inl e.spelled) }

abbrev pub augmented : {a b e : Expr} (op : BinaryOperator) → Aim (tree.Item a b) → Expression max_depth 1 e → Statement (tree.AugmentItem a b op e)
augmented op a e =
    record {
      terminals = a.terminals ++ Sign (augmented_of op) ∷ e.terminals;
      spelled = (a.terminals, e.terminals, refl, a.spelled, inl e.spelled);
    }

abbrev pub deleted : {a b : Expr} → Expression max_depth 18 (tree.Subscript a b) → Statement (tree.Delete a b)
deleted e = record { terminals = Word tokens.DelWord ∷ e.terminals; spelled = (e.terminals, refl, e.spelled) }

abbrev pub evaluated : {e : Expr} → Expression max_depth 1 e → Statement (tree.Evaluate e)
evaluated e = record { terminals = e.terminals; spelled = inl e.spelled }

abbrev pub word : (s : Stmt) (w : tokens.Keyword) → Small s (Word w ∷ []) → Statement s
word s w h = record { terminals = Word w ∷ []; spelled = h }

-- a statement alone in its line
pub alone : (s : Stmt) (t : Statement s) → Simple (s ∷ []) (t.terminals ++ NEWLINE ∷ [])
alone s t = (t.terminals, refl, lit< tt, (t.terminals, [], sym (append-nil t.terminals), t.spelled, inl refl))

-- a line, or a compound statement
pub record Nested (n : ℕ) (s : Stmt) : Type 0 where
  pub terminals : List Terminal
  pub spelled : Nests n (s ∷ []) terminals

abbrev pub line : {n : ℕ} {s : Stmt} → Statement s → Nested (suc n) s
line {s = s} t = record { terminals = t.terminals ++ NEWLINE ∷ []; spelled = inl (alone s t) }

-- a suite of one statement
pub record Suited (n : ℕ) (s : Stmt) : Type 0 where
  pub terminals : List Terminal
  pub spelled : Suite (Nests n) (suite (s ∷ [])) terminals

-- after the colon in its line
abbrev pub in_line : {n : ℕ} {s : Stmt} → Statement s → Suited n s
in_line {s = s} t =
    record {
      terminals = Sign tokens.Colon ∷ (t.terminals ++ NEWLINE ∷ []);
      spelled = inl (s ∷ [], t.terminals ++ NEWLINE ∷ [], refl, refl, alone s t);
    }

-- in a block
abbrev pub in_block : {n : ℕ} {s : Stmt} (t : Nested n s) → 0 < length t.terminals → Suited n s
in_block {s = s} t h =
    record {
      terminals = Sign tokens.Colon ∷ (NEWLINE ∷ (INDENT ∷ (t.terminals ++ DEDENT ∷ [])));
      spelled = inr (t.terminals, refl, h, ((s ∷ []) ∷ [], refl, (t.terminals, [], sym (append-nil t.terminals), t.spelled, refl)));
    }

-- an `if` with no other suite
abbrev pub one_branch : {n : ℕ} {e : Expr} {s : Stmt} → Expression max_depth 1 e → Suited n s
    → Nested (suc n) (tree.If e (suite (s ∷ [])) tree.NoStmts)
one_branch {e = e} {s = s} test body =
    record {
      terminals = Word tokens.IfWord ∷ (test.terminals ++ body.terminals);
      spelled =
          inr (
            tree.If e (suite (s ∷ [])) tree.NoStmts,
            refl,
            (
              [],
              tree.NoStmts,
              test.terminals ++ body.terminals,
              [],
              [],
              ap (λ l. Word tokens.IfWord ∷ l) (sym (append-nil (test.terminals ++ body.terminals))),
              refl,
              (test.terminals, body.terminals, refl, test.spelled, body.spelled),
              refl,
              inl (refl, refl),
            ),
          );
    }

-- one with an `elif` and an else suite
abbrev pub three_branches : {n : ℕ} {a b : Expr} {s t u : Stmt} → Expression max_depth 1 a → Suited n s
    → Expression max_depth 1 b → Suited n t → Suited n u
    → Nested (suc n) (tree.If a (suite (s ∷ [])) (suite (tree.If b (suite (t ∷ [])) (suite (u ∷ [])) ∷ [])))
three_branches {a = a} {b = b} {s = s} {t = t} {u = u} test body other second last =
    let after : List Terminal = Word tokens.ElifWord ∷ (other.terminals ++ second.terminals) in
    record {
      terminals = Word tokens.IfWord ∷ ((test.terminals ++ body.terminals) ++ (after ++ Word tokens.ElseWord ∷ last.terminals));
      spelled =
          inr (
            tree.If a (suite (s ∷ [])) (suite (tree.If b (suite (t ∷ [])) (suite (u ∷ [])) ∷ [])),
            refl,
            (
              (b, suite (t ∷ [])) ∷ [],
              suite (u ∷ []),
              test.terminals ++ body.terminals,
              after,
              Word tokens.ElseWord ∷ last.terminals,
              refl,
              refl,
              (test.terminals, body.terminals, refl, test.spelled, body.spelled),
              (
                after,
                [],
                sym (append-nil after),
                (other.terminals ++ second.terminals, refl, (other.terminals, second.terminals, refl, other.spelled, second.spelled)),
                refl,
              ),
              inr (last.terminals, refl, last.spelled),
            ),
          );
    }

-- a `while` with no other suite
abbrev pub loop : {n : ℕ} {e : Expr} {s : Stmt} → Expression max_depth 1 e → Suited n s
    → Nested (suc n) (tree.While e (suite (s ∷ [])) tree.NoStmts)
loop {e = e} {s = s} test body =
    record {
      terminals = Word tokens.WhileWord ∷ (test.terminals ++ body.terminals);
      spelled =
          inr (
            tree.While e (suite (s ∷ [])) tree.NoStmts,
            refl,
            (
              test.terminals ++ body.terminals,
              [],
              ap (λ l. Word tokens.WhileWord ∷ l) (sym (append-nil (test.terminals ++ body.terminals))),
              (test.terminals, body.terminals, refl, test.spelled, body.spelled),
              inl (refl, refl),
            ),
          );
    }

-- a `for` over two targets with a comma between them, with no other suite
abbrev pub over_two : {n : ℕ} {t : Target} {a b e : Expr} {s : Stmt} → target_of (tree.Tuple (exprs_of (a ∷ b ∷ []))) ≡ Some t
    → Expression max_item_depth 18 a → Expression max_item_depth 18 b → Expression max_depth 1 e → Suited n s
    → Nested (suc n) (tree.For t e (suite (s ∷ [])) tree.NoStmts)
over_two {t = t} {a = a} {b = b} {e = e} {s = s} h x y gone body =
    let r = row x (more_rest y no_rest) in
    record {
      terminals = Word tokens.ForWord ∷ (r.terminals ++ Word tokens.InWord ∷ ((gone.terminals ++ body.terminals) ++ []));
      spelled =
          inr (
            tree.For t e (suite (s ∷ [])) tree.NoStmts,
            refl,
            (
              r.terminals,
              gone.terminals ++ body.terminals,
              [],
              refl,
              (tree.Tuple (exprs_of (a ∷ b ∷ [])), h, inr (a ∷ b ∷ [], refl, lit< tt, r.spelled)),
              (gone.terminals, body.terminals, refl, inl gone.spelled, body.spelled),
              inl (refl, refl),
            ),
          );
    }

-- a text of one statement, or of two
pub record Parsed (body : Stmts) : Type 0 where
  pub terminals : List Terminal
  pub spelled : Derives body terminals

abbrev pub text : {s : Stmt} → Nested max_nesting s → Parsed (suite (s ∷ []))
text {s = s} t =
    record {
      terminals = t.terminals ++ ENDMARKER ∷ [];
      spelled = (t.terminals, refl, ((s ∷ []) ∷ [], refl, (t.terminals, [], sym (append-nil t.terminals), t.spelled, refl)));
    }

abbrev pub text_of_two : {s t : Stmt} → Nested max_nesting s → Nested max_nesting t → Parsed (suite (s ∷ t ∷ []))
text_of_two {s = s} {t = t} a b =
    record {
      terminals = (a.terminals ++ b.terminals) ++ ENDMARKER ∷ [];
      spelled = (
        a.terminals ++ b.terminals,
        refl,
        (
          (s ∷ []) ∷ (t ∷ []) ∷ [],
          refl,
          (a.terminals, b.terminals, refl, a.spelled, (b.terminals, [], sym (append-nil b.terminals), b.spelled, refl)),
        ),
      );
    }
