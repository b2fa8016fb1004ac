-- Small statements and lines: what is read is in the grammar, and what is in the grammar is read.
use Rattle.std.proofs.Common.{codes, ◌≡◌, ℕ, ◌+◌, ◌<◌, List, [], ◌∷◌, ◌++◌, length, Bool, Option, Some, None, true, false, refl, ⊎_elim, sym, ap, ◌∙◌, subst, map, arith, append_assoc, length-append}
use Rattle.std.specs.Prelude.{option_map, if◌then◌else◌}
use Rattle.std.proofs.lemmas.List.{append-nil, length-map}
use Rattle.std.proofs.lemmas.Option.{cond_some}
use Rattle.si_plain.specs.declared.modules.ModuleName.{ModuleName}
use Rattle.si_plain.specs.declared.modules.ModuleName.TheVariants.{Threading, Interpreters}
use Rattle.si_semantics.specs.Value.{Text}
use Rattle.si_semantics.specs.Text.{same_text}
use Rattle.si_semantics.specs.Tree as tree
use Rattle.si_semantics.specs.Tree.{BinaryOperator, Expr, Stmt, Target}
use Rattle.si_semantics.specs.Tokens.{Symbol}
use Rattle.si_semantics.specs.Tokens as token
use Rattle.si_semantics.specs.Grammar.{Terminal, NAME, Sign, Word, NEWLINE, Following, Separated, max_depth, Spells, IsExpression, IsExpressions, exprs_of, augmented_of, target_of, targets_of, import_of, Small, Simple}
use Rattle.si_syntax.specs.Trees.{target_row}
use Rattle.si_parse.specs.inner.Lookahead.{rest_of, strength_at, begins_literal, after}
use Rattle.si_parse.specs.inner.Lists.{Found, Parsed, then_read}
use Rattle.si_parse.specs.inner.Names.{no_comma, names_by, name_at}
use Rattle.si_parse.specs.inner.Expressions.{expression_at}
use Rattle.si_parse.specs.inner.Unbracketed.{ends_items, expressions_by}
use Rattle.si_parse.specs.inner.Statements.{ends_small, value_by, returned_by, raised_by, global_by, assignment_symbol, assignment_at, statement_from, spelled_by, word_statement, named, after_name, after_import, after_from, after_interpreters, imported, import_at, small_from, statement_by, with_statement, line_by, augment, augmented, deleted, deleted_by}
use Rattle.si_semantics.proofs.Names.{same_is}
use Rattle.si_parse.proofs.Laws.{then_read_some, some_inj, spells_looser, spells_deeper, after_semicolon_some, after_newline_some, name_at_some, after_import_some, after_from_some, after_return_some, after_global_some, after_raise_some, after_del_some}
use Rattle.si_parse.proofs.Levels.{high, at_condition}
use Rattle.si_parse.proofs.Lists.{chosen, added, Pairwise, separated_sound, separated_complete}
use Rattle.si_parse.proofs.Starts.{begins, expression_begins, word_not, import_not, return_not, global_not, raise_not, del_not, ends_not, starts, starts_operand, newline_not}
use Rattle.si_parse.proofs.Sound.{expression_sound}
use Rattle.si_parse.proofs.Names.{names_reads, names_complete}
use Rattle.si_parse.proofs.Complete.{expression_complete}
use Rattle.si_parse.proofs.Unbracketed.{expressions_reads, expression_alone, expressions_complete, expressions_begin}
use Rattle.si_parse.proofs.Targets.{unpack_split, target_tighter}
use Rattle.si_parse.proofs.Assigned.{Equated, equated, assigned_reads, assigned_complete, equated_begins}

-- ---- signs of assignments

abbrev sign_of : Option BinaryOperator → Symbol
sign_of None = token.Equal
sign_of (Some op) = augmented_of op

sign_is : (s : Symbol) (a : Option BinaryOperator) → assignment_symbol s ≡ Some a → s ≡ sign_of a
sign_is token.Equal a h = ap sign_of (some_inj None a h)
sign_is token.BarEqual a h = ap sign_of (some_inj (Some tree.BitOr) a h)
sign_is token.CaretEqual a h = ap sign_of (some_inj (Some tree.BitXor) a h)
sign_is token.AmpersandEqual a h = ap sign_of (some_inj (Some tree.BitAnd) a h)
sign_is token.LeftShiftEqual a h = ap sign_of (some_inj (Some tree.ShiftLeft) a h)
sign_is token.RightShiftEqual a h = ap sign_of (some_inj (Some tree.ShiftRight) a h)
sign_is token.PlusEqual a h = ap sign_of (some_inj (Some tree.Add) a h)
sign_is token.MinusEqual a h = ap sign_of (some_inj (Some tree.Subtract) a h)
sign_is token.StarEqual a h = ap sign_of (some_inj (Some tree.Multiply) a h)
sign_is token.DoubleSlashEqual a h = ap sign_of (some_inj (Some tree.FloorDivide) a h)
sign_is token.PercentEqual a h = ap sign_of (some_inj (Some tree.Modulo) a h)
sign_is token.DoubleStarEqual a h = ap sign_of (some_inj (Some tree.Power) a h)
sign_is _ a h = cc

sign_from : (s : Symbol) (ts : List Terminal) (o : Option (Option BinaryOperator)) → assignment_symbol s ≡ o → (a : Option BinaryOperator) (rest : List Terminal) → option_map {U = Option BinaryOperator × List Terminal} (λ op. (op, ts)) o ≡ Some (a, rest) → Sign s ∷ ts ≡ Sign (sign_of a) ∷ rest
sign_from s ts None is a rest h = cc
sign_from s ts (Some b) is a rest h =
    let e = some_inj (b, ts) (a, rest) h in ap (λ x. Sign x ∷ ts) (sign_is s b is) ∙ ap (λ p. Sign (sign_of p.0) ∷ p.1) e

assignment_some : (ts : List Terminal) (a : Option BinaryOperator) (rest : List Terminal) → assignment_at ts ≡ Some (a, rest) → ts ≡ Sign (sign_of a) ∷ rest
assignment_some [] a rest h = cc
assignment_some (Sign s ∷ ts) a rest h = sign_from s ts (assignment_symbol s) refl a rest h
assignment_some (_ ∷ ts) a rest h = cc

assignment_is : (a : Option BinaryOperator) (ts : List Terminal) → assignment_at (Sign (sign_of a) ∷ ts) ≡ Some (a, ts)
assignment_is None ts = refl
assignment_is (Some tree.BitOr) ts = refl
assignment_is (Some tree.BitXor) ts = refl
assignment_is (Some tree.BitAnd) ts = refl
assignment_is (Some tree.ShiftLeft) ts = refl
assignment_is (Some tree.ShiftRight) ts = refl
assignment_is (Some tree.Add) ts = refl
assignment_is (Some tree.Subtract) ts = refl
assignment_is (Some tree.Multiply) ts = refl
assignment_is (Some tree.FloorDivide) ts = refl
assignment_is (Some tree.Modulo) ts = refl
assignment_is (Some tree.Power) ts = refl

sign_weak : (a : Option BinaryOperator) (ts : List Terminal) → (strength_at (Sign (sign_of a) ∷ ts) < 1) × (begins_literal (Sign (sign_of a) ∷ ts) ≡ false)
sign_weak None ts = (omega arith, refl)
sign_weak (Some tree.BitOr) ts = (omega arith, refl)
sign_weak (Some tree.BitXor) ts = (omega arith, refl)
sign_weak (Some tree.BitAnd) ts = (omega arith, refl)
sign_weak (Some tree.ShiftLeft) ts = (omega arith, refl)
sign_weak (Some tree.ShiftRight) ts = (omega arith, refl)
sign_weak (Some tree.Add) ts = (omega arith, refl)
sign_weak (Some tree.Subtract) ts = (omega arith, refl)
sign_weak (Some tree.Multiply) ts = (omega arith, refl)
sign_weak (Some tree.FloorDivide) ts = (omega arith, refl)
sign_weak (Some tree.Modulo) ts = (omega arith, refl)
sign_weak (Some tree.Power) ts = (omega arith, refl)

-- ---- a statement

abbrev SmallRead : List Terminal → Stmt × List Terminal → Type 0
SmallRead ts r = (f : List Terminal) × (ts ≡ f ++ r.1) × Small r.0 f

augmented_small : (e : Expr) (op : BinaryOperator) (v : Expr) (f g : List Terminal) (s : Stmt) → augment e op v ≡ Some s → IsExpressions e f → IsExpressions v g → Small s (f ++ Sign (augmented_of op) ∷ g)
augmented_small (tree.Name x) op v f g s is h i =
    let P : Stmt → Type 0 = λ s. Small s (f ++ Sign (augmented_of op) ∷ g) in subst P (some_inj (tree.Augment x op v) s is) (f, g, refl, (tree.Name x, refl, h), i)
augmented_small (tree.Subscript a b) op v f g s is h i =
    let P : Stmt → Type 0 = λ s. Small s (f ++ Sign (augmented_of op) ∷ g) in subst P (some_inj (tree.AugmentItem a b op v) s is) (f, g, refl, (tree.Subscript a b, refl, h), i)
augmented_small (tree.Constant w) op v f g s is h i = cc
augmented_small (tree.Unary o e) op v f g s is h i = cc
augmented_small (tree.Binary o e d) op v f g s is h i = cc
augmented_small (tree.Attribute e x) op v f g s is h i = cc
augmented_small (tree.Call e x args names) op v f g s is h i = cc
augmented_small (tree.Tuple items) op v f g s is h i = cc
augmented_small (tree.ListDisplay items) op v f g s is h i = cc
augmented_small (tree.DictDisplay items) op v f g s is h i = cc
augmented_small (tree.Boolean o e others) op v f g s is h i = cc
augmented_small (tree.Compare e cs) op v f g s is h i = cc
augmented_small (tree.Conditional e d c) op v f g s is h i = cc

after_some : (o : Option Stmt) (ts : List Terminal) (r : Stmt × List Terminal) → option_map {U = Stmt × List Terminal} (λ s. (s, ts)) o ≡ Some r → (s : Stmt) × (o ≡ Some s) × ((s, ts) ≡ r)
after_some None ts r h = cc
after_some (Some s) ts r h = (s, refl, some_inj (s, ts) r h)

from_reads : (f ts : List Terminal) (e : Expr) (o : Option (Option BinaryOperator × List Terminal)) → assignment_at ts ≡ o → IsExpressions e f → (r : Stmt × List Terminal) → statement_from (expression_at max_depth) ts e o ≡ Some r → SmallRead (f ++ ts) r
from_reads f ts e None is spelled r h =
    let P : Stmt × List Terminal → Type 0 = SmallRead (f ++ ts) in subst P (some_inj (tree.Evaluate e, ts) r h) (f, refl, spelled)
from_reads f ts e (Some (None, rest)) is spelled r h = assigned_reads f e ts rest (assignment_some ts None rest is) spelled r h
from_reads f ts e (Some (Some op, rest)) is spelled r h =
    let s = then_read_some (expressions_by (expression_at max_depth) 1 rest) (augmented e op) r h in
    let b = expressions_reads rest s.0 s.1 in
    let m = after_some (augment e op s.0.0) s.0.2 r s.2 in
    let P : Stmt × List Terminal → Type 0 = SmallRead (f ++ ts) in
    subst P m.2 (
      f ++ Sign (augmented_of op) ∷ b.0,
      ap (λ t. f ++ t) (assignment_some ts (Some op) rest is ∙ ap (λ t. Sign (augmented_of op) ∷ t) b.1) ∙ sym (append_assoc f (Sign (augmented_of op) ∷ b.0) s.0.2),
      augmented_small e op s.0.0 f b.0 m.0 m.1 spelled b.2,
    )

spelled_reads : (ts : List Terminal) (r : Stmt × List Terminal) → spelled_by (expression_at max_depth) ts ≡ Some r → SmallRead ts r
spelled_reads ts r h =
    let s = then_read_some (expressions_by (expression_at max_depth) 1 ts) (λ r. statement_from (expression_at max_depth) r.2 r.0 (assignment_at r.2)) r h in
    let a = expressions_reads ts s.0 s.1 in
    let P : List Terminal → Type 0 = λ t. SmallRead t r in
    subst P (sym a.1) (from_reads a.0 s.0.2 s.0.0 (assignment_at s.0.2) refl a.2 r s.2)

word_reads : (ts : List Terminal) (s : Stmt) → word_statement ts ≡ Some s → SmallRead ts (s, rest_of ts)
word_reads [] s h = cc
word_reads (Word token.PassWord ∷ ts) s h = let P : Stmt → Type 0 = λ s. SmallRead (Word token.PassWord ∷ ts) (s, ts) in subst P (some_inj tree.Pass s h) (Word token.PassWord ∷ [], refl, refl)
word_reads (Word token.BreakWord ∷ ts) s h = let P : Stmt → Type 0 = λ s. SmallRead (Word token.BreakWord ∷ ts) (s, ts) in subst P (some_inj tree.Break s h) (Word token.BreakWord ∷ [], refl, refl)
word_reads (Word token.ContinueWord ∷ ts) s h = let P : Stmt → Type 0 = λ s. SmallRead (Word token.ContinueWord ∷ ts) (s, ts) in subst P (some_inj tree.Continue s h) (Word token.ContinueWord ∷ [], refl, refl)
word_reads (_ ∷ ts) s h = cc

-- what may be left out
module _ (read : List Terminal → Parsed) (Is : Expr → List Terminal → Type 0)
    (sound : (ts : List Terminal) (r : Found) → read ts ≡ Some r → (f : List Terminal) × (ts ≡ f ++ r.2) × Is r.0 f) where
  abbrev Value : Option Expr → List Terminal → Type 0
  Value None ts = ts ≡ []
  Value (Some e) ts = Is e ts

  abbrev ValueRead : List Terminal → Option Expr × List Terminal → Type 0
  ValueRead ts r = (f : List Terminal) × (ts ≡ f ++ r.1) × Value r.0 f

  value_reads : (ts : List Terminal) (r : Option Expr × List Terminal) → value_by read ts ≡ Some r → ValueRead ts r
  value_reads ts r h =
      let P : Option Expr × List Terminal → Type 0 = ValueRead ts in
      ⊎_elim
      (λ y. subst P (some_inj (None, ts) r y.1) ([], refl, refl))
      (λ n.
      let s = then_read_some (read ts) (λ r. Some (Some r.0, r.2)) r n.1 in
      let a = sound ts s.0 s.1 in
      subst P (some_inj (Some s.0.0, s.0.2) r s.2) (a.0, a.1, a.2))
      (chosen (ends_small ts) (Some (None, ts)) (then_read (read ts) (λ r. Some (Some r.0, r.2))) (Some r) h)

expression_reads : (ts : List Terminal) (r : Found) → expression_at max_depth 1 ts ≡ Some r → (f : List Terminal) × (ts ≡ f ++ r.2) × IsExpression r.0 f
expression_reads ts r h =
    let a = expression_sound max_depth 1 (omega arith) at_condition ts r h in (a.0.front, a.0.split, spells_deeper r.1 max_depth a.1 1 r.0 a.0.front a.0.spelled)

returned_small : (a : Option Expr) (f : List Terminal) → Value (expressions_by (expression_at max_depth) 1) IsExpressions expressions_reads a f → Small (tree.Return a) (Word token.ReturnWord ∷ f)
returned_small None f h = ap (λ t. Word token.ReturnWord ∷ t) h
returned_small (Some e) f h = (f, refl, h)

raised_small : (a : Option Expr) (f : List Terminal) → Value (expression_at max_depth 1) IsExpression expression_reads a f → Small (tree.Raise a) (Word token.RaiseWord ∷ f)
raised_small None f h = ap (λ t. Word token.RaiseWord ∷ t) h
raised_small (Some e) f h = (f, refl, h)

returned_reads : (ts : List Terminal) (r : Stmt × List Terminal) → returned_by (expression_at max_depth) ts ≡ Some r → SmallRead (Word token.ReturnWord ∷ ts) r
returned_reads ts r h =
    let s = then_read_some (value_by (expressions_by (expression_at max_depth) 1) ts) (λ r. Some (tree.Return r.0, r.1)) r h in
    let v = value_reads (expressions_by (expression_at max_depth) 1) IsExpressions expressions_reads ts s.0 s.1 in
    let P : Stmt × List Terminal → Type 0 = SmallRead (Word token.ReturnWord ∷ ts) in
    subst P (some_inj (tree.Return s.0.0, s.0.1) r s.2) (Word token.ReturnWord ∷ v.0, ap (λ t. Word token.ReturnWord ∷ t) v.1, returned_small s.0.0 v.0 v.2)

raised_reads : (ts : List Terminal) (r : Stmt × List Terminal) → raised_by (expression_at max_depth) ts ≡ Some r → SmallRead (Word token.RaiseWord ∷ ts) r
raised_reads ts r h =
    let s = then_read_some (value_by (expression_at max_depth 1) ts) (λ r. Some (tree.Raise r.0, r.1)) r h in
    let v = value_reads (expression_at max_depth 1) IsExpression expression_reads ts s.0 s.1 in
    let P : Stmt × List Terminal → Type 0 = SmallRead (Word token.RaiseWord ∷ ts) in
    subst P (some_inj (tree.Raise s.0.0, s.0.1) r s.2) (Word token.RaiseWord ∷ v.0, ap (λ t. Word token.RaiseWord ∷ t) v.1, raised_small s.0.0 v.0 v.2)

deleted_small : (e : Expr) (f ts : List Terminal) → Spells max_depth 16 e f → (r : Stmt × List Terminal) → deleted e ts ≡ Some r → SmallRead (Word token.DelWord ∷ (f ++ ts)) r
deleted_small (tree.Subscript a b) f ts spelled r h =
    let P : Stmt × List Terminal → Type 0 = SmallRead (Word token.DelWord ∷ (f ++ ts)) in
    subst P (some_inj (tree.Delete a b, ts) r h) (Word token.DelWord ∷ f, refl, (f, refl, target_tighter max_depth 16 18 (tree.Subscript a b) (tree.Item a b) f (omega arith) refl spelled))
deleted_small (tree.Name x) f ts spelled r h = cc
deleted_small (tree.Constant v) f ts spelled r h = cc
deleted_small (tree.Unary op e) f ts spelled r h = cc
deleted_small (tree.Binary op e d) f ts spelled r h = cc
deleted_small (tree.Attribute e x) f ts spelled r h = cc
deleted_small (tree.Call e x args names) f ts spelled r h = cc
deleted_small (tree.Tuple items) f ts spelled r h = cc
deleted_small (tree.ListDisplay items) f ts spelled r h = cc
deleted_small (tree.DictDisplay items) f ts spelled r h = cc
deleted_small (tree.Boolean op e others) f ts spelled r h = cc
deleted_small (tree.Compare e cs) f ts spelled r h = cc
deleted_small (tree.Conditional e d c) f ts spelled r h = cc

deleted_reads : (ts : List Terminal) (r : Stmt × List Terminal) → deleted_by (expression_at max_depth) ts ≡ Some r → SmallRead (Word token.DelWord ∷ ts) r
deleted_reads ts r h =
    let s = then_read_some (expression_at max_depth 16 ts) (λ r. deleted r.0 r.2) r h in
    let a = expression_sound max_depth 16 (omega arith) (high 16 (omega arith)) ts s.0 s.1 in
    let P : List Terminal → Type 0 = λ t. SmallRead (Word token.DelWord ∷ t) r in
    subst P (sym a.0.split) (deleted_small s.0.0 a.0.front s.0.2 (spells_deeper s.0.1 max_depth a.1 16 s.0.0 a.0.front a.0.spelled) r s.2)

global_reads : (ts : List Terminal) (r : Stmt × List Terminal) → global_by ts ≡ Some r → SmallRead (Word token.GlobalWord ∷ ts) r
global_reads ts r h =
    let s = then_read_some (names_by ts) (λ r. Some (tree.Global r.0, r.1)) r h in
    let n = names_reads ts s.0 s.1 in
    let P : Stmt × List Terminal → Type 0 = SmallRead (Word token.GlobalWord ∷ ts) in
    subst P (some_inj (tree.Global s.0.0, s.0.1) r s.2) (Word token.GlobalWord ∷ n.0, ap (λ t. Word token.GlobalWord ∷ t) n.1, (n.0, refl, n.2))

-- the name that stands first is this one
name_reads : (x : Text) (ts rest : List Terminal) → after_name x ts ≡ Some rest → ts ≡ NAME x ∷ rest
name_reads x ts rest h =
    let n = then_read_some (name_at ts) (named x) rest h in
    let c = cond_some (same_text n.0.0 x) n.0.1 rest n.2 in
    name_at_some ts n.0 n.1 ∙ ap (λ y. NAME y ∷ n.0.1) (same_is n.0.0 x c.0) ∙ ap (λ l. NAME x ∷ l) c.1

import_name_reads : (x : Text) (ts rest : List Terminal) → after_import x ts ≡ Some rest → ts ≡ Word token.ImportWord ∷ (NAME x ∷ rest)
import_name_reads x ts rest h =
    let s = then_read_some (after (Word token.ImportWord) ts) (after_name x) rest h in after_import_some ts s.0 s.1 ∙ ap (λ l. Word token.ImportWord ∷ l) (name_reads x s.0 rest s.2)

from_name_reads : (x : Text) (ts rest : List Terminal) → after_from x ts ≡ Some rest → ts ≡ Word token.FromWord ∷ (NAME x ∷ rest)
from_name_reads x ts rest h =
    let s = then_read_some (after (Word token.FromWord) ts) (after_name x) rest h in after_from_some ts s.0 s.1 ∙ ap (λ l. Word token.FromWord ∷ l) (name_reads x s.0 rest s.2)

imported_reads : (ts : List Terminal) (o p : Option (List Terminal)) → after_import (codes "threading") ts ≡ o → after_interpreters ts ≡ p → (i : ModuleName × List Terminal) → imported o p ≡ Some i → SmallRead ts (tree.Import i.0, i.1)
imported_reads ts (Some rest) p is also i h =
    let P : ModuleName × List Terminal → Type 0 = λ i. SmallRead ts (tree.Import i.0, i.1) in
    subst P (some_inj (Threading, rest) i h) (import_of Threading, import_name_reads (codes "threading") ts rest is, refl)
imported_reads ts None (Some rest) is also i h =
    let P : ModuleName × List Terminal → Type 0 = λ i. SmallRead ts (tree.Import i.0, i.1) in
    let s = then_read_some (after_from (codes "concurrent") ts) (after_import (codes "interpreters")) rest also in
    subst P (some_inj (Interpreters, rest) i h) (
      import_of Interpreters,
      from_name_reads (codes "concurrent") ts s.0 s.1 ∙ ap (λ l. Word token.FromWord ∷ (NAME (codes "concurrent") ∷ l)) (import_name_reads (codes "interpreters") s.0 rest s.2),
      refl,
    )
imported_reads ts None None is also i h = cc

small_reads : (ts : List Terminal) (o : Option Stmt) (i : Option (ModuleName × List Terminal)) (p q x y : Option (List Terminal)) → word_statement ts ≡ o → import_at ts ≡ i → after (Word token.ReturnWord) ts ≡ p → after (Word token.GlobalWord) ts ≡ q
    → after (Word token.RaiseWord) ts ≡ x → after (Word token.DelWord) ts ≡ y → (r : Stmt × List Terminal) → small_from (expression_at max_depth) ts o i p q x y ≡ Some r → SmallRead ts r
small_reads ts (Some s) i p q x y is in_front also too last del r h = let P : Stmt × List Terminal → Type 0 = SmallRead ts in subst P (some_inj (s, rest_of ts) r h) (word_reads ts s is)
small_reads ts None (Some i) p q x y is in_front also too last del r h =
    let P : Stmt × List Terminal → Type 0 = SmallRead ts in
    subst P (some_inj (tree.Import i.0, i.1) r h) (imported_reads ts (after_import (codes "threading") ts) (after_interpreters ts) refl refl i in_front)
small_reads ts None None (Some rest) q x y is in_front also too last del r h =
    let P : List Terminal → Type 0 = λ t. SmallRead t r in subst P (sym (after_return_some ts rest also)) (returned_reads rest r h)
small_reads ts None None None (Some rest) x y is in_front also too last del r h =
    let P : List Terminal → Type 0 = λ t. SmallRead t r in subst P (sym (after_global_some ts rest too)) (global_reads rest r h)
small_reads ts None None None None (Some rest) y is in_front also too last del r h =
    let P : List Terminal → Type 0 = λ t. SmallRead t r in subst P (sym (after_raise_some ts rest last)) (raised_reads rest r h)
small_reads ts None None None None None (Some rest) is in_front also too last del r h =
    let P : List Terminal → Type 0 = λ t. SmallRead t r in subst P (sym (after_del_some ts rest del)) (deleted_reads rest r h)
small_reads ts None None None None None None is in_front also too last del r h = spelled_reads ts r h

statement_reads : (ts : List Terminal) (r : Stmt × List Terminal) → statement_by (expression_at max_depth) ts ≡ Some r → SmallRead ts r
statement_reads ts r h =
    small_reads ts (word_statement ts) (import_at ts) (after (Word token.ReturnWord) ts) (after (Word token.GlobalWord) ts) (after (Word token.RaiseWord) ts) (after (Word token.DelWord) ts) refl refl refl refl refl refl r h

-- what may stand after a statement
abbrev Follows : List Terminal → Type 0
Follows more = (strength_at more < 1) × (begins_literal more ≡ false) × (assignment_at more ≡ None) × (ends_small more ≡ true)

-- no item stands there
no_item : (ts : List Terminal) → ends_small ts ≡ true → (after (Sign token.Comma) ts ≡ None) × (ends_items ts ≡ true)
no_item [] h = cc
no_item (NEWLINE ∷ ts) h = (refl, refl)
no_item (Sign token.Semicolon ∷ ts) h = (refl, refl)
no_item (_ ∷ ts) h = cc

sign_after : (a : Option BinaryOperator) (ts : List Terminal) → after (Sign token.Comma) (Sign (sign_of a) ∷ ts) ≡ None
sign_after None ts = refl
sign_after (Some tree.BitOr) ts = refl
sign_after (Some tree.BitXor) ts = refl
sign_after (Some tree.BitAnd) ts = refl
sign_after (Some tree.ShiftLeft) ts = refl
sign_after (Some tree.ShiftRight) ts = refl
sign_after (Some tree.Add) ts = refl
sign_after (Some tree.Subtract) ts = refl
sign_after (Some tree.Multiply) ts = refl
sign_after (Some tree.FloorDivide) ts = refl
sign_after (Some tree.Modulo) ts = refl
sign_after (Some tree.Power) ts = refl

-- all that a statement reads in front of its end
whole_read : (e : Expr) (f more : List Terminal) → IsExpressions e f → Follows more → (d : ℕ) × (expressions_by (expression_at max_depth) 1 (f ++ more) ≡ Some (e, d, more))
whole_read e f more h ends = let over = no_item more ends.3 in expressions_complete e f more h (ends.0, ends.1) over.0 over.1

by_expression : (ts : List Terminal) → begins ts ≡ true → statement_by (expression_at max_depth) ts ≡ spelled_by (expression_at max_depth) ts
by_expression ts start =
    ap (λ o. small_from (expression_at max_depth) ts o (import_at ts) (after (Word token.ReturnWord) ts) (after (Word token.GlobalWord) ts) (after (Word token.RaiseWord) ts) (after (Word token.DelWord) ts)) (word_not ts start)
    ∙ ap (λ o. small_from (expression_at max_depth) ts None o (after (Word token.ReturnWord) ts) (after (Word token.GlobalWord) ts) (after (Word token.RaiseWord) ts) (after (Word token.DelWord) ts)) (import_not ts start)
    ∙ ap (λ o. small_from (expression_at max_depth) ts None None o (after (Word token.GlobalWord) ts) (after (Word token.RaiseWord) ts) (after (Word token.DelWord) ts)) (return_not ts start)
    ∙ ap (λ o. small_from (expression_at max_depth) ts None None None o (after (Word token.RaiseWord) ts) (after (Word token.DelWord) ts)) (global_not ts start)
    ∙ ap (λ o. small_from (expression_at max_depth) ts None None None None o (after (Word token.DelWord) ts)) (raise_not ts start)
    ∙ ap (λ o. small_from (expression_at max_depth) ts None None None None None o) (del_not ts start)

equated_complete : (us : List Target) (v : Expr) (h more : List Terminal) → 0 < length us → Equated us v h → Follows more → statement_by (expression_at max_depth) (h ++ more) ≡ Some (tree.Assign (target_row us) v, more)
equated_complete us v h more some r ends =
    let c = assigned_complete us v h more some r ends.0 ends.1 ends.3 in
    by_expression (h ++ more) (equated_begins us v h more r) ∙ ap (λ r. then_read r (λ r. statement_from (expression_at max_depth) r.2 r.0 (assignment_at r.2))) c.3 ∙ c.4

-- which expression is a target of this form
named_is : (e : Expr) (x : Text) → target_of e ≡ Some (tree.Named x) → e ≡ tree.Name x
named_is (tree.Name y) x h = ap tree.Name (let same : y ≡ x = cc in same)
named_is (tree.Subscript a b) x h = cc
named_is (tree.Tuple items) x h = let u = unpack_split (targets_of items) (tree.Named x) h in cc (u.3)
named_is (tree.ListDisplay items) x h = let u = unpack_split (targets_of items) (tree.Named x) h in cc (u.3)
named_is (tree.Constant v) x h = cc
named_is (tree.Unary op a) x h = cc
named_is (tree.Binary op a b) x h = cc
named_is (tree.Attribute a y) x h = cc
named_is (tree.Call a y args names) x h = cc
named_is (tree.DictDisplay items) x h = cc
named_is (tree.Boolean op a others) x h = cc
named_is (tree.Compare a cs) x h = cc
named_is (tree.Conditional a b c) x h = cc

item_is : (e a b : Expr) → target_of e ≡ Some (tree.Item a b) → e ≡ tree.Subscript a b
item_is (tree.Name y) a b h = cc
item_is (tree.Subscript c d) a b h = let same : (c ≡ a) × (d ≡ b) = (cc, cc) in ap (λ c. tree.Subscript c d) same.0 ∙ ap (tree.Subscript a) same.1
item_is (tree.Tuple items) a b h = let u = unpack_split (targets_of items) (tree.Item a b) h in cc (u.3)
item_is (tree.ListDisplay items) a b h = let u = unpack_split (targets_of items) (tree.Item a b) h in cc (u.3)
item_is (tree.Constant v) a b h = cc
item_is (tree.Unary op c) a b h = cc
item_is (tree.Binary op c d) a b h = cc
item_is (tree.Attribute c y) a b h = cc
item_is (tree.Call c y args names) a b h = cc
item_is (tree.DictDisplay items) a b h = cc
item_is (tree.Boolean op c others) a b h = cc
item_is (tree.Compare c cs) a b h = cc
item_is (tree.Conditional c d e) a b h = cc

-- an expression that is no tuple stands alone
stands_alone : (e : Expr) (f : List Terminal) → ((items : List Expr) → e ≡ tree.Tuple (exprs_of items) → ⊥) → IsExpressions e f → IsExpression e f
stands_alone e f other h = ⊎_elim (λ e. e) (λ t. absurd (other t.0 t.1)) h

augmented_complete : (e : Expr) (op : BinaryOperator) (v : Expr) (s : Stmt) (f g whole more : List Terminal) → whole ≡ f ++ Sign (augmented_of op) ∷ g → IsExpression e f → IsExpressions v g → augment e op v ≡ Some s → Follows more
    → statement_by (expression_at max_depth) (whole ++ more) ≡ Some (s, more)
augmented_complete e op v s f g whole more is he hv made ends =
    let rest = g ++ more in
    let weak = sign_weak (Some op) rest in
    let c = expression_alone e f (Sign (augmented_of op) ∷ rest) he weak (sign_after (Some op) rest) in
    let d = whole_read v g more hv ends in
    let split : whole ++ more ≡ f ++ Sign (augmented_of op) ∷ rest = ap (λ t. t ++ more) is ∙ append_assoc f (Sign (augmented_of op) ∷ g) more in
    ap (statement_by (expression_at max_depth)) split
    ∙ by_expression (f ++ Sign (augmented_of op) ∷ rest) (expression_begins max_depth 1 e f he (Sign (augmented_of op) ∷ rest))
    ∙ ap (λ r. then_read r (λ r. statement_from (expression_at max_depth) r.2 r.0 (assignment_at r.2))) c.1
    ∙ ap (statement_from (expression_at max_depth) (Sign (augmented_of op) ∷ rest) e) (assignment_is (Some op) rest)
    ∙ ap (λ r. then_read r (augmented e op)) d.1
    ∙ ap (λ o. option_map (λ s. (s, more)) o) made

small_over : (ts : List Terminal) → ends_small ts ≡ true → (0 < length ts) × (no_comma ts ≡ true)
small_over [] h = cc
small_over (NEWLINE ∷ ts) h = (omega arith, refl)
small_over (Sign token.Semicolon ∷ ts) h = (omega arith, refl)
small_over (_ ∷ ts) h = cc

module _ (read : List Terminal → Parsed) where
  value_if : (b c : Bool) (ts : List Terminal) → b ≡ c → value_by read ts ≡ (if b then Some (None, ts) else then_read (read ts) (λ r. Some (Some r.0, r.2)))
      → value_by read ts ≡ (if c then Some (None, ts) else then_read (read ts) (λ r. Some (Some r.0, r.2)))
  value_if b c ts h same = same ∙ ap (λ b. if b then Some (None, ts) else then_read (read ts) (λ r. Some (Some r.0, r.2))) h

  value_none : (more : List Terminal) → Follows more → value_by read more ≡ Some (None, more)
  value_none more ends = value_if (ends_small more) true more ends.3 refl

  value_some : (e : Expr) (d : ℕ) (ts more : List Terminal) → begins ts ≡ true → read ts ≡ Some (e, d, more) → value_by read ts ≡ Some (Some e, more)
  value_some e d ts more start h = value_if (ends_small ts) false ts (ends_not ts start) refl ∙ ap (λ o. then_read o (λ r. Some (Some r.0, r.2))) h

statement_complete : (s : Stmt) (f more : List Terminal) → Small s f → Follows more → statement_by (expression_at max_depth) (f ++ more) ≡ Some (s, more)
statement_complete (tree.Evaluate e) f more h ends =
    let c = whole_read e f more h ends in
    by_expression (f ++ more) (expressions_begin e f more h) ∙ ap (λ r. then_read r (λ r. statement_from (expression_at max_depth) r.2 r.0 (assignment_at r.2))) c.1 ∙ ap (statement_from (expression_at max_depth) more e) ends.2
statement_complete (tree.Assign targets e) f more h ends =
    let r = equated targets e h.0 h.1 h.3 h.4 in
    ap (λ t. statement_by (expression_at max_depth) (t ++ more)) h.2 ∙ equated_complete r.0 e (h.0 ++ h.1) more r.1 r.3 ends ∙ ap (λ ts. Some (tree.Assign ts e, more)) (sym r.2)
statement_complete (tree.Augment x op e) f more h ends =
    let is = named_is h.3.0 x h.3.1 in
    let alone = stands_alone (tree.Name x) h.0 (λ items bad. cc) (subst (λ e. IsExpressions e h.0) is h.3.2) in
    augmented_complete (tree.Name x) op e (tree.Augment x op e) h.0 h.1 f more h.2 alone h.4 refl ends
statement_complete (tree.AugmentItem a b op e) f more h ends =
    let is = item_is h.3.0 a b h.3.1 in
    let alone = stands_alone (tree.Subscript a b) h.0 (λ items bad. cc) (subst (λ e. IsExpressions e h.0) is h.3.2) in
    augmented_complete (tree.Subscript a b) op e (tree.AugmentItem a b op e) h.0 h.1 f more h.2 alone h.4 refl ends
statement_complete (tree.Delete a b) f more h ends =
    let loose = spells_looser max_depth 16 18 (tree.Subscript a b) h.0 (omega arith) h.2 in
    let c = expression_complete max_depth max_depth 16 (tree.Subscript a b) h.0 more (omega arith) (omega arith) loose (omega (arith, ends.0)) ends.1 in
    ap (λ t. statement_by (expression_at max_depth) (t ++ more)) h.1 ∙ ap (λ o. then_read o (λ r. deleted r.0 r.2)) c.3
statement_complete tree.Pass f more h ends = ap (λ t. statement_by (expression_at max_depth) (t ++ more)) h
statement_complete tree.Break f more h ends = ap (λ t. statement_by (expression_at max_depth) (t ++ more)) h
statement_complete tree.Continue f more h ends = ap (λ t. statement_by (expression_at max_depth) (t ++ more)) h
statement_complete (tree.Return None) f more h ends =
    ap (λ t. statement_by (expression_at max_depth) (t ++ more)) h ∙ ap (λ o. then_read o (λ r. Some (tree.Return r.0, r.1))) (value_none (expressions_by (expression_at max_depth) 1) more ends)
statement_complete (tree.Return (Some e)) f more h ends =
    let c = whole_read e h.0 more h.2 ends in
    ap (λ t. statement_by (expression_at max_depth) (t ++ more)) h.1
    ∙ ap (λ o. then_read o (λ r. Some (tree.Return r.0, r.1))) (value_some (expressions_by (expression_at max_depth) 1) e c.0 (h.0 ++ more) more (expressions_begin e h.0 more h.2) c.1)
statement_complete (tree.Raise None) f more h ends =
    ap (λ t. statement_by (expression_at max_depth) (t ++ more)) h ∙ ap (λ o. then_read o (λ r. Some (tree.Raise r.0, r.1))) (value_none (expression_at max_depth 1) more ends)
statement_complete (tree.Raise (Some e)) f more h ends =
    let c = expression_complete max_depth max_depth 1 e h.0 more (omega arith) (omega arith) h.2 ends.0 ends.1 in
    ap (λ t. statement_by (expression_at max_depth) (t ++ more)) h.1
    ∙ ap (λ o. then_read o (λ r. Some (tree.Raise r.0, r.1))) (value_some (expression_at max_depth 1) e c.0 (h.0 ++ more) more (expression_begins max_depth 1 e h.0 h.2 more) c.3)
statement_complete (tree.Global xs) f more h ends =
    let over = small_over more ends.3 in
    ap (λ t. statement_by (expression_at max_depth) (t ++ more)) h.1
    ∙ ap (λ o. then_read o (λ r. Some (tree.Global r.0, r.1))) (names_complete xs h.0 more h.2 over.0 over.1)
statement_complete (tree.Import Threading) f more h ends = ap (λ t. statement_by (expression_at max_depth) (t ++ more)) h
statement_complete (tree.Import Interpreters) f more h ends = ap (λ t. statement_by (expression_at max_depth) (t ++ more)) h
statement_complete (tree.Define x ps body) f more h ends = absurd h
statement_complete (tree.If test body other) f more h ends = absurd h
statement_complete (tree.While test body other) f more h ends = absurd h
statement_complete (tree.For x over body other) f more h ends = absurd h
statement_complete (tree.Try body cs other) f more h ends = absurd h
statement_complete (tree.Finally body cs other last) f more h ends = absurd h

target_starts : (e : Expr) (s : Symbol) (f g whole more : List Terminal) → whole ≡ f ++ Sign s ∷ g → IsExpressions e f → starts (whole ++ more) ≡ true
target_starts e s f g whole more is h =
    ap starts (ap (λ t. t ++ more) is ∙ append_assoc f (Sign s ∷ g) more) ∙ starts_operand (f ++ Sign s ∷ (g ++ more)) (expressions_begin e f (Sign s ∷ (g ++ more)) h)

pub small_starts : (s : Stmt) (f more : List Terminal) → Small s f → starts (f ++ more) ≡ true
small_starts (tree.Evaluate e) f more h = starts_operand (f ++ more) (expressions_begin e f more h)
small_starts (tree.Assign targets e) f more h =
    let r = equated targets e h.0 h.1 h.3 h.4 in starts_operand (f ++ more) (ap (λ t. begins (t ++ more)) h.2 ∙ equated_begins r.0 e (h.0 ++ h.1) more r.3)
small_starts (tree.Augment x op e) f more h = target_starts h.3.0 (augmented_of op) h.0 h.1 f more h.2 h.3.2
small_starts (tree.AugmentItem a b op e) f more h = target_starts h.3.0 (augmented_of op) h.0 h.1 f more h.2 h.3.2
small_starts (tree.Delete a b) f more h = ap (λ t. starts (t ++ more)) h.1
small_starts tree.Pass f more h = ap (λ t. starts (t ++ more)) h
small_starts tree.Break f more h = ap (λ t. starts (t ++ more)) h
small_starts tree.Continue f more h = ap (λ t. starts (t ++ more)) h
small_starts (tree.Return None) f more h = ap (λ t. starts (t ++ more)) h
small_starts (tree.Return (Some e)) f more h = ap (λ t. starts (t ++ more)) h.1
small_starts (tree.Global xs) f more h = ap (λ t. starts (t ++ more)) h.1
small_starts (tree.Import Threading) f more h = ap (λ t. starts (t ++ more)) h
small_starts (tree.Import Interpreters) f more h = ap (λ t. starts (t ++ more)) h
small_starts (tree.Define x ps body) f more h = absurd h
small_starts (tree.If test body other) f more h = absurd h
small_starts (tree.Raise None) f more h = ap (λ t. starts (t ++ more)) h
small_starts (tree.Raise (Some e)) f more h = ap (λ t. starts (t ++ more)) h.1
small_starts (tree.While test body other) f more h = absurd h
small_starts (tree.For x over body other) f more h = absurd h
small_starts (tree.Try body cs other) f more h = absurd h
small_starts (tree.Finally body cs other last) f more h = absurd h

separated_starts : (line : List Stmt) (f more : List Terminal) → 0 < length line → Separated Small token.Semicolon line f → starts (f ++ more) ≡ true
separated_starts [] f more some h = absurd (omega arith)
separated_starts (s ∷ line) f more some h = ap starts (ap (λ t. t ++ more) h.2 ∙ append_assoc h.0 h.1 more) ∙ small_starts s h.0 (h.1 ++ more) h.3

pub line_starts : (line : List Stmt) (f more : List Terminal) → Simple line f → starts (f ++ more) ≡ true
line_starts line f more h = ap starts (ap (λ t. t ++ more) h.1 ∙ append_assoc h.0 (NEWLINE ∷ []) more) ∙ separated_starts line h.0 (NEWLINE ∷ more) h.2 h.3

pub line_terminals : (line : List Stmt) (f : List Terminal) → Simple line f → 0 < length f
line_terminals line f h = omega (arith, ap length h.1, length-append h.0 (NEWLINE ∷ []))

-- ---- a line

abbrev first : Stmt × List Terminal → Stmt
first r = r.0

abbrev Spelled : Stmt × List Terminal → List Terminal → Type 0
Spelled r f = Small r.0 f

added_is : (body : List Stmt) (xs : List (Stmt × List Terminal)) → added with_statement body xs ≡ body ++ map first xs
added_is body [] = sym (append-nil body)
added_is body (x ∷ xs) = added_is (body ++ x.0 ∷ []) xs ∙ append_assoc body (x.0 ∷ []) (map first xs)

following_firsts : (xs : List (Stmt × List Terminal)) (g : List Terminal) → Following Spelled token.Semicolon xs g → Following Small token.Semicolon (map first xs) g
following_firsts [] g h = h
following_firsts (x ∷ xs) g h = (h.0, h.1, h.2, h.3, following_firsts xs h.1 h.4)

separated_firsts : (xs : List (Stmt × List Terminal)) (g : List Terminal) → Separated Spelled token.Semicolon xs g → Separated Small token.Semicolon (map first xs) g
separated_firsts [] g h = h
separated_firsts (x ∷ xs) g h = (h.0, h.1, h.2, h.3, following_firsts xs h.1 h.4)

abbrev pub with_line : List Stmt → List Stmt → List Stmt
with_line body line = body ++ line

pub line_reads : (body : List Stmt) (ts : List Terminal) (r : List Stmt × List Terminal) → line_by (expression_at max_depth) body ts ≡ Some r
    → (line : List Stmt) × (f : List Terminal) × (r.0 ≡ with_line body line) × (ts ≡ f ++ r.1) × Simple line f
line_reads body ts r h =
    let s = separated_sound with_statement (λ r. r.1) (statement_by (expression_at max_depth)) (after (Sign token.Semicolon)) (after NEWLINE) token.Semicolon NEWLINE Spelled statement_reads after_semicolon_some after_newline_some
    (length ts) body ts r h in
    (map first s.0, s.1 ++ NEWLINE ∷ [], s.2 ∙ added_is body s.0, s.4 ∙ sym (append_assoc s.1 (NEWLINE ∷ []) r.1), (s.1, refl, omega (arith, length-map s.0 first), separated_firsts s.0 s.1 s.5))

abbrev Read : Stmt → Stmt × List Terminal → Type 0
Read s r = s ≡ r.0

collected : (body xs : List Stmt) (rs : List (Stmt × List Terminal)) → Pairwise Read xs rs → added with_statement body rs ≡ body ++ xs
collected body [] [] h = sym (append-nil body)
collected body [] (r ∷ rs) h = absurd h
collected body (x ∷ xs) [] h = absurd h
collected body (x ∷ xs) (r ∷ rs) h = collected (body ++ r.0 ∷ []) xs rs h.1 ∙ append_assoc body (r.0 ∷ []) xs ∙ ap (λ y. body ++ y ∷ xs) (sym h.0)

statement_read : (s : Stmt) (f more : List Terminal) → Small s f → Follows more → (r : Stmt × List Terminal) × (statement_by (expression_at max_depth) (f ++ more) ≡ Some r) × (r.1 ≡ more) × Read s r
statement_read s f more h ends = ((s, more), statement_complete s f more h ends, refl, refl)

pub line_complete : (body line : List Stmt) (f more : List Terminal) → Simple line f → line_by (expression_at max_depth) body (f ++ more) ≡ Some (with_line body line, more)
line_complete body line f more h =
    let split : f ++ more ≡ h.0 ++ NEWLINE ∷ more = ap (λ t. t ++ more) h.1 ∙ append_assoc h.0 (NEWLINE ∷ []) more in
    let long : length (h.0 ++ NEWLINE ∷ more) ≡ length h.0 + length (NEWLINE ∷ more) = length-append h.0 (NEWLINE ∷ more) in
    let s = separated_complete with_statement (λ r. r.1) (statement_by (expression_at max_depth)) (after (Sign token.Semicolon)) (after NEWLINE) token.Semicolon NEWLINE Small Read Follows statement_read
    (λ s f more h. newline_not (f ++ more) (small_starts s f more h)) (λ ts. refl) (λ ts. refl) (λ ts. refl) (λ ts. (omega arith, refl, refl, refl)) (λ ts. (omega arith, refl, refl, refl))
    (length (h.0 ++ NEWLINE ∷ more)) body line h.0 more (omega arith) h.2 h.3 in
    ap (line_by (expression_at max_depth) body) split ∙ s.2 ∙ ap (λ b. Some (b, more)) (collected body line s.0 s.1)
