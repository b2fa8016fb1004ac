-- Targets: what is read in front of an `in` is in the grammar, and what is in the grammar is read.
use Rattle.std.proofs.Common.{◌≡◌, ℕ, zero, suc, ◌<◌, ◌≤◌, List, [], ◌∷◌, ◌++◌, inl, inr, length, map, Option, Some, None, refl, sym, ap, ◌∙◌, arith}
use Rattle.std.specs.Prelude.{option_map}
use Rattle.si_semantics.specs.Tree as tree
use Rattle.si_semantics.specs.Tree.{Expr, Target, Targets}
use Rattle.si_semantics.specs.Tokens as token
use Rattle.si_semantics.specs.Grammar.{Terminal, Word, Following, Ended, exprs_of, Spells, max_depth, max_item_depth, unpack_of, more_targets, target_of, targets_of, IsForTarget}
use Rattle.si_syntax.specs.declared.expr.Expr.{Expr as Rust}
use Rattle.si_syntax.specs.Trees.{expr_of, target_row}
use Rattle.si_parse.specs.declared.fault.ParseFault.{ParseFault}
use Rattle.si_parse.specs.declared.fault.ParseFault.TheVariants.{Syntax, NoMemory}
use Rattle.si_parse.specs.inner.Lookahead.{after}
use Rattle.si_parse.specs.inner.Lists.{then_read}
use Rattle.si_parse.specs.inner.Expressions.{expression_at}
use Rattle.si_parse.specs.inner.Unbracketed.{expressions_by}
use Rattle.si_parse.specs.inner.Targets.{with_targets, target_from, target_by}
use Rattle.si_parse.specs.inner.Gives.{Fails}
use Rattle.si_parse.proofs.Laws.{then_read_some, some_inj, after_in_some}
use Rattle.si_parse.proofs.Levels.{high}
use Rattle.si_parse.proofs.Unbracketed.{AreExpressions, read_of, complete_of}

-- ---- targets in a row

with_none : (ts : List Target) → with_targets ts None ≡ None
with_none [] = refl
with_none (t ∷ ts) = ap (more_targets (Some t)) (with_none ts)

with_last : (ts : List Target) (t : Target) (more : Option Targets) → with_targets (ts ++ t ∷ []) more ≡ with_targets ts (more_targets (Some t) more)
with_last [] t more = refl
with_last (u ∷ ts) t more = ap (more_targets (Some u)) (with_last ts t more)

pub with_all : (ts : List Target) → with_targets ts (Some tree.NoTargets) ≡ Some (target_row ts)
with_all [] = refl
with_all (t ∷ ts) = ap (more_targets (Some t)) (with_all ts)

pub unpack_some : (ts : List Target) → 0 < length ts → unpack_of (Some (target_row ts)) ≡ Some (tree.Unpack (target_row ts))
unpack_some [] some = absurd (omega arith)
unpack_some (t ∷ ts) some = refl

none_more : (p : Option Targets) → more_targets None p ≡ None
none_more None = refl
none_more (Some ts) = refl

-- one turn over expressions that were read
module _ (ts : List Target) (left rest : List Rust) (x : Rust) (next : left ≡ x ∷ rest) where
  pub targets_on : (t : Target) → target_of (expr_of x) ≡ Some t → with_targets (ts ++ t ∷ []) (targets_of (exprs_of (map expr_of rest))) ≡ with_targets ts (targets_of (exprs_of (map expr_of left)))
  targets_on t h =
      with_last ts t (targets_of (exprs_of (map expr_of rest)))
      ∙ ap (λ o. with_targets ts (more_targets o (targets_of (exprs_of (map expr_of rest))))) (sym h)
      ∙ ap (λ l. with_targets ts (targets_of (exprs_of (map expr_of l)))) (sym next)

  pub targets_fail : (f : ParseFault) → Fails f (target_of (expr_of x)) → Fails f (with_targets ts (targets_of (exprs_of (map expr_of left))))
  targets_fail NoMemory h = tt
  targets_fail (Syntax line) h =
      ap (λ l. with_targets ts (targets_of (exprs_of (map expr_of l)))) next
      ∙ ap (λ o. with_targets ts (more_targets o (targets_of (exprs_of (map expr_of rest))))) h
      ∙ ap (with_targets ts) (none_more (targets_of (exprs_of (map expr_of rest))))
      ∙ with_none ts

-- a first target and the others, of which the targets are made
pub more_split : (o : Option Target) (p : Option Targets) (ts : Targets) → more_targets o p ≡ Some ts → (t : Target) × (us : Targets) × (o ≡ Some t) × (p ≡ Some us) × (tree.MoreTargets t us ≡ ts)
more_split None p ts h = cc
more_split (Some t) None ts h = cc
more_split (Some t) (Some us) ts h = (t, us, refl, refl, some_inj (tree.MoreTargets t us) ts h)

pub unpack_split : (o : Option Targets) (t : Target) → unpack_of o ≡ Some t → (u : Target) × (us : Targets) × (o ≡ Some (tree.MoreTargets u us)) × (tree.Unpack (tree.MoreTargets u us) ≡ t)
unpack_split None t h = cc
unpack_split (Some tree.NoTargets) t h = cc
unpack_split (Some (tree.MoreTargets u us)) t h = (u, us, refl, some_inj (tree.Unpack (tree.MoreTargets u us)) t h)

-- ---- a target is of every level

pub target_tighter : (n k l : ℕ) (e : Expr) (t : Target) (ts : List Terminal) → l ≤ 18 → target_of e ≡ Some t → Spells n k e ts → Spells n l e ts
target_tighter zero k l e t ts le is h = absurd h
target_tighter (suc n) k l e t ts le is (inr h) = inr h
target_tighter (suc n) k l (tree.Name x) t ts le is (inl h) = inl h
target_tighter (suc n) k l (tree.Subscript a b) t ts le is (inl h) = inl (h.0, h.1, h.2, le, h.4, h.5)
target_tighter (suc n) k l (tree.Tuple items) t ts le is (inl h) = inl h
target_tighter (suc n) k l (tree.ListDisplay items) t ts le is (inl h) = inl h
target_tighter (suc n) k l (tree.DictDisplay items) t ts le is (inl h) = cc
target_tighter (suc n) k l (tree.Constant v) t ts le is (inl h) = cc
target_tighter (suc n) k l (tree.Unary op a) t ts le is (inl h) = cc
target_tighter (suc n) k l (tree.Binary op a b) t ts le is (inl h) = cc
target_tighter (suc n) k l (tree.Attribute a x) t ts le is (inl h) = cc
target_tighter (suc n) k l (tree.Call a x args names) t ts le is (inl h) = cc
target_tighter (suc n) k l (tree.Boolean op a others) t ts le is (inl h) = cc
target_tighter (suc n) k l (tree.Compare a cs) t ts le is (inl h) = cc
target_tighter (suc n) k l (tree.Conditional test value other) t ts le is (inl h) = cc

module _ (n k l : ℕ) (le : l ≤ 18) where
  following_tighter : (items : List Expr) (ts : Targets) (g : List Terminal) → targets_of (exprs_of items) ≡ Some ts → Following (Spells n k) token.Comma items g → Following (Spells n l) token.Comma items g
  following_tighter [] ts g is h = h
  following_tighter (x ∷ xs) ts g is h =
      let m = more_split (target_of x) (targets_of (exprs_of xs)) ts is in (h.0, h.1, h.2, target_tighter n k l x m.0 h.0 le m.2 h.3, following_tighter xs m.1 h.1 m.3 h.4)

  ended_tighter : (items : List Expr) (ts : Targets) (f : List Terminal) → targets_of (exprs_of items) ≡ Some ts → Ended (Spells n k) token.Comma items f → Ended (Spells n l) token.Comma items f
  ended_tighter [] ts f is h = h
  ended_tighter (x ∷ []) ts f is h = let m = more_split (target_of x) (Some tree.NoTargets) ts is in (h.0, h.1, target_tighter n k l x m.0 h.0 le m.2 h.2)
  ended_tighter (x ∷ y ∷ xs) ts f is h =
      let m = more_split (target_of x) (targets_of (exprs_of (y ∷ xs))) ts is in
      (h.0, h.1, h.2, target_tighter n k l x m.0 h.0 le m.2 h.3, following_tighter (y ∷ xs) m.1 h.1 m.3 h.4)

are_tighter : (k l : ℕ) (e : Expr) (t : Target) (f : List Terminal) → l ≤ 18 → target_of e ≡ Some t → AreExpressions k e f → AreExpressions l e f
are_tighter k l e t f le is (inl h) = inl (target_tighter max_depth k l e t f le is h)
are_tighter k l e t f le is (inr h) =
    let u = unpack_split (targets_of (exprs_of h.0)) t (ap target_of (sym h.1) ∙ is) in
    inr (h.0, h.1, h.2, ended_tighter max_item_depth k l le h.0 (tree.MoreTargets u.0 u.1) f u.2 h.3)

-- ---- in front of an `in`

abbrev pub TargetRead : List Terminal → Target × List Terminal → Type 0
TargetRead ts x = (f : List Terminal) × (ts ≡ f ++ Word token.InWord ∷ x.1) × IsForTarget x.0 f

after_reads : (t : Target) (ts : List Terminal) (o : Option (List Terminal)) → after (Word token.InWord) ts ≡ o → (x : Target × List Terminal) → option_map {U = Target × List Terminal} (λ rest. (t, rest)) o ≡ Some x
    → (ts ≡ Word token.InWord ∷ x.1) × (t ≡ x.0)
after_reads t ts None is x h = cc
after_reads t ts (Some rest) is x h =
    let e = some_inj (t, rest) x h in (after_in_some ts rest is ∙ ap (λ p. Word token.InWord ∷ p.1) e, ap (λ p. p.0) e)

pub target_reads : (ts : List Terminal) (x : Target × List Terminal) → target_by ts ≡ Some x → TargetRead ts x
target_reads ts x h =
    let s = then_read_some (expressions_by (expression_at max_depth) 16 ts) (λ r. target_from r.0 (after (Word token.InWord) r.2)) x h in
    let a = read_of 16 (omega arith) (omega arith) (high 16 (omega arith)) ts s.0 s.1 in
    let m = then_read_some (target_of s.0.0) (λ t. option_map (λ rest. (t, rest)) (after (Word token.InWord) s.0.2)) x s.2 in
    let b = after_reads m.0 s.0.2 (after (Word token.InWord) s.0.2) refl x m.2 in
    (a.0, a.1 ∙ ap (λ t. a.0 ++ t) b.0, (s.0.0, m.1 ∙ ap Some b.1, are_tighter 16 18 s.0.0 m.0 a.0 (omega arith) m.1 a.2))

pub target_complete : (t : Target) (f more : List Terminal) → IsForTarget t f → target_by (f ++ Word token.InWord ∷ more) ≡ Some (t, more)
target_complete t f more h =
    let loose = are_tighter 18 16 h.0 t f (omega arith) h.1 h.2 in
    let c = complete_of 16 (omega arith) (omega arith) (high 16 (omega arith)) h.0 f (Word token.InWord ∷ more) loose (omega arith, refl) refl refl in
    ap (λ o. then_read o (λ r. target_from r.0 (after (Word token.InWord) r.2))) c.1 ∙ ap (λ o. then_read o (λ t. option_map (λ rest. (t, rest)) (Some more))) h.1
