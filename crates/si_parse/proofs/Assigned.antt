-- Assignments: the targets that are read, each in front of an `=`, are in the grammar, and those of the grammar are read.
use Rattle.std.proofs.Common.{◌≡◌, ℕ, zero, suc, ◌<◌, ◌≤◌, List, [], ◌∷◌, ◌++◌, length, Option, Some, None, true, false, refl, ⊎_elim, sym, ap, ◌∙◌, subst, arith, append_assoc, length-append}
use Rattle.std.specs.Prelude.{if◌then◌else◌}
use Rattle.std.proofs.lemmas.List.{append-nil}
use Rattle.si_semantics.specs.Tree as tree
use Rattle.si_semantics.specs.Tree.{Expr, Stmt, Target, Targets}
use Rattle.si_semantics.specs.Tokens as token
use Rattle.si_semantics.specs.Grammar.{Terminal, NEWLINE, Sign, max_depth, IsExpressions, target_of, IsTarget, Targeted, Small}
use Rattle.si_syntax.specs.Trees.{target_row}
use Rattle.si_parse.specs.inner.Lookahead.{strength_at, begins_literal, after}
use Rattle.si_parse.specs.inner.Lists.{Found, then_read, many_by}
use Rattle.si_parse.specs.inner.Expressions.{Parser, expression_at}
use Rattle.si_parse.specs.inner.Unbracketed.{ends_items, expressions_by}
use Rattle.si_parse.specs.inner.Statements.{ends_small, Chained, chained_from, chained_by, no_equal, assigned, assigned_by}
use Rattle.si_parse.proofs.Laws.{then_read_some, some_inj, after_equal_some}
use Rattle.si_parse.proofs.Lists.{chosen}
use Rattle.si_parse.proofs.Starts.{begins}
use Rattle.si_parse.proofs.Unbracketed.{expressions_reads, expressions_complete, expressions_begin}

abbrev sub : Parser
sub = expression_at max_depth

-- targets, each in front of an `=`, and the value after them
abbrev pub Equated : List Target → Expr → List Terminal → Type 0
Equated [] v h = IsExpressions v h
Equated (t ∷ us) v h = (f : List Terminal) × (g : List Terminal) × (h ≡ f ++ Sign token.Equal ∷ g) × IsTarget t f × Equated us v g

pub equated : (targets : Targets) (v : Expr) (f g : List Terminal) → Targeted targets f → IsExpressions v g → (us : List Target) × (0 < length us) × (targets ≡ target_row us) × Equated us v (f ++ g)
equated tree.NoTargets v f g h e = absurd h
equated (tree.MoreTargets t tree.NoTargets) v f g h e =
    (t ∷ [], omega arith, refl, (h.0, g, ap (λ x. x ++ g) h.1 ∙ append_assoc h.0 (Sign token.Equal ∷ []) g, h.2, e))
equated (tree.MoreTargets t (tree.MoreTargets u us)) v f g h e =
    let r = equated (tree.MoreTargets u us) v h.1 g h.4 e in
    let front = h.3.0 in
    let split : f ++ g ≡ front ++ Sign token.Equal ∷ (h.1 ++ g) =
    ap (λ x. x ++ g) (h.2 ∙ ap (λ x. x ++ h.1) h.3.1) ∙ append_assoc (front ++ Sign token.Equal ∷ []) h.1 g ∙ append_assoc front (Sign token.Equal ∷ []) (h.1 ++ g) in
    (t ∷ r.0, omega arith, ap (tree.MoreTargets t) r.2, (front, h.1 ++ g, split, h.3.2, r.3))

parted : (us : List Target) (v : Expr) (h : List Terminal) → 0 < length us → Equated us v h → (f : List Terminal) × (g : List Terminal) × (h ≡ f ++ g) × Targeted (target_row us) f × IsExpressions v g
parted [] v h some r = absurd (omega arith)
parted (t ∷ []) v h some r = (r.0 ++ Sign token.Equal ∷ [], r.1, r.2 ∙ sym (append_assoc r.0 (Sign token.Equal ∷ []) r.1), (r.0, refl, r.3), r.4)
parted (t ∷ u ∷ us) v h some r =
    let y = parted (u ∷ us) v r.1 (omega arith) r.4 in
    let front = r.0 ++ Sign token.Equal ∷ [] in (
      front ++ y.0,
      y.1,
      r.2 ∙ ap (λ t. r.0 ++ Sign token.Equal ∷ t) y.2 ∙ sym (append_assoc front y.0 y.1 ∙ append_assoc r.0 (Sign token.Equal ∷ []) (y.0 ++ y.1)),
      (front, y.0, refl, (r.0, refl, r.3), y.3),
      y.4,
    )

-- ---- what is read is in the grammar

abbrev LinkRead : Chained → List Terminal → Chained × List Terminal → Type 0
LinkRead b ts s = (t : Target) × (g : List Terminal) × (target_of b.1 ≡ Some t) × (ts ≡ Sign token.Equal ∷ (g ++ s.1)) × (s.0.0 ≡ b.0 ++ t ∷ []) × IsExpressions s.0.1 g

link_reads : (b : Chained) (ts : List Terminal) (s : Chained × List Terminal) → chained_by sub b ts ≡ Some s → LinkRead b ts s
link_reads b ts s h =
    let u = then_read_some (after (Sign token.Equal) ts) (λ rest. then_read (target_of b.1) (chained_from sub b rest)) s h in
    let v = then_read_some (target_of b.1) (chained_from sub b u.0) s u.2 in
    let w = then_read_some (expressions_by sub 1 u.0) (λ r. Some ((b.0 ++ v.0 ∷ [], r.0), r.2)) s v.2 in
    let a = expressions_reads u.0 w.0 w.1 in
    let P : Chained × List Terminal → Type 0 = LinkRead b ts in
    subst P (some_inj ((b.0 ++ v.0 ∷ [], w.0.0), w.0.2) s w.2) (v.0, a.0, v.1, after_equal_some ts u.0 u.1 ∙ ap (λ t. Sign token.Equal ∷ t) a.1, refl, a.2)

abbrev ChainRead : List Target → List Terminal → List Terminal → Chained × List Terminal → Type 0
ChainRead before front ts r =
    (us : List Target) × (h : List Terminal) × (r.0.0 ≡ before ++ us) × (front ++ ts ≡ h ++ r.1) × Equated us r.0.1 h × (no_equal ts ≡ false → 0 < length us)

chain_reads : (k : ℕ) (b : Chained) (front ts : List Terminal) (r : Chained × List Terminal) → IsExpressions b.1 front → many_by (chained_by sub) no_equal k b ts ≡ Some r → ChainRead b.0 front ts r
unfolding many_by
chain_reads zero b front ts r e h = cc
chain_reads (suc k) b front ts r e h =
    let P : Chained × List Terminal → Type 0 = ChainRead b.0 front ts in
    ⊎_elim
    (λ stop. subst P (some_inj (b, ts) r stop.1) ([], front, sym (append-nil b.0), refl, e, λ more. let bad : true ≡ false = sym stop.0 ∙ more in cc))
    (λ go.
    let s = then_read_some (chained_by sub b ts) (λ r. many_by (chained_by sub) no_equal k r.0 r.1) r go.1 in
    let x = link_reads b ts s.0 s.1 in
    let y = chain_reads k s.0.0 x.1 s.0.1 r x.5 s.2 in (
      x.0 ∷ y.0,
      front ++ Sign token.Equal ∷ y.1,
      y.2 ∙ ap (λ l. l ++ y.0) x.4 ∙ append_assoc b.0 (x.0 ∷ []) y.0,
      ap (λ t. front ++ t) (x.3 ∙ ap (λ t. Sign token.Equal ∷ t) y.3) ∙ sym (append_assoc front (Sign token.Equal ∷ y.1) r.1),
      (front, y.1, refl, (b.1, x.2, e), y.4),
      λ more. omega arith,
    ))
    (chosen (no_equal ts) (Some (b, ts)) (then_read (chained_by sub b ts) (λ r. many_by (chained_by sub) no_equal k r.0 r.1)) (Some r) h)

pub assigned_reads : (f : List Terminal) (e : Expr) (ts rest : List Terminal) → ts ≡ Sign token.Equal ∷ rest → IsExpressions e f → (r : Stmt × List Terminal) → assigned_by sub e ts ≡ Some r
    → (h : List Terminal) × (f ++ ts ≡ h ++ r.1) × Small r.0 h
assigned_reads f e ts rest is spelled r h =
    let s = then_read_some (many_by (chained_by sub) no_equal (length ts) ([], e) ts) assigned r h in
    let c = chain_reads (length ts) ([], e) f ts s.0 spelled s.1 in
    let y = parted c.0 s.0.0.1 c.1 (c.5 (ap no_equal is)) c.4 in
    let P : Stmt × List Terminal → Type 0 = λ r. (h : List Terminal) × (f ++ ts ≡ h ++ r.1) × Small r.0 h in
    let Q : List Target → Type 0 = λ us. Targeted (target_row us) y.0 in
    subst P (some_inj (tree.Assign (target_row s.0.0.0) s.0.0.1, s.0.1) r s.2) (c.1, c.3, (y.0, y.1, y.2, subst Q (sym c.2) y.3, y.4))

-- ---- what is in the grammar is read

-- what may stand after a statement
abbrev Follows : List Terminal → Type 0
Follows more = (strength_at more < 1) × (begins_literal more ≡ false) × (ends_small more ≡ true)

ends_all : (ts : List Terminal) → ends_small ts ≡ true → (0 < length ts) × (after (Sign token.Comma) ts ≡ None) × (ends_items ts ≡ true) × (no_equal ts ≡ true)
ends_all [] h = cc
ends_all (NEWLINE ∷ ts) h = (omega arith, refl, refl, refl)
ends_all (Sign token.Semicolon ∷ ts) h = (omega arith, refl, refl, refl)
ends_all (_ ∷ ts) h = cc

-- what was read of them: an expression, which is a target where an `=` stands after it, and else the value
abbrev Chain : List Target → Expr → List Terminal → Expr → List Terminal → Type 0
Chain [] v more e ts = (e ≡ v) × (ts ≡ more)
Chain (t ∷ us) v more e ts = (target_of e ≡ Some t) × (g : List Terminal) × (ts ≡ Sign token.Equal ∷ (g ++ more)) × Equated us v g

abbrev Begun : List Target → Expr → List Terminal → List Terminal → Type 0
Begun us v h more = (e : Expr) × (ts : List Terminal) × (d : ℕ) × (expressions_by sub 1 (h ++ more) ≡ Some (e, d, ts)) × (length ts ≤ length (h ++ more)) × Chain us v more e ts

begun : (us : List Target) (v : Expr) (h more : List Terminal) → Equated us v h → Follows more → Begun us v h more
begun [] v h more r ends =
    let over = ends_all more ends.2 in
    let c = expressions_complete v h more r (ends.0, ends.1) over.1 over.2 in
    (v, more, c.0, c.1, omega (arith, length-append h more), (refl, refl))
begun (t ∷ us) v h more r ends =
    let rest = Sign token.Equal ∷ (r.1 ++ more) in
    let split : h ++ more ≡ r.0 ++ rest = ap (λ t. t ++ more) r.2 ∙ append_assoc r.0 (Sign token.Equal ∷ r.1) more in
    let c = expressions_complete r.3.0 r.0 rest r.3.2 (omega arith, refl) refl refl in
    (r.3.0, rest, c.0, ap (expressions_by sub 1) split ∙ c.1, omega (arith, ap length split, length-append r.0 rest), (r.3.1, r.1, refl, r.4))

chain_complete : (k : ℕ) (before us : List Target) (v : Expr) (more : List Terminal) (e : Expr) (ts : List Terminal) → length ts ≤ k → Follows more → Chain us v more e ts
    → many_by (chained_by sub) no_equal k (before, e) ts ≡ Some ((before ++ us, v), more)
unfolding many_by
chain_complete zero before [] v more e ts fuel ends c = absurd (omega (arith, ap length c.1, (ends_all more ends.2).0))
chain_complete zero before (t ∷ us) v more e ts fuel ends c = absurd (omega (arith, ap length c.2))
chain_complete (suc k) before [] v more e ts fuel ends c =
    let over = ends_all more ends.2 in
    ap (many_by (chained_by sub) no_equal (suc k) (before, e)) c.1
    ∙ ap (λ b. if b then Some ((before, e), more) else then_read (chained_by sub (before, e) more) (λ r. many_by (chained_by sub) no_equal k r.0 r.1)) over.3
    ∙ ap (λ l. Some ((l, e), more)) (sym (append-nil before))
    ∙ ap (λ x. Some ((before ++ [], x), more)) c.0
chain_complete (suc k) before (t ∷ us) v more e ts fuel ends c =
    let n = begun us v c.1 more c.3 ends in
    let link : Found → Option (Chained × List Terminal) = λ r. Some ((before ++ t ∷ [], r.0), r.2) in
    let go : Chained × List Terminal → Option (Chained × List Terminal) = λ r. many_by (chained_by sub) no_equal k r.0 r.1 in
    ap (many_by (chained_by sub) no_equal (suc k) (before, e)) c.2
    ∙ ap (λ o. then_read (then_read o (chained_from sub (before, e) (c.1 ++ more))) go) c.0
    ∙ ap (λ o. then_read (then_read o link) go) n.3
    ∙ chain_complete k (before ++ t ∷ []) us v more n.0 n.1 (omega (arith, ap length c.2, n.4)) ends n.5
    ∙ ap (λ l. Some ((l, v), more)) (append_assoc before (t ∷ []) us)

-- the first target, from whose `=` on the assignment is read
abbrev pub Assigns : List Target → Expr → List Terminal → List Terminal → Type 0
Assigns us v h more =
    (e : Expr) × (d : ℕ) × (rest : List Terminal) × (expressions_by sub 1 (h ++ more) ≡ Some (e, d, Sign token.Equal ∷ rest)) × (assigned_by sub e (Sign token.Equal ∷ rest) ≡ Some (tree.Assign (target_row us) v, more))

pub assigned_complete : (us : List Target) (v : Expr) (h more : List Terminal) → 0 < length us → Equated us v h → strength_at more < 1 → begins_literal more ≡ false → ends_small more ≡ true → Assigns us v h more
assigned_complete [] v h more some r weak plain over = absurd (omega arith)
assigned_complete (t ∷ us) v h more some r weak plain over =
    let n = begun (t ∷ us) v h more r (weak, plain, over) in
    let rest = n.5.1 ++ more in
    let c = chain_complete (length n.1) [] (t ∷ us) v more n.0 n.1 (omega arith) (weak, plain, over) n.5 in (
      n.0,
      n.2,
      rest,
      n.3 ∙ ap (λ ts. Some (n.0, n.2, ts)) n.5.2,
      ap (assigned_by sub n.0) (sym n.5.2) ∙ ap (λ o. then_read o assigned) c,
    )

pub equated_begins : (us : List Target) (v : Expr) (h more : List Terminal) → Equated us v h → begins (h ++ more) ≡ true
equated_begins [] v h more r = expressions_begin v h more r
equated_begins (t ∷ us) v h more r =
    ap begins (ap (λ t. t ++ more) r.2 ∙ append_assoc r.0 (Sign token.Equal ∷ r.1) more) ∙ expressions_begin r.3.0 r.0 (Sign token.Equal ∷ (r.1 ++ more)) r.3.2
