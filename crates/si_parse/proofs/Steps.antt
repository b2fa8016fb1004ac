-- The equations of the functions that go by turns.
use Rattle.std.proofs.Common.{◌≡◌, ℕ, zero, suc, ◌-◌, ◌<◌, List, Option, Some, None, Bool, refl, ap, arith}
use Rattle.std.specs.Prelude.{nat_lt, if◌then◌else◌}
use Rattle.si_semantics.specs.Tree.{Expr, Stmt}
use Rattle.si_semantics.specs.Grammar.{Terminal}
use Rattle.si_parse.specs.inner.Lookahead.{Step, strength_at, continuation_at, header_at}
use Rattle.si_parse.specs.inner.Lists.{then_read, closing, after_item, separated_by, chain_from, chain_by, Parsed, many_by}
use Rattle.si_parse.specs.inner.Expressions.{Parser, extended_by, continued_by, expression_by, expression_at}
use Rattle.si_parse.specs.inner.Statements.{simple_line}
use Rattle.si_parse.specs.inner.Lines.{block_from, block_at}

pub expression_at_zero : (b l : ℕ) (ts : List Terminal) → b ≡ 0 → expression_at b l ts ≡ None
unfolding expression_at
expression_at_zero zero l ts e = refl
expression_at_zero (suc b) l ts e = absurd (omega arith)

pub expression_at_step : (b l : ℕ) (ts : List Terminal) → 0 < b → expression_at b l ts ≡ expression_by (expression_at (b - 1)) b l ts
unfolding expression_at
expression_at_step zero l ts h = absurd (omega arith)
expression_at_step (suc b) l ts h = let e : b ≡ suc b - 1 = omega arith in ap (λ n. expression_by (expression_at n) (suc b) l ts) e

pub continued_by_zero : (sub : Parser) (n l k : ℕ) (e : Expr) (d : ℕ) (ts : List Terminal) → k ≡ 0 → continued_by sub n l k e d ts ≡ None
unfolding continued_by
continued_by_zero sub n l zero e d ts h = refl
continued_by_zero sub n l (suc k) e d ts h = absurd (omega arith)

pub continued_by_step : (sub : Parser) (n l k : ℕ) (e : Expr) (d : ℕ) (ts : List Terminal) → 0 < k → continued_by sub n l k e d ts
    ≡ (if nat_lt (strength_at ts) l then Some (e, d, ts) else then_read (extended_by sub n e d ts (continuation_at ts)) (λ r. continued_by sub n l (k - 1) r.0 r.1 r.2))
unfolding continued_by
continued_by_step sub n l zero e d ts h = absurd (omega arith)
continued_by_step sub n l (suc k) e d ts h =
    let same : k ≡ suc k - 1 = omega arith in
    ap (λ j. if nat_lt (strength_at ts) l then Some (e, d, ts) else then_read (extended_by sub n e d ts (continuation_at ts)) (λ r. continued_by sub n l j r.0 r.1 r.2)) same

module _ {R B : Type 0} (add : B → R → B) (rest : R → List Terminal) (item : List Terminal → Option R) (separator close : Step) where
  pub separated_by_zero : (k : ℕ) (b : B) (ts : List Terminal) → k ≡ 0 → separated_by add rest item separator close k b ts ≡ None
  unfolding separated_by
  separated_by_zero zero b ts h = refl
  separated_by_zero (suc k) b ts h = absurd (omega arith)

  pub separated_by_step : (k : ℕ) (b : B) (ts : List Terminal) → 0 < k → separated_by add rest item separator close k b ts
      ≡ then_read (item ts) (λ r. after_item (separated_by add rest item separator close (k - 1)) (add b r) (closing separator close (rest r)) (separator (rest r)))
  unfolding separated_by
  separated_by_step zero b ts h = absurd (omega arith)
  separated_by_step (suc k) b ts h =
      let same : k ≡ suc k - 1 = omega arith in
      ap (λ j. then_read (item ts) (λ r. after_item (separated_by add rest item separator close j) (add b r) (closing separator close (rest r)) (separator (rest r)))) same

module _ {O X : Type 0} (make : O → Expr → X) (operator : List Terminal → Option (O × List Terminal)) (item : O → List Terminal → Parsed) where
  pub chain_by_zero : (k : ℕ) (b : List X × ℕ) (ts : List Terminal) → k ≡ 0 → chain_by make operator item k b ts ≡ None
  unfolding chain_by
  chain_by_zero zero b ts h = refl
  chain_by_zero (suc k) b ts h = absurd (omega arith)

  pub chain_by_step : (k : ℕ) (b : List X × ℕ) (ts : List Terminal) → 0 < k → chain_by make operator item k b ts ≡ chain_from make item (chain_by make operator item (k - 1)) b ts (operator ts)
  unfolding chain_by
  chain_by_step zero b ts h = absurd (omega arith)
  chain_by_step (suc k) b ts h =
      let same : k ≡ suc k - 1 = omega arith in ap (λ j. chain_from make item (chain_by make operator item j) b ts (operator ts)) same

module _ {B : Type 0} (item : B → List Terminal → Option (B × List Terminal)) (ends : List Terminal → Bool) where
  pub many_by_zero : (k : ℕ) (b : B) (ts : List Terminal) → k ≡ 0 → many_by item ends k b ts ≡ None
  unfolding many_by
  many_by_zero zero b ts h = refl
  many_by_zero (suc k) b ts h = absurd (omega arith)

  pub many_by_step : (k : ℕ) (b : B) (ts : List Terminal) → 0 < k → many_by item ends k b ts ≡ (if ends ts then Some (b, ts) else then_read (item b ts) (λ r. many_by item ends (k - 1) r.0 r.1))
  unfolding many_by
  many_by_step zero b ts h = absurd (omega arith)
  many_by_step (suc k) b ts h =
      let same : k ≡ suc k - 1 = omega arith in ap (λ j. if ends ts then Some (b, ts) else then_read (item b ts) (λ r. many_by item ends j r.0 r.1)) same

pub block_at_zero : (n : ℕ) (body : List Stmt) (ts : List Terminal) → n ≡ 0 → block_at n body ts ≡ simple_line body ts
unfolding block_at
block_at_zero zero body ts h = refl
block_at_zero (suc n) body ts h = absurd (omega arith)

pub block_at_step : (n : ℕ) (body : List Stmt) (ts : List Terminal) → 0 < n → block_at n body ts ≡ block_from (block_at (n - 1)) body ts (header_at ts)
unfolding block_at
block_at_step zero body ts h = absurd (omega arith)
block_at_step (suc n) body ts h = let same : n ≡ suc n - 1 = omega arith in ap (λ k. block_from (block_at k) body ts (header_at ts)) same
