-- Lists of items, as functions on lists of terminals: what is read of them, and the terminals after it.
use Rattle.std.specs.Prelude.{ℕ, zero, suc, max, List, [], ◌∷◌, ◌++◌, Option, Some, None, Bool, true, false, if◌then◌else◌}
use Rattle.si_semantics.specs.Tree.{Expr}
use Rattle.si_semantics.specs.Tokens.{Symbol}
use Rattle.si_semantics.specs.Tokens as token
use Rattle.si_semantics.specs.Grammar.{Terminal, Sign}
use Rattle.si_parse.specs.inner.Lookahead.{Step, after}

-- goes on with what was read
abbrev pub then_read : {A B : Type 0} → Option A → (A → Option B) → Option B
then_read None f = None
then_read (Some x) f = f x

abbrev pub closing_from : Step → List Terminal → Option (List Terminal) → Option (List Terminal)
closing_from close ts (Some rest) = close rest
closing_from close ts None = close ts

-- the terminals after a closing one, before which a separator may stand
abbrev pub closing : Step → Step → Step
closing separator close ts = closing_from close ts (separator ts)

abbrev pub after_item : {B : Type 0} → (B → List Terminal → Option (B × List Terminal)) → B → Option (List Terminal) → Option (List Terminal) → Option (B × List Terminal)
after_item go b (Some rest) more = Some (b, rest)
after_item go b None (Some more) = go b more
after_item go b None None = None

-- Items with separators between them, and a closing terminal. The number bounds them.
unfoldable pub separated_by : {R B : Type 0} → (B → R → B) → (R → List Terminal) → (List Terminal → Option R) → Step → Step → ℕ → B → List Terminal → Option (B × List Terminal)
separated_by add rest item separator close zero b ts = None
separated_by add rest item separator close (suc k) b ts =
    then_read (item ts) (λ r. after_item (separated_by add rest item separator close k) (add b r) (closing separator close (rest r)) (separator (rest r)))

-- A tree, its depth, and the terminals after it: an expression that was read.
abbrev pub Found : Type 0
Found = Expr × ℕ × List Terminal

abbrev pub Parsed : Type 0
Parsed = Option Found

-- what was read, its depth, and the terminals after it
abbrev pub Measured : Type 0 → Type 0
Measured A = A × ℕ × List Terminal

-- one alone
abbrev pub alone : {A : Type 0} → A → List A
alone x = x ∷ []

-- what was collected with what one more item comes to, and the greatest depth
abbrev pub with_item : {A X : Type 0} → (A → List X) → List X × ℕ → Measured A → List X × ℕ
with_item parts b r = (b.0 ++ parts r.0, max b.1 r.1)

-- Items with commas between them, up to a closed bracket, after what was collected before; of each its parts are. The number bounds them.
abbrev pub enclosed_by : {A X : Type 0} → (A → List X) → (List Terminal → Option (Measured A)) → Symbol → ℕ → List X × ℕ → List Terminal → Option ((List X × ℕ) × List Terminal)
enclosed_by parts item bracket k b ts = separated_by (with_item parts) (λ r. r.2) item (after (Sign token.Comma)) (after (Sign bracket)) k b ts

-- Operands after operators, and the greatest depth among them, as long as an operator follows. The number bounds them.
abbrev pub chain_from : {O X : Type 0} → (O → Expr → X) → (O → List Terminal → Parsed) → (List X × ℕ → List Terminal → Option ((List X × ℕ) × List Terminal)) → List X × ℕ → List Terminal
    → Option (O × List Terminal) → Option ((List X × ℕ) × List Terminal)
chain_from make item go b ts None = Some (b, ts)
chain_from make item go b ts (Some o) = then_read (item o.0 o.1) (λ r. go (b.0 ++ make o.0 r.0 ∷ [], max b.1 r.1) r.2)

unfoldable pub chain_by : {O X : Type 0} → (O → Expr → X) → (List Terminal → Option (O × List Terminal)) → (O → List Terminal → Parsed) → ℕ → List X × ℕ → List Terminal
    → Option ((List X × ℕ) × List Terminal)
chain_by make next item zero b ts = None
chain_by make next item (suc k) b ts = chain_from make item (chain_by make next item k) b ts (next ts)

-- Items up to where they end. The number bounds them.
unfoldable pub many_by : {B : Type 0} → (B → List Terminal → Option (B × List Terminal)) → (List Terminal → Bool) → ℕ → B → List Terminal → Option (B × List Terminal)
many_by item ends zero b ts = None
many_by item ends (suc k) b ts = if ends ts then Some (b, ts) else then_read (item b ts) (λ r. many_by item ends k r.0 r.1)

-- whether a step finds nothing
abbrev pub is_none : Option (List Terminal) → Bool
is_none None = true
is_none (Some ts) = false
