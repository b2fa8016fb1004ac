-- An expression, or a tuple round which no brackets stand.
use Rattle.std.specs.Prelude.{ℕ, ◌+◌, List, [], ◌∷◌, length, Option, Some, None, option_map, Bool, true, false, if◌then◌else◌}
use Rattle.si_semantics.specs.Tree as tree
use Rattle.si_semantics.specs.Tokens as token
use Rattle.si_semantics.specs.Grammar.{Terminal, Sign, Word, NEWLINE, exprs_of, max_depth}
use Rattle.si_parse.specs.inner.Lookahead.{Step, after}
use Rattle.si_parse.specs.inner.Lists.{then_read, Found, Parsed, chain_by}
use Rattle.si_parse.specs.inner.Expressions.{Parser, Collected, within}

-- whether no item can stand here: where a statement ends, or what is gone over, or a target
abbrev pub ends_items : List Terminal → Bool
ends_items [] = false
ends_items (NEWLINE ∷ ts) = true
ends_items (Sign token.Semicolon ∷ ts) = true
ends_items (Sign token.Colon ∷ ts) = true
ends_items (Sign token.Equal ∷ ts) = true
ends_items (Word token.InWord ∷ ts) = true
ends_items (_ ∷ ts) = false

-- the terminals after a comma that an item has to follow
abbrev pub after_comma : Step
after_comma ts = then_read (after (Sign token.Comma) ts) (λ rest. if ends_items rest then None else Some rest)

abbrev pub item_follows : Option (List Terminal) → Option (Bool × List Terminal)
item_follows rest = option_map (λ ts. (true, ts)) rest

-- the items of a level after others, each after its comma
abbrev pub further_by : Parser → ℕ → Collected → List Terminal → Option (Collected × List Terminal)
further_by sub l b ts = chain_by (λ o e. e) (λ ts. item_follows (after_comma ts)) (λ o. sub l) (length ts) b ts

-- the terminals after a comma, where one stands first
abbrev pub past_from : List Terminal → Option (List Terminal) → List Terminal
past_from ts None = ts
past_from ts (Some rest) = rest

abbrev pub past_comma : List Terminal → List Terminal
past_comma ts = past_from ts (after (Sign token.Comma) ts)

-- the tuple of items that were read
abbrev pub unbracketed : ℕ → Collected × List Terminal → Parsed
unbracketed n r = within n (tree.Tuple (exprs_of r.0.0)) (r.0.1 + 1) (past_comma r.1)

-- an expression, or the tuple that it begins, once it is known whether a comma follows
abbrev pub expressions_from : Parser → ℕ → ℕ → Found → Option (List Terminal) → Parsed
expressions_from sub l n r None = Some r
expressions_from sub l n r (Some rest) = then_read (further_by sub l (r.0 ∷ [], r.1) r.2) (unbracketed n)

-- of a level
abbrev pub expressions_by : Parser → ℕ → List Terminal → Parsed
expressions_by sub l ts = then_read (sub l ts) (λ r. expressions_from sub l max_depth r (after (Sign token.Comma) r.2))
