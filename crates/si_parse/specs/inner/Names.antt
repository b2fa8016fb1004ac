-- Names in a row: those of a `global`, and parameters.
use Rattle.std.specs.Prelude.{List, [], ◌∷◌, ◌++◌, length, Option, Some, None, nat_le, Bool, if◌then◌else◌}
use Rattle.si_semantics.specs.Value.{Text}
use Rattle.si_semantics.specs.Tokens as token
use Rattle.si_semantics.specs.Grammar.{Terminal, NAME, Sign, max_parameters}
use Rattle.si_parse.specs.inner.Lookahead.{after}
use Rattle.si_parse.specs.inner.Lists.{then_read, separated_by, many_by, is_none}

-- the name that stands first, and the terminals after it
abbrev pub name_at : List Terminal → Option (Text × List Terminal)
name_at [] = None
name_at (NAME x ∷ ts) = Some (x, ts)
name_at (_ ∷ ts) = None

-- the names with one more, and what stands after it
abbrev pub and_name : List Text → Text × List Terminal → Option (List Text × List Terminal)
and_name xs r = Some (xs ++ r.0 ∷ [], r.1)

-- one more name, after a comma
abbrev pub next_name_by : List Text → List Terminal → Option (List Text × List Terminal)
next_name_by xs ts = then_read (after (Sign token.Comma) ts) (λ rest. then_read (name_at rest) (and_name xs))

-- whether no further name follows
abbrev pub no_comma : List Terminal → Bool
no_comma ts = is_none (after (Sign token.Comma) ts)

-- names with commas between them, of which there is one at least
abbrev pub names_by : List Terminal → Option (List Text × List Terminal)
names_by ts = then_read (name_at ts) (λ n. many_by next_name_by no_comma (length n.1) (n.0 ∷ []) n.1)

-- the names with one more
abbrev pub with_parameter : List Text → Text × List Terminal → List Text
with_parameter xs r = xs ++ r.0 ∷ []

-- the same, once it is known whether the bracket is closed at once
abbrev pub listed_from : List Terminal → Option (List Terminal) → Option (List Text × List Terminal)
listed_from ts (Some rest) = Some ([], rest)
listed_from ts None = separated_by with_parameter (λ r. r.1) name_at (after (Sign token.Comma)) (after (Sign token.RightParenthesis)) (length ts) [] ts

-- the names after an open bracket, and the closed one
abbrev pub listed_by : List Terminal → Option (List Text × List Terminal)
listed_by ts = listed_from ts (after (Sign token.RightParenthesis) ts)

-- names, where there are not too many for a function
abbrev pub few : List Text × List Terminal → Option (List Text × List Terminal)
few r = if nat_le (length r.0) max_parameters then Some r else None

-- the parameters of a function, after the open bracket, and the closed one
abbrev pub parameters_by : List Terminal → Option (List Text × List Terminal)
parameters_by ts = then_read (listed_by ts) few
