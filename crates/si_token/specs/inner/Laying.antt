-- The layout word by word, as the code goes over a text: a device of the proof. What the layout is, `Layout` of
-- si_semantics says.
use Rattle.std.specs.Prelude.{◌≡◌, ℕ, ◌+◌, List, [], ◌∷◌, ◌++◌, length, map, replicate, true, false, Option, Some, None, nat_lt, if◌then◌else◌}
use Rattle.std.specs.List.{AllByRecursion}
use Rattle.std.specs.Option.{option_map, option_and_then}
use Rattle.si_semantics.specs.Tokens as tokens
use Rattle.si_semantics.specs.Words as words
use Rattle.si_semantics.specs.Words.{Sort, Word, IsCut}
use Rattle.si_semantics.specs.Layout.{kind_of, token, brackets_after, indentation, empty_tokens, ending}
use Rattle.si_token.specs.declared.token.Token.{Token}
use Rattle.si_token.specs.Views.{Place, token_of}
use Rattle.si_token.specs.Spans.{IsPart}

abbrev pub line_start : ℕ → Place
line_start at = record { at = at; begun = false; column = 0; has_tab = false; brackets = 0 }

-- ---- after a word

abbrev pub after : Place → List ℕ → Place
after p w = record p { at = p.at + length w }

abbrev pub after_spaces : Place → List ℕ → Place
after_spaces p w = record p { at = p.at + length w; column = p.column + length w }

abbrev pub after_tabs : Place → List ℕ → Place
after_tabs p w = record p { at = p.at + length w; has_tab = true }

abbrev pub after_token : Place → tokens.TokenKind → List ℕ → Place
after_token p k w = record p { at = p.at + length w; begun = true; brackets = brackets_after (Some k) p.brackets }

-- a line end, which makes a NEWLINE after a token and outside brackets
abbrev pub with_line_end : Place → List ℕ → List tokens.Token × Place
with_line_end p w =
    if nat_lt 0 p.brackets then ([], after p w)
    else (if p.begun then token p.at w tokens.Newline ∷ [] else [], line_start (p.at + length w))

-- the token that a word makes, where it makes one, and the place after the word
abbrev pub laid : Place → Option tokens.TokenKind → Sort → List ℕ → List tokens.Token × Place
laid p (Some k) s w = (token p.at w k ∷ [], after_token p k w)
laid p None words.Spaces w = ([], after_spaces p w)
laid p None words.Tabs w = ([], after_tabs p w)
laid p None words.LineEnd w = with_line_end p w
laid p None _ w = ([], after p w)

-- ---- before a word

-- what stands before a line's first token
abbrev pub begins : Place → List ℕ → Option (List tokens.TokenKind × List ℕ)
begins p blocks = if p.has_tab then None else indentation p.column blocks

-- what stands before a word
abbrev pub before_word : Place → List ℕ → Option tokens.TokenKind → Option (List tokens.TokenKind × List ℕ)
before_word p blocks None = Some ([], blocks)
before_word p blocks (Some k) = if p.begun then Some ([], blocks) else begins p blocks

-- so many DEDENTs before others
abbrev pub after_dedents : ℕ → Option (List tokens.TokenKind × List ℕ) → Option (List tokens.TokenKind × List ℕ)
after_dedents n o = option_map (λ r. (replicate n tokens.Dedent ++ r.0, r.1)) o

-- ---- a text

-- the tokens that a word makes with what stands before it, and where it leads
abbrev pub stepped : Place → List ℕ → Sort → List ℕ → Option (List tokens.Token × Place × List ℕ)
stepped p blocks s w =
    option_map (λ b. (empty_tokens p.at b.0 ++ (laid p (kind_of s w) s w).0, (laid p (kind_of s w) s w).1, b.1))
    (before_word p blocks (kind_of s w))

-- the NEWLINE that is missing at the end of the text
abbrev pub missing_newline : Place → List tokens.Token
missing_newline p = if p.begun then token p.at [] tokens.Newline ∷ [] else []

-- the tokens of words from a place on
abbrev pub laid_all : Place → List ℕ → List Word → Option (List tokens.Token)
laid_all p blocks [] = Some (missing_newline p ++ ending blocks p.at)
laid_all p blocks (w ∷ ws) =
    option_and_then (λ r. option_map (λ more. r.0 ++ more) (laid_all r.1 r.2 ws)) (stepped p blocks w.sort w.text)

-- the tokens of the rest of a text, from a place on
abbrev pub Reads : Place → List ℕ → List tokens.Token → List ℕ → Type 0
Reads p blocks ts bs = (ws : List Word) × IsCut ws bs × (laid_all p blocks ws ≡ Some ts)

-- After the tokens stand others now: empty ones of these kinds, at this byte and in this line.
pub record Adds (at line : ℕ) (kinds : List tokens.TokenKind) (old new : List Token) : Type 0 where
  pub made : List Token
  pub whole : new ≡ old ++ made
  pub tokens : map token_of made ≡ empty_tokens at kinds
  pub parts : AllByRecursion (IsPart at line []) made

-- What stands before a word was put after the tokens, and these blocks are open now.
pub record Stands (at line : ℕ) (o : Option (List tokens.TokenKind × List ℕ)) (blocks : List ℕ) (old new : List Token) : Type 0 where
  pub kinds : List tokens.TokenKind
  pub is : o ≡ Some (kinds, blocks)
  pub adds : Adds at line kinds old new
