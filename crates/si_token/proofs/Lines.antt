-- The layout word by word is the layout by lines.
use Rattle.std.proofs.Common.{◌≡◌, ℕ, ◌+◌, ◌<◌, List, [], ◌∷◌, ◌++◌, length, refl, sym, ap, ◌∙◌, arith, Option, Some, None, append_assoc, Bool, true, false, not}
use Rattle.std.specs.Prelude.{nat_lt, if◌then◌else◌}
use Rattle.std.specs.Option.{option_map, option_and_then, option_to_list}
use Rattle.std.proofs.lemmas.Bool.Decides.{nat_tests}
use Rattle.si_semantics.specs.Tokens as tokens
use Rattle.si_semantics.specs.Tokens.{TokenKind, Token}
use Rattle.si_semantics.specs.Words.{Sort, Word, Name, Int, Text, Operator, Spaces, Tabs, Comment, LineEnd, spelled, symbols}
use Rattle.si_semantics.specs.Layout.{kind_of, token, tokens_at, after, brackets_after, open_after, IsJoined, Line, line_end, AreLines, moved, column_by, column_of, indentation, empty_tokens, laid_out, line_tokens, ending, Lays, HasTokens}
use Rattle.si_token.specs.Views.{Place}
use Rattle.si_token.specs.inner.Laying as laying
use Rattle.si_token.specs.inner.Laying.{line_start, laid, before_word, laid_all, Reads}

-- ---- lists of lines

abbrev with_more : Option (List Token × List ℕ) → (List ℕ → Option (List Token)) → Option (List Token)
with_more None f = None
with_more (Some r) f = option_map (λ more. r.0 ++ more) (f r.1)

-- the tokens of lines
abbrev lines_tokens : List ℕ → ℕ → List Line → Option (List Token)
lines_tokens blocks at [] = Some (ending blocks at)
lines_tokens blocks at (l ∷ ls) = with_more (line_tokens blocks at l) (λ open_blocks. lines_tokens open_blocks (after at l.words + length l.end) ls)

lines_of : (ls : List Line) (blocks : List ℕ) (at : ℕ) (ts : List Token) → Lays blocks at ls ts → lines_tokens blocks at ls ≡ Some ts
lines_of [] blocks at ts h = ap (λ ts. Some ts) (sym h)
lines_of (l ∷ ls) blocks at ts (made, more, open_blocks, e, whole, lays) =
    ap (λ o. with_more o (λ open_blocks. lines_tokens open_blocks (after at l.words + length l.end) ls)) e
    ∙ ap (option_map (λ more. made ++ more)) (lines_of ls open_blocks (after at l.words + length l.end) more lays)
    ∙ ap (λ ts. Some ts) (sym whole)

-- what tokens with more come from
more_of : (o : Option (List Token × List ℕ)) (f : List ℕ → Option (List Token)) (ts : List Token) → with_more o f ≡ Some ts
    → (made more : List Token) × (open_blocks : List ℕ) × (o ≡ Some (made, open_blocks)) × (ts ≡ made ++ more) × (f open_blocks ≡ Some more)
more_of None f ts h = cc
more_of (Some (made, open_blocks)) f ts h = by (f open_blocks) refl h
  where
    by : (o : Option (List Token)) → f open_blocks ≡ o → option_map (λ more. made ++ more) o ≡ Some ts
        → (made2 more : List Token) × (open2 : List ℕ) × (◌≡◌ {A = Option (List Token × List ℕ)} (Some (made, open_blocks)) (Some (made2, open2))) × (ts ≡ made2 ++ more) × (f open2 ≡ Some more)
    by None e h = cc
    by (Some more) e h = (made, more, open_blocks, refl, (let s : made ++ more ≡ ts = cc in sym s), e)

lays_of : (ls : List Line) (blocks : List ℕ) (at : ℕ) (ts : List Token) → lines_tokens blocks at ls ≡ Some ts → Lays blocks at ls ts
lays_of [] blocks at ts h = let e : ending blocks at ≡ ts = cc in sym e
lays_of (l ∷ ls) blocks at ts h =
    let m = more_of (line_tokens blocks at l) (λ open_blocks. lines_tokens open_blocks (after at l.words + length l.end) ls) ts h in
    (m.0, m.1, m.2, m.3, m.4, lays_of ls m.2 (after at l.words + length l.end) m.1 m.5)

-- ---- the lines of words

abbrev ends_line : Sort → ℕ → Bool
ends_line LineEnd n = not (nat_lt 0 n)
ends_line _ n = false

abbrev longer : Word → Line × List Line → Line × List Line
longer w s = (record { words = w ∷ s.0.words; end = s.0.end }, s.1)

abbrev next_line : List ℕ → Line × List Line → Line × List Line
next_line end s = (record { words = []; end = end }, s.0 ∷ s.1)

-- the first line, where so many brackets are open, and the others
abbrev split : ℕ → List Word → Line × List Line
split n [] = (record { words = []; end = [] }, [])
split n (w ∷ ws) = if ends_line w.sort n then next_line w.text (split 0 ws) else longer w (split (brackets_after (kind_of w.sort w.text) n) ws)

abbrev all_lines : Line × List Line → List Line
all_lines s = s.0 ∷ s.1

-- the words are these lines, where so many brackets are open
abbrev AreLinesFrom : ℕ → Line × List Line → List Word → Type 0
AreLinesFrom n (l, []) ws = (ws ≡ l.words) × IsJoined n l.words × (l.end ≡ [])
AreLinesFrom n (l, m ∷ ls) ws =
    (rest : List Word) × (ws ≡ l.words ++ line_end l.end ∷ rest) × IsJoined n l.words × (open_after n l.words ≡ 0) × AreLines (m ∷ ls) rest

from_start : (s : Line × List Line) (ws : List Word) → AreLinesFrom 0 s ws → AreLines (all_lines s) ws
from_start (l, []) ws h = h
from_start (l, m ∷ ls) ws h = h

longer_lines : (n : ℕ) (w : Word) (s : Line × List Line) (ws : List Word) → (w.sort ≡ LineEnd → 0 < n)
    → AreLinesFrom (brackets_after (kind_of w.sort w.text) n) s ws → AreLinesFrom n (longer w s) (w ∷ ws)
longer_lines n w (l, []) ws j h = (ap (λ l. w ∷ l) h.0, (j, h.1), h.2)
longer_lines n w (l, m ∷ ls) ws j h = (h.0, ap (λ l. w ∷ l) h.1, (j, h.2), h.3, h.4)

zero_of : (n : ℕ) → nat_lt 0 n ≡ false → n ≡ 0
zero_of n h = grind (arith, nat_tests)

more_than_zero : (n : ℕ) → nat_lt 0 n ≡ true → 0 < n
more_than_zero n h = grind (arith, nat_tests)

abbrev is_line_end : Sort → Bool
is_line_end LineEnd = true
is_line_end _ = false

split_lines : (ws : List Word) (n : ℕ) → AreLinesFrom n (split n ws) ws
split_lines [] n = (refl, tt, refl)
split_lines (w ∷ ws) n = one w.sort w.text (λ n. split_lines ws n)
  where
    other : (s : Sort) (w : List ℕ) → is_line_end s ≡ false → ((n : ℕ) → AreLinesFrom n (split n ws) ws)
        → AreLinesFrom n (longer (record { sort = s; text = w }) (split (brackets_after (kind_of s w) n) ws)) (record { sort = s; text = w } ∷ ws)
    other s w e go =
        longer_lines n (record { sort = s; text = w }) (split (brackets_after (kind_of s w) n) ws) ws
        (λ h. let bad : false ≡ true = sym e ∙ ap is_line_end h in cc)
        (go (brackets_after (kind_of s w) n))

    at_end : (w : List ℕ) → ((n : ℕ) → AreLinesFrom n (split n ws) ws) → (t : Bool) → nat_lt 0 n ≡ t
        → AreLinesFrom n (if not t then next_line w (split 0 ws) else longer (line_end w) (split n ws)) (line_end w ∷ ws)
    at_end w go true e = longer_lines n (line_end w) (split n ws) ws (λ h. more_than_zero n e) (go n)
    at_end w go false e = (ws, refl, tt, zero_of n e, from_start (split 0 ws) ws (go 0))

    one : (s : Sort) (w : List ℕ) → ((n : ℕ) → AreLinesFrom n (split n ws) ws) → AreLinesFrom n (split n (record { sort = s; text = w } ∷ ws)) (record { sort = s; text = w } ∷ ws)
    one Name w go = other Name w refl go
    one Int w go = other Int w refl go
    one Text w go = other Text w refl go
    one Operator w go = other Operator w refl go
    one Spaces w go = other Spaces w refl go
    one Tabs w go = other Tabs w refl go
    one Comment w go = other Comment w refl go
    one LineEnd w go = at_end w go (nat_lt 0 n) refl

-- a word of a line belongs to it
split_word : (n : ℕ) (w : Word) (ws : List Word) → (w.sort ≡ LineEnd → 0 < n) → split n (w ∷ ws) ≡ longer w (split (brackets_after (kind_of w.sort w.text) n) ws)
split_word n w ws j = by w.sort w.text j
  where
    open_some : (t : Bool) → nat_lt 0 n ≡ t → 0 < n → t ≡ true
    open_some true e h = refl
    open_some false e h = let z = zero_of n e in absurd (omega (arith, z, h))

    by : (s : Sort) (w : List ℕ) → (s ≡ LineEnd → 0 < n)
        → split n (record { sort = s; text = w } ∷ ws) ≡ longer (record { sort = s; text = w }) (split (brackets_after (kind_of s w) n) ws)
    by Name w j = refl
    by Int w j = refl
    by Text w j = refl
    by Operator w j = refl
    by Spaces w j = refl
    by Tabs w j = refl
    by Comment w j = refl
    by LineEnd w j = ap (λ t. if not t then next_line w (split 0 ws) else longer (line_end w) (split n ws)) (open_some (nat_lt 0 n) refl (j refl))

split_last : (vs : List Word) (n : ℕ) → IsJoined n vs → split n vs ≡ (record { words = vs; end = [] }, [])
split_last [] n j = refl
split_last (w ∷ vs) n j = split_word n w vs j.0 ∙ ap (longer w) (split_last vs (brackets_after (kind_of w.sort w.text) n) j.1)

split_next : (vs : List Word) (n : ℕ) (end : List ℕ) (rest : List Word) → IsJoined n vs → open_after n vs ≡ 0
    → split n (vs ++ line_end end ∷ rest) ≡ (record { words = vs; end = end }, all_lines (split 0 rest))
split_next [] n end rest j o = ap (λ n. if not (nat_lt 0 n) then next_line end (split 0 rest) else longer (line_end end) (split n rest)) o
split_next (w ∷ vs) n end rest j o =
    split_word n w (vs ++ line_end end ∷ rest) j.0 ∙ ap (longer w) (split_next vs (brackets_after (kind_of w.sort w.text) n) end rest j.1 o)

-- words are no other lines
only_lines : (ls : List Line) (ws : List Word) → AreLines ls ws → all_lines (split 0 ws) ≡ ls
only_lines [] ws h = absurd h
only_lines (l ∷ []) ws h = ap (λ ws. all_lines (split 0 ws)) h.0 ∙ ap all_lines (split_last l.words 0 h.1) ∙ ap (λ e. record { words = l.words; end = e } ∷ []) (sym h.2)
only_lines (l ∷ (m ∷ ls)) ws h =
    ap (λ ws. all_lines (split 0 ws)) h.1
    ∙ ap all_lines (split_next l.words 0 l.end h.0 h.2 h.3)
    ∙ ap (λ ls. l ∷ ls) (only_lines (m ∷ ls) h.0 h.4)

-- ---- from the middle of a line

-- the column of a line, after this column
abbrev column_at : Bool → ℕ → Option ℕ → Option ℕ
column_at true n o = None
column_at false n o = option_map (λ c. n + c) o

-- the tokens of the rest of a line
abbrev rest_of : Bool → List ℕ → Option ℕ → List Token → Token → Option (List Token × List ℕ)
rest_of true blocks column ts newline = Some (ts ++ newline ∷ [], blocks)
rest_of false blocks column ts newline = laid_out blocks column ts newline

-- the tokens of lines, from a place in the first on
abbrev from_place : Place → List ℕ → Line × List Line → Option (List Token)
from_place p blocks s =
    with_more (rest_of p.begun blocks (column_at p.has_tab p.column (column_of s.0.words)) (tokens_at p.at s.0.words) (token (after p.at s.0.words) s.0.end tokens.Newline))
    (λ open_blocks. lines_tokens open_blocks (after p.at s.0.words + length s.0.end) s.1)

-- the same, where the first line has one word more, by the token that it is
abbrev from_word : Option TokenKind → Sort → List ℕ → Place → List ℕ → Line × List Line → Option (List Token)
from_word k s w p blocks r =
    with_more
    (rest_of p.begun blocks (column_at p.has_tab p.column (column_by k s w (column_of r.0.words))) (option_to_list (option_map (token p.at w) k) ++ tokens_at (p.at + length w) r.0.words)
    (token (after (p.at + length w) r.0.words) r.0.end tokens.Newline))
    (λ open_blocks. lines_tokens open_blocks (after (p.at + length w) r.0.words + length r.0.end) r.1)

add_zero : (n : ℕ) → n + 0 ≡ n
add_zero n = omega arith

zero_add : (o : Option ℕ) → option_map (λ c. 0 + c) o ≡ o
zero_add None = refl
zero_add (Some c) = let e : 0 + c ≡ c = omega arith in ap (λ c. Some c) e

-- a line from its beginning
from_beginning : (blocks : List ℕ) (at : ℕ) (s : Line × List Line) → from_place (line_start at) blocks s ≡ lines_tokens blocks at (all_lines s)
from_beginning blocks at s =
    ap (λ c. with_more (laid_out blocks c (tokens_at at s.0.words) (token (after at s.0.words) s.0.end tokens.Newline)) (λ open_blocks. lines_tokens open_blocks (after at s.0.words + length s.0.end) s.1))
    (zero_add (column_of s.0.words))

none_more : (o : Option (List Token)) → option_map (λ more. [] ++ more) o ≡ o
none_more None = refl
none_more (Some more) = refl

-- the tokens of a step, and of the words after it
abbrev then_all : List Word → Option (List Token × Place × List ℕ) → Option (List Token)
then_all ws o = option_and_then (λ r. option_map (λ more. r.0 ++ more) (laid_all r.1 r.2 ws)) o

-- a step, by what stands before the word, and what the word makes
abbrev pub with_before : ℕ → List Token × Place → Option (List TokenKind × List ℕ) → Option (List Token × Place × List ℕ)
with_before at l o = option_map (λ b. (empty_tokens at b.0 ++ l.0, l.1, b.1)) o

abbrev Goes : List Word → Type 0
Goes ws = (p : Place) (blocks : List ℕ) → laid_all p blocks ws ≡ from_place p blocks (split p.brackets ws)

-- the tokens from a word on
abbrev after_word : Option TokenKind → Sort → List ℕ → List Word → Place → List ℕ → Option (List Token)
after_word k s w ws p blocks =
    then_all ws (with_before p.at (laid p k s w) (before_word p blocks k))

-- a word that is no token moves the column at most
blank_word : (s : Sort) (w : List ℕ) (ws : List Word) (p q : Place) (blocks : List ℕ) → q.at ≡ p.at + length w → q.begun ≡ p.begun → q.brackets ≡ p.brackets
    → ((o : Option ℕ) → column_at q.has_tab q.column o ≡ column_at p.has_tab p.column (moved s w o)) → Goes ws
    → option_map (λ more. [] ++ more) (laid_all q blocks ws) ≡ from_word None s w p blocks (split p.brackets ws)
blank_word s w ws p q blocks a b n c go =
    none_more (laid_all q blocks ws) ∙ go q blocks ∙ ap (λ n. from_place q blocks (split n ws)) n ∙ by (split p.brackets ws)
  where
    by : (r : Line × List Line) → from_place q blocks r ≡ from_word None s w p blocks r
    by r =
        λ i. with_more (rest_of (b i) blocks (c (column_of r.0.words) i) (tokens_at (a i) r.0.words) (token (after (a i) r.0.words) r.0.end tokens.Newline))
        (λ open_blocks. lines_tokens open_blocks (after (a i) r.0.words + length r.0.end) r.1)

more_again : (t : Token) (x : List Token) (o : Option (List Token)) → option_map (λ more. (t ∷ []) ++ more) (option_map (λ more. x ++ more) o) ≡ option_map (λ more. (t ∷ x) ++ more) o
more_again t x None = refl
more_again t x (Some y) = refl

more_after : (e : List Token) (t : Token) (x : List Token) (o : Option (List Token)) → option_map (λ more. (e ++ t ∷ []) ++ more) (option_map (λ more. x ++ more) o) ≡ option_map (λ more. (e ++ t ∷ x) ++ more) o
more_after e t x None = refl
more_after e t x (Some y) = ap (λ l. Some l) (append_assoc e (t ∷ []) (x ++ y) ∙ sym (append_assoc e (t ∷ x) y))

-- the tokens of a line, after what stands before its first token
abbrev with_empty : ℕ → List Token → Option (List TokenKind × List ℕ) → Option (List Token × List ℕ)
with_empty at ts o = option_map (λ r. (empty_tokens at r.0 ++ ts, r.1)) o

-- a line's first token, with what stands before it
first_token : (ws : List Word) (q : Place) (at : ℕ) (t : Token) (x : List Token) (f : List ℕ → Option (List Token)) → ((bs : List ℕ) → laid_all q bs ws ≡ option_map (λ more. x ++ more) (f bs))
    → (o : Option (List TokenKind × List ℕ))
    → then_all ws (with_before at (t ∷ [], q) o) ≡ with_more (with_empty at (t ∷ x) o) f
first_token ws q at t x f h None = refl
first_token ws q at t x f h (Some (kinds, open_blocks)) =
    ap (option_map (λ more. (empty_tokens at kinds ++ t ∷ []) ++ more)) (h open_blocks) ∙ more_after (empty_tokens at kinds) t x (f open_blocks)

-- a word that is a token
token_word : (k : TokenKind) (s : Sort) (w : List ℕ) (ws : List Word) (at : ℕ) (begun : Bool) (column : ℕ) (has_tab : Bool) (n : ℕ) (blocks : List ℕ) (r : Line × List Line)
    → ((bs : List ℕ) → laid_all (record { at = at + length w; begun = true; column = column; has_tab = has_tab; brackets = brackets_after (Some k) n }) bs ws
    ≡ from_place (record { at = at + length w; begun = true; column = column; has_tab = has_tab; brackets = brackets_after (Some k) n }) bs r)
    → after_word (Some k) s w ws (record { at = at; begun = begun; column = column; has_tab = has_tab; brackets = n }) blocks
    ≡ from_word (Some k) s w (record { at = at; begun = begun; column = column; has_tab = has_tab; brackets = n }) blocks r
token_word k s w ws at true column has_tab n blocks r h = ap (option_map (λ more. (token at w k ∷ []) ++ more)) (h blocks) ∙ more_again (token at w k) _ _
token_word k s w ws at false column true n blocks r h = refl
token_word k s w ws at false column false n blocks r h =
    first_token ws (record { at = at + length w; begun = true; column = column; has_tab = false; brackets = brackets_after (Some k) n }) at (token at w k)
    (tokens_at (at + length w) r.0.words ++ token (after (at + length w) r.0.words) r.0.end tokens.Newline ∷ [])
    (λ open_blocks. lines_tokens open_blocks (after (at + length w) r.0.words + length r.0.end) r.1) h (indentation column blocks)
    ∙ ap (λ c. with_more (laid_out blocks (Some c) (token at w k ∷ tokens_at (at + length w) r.0.words) (token (after (at + length w) r.0.words) r.0.end tokens.Newline)) (λ open_blocks. lines_tokens open_blocks (after (at + length w) r.0.words + length r.0.end) r.1))
    (sym (add_zero column))

any_token : (k : TokenKind) (s : Sort) (w : List ℕ) (ws : List Word) (p : Place) (blocks : List ℕ) → Goes ws
    → after_word (Some k) s w ws p blocks ≡ from_word (Some k) s w p blocks (split (brackets_after (Some k) p.brackets) ws)
any_token k s w ws p blocks go =
    token_word k s w ws p.at p.begun p.column p.has_tab p.brackets blocks (split (brackets_after (Some k) p.brackets) ws)
    (λ bs. go (record { at = p.at + length w; begun = true; column = p.column; has_tab = p.has_tab; brackets = brackets_after (Some k) p.brackets }) bs)

operator_word : (k : Option TokenKind) (w : List ℕ) (ws : List Word) (p : Place) (blocks : List ℕ) → Goes ws
    → after_word k Operator w ws p blocks ≡ from_word k Operator w p blocks (split (brackets_after k p.brackets) ws)
operator_word None w ws p blocks go = blank_word Operator w ws p (laying.after p w) blocks refl refl refl (λ o. refl) go
operator_word (Some k) w ws p blocks go = any_token k Operator w ws p blocks go

spaces_move : (has_tab : Bool) (column n : ℕ) (o : Option ℕ) → column_at has_tab (column + n) o ≡ column_at has_tab column (option_map (λ c. n + c) o)
spaces_move true column n o = refl
spaces_move false column n None = refl
spaces_move false column n (Some c) = let e : column + n + c ≡ column + (n + c) = omega arith in ap (λ c. Some c) e

tabs_move : (has_tab : Bool) (column : ℕ) → ◌≡◌ {A = Option ℕ} None (column_at has_tab column None)
tabs_move true column = refl
tabs_move false column = refl

-- what a line end makes, inside brackets and outside
abbrev pub end_laid : Place → List ℕ → Bool → List Token × Place
end_laid p w t = if t then ([], laying.after p w) else (if p.begun then token p.at w tokens.Newline ∷ [] else [], line_start (p.at + length w))

-- a line end
end_word : (w : List ℕ) (ws : List Word) (p : Place) (blocks : List ℕ) → Goes ws → (t : Bool)
    → then_all ws (with_before p.at (end_laid p w t) (Some ([], blocks)))
    ≡ from_place p blocks (if not t then next_line w (split 0 ws) else longer (line_end w) (split p.brackets ws))
end_word w ws p blocks go true = blank_word LineEnd w ws p (laying.after p w) blocks refl refl refl (λ o. refl) go
end_word w ws p blocks go false = by p.begun
  where
    after : laid_all (line_start (p.at + length w)) blocks ws ≡ lines_tokens blocks (p.at + length w) (all_lines (split 0 ws))
    after = go (line_start (p.at + length w)) blocks ∙ from_beginning blocks (p.at + length w) (split 0 ws)

    by : (begun : Bool)
        → option_map (λ more. (if begun then token p.at w tokens.Newline ∷ [] else []) ++ more) (laid_all (line_start (p.at + length w)) blocks ws)
        ≡ with_more (rest_of begun blocks (column_at p.has_tab p.column (Some 0)) [] (token p.at w tokens.Newline)) (λ open_blocks. lines_tokens open_blocks (p.at + length w) (all_lines (split 0 ws)))
    by true = ap (option_map (λ more. (token p.at w tokens.Newline ∷ []) ++ more)) after
    by false = ap (option_map (λ more. [] ++ more)) after

-- the end of the text
end_text : (at : ℕ) (begun : Bool) (column : Option ℕ) (blocks : List ℕ)
    → Some ((if begun then token at [] tokens.Newline ∷ [] else []) ++ ending blocks at)
    ≡ with_more (rest_of begun blocks column [] (token at [] tokens.Newline)) (λ open_blocks. Some (ending open_blocks (at + 0)))
end_text at true column blocks = ap (λ n. Some (token at [] tokens.Newline ∷ ending blocks n)) (sym (add_zero at))
end_text at false column blocks = ap (λ n. Some (ending blocks n)) (sym (add_zero at))

goes : (ws : List Word) → Goes ws
goes [] p blocks = end_text p.at p.begun (column_at p.has_tab p.column (Some 0)) blocks
goes (w ∷ ws) p blocks = by w.sort w.text (goes ws)
  where
    by : (s : Sort) (w : List ℕ) → Goes ws → laid_all p blocks (record { sort = s; text = w } ∷ ws) ≡ from_place p blocks (split p.brackets (record { sort = s; text = w } ∷ ws))
    by Name w go = any_token _ Name w ws p blocks go
    by Int w go = any_token tokens.Int Int w ws p blocks go
    by Text w go = any_token _ Text w ws p blocks go
    by Operator w go = operator_word (option_map tokens.Sign (spelled symbols w)) w ws p blocks go
    by Spaces w go = blank_word Spaces w ws p (laying.after_spaces p w) blocks refl refl refl (spaces_move p.has_tab p.column (length w)) go
    by Tabs w go = blank_word Tabs w ws p (laying.after_tabs p w) blocks refl refl refl (λ o. tabs_move p.has_tab p.column) go
    by Comment w go = blank_word Comment w ws p (laying.after p w) blocks refl refl refl (λ o. refl) go
    by LineEnd w go = end_word w ws p blocks go (nat_lt 0 p.brackets)

-- ---- a text

whole : (ws : List Word) → laid_all (line_start 0) [] ws ≡ lines_tokens [] 0 (all_lines (split 0 ws))
whole ws = goes ws (line_start 0) [] ∙ from_beginning [] 0 (split 0 ws)

pub has_tokens : (ts : List Token) (text : List ℕ) → Reads (line_start 0) [] ts text → HasTokens ts text
has_tokens ts text (ws, cut, h) =
    (ws, cut, all_lines (split 0 ws), from_start (split 0 ws) ws (split_lines ws 0), lays_of (all_lines (split 0 ws)) [] 0 ts (sym (whole ws) ∙ h))

pub reads : (ts : List Token) (text : List ℕ) → HasTokens ts text → Reads (line_start 0) [] ts text
reads ts text (ws, cut, ls, are, lays) = (ws, cut, whole ws ∙ ap (lines_tokens [] 0) (only_lines ls ws are) ∙ lines_of ls [] 0 ts lays)
