-- For the worked cases of reading: the words and the tokens of a text by computation, from its words line by line.
use Rattle.std.proofs.Common.{◌≡◌, ℕ, ◌+◌, ◌<◌, List, [], ◌∷◌, ◌++◌, ◌⊎◌, inl, inr, length, drop, Bool, true, false, refl, sym, ap, ◌∙◌, subst, arith, Option, Some, None, append_assoc, lit<, slice_index_or}
use Rattle.std.specs.Prelude.{◌||◌, ◌&&◌, ◌==◌, not, if◌then◌else◌, nat_lt}
use Rattle.std.specs.List.{list_all, list_any}
use Rattle.std.specs.Option.{is_some, option_map}
use Rattle.std.proofs.lemmas.List.Folds.{list_any-from_Any}
use Rattle.std.proofs.lemmas.Bool.{eqb-true}
use Rattle.std.proofs.lemmas.Bool.Decides.{nat_tests}
use Rattle.si_semantics.specs.Tokens.{Symbol, Token}
use Rattle.si_semantics.specs.Literals.{is_quote, is_raw, is_of_bytes, is_prefix, is_double_prefix}
use Rattle.si_semantics.specs.Words.{is_digit, begins_name, continues_name, is_space, is_tab, is_hash, in_comment, same, spelled, symbols, Sort, Name, Int, Text, Operator, Spaces, Tabs, Comment, LineEnd, each, IsRun, is_quoted, is_text, IsIn, line_ends, IsWord, IsLongest, is_allowed, Word, IsCut}
use Rattle.si_semantics.specs.Layout.{kind_of, brackets_after, open_after, after, IsJoined, Line, line_end, AreLines, line_tokens, ending, Lays, HasTokens}

-- ---- tests

and_both : (p q : Bool) → (p && q) ≡ true → (p ≡ true) × (q ≡ true)
and_both true q h = (refl, h)
and_both false q h = cc

and_true : (p q : Bool) → p ≡ true → q ≡ true → (p && q) ≡ true
and_true true q h k = k
and_true false q h k = cc

or_left : (p q : Bool) → p ≡ true → (p || q) ≡ true
or_left true q h = refl
or_left false q h = cc

or_right : (p q : Bool) → q ≡ true → (p || q) ≡ true
or_right true q h = refl
or_right false q h = h

not_true : (p : Bool) → not p ≡ true → p ≡ true → ⊥
not_true true h k = cc
not_true false h k = cc

some_inj : {A : Type 0} {x y : A} → ◌≡◌ {A = Option A} (Some x) (Some y) → y ≡ x
some_inj h = cc

-- ---- which bytes are a word

abbrev is_run : (first p : ℕ → Bool) → List ℕ → Bool
is_run first p [] = false
is_run first p (b ∷ bs) = first b && list_all p bs

all_are : (p : ℕ → Bool) (bs : List ℕ) → list_all p bs ≡ true → each p bs
all_are p [] h = tt
all_are p (b ∷ bs) h = let t = and_both (p b) (list_all p bs) h in (t.0, all_are p bs t.1)

run_is : (first p : ℕ → Bool) (bs : List ℕ) → is_run first p bs ≡ true → IsRun first p bs
run_is first p [] h = cc
run_is first p (b ∷ bs) h = let t = and_both (first b) (list_all p bs) h in (t.0, all_are p bs t.1)

same_is : (v w : List ℕ) → same v w ≡ true → w ≡ v
same_is [] [] h = refl
same_is [] (b ∷ w) h = cc
same_is (a ∷ v) [] h = cc
same_is (a ∷ v) (b ∷ w) h =
    let t = and_both (same v w) (a == b) h in
    let e : a ≡ b = eqb-true a b t.1 in
    let f = same_is v w t.0 in
    λ i. sym e i ∷ f i

in_is : (os : List (List ℕ)) (w : List ℕ) → list_any (λ o. same o w) os ≡ true → IsIn os w
in_is [] w h = cc
in_is (o ∷ os) w h = by (in_is os w) (same o w) refl h
  where
    by : (list_any (λ o. same o w) os ≡ true → IsIn os w) → (t : Bool) → same o w ≡ t
        → (t || list_any (λ o. same o w) os) ≡ true → (w ≡ o) ⊎ IsIn os w
    by later true e h = inl (same_is o w e)
    by later false e h = inr (later h)

spells_one : (o : Option Symbol) → is_some o ≡ true → (s : Symbol) × (o ≡ Some s)
spells_one (Some s) h = (s, refl)
spells_one None h = cc

abbrev is_word : Sort → List ℕ → Bool
is_word Name w = is_run begins_name continues_name w
is_word Int w = is_run is_digit continues_name w
is_word Text w = is_text w
is_word Operator w = is_some (spelled symbols w)
is_word Spaces w = is_run is_space is_space w
is_word Tabs w = is_run is_tab is_tab w
is_word Comment w = is_run is_hash in_comment w
is_word LineEnd w = list_any (λ o. same o w) line_ends

pub word_is : (k : Sort) (w : List ℕ) → is_word k w ≡ true → IsWord k w
word_is Name w h = run_is begins_name continues_name w h
word_is Int w h = run_is is_digit continues_name w h
word_is Text w h = h
word_is Operator w h = spells_one (spelled symbols w) h
word_is Spaces w h = run_is is_space is_space w h
word_is Tabs w h = run_is is_tab is_tab w h
word_is Comment w h = run_is is_hash in_comment w h
word_is LineEnd w h = in_is line_ends w h

-- ---- which bytes begin a word, where more may follow

-- the bytes stand at the front of others
abbrev is_front : (bs of : List ℕ) → Bool
is_front [] of = true
is_front (b ∷ bs) [] = false
is_front (b ∷ bs) (a ∷ of) = is_front bs of && (a == b)

abbrev begins_text : List ℕ → Bool
begins_text [] = true
begins_text (b ∷ []) = is_prefix b || is_quote b
begins_text (b ∷ (c ∷ [])) = is_double_prefix b c || ((is_prefix b && is_quote c) || is_quote b)
begins_text (b ∷ (c ∷ (q ∷ bs))) = (is_double_prefix b c && is_quote q) || ((is_prefix b && is_quote c) || is_quote b)

abbrev begins : Sort → List ℕ → Bool
begins Name bs = is_run begins_name continues_name bs
begins Int bs = is_run is_digit continues_name bs
begins Text bs = begins_text bs
begins Operator bs = list_any (λ (e : List ℕ × Symbol). is_front bs e.0) symbols
begins Spaces bs = is_run is_space is_space bs
begins Tabs bs = is_run is_tab is_tab bs
begins Comment bs = is_run is_hash in_comment bs
begins LineEnd bs = list_any (λ o. is_front bs o) line_ends

all_begin : (p : ℕ → Bool) (bs more : List ℕ) → each p (bs ++ more) → list_all p bs ≡ true
all_begin p [] more h = refl
all_begin p (b ∷ bs) more h = and_true (p b) (list_all p bs) h.0 (all_begin p bs more h.1)

run_begins : (first p : ℕ → Bool) (b : ℕ) (bs more : List ℕ) → IsRun first p ((b ∷ bs) ++ more)
    → is_run first p (b ∷ bs) ≡ true
run_begins first p b bs more h = and_true (first b) (list_all p bs) h.0 (all_begin p bs more h.1)

same_front : (bs more of : List ℕ) → same of (bs ++ more) ≡ true → is_front bs of ≡ true
same_front [] more of h = refl
same_front (b ∷ bs) more [] h = cc
same_front (b ∷ bs) more (a ∷ of) h =
    let t = and_both (same of (bs ++ more)) (a == b) h in and_true (is_front bs of) (a == b) (same_front bs more of t.0) t.1

spelled_begins : (table : List (List ℕ × Symbol)) (bs more : List ℕ) (s : Symbol)
    → spelled table (bs ++ more) ≡ Some s → list_any (λ (e : List ℕ × Symbol). is_front bs e.0) table ≡ true
spelled_begins [] bs more s h = cc
spelled_begins (e ∷ table) bs more s h = by (spelled_begins table bs more s) (same e.0 (bs ++ more)) refl h
  where
    others : Bool
    others = list_any (λ (e : List ℕ × Symbol). is_front bs e.0) table

    by : (spelled table (bs ++ more) ≡ Some s → others ≡ true) → (t : Bool) → same e.0 (bs ++ more) ≡ t
        → (if t then Some e.1 else spelled table (bs ++ more)) ≡ Some s → (is_front bs e.0 || others) ≡ true
    by later true f h = or_left (is_front bs e.0) others (same_front bs more e.0 f)
    by later false f h = or_right (is_front bs e.0) others (later h)

front_refl : (bs more : List ℕ) → is_front bs (bs ++ more) ≡ true
front_refl [] more = refl
front_refl (b ∷ bs) more = and_true (is_front bs (bs ++ more)) (b == b) (front_refl bs more) (grind (arith, nat_tests))

in_begins : (os : List (List ℕ)) (bs more : List ℕ) → IsIn os (bs ++ more) → list_any (λ o. is_front bs o) os ≡ true
in_begins [] bs more h = absurd h
in_begins (o ∷ os) bs more (inl e) = or_left (is_front bs o) (list_any (λ o. is_front bs o) os) (subst (λ w. is_front bs w ≡ true) e (front_refl bs more))
in_begins (o ∷ os) bs more (inr h) = or_right (is_front bs o) (list_any (λ o. is_front bs o) os) (in_begins os bs more h)

quoted_begins : (b : ℕ) (bs : List ℕ) → is_quoted (b ∷ bs) ≡ true → is_quote b ≡ true
quoted_begins b bs h = (and_both (is_quote b) _ h).0

double_begins : (p q r s u : Bool) → ((p && q) || (r && s)) ≡ true → (r || (p || u)) ≡ true
double_begins p q true s u h = refl
double_begins true q false s u h = refl
double_begins false q false s u h = cc

-- a prefix of two letters begins with one of one
double_is : (b c : ℕ) → is_double_prefix b c ≡ true → is_prefix b ≡ true
double_is b c h = double_begins (is_of_bytes b) (is_raw c) (is_raw b) (is_of_bytes c) _ h

text_begins : (b : ℕ) (bs more : List ℕ) → is_text ((b ∷ bs) ++ more) ≡ true → begins_text (b ∷ bs) ≡ true
text_begins b [] [] h = by (is_prefix b) h
  where
    by : (t : Bool) → is_quoted (drop (if t then 1 else 0) (b ∷ [])) ≡ true → (t || is_quote b) ≡ true
    by true h = refl
    by false h = quoted_begins b [] h
text_begins b [] (c ∷ more) h = by (is_double_prefix b c) (is_prefix b) (double_is b c) h
  where
    by : (d t : Bool) → (d ≡ true → t ≡ true) → is_quoted (drop (if d then 2 else (if t then 1 else 0)) (b ∷ (c ∷ more))) ≡ true → (t || is_quote b) ≡ true
    by true true e h = refl
    by true false e h = let bad : false ≡ true = e refl in cc
    by false true e h = refl
    by false false e h = quoted_begins b (c ∷ more) h
text_begins b (c ∷ []) more h = by (is_double_prefix b c) (is_prefix b) h
  where
    by : (d t : Bool) → is_quoted (drop (if d then 2 else (if t then 1 else 0)) (b ∷ (c ∷ more))) ≡ true → (d || ((t && is_quote c) || is_quote b)) ≡ true
    by true t h = refl
    by false true h = or_left (is_quote c) (is_quote b) (quoted_begins c more h)
    by false false h = quoted_begins b (c ∷ more) h
text_begins b (c ∷ (q ∷ bs)) more h = by (is_double_prefix b c) (is_prefix b) h
  where
    by : (d t : Bool) → is_quoted (drop (if d then 2 else (if t then 1 else 0)) (b ∷ (c ∷ (q ∷ (bs ++ more))))) ≡ true
        → ((d && is_quote q) || ((t && is_quote c) || is_quote b)) ≡ true
    by true t h = or_left (is_quote q) ((t && is_quote c) || is_quote b) (quoted_begins q (bs ++ more) h)
    by false true h = or_left (is_quote c) (is_quote b) (quoted_begins c (q ∷ (bs ++ more)) h)
    by false false h = quoted_begins b (c ∷ (q ∷ (bs ++ more))) h

word_begins : (k : Sort) (b : ℕ) (bs more : List ℕ) → IsWord k ((b ∷ bs) ++ more) → begins k (b ∷ bs) ≡ true
word_begins Name b bs more h = run_begins begins_name continues_name b bs more h
word_begins Int b bs more h = run_begins is_digit continues_name b bs more h
word_begins Text b bs more h = text_begins b bs more h
word_begins Operator b bs more h = spelled_begins symbols (b ∷ bs) more h.0 h.1
word_begins Spaces b bs more h = run_begins is_space is_space b bs more h
word_begins Tabs b bs more h = run_begins is_tab is_tab b bs more h
word_begins Comment b bs more h = run_begins is_hash in_comment b bs more h
word_begins LineEnd b bs more h = in_begins line_ends (b ∷ bs) more h

-- ---- words that are the longest

-- whether a word of some sort begins with the bytes
abbrev sorts : List Sort
sorts = Name ∷ Int ∷ Text ∷ Operator ∷ Spaces ∷ Tabs ∷ Comment ∷ LineEnd ∷ []

abbrev begins_any : List ℕ → Bool
begins_any bs = list_any (λ k. begins k bs) sorts

place_of : (k : Sort) → (i : ℕ) × (i < length sorts) × (slice_index_or sorts i k ≡ k)
place_of Name = (0, lit< tt, refl)
place_of Int = (1, lit< tt, refl)
place_of Text = (2, lit< tt, refl)
place_of Operator = (3, lit< tt, refl)
place_of Spaces = (4, lit< tt, refl)
place_of Tabs = (5, lit< tt, refl)
place_of Comment = (6, lit< tt, refl)
place_of LineEnd = (7, lit< tt, refl)

any_begins : (k : Sort) (bs : List ℕ) → begins k bs ≡ true → begins_any bs ≡ true
any_begins k bs h = let at = place_of k in list_any-from_Any (λ j. begins j bs) sorts (at.0, k, at.1, at.2, h)

-- whether the next byte ends the word, whatever follows
abbrev ends_at : (w rest : List ℕ) → Bool
ends_at w [] = true
ends_at w (b ∷ rest) = not (begins_any (w ++ b ∷ []))

some_begin : (k : Sort) (w more : List ℕ) (b : ℕ) → IsWord k ((w ++ b ∷ []) ++ more) → begins k (w ++ b ∷ []) ≡ true
some_begin k [] more b h = word_begins k b [] more h
some_begin k (a ∷ w) more b h = word_begins k a (w ++ b ∷ []) more h

pub longest : (w rest : List ℕ) → ends_at w rest ≡ true → IsLongest w rest
longest w [] h [] after k pos e word = absurd (omega (arith, pos))
longest w [] h (c ∷ more) after k pos e word = cc
longest w (b ∷ rest) h [] after k pos e word = absurd (omega (arith, pos))
longest w (b ∷ rest) h (c ∷ more) after k pos e word =
    let is : b ≡ c = cc in
    let apart : w ++ c ∷ more ≡ (w ++ b ∷ []) ++ more =
    ap (λ a. w ++ a ∷ more) (sym is) ∙ sym (append_assoc w (b ∷ []) more) in
    not_true (begins_any (w ++ b ∷ [])) h (any_begins k (w ++ b ∷ []) (some_begin k w more b (subst (IsWord k) apart word)))

-- ---- the words of a text

abbrev pub bytes_of : List Word → List ℕ
bytes_of [] = []
bytes_of (w ∷ ws) = w.text ++ bytes_of ws

-- whether words in a row are those of their bytes
abbrev are_cut : List Word → Bool
are_cut [] = true
are_cut (w ∷ ws) =
    is_word w.sort w.text && (ends_at w.text (bytes_of ws) && (is_allowed w.sort w.text (bytes_of ws) && are_cut ws))

cut_is : (ws : List Word) → are_cut ws ≡ true → IsCut ws (bytes_of ws)
cut_is [] h = refl
cut_is (w ∷ ws) h =
    let t = and_both (is_word w.sort w.text) _ h in
    let u = and_both (ends_at w.text (bytes_of ws)) _ t.1 in
    let v = and_both (is_allowed w.sort w.text (bytes_of ws)) (are_cut ws) u.1 in
    (bytes_of ws, refl, word_is w.sort w.text t.0, longest w.text (bytes_of ws) u.0, v.0, cut_is ws v.1)

-- ---- the lines of a text

abbrev ends_line : Sort → Bool
ends_line LineEnd = true
ends_line _ = false

abbrev are_joined : ℕ → List Word → Bool
are_joined n [] = true
are_joined n (w ∷ ws) = (not (ends_line w.sort) || nat_lt 0 n) && are_joined (brackets_after (kind_of w.sort w.text) n) ws

joined_are : (n : ℕ) (ws : List Word) → are_joined n ws ≡ true → IsJoined n ws
joined_are n [] h = tt
joined_are n (w ∷ ws) h =
    let t = and_both (not (ends_line w.sort) || nat_lt 0 n) _ h in
    (within w.sort t.0, joined_are (brackets_after (kind_of w.sort w.text) n) ws t.1)
  where
    within : (k : Sort) → (not (ends_line k) || nat_lt 0 n) ≡ true → k ≡ LineEnd → 0 < n
    within k h e = let here : nat_lt 0 n ≡ true = subst (λ j. (not (ends_line j) || nat_lt 0 n) ≡ true) e h in grind (arith, nat_tests)

abbrev pub words_of : List Line → List Word
words_of [] = []
words_of (l ∷ []) = l.words
words_of (l ∷ (m ∷ ls)) = l.words ++ line_end l.end ∷ words_of (m ∷ ls)

abbrev is_empty : List ℕ → Bool
is_empty [] = true
is_empty (b ∷ bs) = false

empty_is : (bs : List ℕ) → is_empty bs ≡ true → bs ≡ []
empty_is [] h = refl
empty_is (b ∷ bs) h = cc

abbrev are_lines : List Line → Bool
are_lines [] = false
are_lines (l ∷ []) = are_joined 0 l.words && is_empty l.end
are_lines (l ∷ (m ∷ ls)) = are_joined 0 l.words && ((open_after 0 l.words == 0) && are_lines (m ∷ ls))

lines_are : (ls : List Line) → are_lines ls ≡ true → AreLines ls (words_of ls)
lines_are [] h = cc
lines_are (l ∷ []) h =
    let t = and_both (are_joined 0 l.words) (is_empty l.end) h in (refl, joined_are 0 l.words t.0, empty_is l.end t.1)
lines_are (l ∷ (m ∷ ls)) h =
    let t = and_both (are_joined 0 l.words) _ h in
    let u = and_both (open_after 0 l.words == 0) (are_lines (m ∷ ls)) t.1 in
    (words_of (m ∷ ls), refl, joined_are 0 l.words t.0, eqb-true (open_after 0 l.words) 0 u.0, lines_are (m ∷ ls) u.1)

-- ---- the tokens of a text

-- what lines make, in these blocks and from a byte on
abbrev lays : List ℕ → ℕ → List Line → Option (List Token)
lays blocks at [] = Some (ending blocks at)
lays blocks at (l ∷ ls) =
    elim (line_tokens blocks at l) [
      | None ↦ None
      | Some r ↦ option_map (λ more. r.0 ++ more) (lays r.1 (after at l.words + length l.end) ls)
    ]

lays_are : (blocks : List ℕ) (at : ℕ) (ls : List Line) (ts : List Token) → lays blocks at ls ≡ Some ts
    → Lays blocks at ls ts
lays_are blocks at [] ts h = some_inj h
lays_are blocks at (l ∷ ls) ts h = by (λ open_blocks more. lays_are open_blocks next ls more) (line_tokens blocks at l) refl h
  where
    next : ℕ
    next = after at l.words + length l.end

    after_line : (made : List Token) (open_blocks : List ℕ)
        → ((more : List Token) → lays open_blocks next ls ≡ Some more → Lays open_blocks next ls more)
        → line_tokens blocks at l ≡ Some (made, open_blocks) → (o : Option (List Token))
        → lays open_blocks next ls ≡ o → option_map (λ more. made ++ more) o ≡ Some ts → Lays blocks at (l ∷ ls) ts
    after_line made open_blocks later e None f h = cc
    after_line made open_blocks later e (Some more) f h = (made, more, open_blocks, e, some_inj h, later more f)

    by : ((open_blocks : List ℕ) (more : List Token) → lays open_blocks next ls ≡ Some more → Lays open_blocks next ls more) → (o : Option (List Token × List ℕ)) → line_tokens blocks at l ≡ o
        → elim o as (λ _. Option (List Token)) [ None ↦ None | Some r ↦ option_map (λ more. r.0 ++ more) (lays r.1 next ls) ] ≡ Some ts → Lays blocks at (l ∷ ls) ts
    by later None e h = cc
    by later (Some (made, open_blocks)) e h = after_line made open_blocks (later open_blocks) e (lays open_blocks next ls) refl h

-- the tokens of the text of these lines, if they are its lines
abbrev pub tokens_of : List Line → Option (List Token)
tokens_of ls = if are_cut (words_of ls) && are_lines ls then lays [] 0 ls else None

abbrev pub text_of : List Line → List ℕ
text_of ls = bytes_of (words_of ls)

pub has_tokens : (ls : List Line) (ts : List Token) → tokens_of ls ≡ Some ts → HasTokens ts (text_of ls)
has_tokens ls ts h = by (are_cut (words_of ls) && are_lines ls) refl h
  where
    by : (t : Bool) → (are_cut (words_of ls) && are_lines ls) ≡ t → (if t then lays [] 0 ls else None) ≡ Some ts
        → HasTokens ts (text_of ls)
    by true e h =
        let t = and_both (are_cut (words_of ls)) (are_lines ls) e in
        (words_of ls, cut_is (words_of ls) t.0, ls, lines_are ls t.1, lays_are [] 0 ls ts h)
    by false e h = cc
