-- The word at the front: what `word_at` gives is the longest word there, and a longest word there is given.
use Rattle.std.proofs.Common.{◌≡◌, ℕ, zero, suc, ◌+◌, ◌<◌, ◌≤◌, List, [], ◌∷◌, ◌++◌, ◌⊎◌, inl, inr, ⊎_elim, length, take, drop, Bool, true, false, refl, sym, ap, ◌∙◌, subst, arith, Option, Some, None, append_assoc}
use Rattle.std.specs.Prelude.{◌||◌, ◌&&◌, ◌==◌, not, if◌then◌else◌, nat_le}
use Rattle.std.specs.List.{list_all, prefix_len}
use Rattle.std.proofs.lemmas.Bool.Decides.{nat_tests}
use Rattle.std.proofs.lemmas.Bool.{eqb-true}
use Rattle.si_semantics.specs.Tokens.{Symbol}
use Rattle.si_semantics.specs.Literals.{is_quote, is_raw, is_of_bytes, is_prefix, is_double_prefix, unprefixed}
use Rattle.si_semantics.specs.Words.{Sort, Name, Int, Text, Operator, Spaces, Tabs, Comment, LineEnd, is_digit, begins_name, continues_name, is_space, is_tab, is_hash, in_comment, is_quoted, is_text, is_prefixing, same, spelled, symbols, line_ends, each, IsRun, IsIn, IsWord, IsLongest, has_value, is_allowed}
use Rattle.si_token.specs.inner.Reading.{then_read, sort_of_byte, begins_quoted, sort_at, text_length, some_if, symbol_length, line_end_length, length_of, if_allowed, longest_at, word_at}
use Rattle.si_token.proofs.Texts.{if_true, if_false, and_both, some_inj, prefix_stays, text_found, text_reaches, text_is}

-- ---- tests

or_true : (p q : Bool) → p ≡ true → (p || q) ≡ true
or_true p q h = ap (λ x. x || q) h

eq_refl : (b : ℕ) → (b == b) ≡ true
eq_refl b = grind (arith, nat_tests)

-- ---- runs

run_within : (p : ℕ → Bool) (bs : List ℕ) → prefix_len p bs ≤ length bs
run_within p [] = omega arith
run_within p (b ∷ bs) = within (p b) (run_within p bs)
  where
    within : (t : Bool) → prefix_len p bs ≤ length bs → (if t then 1 + prefix_len p bs else 0) ≤ suc (length bs)
    within true h = omega (arith, h)
    within false h = omega arith

take_one_more : (n : ℕ) (b : ℕ) (bs : List ℕ) → take (1 + n) (b ∷ bs) ≡ b ∷ take n bs
take_one_more n b bs = ap (λ m. take m (b ∷ bs)) (one_more n)
  where
    one_more : (n : ℕ) → 1 + n ≡ suc n
    one_more n = omega arith

run_each : (p : ℕ → Bool) (bs : List ℕ) → each p (take (prefix_len p bs) bs)
run_each p [] = tt
run_each p (b ∷ bs) = all (p b) refl (run_each p bs)
  where
    all : (t : Bool) → p b ≡ t → each p (take (prefix_len p bs) bs) → each p (take (if t then 1 + prefix_len p bs else 0) (b ∷ bs))
    all true e h = subst (each p) (sym (take_one_more (prefix_len p bs) b bs)) (e, h)
    all false e h = tt

run_most : (p : ℕ → Bool) (w rest : List ℕ) → each p w → length w ≤ prefix_len p (w ++ rest)
run_most p [] rest h = omega arith
run_most p (b ∷ w) rest h =
    let e = if_true (p b) (1 + prefix_len p (w ++ rest)) 0 h.0 in
    let m = run_most p w rest h.1 in omega (arith, e, m)

-- ---- symbols

pub same_is : (xs ys : List ℕ) → same xs ys ≡ true → xs ≡ ys
same_is [] [] h = refl
same_is [] (y ∷ ys) h = cc
same_is (x ∷ xs) [] h = cc
same_is (x ∷ xs) (y ∷ ys) h =
    let p = and_both (same xs ys) (x == y) h in
    let e : x ≡ y = eqb-true x y p.1 in
    let f = same_is xs ys p.0 in λ i. e i ∷ f i

-- what holds of each spelling of a table holds of what spells
pub spelled_test : {A : Type 0} (p : List ℕ → Bool) (table : List (List ℕ × A)) → list_all (λ (e : List ℕ × A). p e.0) table ≡ true → (w : List ℕ) (x : A) → spelled table w ≡ Some x → p w ≡ true
spelled_test p [] a w x h = cc
spelled_test {A = A} p (e ∷ table) a w x h = by (spelled_test p table both.1 w x) (same e.0 w) refl h
  where
    both : (p e.0 ≡ true) × (list_all (λ (e : List ℕ × A). p e.0) table ≡ true)
    both = and_both (p e.0) (list_all (λ (e : List ℕ × A). p e.0) table) a

    by : (spelled table w ≡ Some x → p w ≡ true) → (t : Bool) → same e.0 w ≡ t → (if t then Some e.1 else spelled table w) ≡ Some x → p w ≡ true
    by go true i h = ap p (sym (same_is e.0 w i)) ∙ both.0
    by go false i h = go h

abbrev is_short : List ℕ → Bool
is_short [] = false
is_short (a ∷ []) = true
is_short (a ∷ (b ∷ [])) = true
is_short (a ∷ (b ∷ (c ∷ []))) = true
is_short (a ∷ (b ∷ (c ∷ (d ∷ w)))) = false

symbols_short : (w : List ℕ) (s : Symbol) → spelled symbols w ≡ Some s → is_short w ≡ true
unfolding symbols
symbols_short w s h = spelled_test is_short symbols refl w s h

abbrev is_operator : Sort → Bool
is_operator Operator = true
is_operator _ = false

abbrev begins_operator : List ℕ → Bool
begins_operator [] = false
begins_operator (b ∷ bs) = is_operator (sort_of_byte b)

symbols_begin : (w : List ℕ) (s : Symbol) → spelled symbols w ≡ Some s → begins_operator w ≡ true
unfolding symbols
symbols_begin w s h = spelled_test begins_operator symbols refl w s h

from_some_if : (o : Option Symbol) (m : ℕ) (later : Option ℕ) (n : ℕ) → some_if o m later ≡ Some n → ((s : Symbol) × (o ≡ Some s) × (m ≡ n)) ⊎ (later ≡ Some n)
from_some_if None m later n h = inr h
from_some_if (Some s) m later n h = inl (s, refl, some_inj m n h)

abbrev FrontSymbol : List ℕ → ℕ → Type 0
FrontSymbol bs n = IsWord Operator (take n bs) × (0 < n) × (n ≤ length bs)

-- the symbol of a length is at the front, or a shorter one is
front_by : (bs : List ℕ) (m n : ℕ) (later : Option ℕ) → 0 < m → m ≤ length bs → some_if (spelled symbols (take m bs)) m later ≡ Some n → (later ≡ Some n → FrontSymbol bs n) → FrontSymbol bs n
front_by bs m n later pos le h go =
    ⊎_elim (λ f. subst (FrontSymbol bs) f.2 ((f.0, f.1), pos, le)) go (from_some_if (spelled symbols (take m bs)) m later n h)

none_front : (bs : List ℕ) (n : ℕ) → ◌≡◌ {A = Option ℕ} None (Some n) → FrontSymbol bs n
none_front bs n h = cc

symbol_front : (bs : List ℕ) (n : ℕ) → symbol_length bs ≡ Some n → FrontSymbol bs n
symbol_front [] n h = cc
symbol_front (a ∷ []) n h = front_by (a ∷ []) 1 n None (omega arith) (omega arith) h (none_front (a ∷ []) n)
symbol_front (a ∷ (b ∷ [])) n h =
    front_by (a ∷ b ∷ []) 2 n _ (omega arith) (omega arith) h (λ h. front_by (a ∷ b ∷ []) 1 n None (omega arith) (omega arith) h (none_front (a ∷ b ∷ []) n))
symbol_front (a ∷ (b ∷ (c ∷ cs))) n h =
    front_by (a ∷ b ∷ c ∷ cs) 3 n _ (omega arith) (omega arith) h
    (λ h. front_by (a ∷ b ∷ c ∷ cs) 2 n _ (omega arith) (omega arith) h
    (λ h. front_by (a ∷ b ∷ c ∷ cs) 1 n None (omega arith) (omega arith) h (none_front (a ∷ b ∷ c ∷ cs) n)))

abbrev AtLeast : Option ℕ → ℕ → Type 0
AtLeast o least = (n : ℕ) × (o ≡ Some n) × (least ≤ n)

some_if_here : (o : Option Symbol) (s : Symbol) (m least : ℕ) (later : Option ℕ) → o ≡ Some s → least ≤ m → AtLeast (some_if o m later) least
some_if_here o s m least later h le = (m, ap (λ o. some_if o m later) h, le)

some_if_later : (o : Option Symbol) (m least : ℕ) (later : Option ℕ) → least ≤ m → AtLeast later least → AtLeast (some_if o m later) least
some_if_later None m least later le h = h
some_if_later (Some s) m least later le h = (m, refl, le)

symbol_reaches : (w rest : List ℕ) (s : Symbol) → spelled symbols w ≡ Some s → AtLeast (symbol_length (w ++ rest)) (length w)
symbol_reaches [] rest s h = let bad : false ≡ true = symbols_short [] s h in cc
symbol_reaches (a ∷ []) [] s h = some_if_here _ s 1 1 _ h (omega arith)
symbol_reaches (a ∷ []) (b ∷ []) s h = some_if_later _ 2 1 _ (omega arith) (some_if_here _ s 1 1 None h (omega arith))
symbol_reaches (a ∷ []) (b ∷ (c ∷ rest)) s h = some_if_later _ 3 1 _ (omega arith) (some_if_later _ 2 1 _ (omega arith) (some_if_here _ s 1 1 None h (omega arith)))
symbol_reaches (a ∷ (b ∷ [])) [] s h = some_if_here _ s 2 2 _ h (omega arith)
symbol_reaches (a ∷ (b ∷ [])) (c ∷ rest) s h = some_if_later _ 3 2 _ (omega arith) (some_if_here _ s 2 2 _ h (omega arith))
symbol_reaches (a ∷ (b ∷ (c ∷ []))) rest s h = some_if_here _ s 3 3 _ h (omega arith)
symbol_reaches (a ∷ (b ∷ (c ∷ (d ∷ w)))) rest s h = let bad : false ≡ true = symbols_short (a ∷ b ∷ c ∷ d ∷ w) s h in cc

-- ---- line ends

is_line_end : (b : ℕ) → ((b == 10) || (b == 13)) ≡ true → (b ≡ 10) ⊎ (b ≡ 13)
is_line_end b h = by (b == 10) refl h
  where
    by : (t : Bool) → (b == 10) ≡ t → (t || (b == 13)) ≡ true → (b ≡ 10) ⊎ (b ≡ 13)
    by true e h = inl (eqb-true b 10 e)
    by false e h = inr (eqb-true b 13 h)

abbrev FrontEnd : List ℕ → ℕ → Type 0
FrontEnd bs n = IsIn line_ends (take n bs) × (0 < n) × (n ≤ length bs)

one_end : (b : ℕ) (bs : List ℕ) → (b ≡ 10) ⊎ (b ≡ 13) → IsIn line_ends (b ∷ [])
one_end b bs h = ⊎_elim (λ e. inl (ap (λ x. x ∷ []) e)) (λ e. inr (inr (inl (ap (λ x. x ∷ []) e)))) h

line_end_front : (b : ℕ) (bs : List ℕ) → (b ≡ 10) ⊎ (b ≡ 13) → FrontEnd (b ∷ bs) (line_end_length (b ∷ bs))
line_end_front b [] h = (one_end b [] h, omega arith, omega arith)
line_end_front b (c ∷ bs) h = by ((b == 13) && (c == 10)) refl
  where
    by : (t : Bool) → ((b == 13) && (c == 10)) ≡ t → FrontEnd (b ∷ c ∷ bs) (if t then 2 else 1)
    by true e =
        let p = and_both (b == 13) (c == 10) e in
        let f : b ≡ 13 = eqb-true b 13 p.0 in
        let g : c ≡ 10 = eqb-true c 10 p.1 in
        (inr (inl (λ i. f i ∷ g i ∷ [])), omega arith, omega arith)
    by false e = (one_end b (c ∷ bs) h, omega arith, omega arith)

line_end_some : (bs : List ℕ) → 1 ≤ line_end_length bs
line_end_some [] = omega arith
line_end_some (b ∷ []) = omega arith
line_end_some (b ∷ (c ∷ bs)) = by ((b == 13) && (c == 10))
  where
    by : (t : Bool) → 1 ≤ (if t then 2 else 1)
    by true = omega arith
    by false = omega arith

line_end_reaches : (w rest : List ℕ) → IsIn line_ends w → length w ≤ line_end_length (w ++ rest)
line_end_reaches w rest h =
    ⊎_elim
    (λ e. let l = ap length e in let s = line_end_some (w ++ rest) in omega (arith, l, s))
    (λ g.
    ⊎_elim
    (λ e. let f : length w ≡ 2 = ap length e in let l : line_end_length (w ++ rest) ≡ 2 = ap (λ v. line_end_length (v ++ rest)) e in omega (arith, f, l))
    (λ g. ⊎_elim (λ e. let l = ap length e in let s = line_end_some (w ++ rest) in omega (arith, l, s)) (λ bad. absurd bad) g)
    g)
    h

-- ---- the first byte says the sort

-- the first byte is one of the sort
abbrev pub BeginsSort : Sort → List ℕ → Type 0
BeginsSort k [] = ⊥
BeginsSort k (b ∷ bs) = sort_of_byte b ≡ k

name_first : (b : ℕ) → begins_name b ≡ true → sort_of_byte b ≡ Name
name_first b h = if_true (begins_name b) Name _ h

digit_first : (b : ℕ) → is_digit b ≡ true → sort_of_byte b ≡ Int
digit_first b h =
    let n : begins_name b ≡ false = grind (arith, nat_tests) in if_false (begins_name b) Name _ n ∙ if_true (is_digit b) Int _ h

at_byte : (b c : ℕ) (k : Sort) → (b == c) ≡ true → sort_of_byte c ≡ k → sort_of_byte b ≡ k
at_byte b c k h e = ap sort_of_byte (eqb-true b c h) ∙ e

quote_first : (b : ℕ) → is_quote b ≡ true → sort_of_byte b ≡ Text
quote_first b h = by (b == 39) refl h
  where
    by : (t : Bool) → (b == 39) ≡ t → (t || (b == 34)) ≡ true → sort_of_byte b ≡ Text
    by true e h = at_byte b 39 Text e refl
    by false e h = at_byte b 34 Text h refl

is_operator_is : (k : Sort) → is_operator k ≡ true → k ≡ Operator
is_operator_is Operator h = refl
is_operator_is Name h = cc
is_operator_is Int h = cc
is_operator_is Text h = cc
is_operator_is Spaces h = cc
is_operator_is Tabs h = cc
is_operator_is Comment h = cc
is_operator_is LineEnd h = cc

operator_first : (w : List ℕ) → begins_operator w ≡ true → BeginsSort Operator w
operator_first [] h = let bad : false ≡ true = h in cc
operator_first (b ∷ w) h = is_operator_is (sort_of_byte b) h

end_first : (w : List ℕ) → IsIn line_ends w → BeginsSort LineEnd w
end_first w h = ⊎_elim (λ e. subst (BeginsSort LineEnd) (sym e) refl) (λ g. ⊎_elim (λ e. subst (BeginsSort LineEnd) (sym e) refl) (λ g. ⊎_elim (λ e. subst (BeginsSort LineEnd) (sym e) refl) (λ bad. absurd bad) g) g) h

-- ---- a word says what sort stands at the front

-- a byte that begins no name is no prefix
no_prefix : (b : ℕ) → (sort_of_byte b ≡ Name → ⊥) → is_prefix b ≡ false
no_prefix b differs = by (is_prefix b) refl
  where
    by : (t : Bool) → is_prefix b ≡ t → is_prefix b ≡ false
    by false e = e
    by true e = let n : begins_name b ≡ true = grind (arith, nat_tests) in absurd (differs (name_first b n))

-- no prefix of two letters begins with what is none of one
double_none : (p q r s u : Bool) → (r || (p || u)) ≡ false → ((p && q) || (r && s)) ≡ false
double_none p q true s u h = cc
double_none true q false s u h = cc
double_none false q false s u h = refl

no_double : (b c : ℕ) → is_prefix b ≡ false → is_double_prefix b c ≡ false
no_double b c h = double_none (is_of_bytes b) (is_raw c) (is_raw b) (is_of_bytes c) _ h

-- nor ends with what is no letter
ends_none : (p q r s : Bool) → q ≡ false → s ≡ false → ((p && q) || (r && s)) ≡ false
ends_none false q false s f g = refl
ends_none false q true s f g = g
ends_none true q false s f g = ap (λ t. t || false) f
ends_none true q true s f g = ap (λ t. t || s) f ∙ g

no_double_end : (b c : ℕ) → continues_name c ≡ false → is_double_prefix b c ≡ false
no_double_end b c h =
    let r : is_raw c ≡ false = grind (arith, nat_tests) in
    let s : is_of_bytes c ≡ false = grind (arith, nat_tests) in
    ends_none (is_of_bytes b) (is_raw c) (is_raw b) (is_of_bytes c) r s

quote_no_letter : (c : ℕ) → is_quote c ≡ true → continues_name c ≡ false
quote_no_letter c h = grind (arith, nat_tests)

-- the sort is that of the first byte, where it is no prefix
by_byte : (b : ℕ) (rest : List ℕ) → is_prefix b ≡ false → sort_at (b ∷ rest) ≡ sort_of_byte b
by_byte b rest e = ap (λ t. if t then Text else sort_of_byte b) (at_quote rest) ∙ own (is_quote b) refl
  where
    at_quote : (rest : List ℕ) → begins_quoted (unprefixed (b ∷ rest)) ≡ is_quote b
    at_quote [] = ap (λ t. begins_quoted (drop (if t then 1 else 0) (b ∷ []))) e
    at_quote (c ∷ rest) =
        ap (λ d. begins_quoted (drop (if d then 2 else (if is_prefix b then 1 else 0)) (b ∷ (c ∷ rest)))) (no_double b c e)
        ∙ ap (λ t. begins_quoted (drop (if t then 1 else 0) (b ∷ (c ∷ rest)))) e

    own : (t : Bool) → is_quote b ≡ t → (if t then Text else sort_of_byte b) ≡ sort_of_byte b
    own true f = sym (quote_first b f)
    own false f = refl

other_sort : (k : Sort) (w rest : List ℕ) → (k ≡ Name → ⊥) → BeginsSort k w → sort_at (w ++ rest) ≡ k
other_sort k [] rest differs h = absurd h
other_sort k (b ∷ w) rest differs h = by_byte b (w ++ rest) (no_prefix b (λ e. differs (sym h ∙ e))) ∙ h

quote_in_name : (c : ℕ) → continues_name c ≡ true → is_quote c ≡ false
quote_in_name c h = grind (arith, nat_tests)

not_true : (t : Bool) → not t ≡ true → t ≡ false
not_true false h = refl
not_true true h = cc

name_no_quote : (b : ℕ) → begins_name b ≡ true → is_quote b ≡ false
name_no_quote b h = grind (arith, nat_tests)

-- a name of one letter is followed by no more of it
abbrev IsWhole : List ℕ → List ℕ → Type 0
IsWhole (b ∷ []) (c ∷ rest) = continues_name c ≡ false
IsWhole _ _ = Unit {0}

name_sort : (w rest : List ℕ) → IsRun begins_name continues_name w → is_prefixing w rest ≡ false → IsWhole w rest → sort_at (w ++ rest) ≡ Name
name_sort [] rest h a z = absurd h
name_sort (b ∷ []) [] h a z = by (is_prefix b) ∙ name_first b h.0
  where
    by : (t : Bool) → (if begins_quoted (drop (if t then 1 else 0) (b ∷ [])) then Text else sort_of_byte b) ≡ sort_of_byte b
    by true = refl
    by false = if_false (is_quote b) Text _ (name_no_quote b h.0)
name_sort (b ∷ []) (c ∷ rest) h a z =
    ap (λ d. if begins_quoted (drop (if d then 2 else (if is_prefix b then 1 else 0)) (b ∷ (c ∷ rest))) then Text else sort_of_byte b) (no_double_end b c z)
    ∙ by (is_prefix b) a
    ∙ name_first b h.0
  where
    by : (t : Bool) → (t && is_quote c) ≡ false → (if begins_quoted (drop (if t then 1 else 0) (b ∷ (c ∷ rest))) then Text else sort_of_byte b) ≡ sort_of_byte b
    by true f = if_false (is_quote c) Text _ f
    by false f = if_false (is_quote b) Text _ (name_no_quote b h.0)
name_sort (b ∷ (c ∷ [])) [] h a z = by (is_double_prefix b c) (is_prefix b) ∙ name_first b h.0
  where
    by : (d t : Bool) → (if begins_quoted (drop (if d then 2 else (if t then 1 else 0)) (b ∷ (c ∷ []))) then Text else sort_of_byte b) ≡ sort_of_byte b
    by true t = refl
    by false true = if_false (is_quote c) Text _ (quote_in_name c h.1.0)
    by false false = if_false (is_quote b) Text _ (name_no_quote b h.0)
name_sort (b ∷ (c ∷ [])) (q ∷ rest) h a z = by (is_double_prefix b c) (is_prefix b) a ∙ name_first b h.0
  where
    by : (d t : Bool) → (d && is_quote q) ≡ false → (if begins_quoted (drop (if d then 2 else (if t then 1 else 0)) (b ∷ (c ∷ (q ∷ rest)))) then Text else sort_of_byte b) ≡ sort_of_byte b
    by true t f = if_false (is_quote q) Text _ f
    by false true f = if_false (is_quote c) Text _ (quote_in_name c h.1.0)
    by false false f = if_false (is_quote b) Text _ (name_no_quote b h.0)
name_sort (b ∷ (c ∷ (q ∷ w))) rest h a z = by (is_double_prefix b c) (is_prefix b) ∙ name_first b h.0
  where
    by : (d t : Bool) → (if begins_quoted (drop (if d then 2 else (if t then 1 else 0)) (b ∷ (c ∷ (q ∷ (w ++ rest))))) then Text else sort_of_byte b) ≡ sort_of_byte b
    by true t = if_false (is_quote q) Text _ (quote_in_name q h.1.1.0)
    by false true = if_false (is_quote c) Text _ (quote_in_name c h.1.0)
    by false false = if_false (is_quote b) Text _ (name_no_quote b h.0)

-- where a name is a prefix before a quote, a literal stands
prefixing_sort : (w rest : List ℕ) → is_prefixing w rest ≡ true → (sort_at (w ++ rest) ≡ Text) × (length w ≤ 2)
prefixing_sort [] rest h = cc
prefixing_sort (b ∷ []) [] h = cc
prefixing_sort (b ∷ []) (q ∷ rest) h =
    let p = and_both (is_prefix b) (is_quote q) h in (
      ap (λ d. if begins_quoted (drop (if d then 2 else (if is_prefix b then 1 else 0)) (b ∷ (q ∷ rest))) then Text else sort_of_byte b) (no_double_end b q (quote_no_letter q p.1))
          ∙ ap (λ t. if begins_quoted (drop (if t then 1 else 0) (b ∷ (q ∷ rest))) then Text else sort_of_byte b) p.0
          ∙ if_true (is_quote q) Text _ p.1,
      omega arith,
    )
prefixing_sort (b ∷ (c ∷ [])) [] h = cc
prefixing_sort (b ∷ (c ∷ [])) (q ∷ rest) h =
    let p = and_both (is_double_prefix b c) (is_quote q) h in (
      ap (λ d. if begins_quoted (drop (if d then 2 else (if is_prefix b then 1 else 0)) (b ∷ (c ∷ (q ∷ rest)))) then Text else sort_of_byte b) p.0
          ∙ if_true (is_quote q) Text _ p.1,
      omega arith,
    )
prefixing_sort (b ∷ (c ∷ (e ∷ w))) rest h = cc

-- a quote stands in front of a literal without prefix
quoted_first : (w : List ℕ) → is_quoted w ≡ true → BeginsSort Text w
quoted_first [] h = let bad : false ≡ true = h in cc
quoted_first (q ∷ w) h = quote_first q (and_both (is_quote q) _ h).0

quote_no_name : (q : ℕ) → is_quote q ≡ true → begins_name q ≡ false
quote_no_name q h = grind (arith, nat_tests)

quoted_at : (v rest : List ℕ) → is_quoted v ≡ true → begins_quoted (v ++ rest) ≡ true
quoted_at [] rest h = cc
quoted_at (q ∷ v) rest h = (and_both (is_quote q) _ h).0

text_sort : (w rest : List ℕ) → is_text w ≡ true → sort_at (w ++ rest) ≡ Text
text_sort [] rest h = let bad : false ≡ true = h in cc
text_sort (b ∷ w) rest h =
    if_true (begins_quoted (unprefixed (b ∷ (w ++ rest)))) Text _
    (ap begins_quoted (prefix_stays (b ∷ w) rest h).1 ∙ quoted_at (unprefixed (b ∷ w)) rest h)

-- a name that is a prefix before a quote is no word there, nor is a part of a name
abbrev Stands : Sort → List ℕ → List ℕ → Type 0
Stands Name w rest = (is_prefixing w rest ≡ false) × IsWhole w rest
Stands _ w rest = Unit {0}

pub sort_word : (k : Sort) (w rest : List ℕ) → IsWord k w → Stands k w rest → sort_at (w ++ rest) ≡ k
sort_word Name w rest h a = name_sort w rest h a.0 a.1
sort_word Text w rest h a = text_sort w rest h
sort_word Int [] rest h a = absurd h
sort_word Int (b ∷ w) rest h a = other_sort Int (b ∷ w) rest (λ e. cc) (digit_first b h.0)
sort_word Operator w rest h a = other_sort Operator w rest (λ e. cc) (operator_first w (symbols_begin w h.0 h.1))
sort_word Spaces [] rest h a = absurd h
sort_word Spaces (b ∷ w) rest h a = other_sort Spaces (b ∷ w) rest (λ e. cc) (at_byte b 32 Spaces h.0 refl)
sort_word Tabs [] rest h a = absurd h
sort_word Tabs (b ∷ w) rest h a = other_sort Tabs (b ∷ w) rest (λ e. cc) (at_byte b 9 Tabs h.0 refl)
sort_word Comment [] rest h a = absurd h
sort_word Comment (b ∷ w) rest h a = other_sort Comment (b ∷ w) rest (λ e. cc) (at_byte b 35 Comment h.0 refl)
sort_word LineEnd w rest h a = other_sort LineEnd w rest (λ e. cc) (end_first w h)

pub nonempty : (k : Sort) (w : List ℕ) → IsWord k w → 0 < length w
nonempty k (b ∷ w) h = omega arith
nonempty Name [] h = absurd h
nonempty Int [] h = absurd h
nonempty Text [] h = let bad : false ≡ true = h in cc
nonempty Operator [] h = absurd (operator_first [] (symbols_begin [] h.0 h.1))
nonempty Spaces [] h = absurd h
nonempty Tabs [] h = absurd h
nonempty Comment [] h = absurd h
nonempty LineEnd [] h = absurd (end_first [] h)

-- ---- the sort of a byte says what it is

abbrev sort_by : Bool → Bool → Bool → Bool → Bool → Bool → Bool → Sort
sort_by a b c d e f g =
    if a then Name else (if b then Int else (if c then Text else (if d then Spaces else (if e then Tabs else (if f then Comment else (if g then LineEnd else Operator))))))

abbrev Tested : Sort → Bool → Bool → Bool → Bool → Bool → Bool → Bool → Type 0
Tested Name a b c d e f g = a ≡ true
Tested Int a b c d e f g = b ≡ true
Tested Text a b c d e f g = c ≡ true
Tested Spaces a b c d e f g = d ≡ true
Tested Tabs a b c d e f g = e ≡ true
Tested Comment a b c d e f g = f ≡ true
Tested LineEnd a b c d e f g = g ≡ true
Tested Operator a b c d e f g = Unit {0}

tested : (a b c d e f g : Bool) → Tested (sort_by a b c d e f g) a b c d e f g
tested true b c d e f g = refl
tested false true c d e f g = refl
tested false false true d e f g = refl
tested false false false true e f g = refl
tested false false false false true f g = refl
tested false false false false false true g = refl
tested false false false false false false true = refl
tested false false false false false false false = tt

test_of : (k : Sort) (b : ℕ) → sort_of_byte b ≡ k → Tested k (begins_name b) (is_digit b) (is_quote b) (is_space b) (is_tab b) (is_hash b) ((b == 10) || (b == 13))
test_of k b h =
    subst (λ k. Tested k (begins_name b) (is_digit b) (is_quote b) (is_space b) (is_tab b) (is_hash b) ((b == 10) || (b == 13))) h
    (tested (begins_name b) (is_digit b) (is_quote b) (is_space b) (is_tab b) (is_hash b) ((b == 10) || (b == 13)))

-- ---- what is found is a word

-- the first byte says the sort, but of a literal
byte_of : (k : Sort) (b : ℕ) (bs : List ℕ) → (Text ≡ k → ⊥) → sort_at (b ∷ bs) ≡ k → sort_of_byte b ≡ k
byte_of k b bs differs h = by (begins_quoted (unprefixed (b ∷ bs))) h
  where
    by : (t : Bool) → (if t then Text else sort_of_byte b) ≡ k → sort_of_byte b ≡ k
    by true h = absurd (differs h)
    by false h = h

abbrev pub Front : Sort → List ℕ → ℕ → Type 0
Front k bs n = IsWord k (take n bs) × (0 < n) × (n ≤ length bs)

abbrev FrontRun : (ℕ → Bool) → (ℕ → Bool) → List ℕ → ℕ → Type 0
FrontRun first p bs n = IsRun first p (take n bs) × (0 < n) × (n ≤ length bs)

run_front : (first p : ℕ → Bool) (b : ℕ) (bs : List ℕ) (n : ℕ) → first b ≡ true → p b ≡ true → ◌≡◌ {A = Option ℕ} (Some (prefix_len p (b ∷ bs))) (Some n) → FrontRun first p (b ∷ bs) n
run_front first p b bs n f h e =
    let is : 1 + prefix_len p bs ≡ n = sym (if_true (p b) (1 + prefix_len p bs) 0 h) ∙ some_inj _ n e in
    subst (FrontRun first p (b ∷ bs)) is (subst (IsRun first p) (sym (take_one_more (prefix_len p bs) b bs)) (f, run_each p bs), omega arith, (let w = run_within p bs in omega (arith, w)))

hash_in : (b : ℕ) → is_hash b ≡ true → in_comment b ≡ true
hash_in b h = ap in_comment (eqb-true b 35 h)

digit_in : (b : ℕ) → is_digit b ≡ true → continues_name b ≡ true
digit_in b h = grind (arith, nat_tests)

pub front : (k : Sort) (b : ℕ) (bs : List ℕ) (n : ℕ) → sort_at (b ∷ bs) ≡ k → length_of k (b ∷ bs) ≡ Some n → Front k (b ∷ bs) n
front Name b bs n s h = let t = test_of Name b (byte_of Name b bs (λ e. cc) s) in run_front begins_name continues_name b bs n t (or_true (begins_name b) (is_digit b) t) h
front Int b bs n s h = let t = test_of Int b (byte_of Int b bs (λ e. cc) s) in run_front is_digit continues_name b bs n t (digit_in b t) h
front Spaces b bs n s h = let t = test_of Spaces b (byte_of Spaces b bs (λ e. cc) s) in run_front is_space is_space b bs n t t h
front Tabs b bs n s h = let t = test_of Tabs b (byte_of Tabs b bs (λ e. cc) s) in run_front is_tab is_tab b bs n t t h
front Comment b bs n s h = let t = test_of Comment b (byte_of Comment b bs (λ e. cc) s) in run_front is_hash in_comment b bs n t (hash_in b t) h
front Operator b bs n s h = symbol_front (b ∷ bs) n h
front LineEnd b bs n s h = subst (Front LineEnd (b ∷ bs)) (some_inj _ n h) (line_end_front b bs (is_line_end b (test_of LineEnd b (byte_of LineEnd b bs (λ e. cc) s))))
front Text b bs n s h = let r = text_is (b ∷ bs) n h in let l = r.1 in (r.0, omega (arith, l), r.2)

-- ---- a word at the front is found, or a longer one

run_reaches : (first p : ℕ → Bool) (w rest : List ℕ) → ((b : ℕ) → first b ≡ true → p b ≡ true) → IsRun first p w → length w ≤ prefix_len p (w ++ rest)
run_reaches first p [] rest i h = absurd h
run_reaches first p (b ∷ w) rest i h = run_most p (b ∷ w) rest (i b h.0, h.1)

-- after two quotes another may stand: then three open a longer literal, or none
abbrev Reaches : Sort → List ℕ → List ℕ → Type 0
Reaches Text w rest = (n : ℕ) → text_length (w ++ rest) ≡ Some n → length w ≤ n
Reaches k w rest = AtLeast (length_of k (w ++ rest)) (length w)

reaches : (k : Sort) (w rest : List ℕ) → IsWord k w → Reaches k w rest
reaches Name w rest h = (prefix_len continues_name (w ++ rest), refl, run_reaches begins_name continues_name w rest (λ b t. or_true (begins_name b) (is_digit b) t) h)
reaches Int w rest h = (prefix_len continues_name (w ++ rest), refl, run_reaches is_digit continues_name w rest digit_in h)
reaches Spaces w rest h = (prefix_len is_space (w ++ rest), refl, run_reaches is_space is_space w rest (λ b t. t) h)
reaches Tabs w rest h = (prefix_len is_tab (w ++ rest), refl, run_reaches is_tab is_tab w rest (λ b t. t) h)
reaches Comment w rest h = (prefix_len in_comment (w ++ rest), refl, run_reaches is_hash in_comment w rest hash_in h)
reaches Operator w rest h = symbol_reaches w rest h.0 h.1
reaches LineEnd w rest h = (line_end_length (w ++ rest), refl, line_end_reaches w rest h)
reaches Text w rest h = λ n e. text_reaches w rest n h e

-- no shorter one is found
no_shorter : (k : Sort) (w rest : List ℕ) (n : ℕ) → IsWord k w → length_of k (w ++ rest) ≡ Some n → length w ≤ n
no_shorter k w rest n h e = by k h (reaches k w rest h) e
  where
    least : (o : Option ℕ) → AtLeast o (length w) → o ≡ Some n → length w ≤ n
    least o r e = let s : r.0 ≡ n = some_inj r.0 n (sym r.1 ∙ e) in let l = r.2 in omega (arith, s, l)

    by : (k : Sort) → IsWord k w → Reaches k w rest → length_of k (w ++ rest) ≡ Some n → length w ≤ n
    by Text h r e = r n e
    by Name h r e = least (length_of Name (w ++ rest)) r e
    by Int h r e = least (length_of Int (w ++ rest)) r e
    by Operator h r e = least (length_of Operator (w ++ rest)) r e
    by Spaces h r e = least (length_of Spaces (w ++ rest)) r e
    by Tabs h r e = least (length_of Tabs (w ++ rest)) r e
    by Comment h r e = least (length_of Comment (w ++ rest)) r e
    by LineEnd h r e = least (length_of LineEnd (w ++ rest)) r e

-- one is found where the word may stand there
some_found : (k : Sort) (w rest : List ℕ) → IsWord k w → is_allowed k w rest ≡ true → AtLeast (length_of k (w ++ rest)) (length w)
some_found Text w rest h a = (length w, text_found w rest h (and_both (has_value w) _ a).1, omega arith)
some_found Name w rest h a = reaches Name w rest h
some_found Int w rest h a = reaches Int w rest h
some_found Operator w rest h a = reaches Operator w rest h
some_found Spaces w rest h a = reaches Spaces w rest h
some_found Tabs w rest h a = reaches Tabs w rest h
some_found Comment w rest h a = reaches Comment w rest h
some_found LineEnd w rest h a = reaches LineEnd w rest h

whole_name : (w rest : List ℕ) → IsRun begins_name continues_name w → IsLongest w rest → IsWhole w rest
whole_name [] rest h l = tt
whole_name (b ∷ []) [] h l = tt
whole_name (b ∷ []) (c ∷ rest) h l = by (continues_name c) refl
  where
    by : (t : Bool) → continues_name c ≡ t → continues_name c ≡ false
    by false e = e
    by true e = absurd (l (c ∷ []) rest Name (omega arith) refl (h.0, (e, tt)))
whole_name (b ∷ (c ∷ w)) rest h l = tt

stands : (k : Sort) (w rest : List ℕ) → IsWord k w → IsLongest w rest → is_allowed k w rest ≡ true → Stands k w rest
stands Name w rest h l a = (not_true (is_prefixing w rest) a, whole_name w rest h l)
stands Int w rest h l a = tt
stands Text w rest h l a = tt
stands Operator w rest h l a = tt
stands Spaces w rest h l a = tt
stands Tabs w rest h l a = tt
stands Comment w rest h l a = tt
stands LineEnd w rest h l a = tt

long_stands : (k : Sort) (w rest : List ℕ) → 1 < length w → is_prefixing w rest ≡ false → Stands k w rest
long_stands Name [] rest h f = absurd (omega (arith, h))
long_stands Name (b ∷ []) rest h f = absurd (omega (arith, h))
long_stands Name (b ∷ (c ∷ w)) rest h f = (f, tt)
long_stands Int w rest h f = tt
long_stands Text w rest h f = tt
long_stands Operator w rest h f = tt
long_stands Spaces w rest h f = tt
long_stands Tabs w rest h f = tt
long_stands Comment w rest h f = tt
long_stands LineEnd w rest h f = tt

-- ---- the word at the front

pub then_some : {A B : Type 0} (o : Option A) (f : A → Option B) (y : B) → then_read o f ≡ Some y → (x : A) × (o ≡ Some x) × (f x ≡ Some y)
then_some None f y h = cc
then_some (Some x) f y h = (x, refl, h)

cond_some : {A : Type 0} (t : Bool) (x y : A) → ◌≡◌ {A = Option A} (if t then Some x else None) (Some y) → (t ≡ true) × (x ≡ y)
cond_some true x y h = (refl, some_inj x y h)
cond_some false x y h = cc

pub take_append : (w rest : List ℕ) → take (length w) (w ++ rest) ≡ w
take_append [] [] = refl
take_append [] (b ∷ rest) = refl
take_append (b ∷ w) rest = ap (λ l. b ∷ l) (take_append w rest)

pub drop_append : (w rest : List ℕ) → drop (length w) (w ++ rest) ≡ rest
drop_append [] [] = refl
drop_append [] (b ∷ rest) = refl
drop_append (b ∷ w) rest = ap (λ l. l) (drop_append w rest)

pub split_at : (n : ℕ) (bs : List ℕ) → bs ≡ take n bs ++ drop n bs
split_at zero [] = refl
split_at zero (b ∷ bs) = refl
split_at (suc n) [] = refl
split_at (suc n) (b ∷ bs) = ap (λ l. b ∷ l) (split_at n bs)

pub take_length : (n : ℕ) (bs : List ℕ) → n ≤ length bs → length (take n bs) ≡ n
take_length zero [] h = refl
take_length zero (b ∷ bs) h = refl
take_length (suc n) [] h = absurd (omega (arith, h))
take_length (suc n) (b ∷ bs) h = ap suc (take_length n bs (omega (arith, h)))

-- a longer front
take_more : (w rest : List ℕ) (n : ℕ) → length w < n → n ≤ length (w ++ rest) → (more : List ℕ) × (after : List ℕ) × (take n (w ++ rest) ≡ w ++ more) × (rest ≡ more ++ after) × (0 < length more)
take_more [] rest n lt le = (take n rest, drop n rest, refl, split_at n rest, (let e = take_length n rest le in omega (arith, e, lt)))
take_more (b ∷ w) rest zero lt le = absurd (omega (arith, lt))
take_more (b ∷ w) rest (suc n) lt le =
    let r = take_more w rest n (omega (arith, lt)) (omega (arith, le)) in (r.0, r.1, ap (λ l. b ∷ l) r.2, r.3, r.4)

-- The longest word at the front.
pub record Longest (bs : List ℕ) (k : Sort) (n : ℕ) : Type 0 where
  pub word : IsWord k (take n bs)
  pub some : 0 < n
  pub within : n ≤ length bs
  pub longest : IsLongest (take n bs) (drop n bs)

-- The word at the front, and what it is to be that.
pub record Found (bs : List ℕ) (k : Sort) (n : ℕ) : Type 0 where
  pub word : IsWord k (take n bs)
  pub some : 0 < n
  pub within : n ≤ length bs
  pub longest : IsLongest (take n bs) (drop n bs)
  pub allowed : is_allowed k (take n bs) (drop n bs) ≡ true

append_length : (x y : List ℕ) → length (x ++ y) ≡ length x + length y
append_length [] y = omega arith
append_length (a ∷ x) y = let e = append_length x y in omega (arith, e)

longest_front : (k : Sort) (b : ℕ) (bs : List ℕ) (n : ℕ) → sort_at (b ∷ bs) ≡ k → length_of k (b ∷ bs) ≡ Some n → 0 < n → n ≤ length (b ∷ bs) → IsLongest (take n (b ∷ bs)) (drop n (b ∷ bs))
longest_front k b bs n s h some le more after j pos e w = by (is_prefixing (take n (b ∷ bs) ++ more) after) refl
  where
    whole : b ∷ bs ≡ (take n (b ∷ bs) ++ more) ++ after
    whole = split_at n (b ∷ bs) ∙ ap (λ l. take n (b ∷ bs) ++ l) e ∙ sym (append_assoc (take n (b ∷ bs)) more after)

    by : (t : Bool) → is_prefixing (take n (b ∷ bs) ++ more) after ≡ t → ⊥
    by true f =
        let l = append_length (take n (b ∷ bs)) more in
        let t = take_length n (b ∷ bs) le in
        let p = prefixing_sort (take n (b ∷ bs) ++ more) after f in
        let few = p.1 in
        let same : k ≡ Text = sym s ∙ ap sort_at whole ∙ p.0 in
        let two = (text_is (b ∷ bs) n (ap (λ x. length_of x (b ∷ bs)) (sym same) ∙ h)).1 in
        omega (arith, l, t, pos, few, two)
    by false f =
        let l = append_length (take n (b ∷ bs)) more in
        let t = take_length n (b ∷ bs) le in
        let same : j ≡ k = sym (sort_word j (take n (b ∷ bs) ++ more) after w (long_stands j (take n (b ∷ bs) ++ more) after (omega (arith, l, t, pos, some)) f)) ∙ sym (ap sort_at whole) ∙ s in
        let found : length_of j ((take n (b ∷ bs) ++ more) ++ after) ≡ Some n = ap (λ l. length_of j l) (sym whole) ∙ ap (λ x. length_of x (b ∷ bs)) same ∙ h in
        let r = no_shorter j (take n (b ∷ bs) ++ more) after n w found in
        omega (arith, l, t, pos, r)

pub longest_found : (bs : List ℕ) (k : Sort) (n : ℕ) → longest_at bs ≡ Some (k, n) → Longest bs k n
longest_found [] k n h = cc
longest_found (b ∷ bs) k n h =
    let r = then_some (length_of (sort_at (b ∷ bs)) (b ∷ bs)) _ (k, n) h in
    let f = front (sort_at (b ∷ bs)) b bs r.0 refl r.1 in
    let found : Longest (b ∷ bs) (sort_at (b ∷ bs)) r.0 = record { word = f.0; some = f.1; within = f.2; longest = longest_front (sort_at (b ∷ bs)) b bs r.0 refl r.1 f.1 f.2 } in
    subst (λ x. Longest (b ∷ bs) x.0 x.1) (some_inj (sort_at (b ∷ bs), r.0) (k, n) r.2) found

-- the longest word is the one at the front, where it may stand there
pub word_by : (bs front after : List ℕ) (k : Sort) (n : ℕ) (allowed : Bool) → longest_at bs ≡ Some (k, n) → front ≡ take n bs → after ≡ drop n bs → allowed ≡ is_allowed k front after
    → word_at bs ≡ (if allowed then Some (k, n) else None)
word_by [] front after k n allowed h e f is = cc
word_by (b ∷ bs) front after k n allowed h e f is =
    let r = then_some (length_of (sort_at (b ∷ bs)) (b ∷ bs)) _ (k, n) h in
    let found : (sort_at (b ∷ bs), r.0) ≡ (k, n) = some_inj (sort_at (b ∷ bs), r.0) (k, n) r.2 in
    ap (λ o. then_read o (if_allowed (sort_at (b ∷ bs)) (b ∷ bs))) r.1
    ∙ ap (λ (x : Sort × ℕ). if_allowed x.0 (b ∷ bs) x.1) found
    ∙ (λ i. if is_allowed k (sym e i) (sym f i) then Some (k, n) else None)
    ∙ ap (λ t. if t then Some (k, n) else None) (sym is)

pub word_found : (bs : List ℕ) (k : Sort) (n : ℕ) → word_at bs ≡ Some (k, n) → Found bs k n
word_found [] k n h = cc
word_found (b ∷ bs) k n h =
    let r = then_some (length_of (sort_at (b ∷ bs)) (b ∷ bs)) _ (k, n) h in
    let c = cond_some (is_allowed (sort_at (b ∷ bs)) (take r.0 (b ∷ bs)) (drop r.0 (b ∷ bs))) (sort_at (b ∷ bs), r.0) (k, n) r.2 in
    let f = front (sort_at (b ∷ bs)) b bs r.0 refl r.1 in
    let found : Found (b ∷ bs) (sort_at (b ∷ bs)) r.0 = record { word = f.0; some = f.1; within = f.2; longest = longest_front (sort_at (b ∷ bs)) b bs r.0 refl r.1 f.1 f.2; allowed = c.0 } in
    subst (λ x. Found (b ∷ bs) x.0 x.1) c.1 found

pub word_only : (w rest : List ℕ) (k : Sort) → IsWord k w → IsLongest w rest → is_allowed k w rest ≡ true → word_at (w ++ rest) ≡ Some (k, length w)
word_only [] rest k h l a = absurd (let some = nonempty k [] h in omega (arith, some))
word_only (b ∷ w) rest k h l a =
    let s : sort_at (b ∷ (w ++ rest)) ≡ k = sort_word k (b ∷ w) rest h (stands k (b ∷ w) rest h l a) in
    let r = some_found k (b ∷ w) rest h a in
    let f = front k b (w ++ rest) r.0 s r.1 in
    let is : r.0 ≡ length (b ∷ w) = ⊎_elim
    (λ le. omega (arith, le, r.2))
    (λ lt. let m = take_more (b ∷ w) rest r.0 lt f.2 in absurd (l m.0 m.1 k m.4 m.3 (subst (IsWord k) m.2 f.0)))
    (le_or r.0 (length (b ∷ w)) (nat_le r.0 (length (b ∷ w))) refl) in
    let here : is_allowed k (take (length (b ∷ w)) (b ∷ (w ++ rest))) (drop (length (b ∷ w)) (b ∷ (w ++ rest))) ≡ true =
    ap (λ v. is_allowed k v (drop (length (b ∷ w)) (b ∷ (w ++ rest)))) (take_append (b ∷ w) rest) ∙ ap (is_allowed k (b ∷ w)) (drop_append (b ∷ w) rest) ∙ a in
    let at_k : then_read (length_of k (b ∷ (w ++ rest))) (if_allowed k (b ∷ (w ++ rest))) ≡ Some (k, length (b ∷ w)) =
    ap (λ o. then_read o (if_allowed k (b ∷ (w ++ rest)))) (r.1 ∙ ap (λ n. Some n) is)
    ∙ if_true (is_allowed k (take (length (b ∷ w)) (b ∷ (w ++ rest))) (drop (length (b ∷ w)) (b ∷ (w ++ rest)))) (Some (k, length (b ∷ w))) None here in
    subst (λ j. then_read (length_of j (b ∷ (w ++ rest))) (if_allowed j (b ∷ (w ++ rest))) ≡ Some (k, length (b ∷ w))) (sym s) at_k
  where
    le_or : (a b : ℕ) → (t : Bool) → nat_le a b ≡ t → (a ≤ b) ⊎ (b < a)
    le_or a b true e = inl (grind (arith, nat_tests))
    le_or a b false e = inr (grind (arith, nat_tests))
