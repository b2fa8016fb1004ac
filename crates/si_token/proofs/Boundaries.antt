-- A word ends beside an ASCII byte, so no character is split there.
use Rattle.std.proofs.Common.{◌≡◌, ℕ, zero, suc, ◌+◌, ◌<◌, ◌≤◌, List, [], ◌∷◌, ◌++◌, ⊎_elim, length, take, drop, get_or, Bool, true, false, refl, sym, ap, subst, arith, IsUtf8, Some, ◌∙◌}
use Rattle.std.specs.Prelude.{◌||◌, ◌&&◌, ◌==◌, not, nat_lt, if◌then◌else◌}
use Rattle.std.specs.Str.{IsCharBoundary}
use Rattle.std.proofs.lemmas.Str.{IsCharBoundary-end, IsCharBoundary-before_ascii, IsCharBoundary-after_ascii}
use Rattle.std.proofs.lemmas.Bool.Decides.{nat_tests}
use Rattle.std.proofs.lemmas.Bool.{eqb-true}
use Rattle.std.proofs.Math.Seq.{drop-cons}
use Rattle.std.proofs.str.Laws.{order}
use Rattle.si_semantics.specs.Tokens.{Symbol}
use Rattle.si_semantics.specs.Literals.{is_quote, is_prefix, is_double_prefix}
use Rattle.si_semantics.specs.Words.{Sort, Name, Int, Text, Operator, Spaces, Tabs, Comment, LineEnd, is_digit, begins_name, continues_name, is_space, is_tab, is_hash, in_comment, is_plain, is_body, is_escaped, is_quoted, is_text, spelled, symbols, line_ends, each, IsRun, IsIn, IsWord}
use Rattle.si_token.proofs.Texts.{and_both, drop_none}
use Rattle.si_token.proofs.Runs.{Longest, spelled_test}

-- the last byte, or 0
abbrev last : List ℕ → ℕ
last [] = 0
last (b ∷ []) = b
last (b ∷ (c ∷ w)) = last (c ∷ w)

each_last : (p : ℕ → Bool) → ((b : ℕ) → p b ≡ true → b < 128) → (w : List ℕ) → each p w → last w < 128
each_last p small [] h = omega arith
each_last p small (b ∷ []) h = small b h.0
each_last p small (b ∷ (c ∷ w)) h = each_last p small (c ∷ w) h.1

run_last : (first p : ℕ → Bool) → ((b : ℕ) → p b ≡ true → b < 128) → ((b : ℕ) → first b ≡ true → p b ≡ true) → (w : List ℕ) → IsRun first p w → last w < 128
run_last first p small is [] h = absurd h
run_last first p small is (b ∷ w) h = each_last p small (b ∷ w) (is b h.0, h.1)

small_name : (b : ℕ) → continues_name b ≡ true → b < 128
small_name b h = grind (arith, nat_tests)

digit_in : (b : ℕ) → is_digit b ≡ true → continues_name b ≡ true
digit_in b h = grind (arith, nat_tests)

small_space : (b : ℕ) → is_space b ≡ true → b < 128
small_space b h = grind (arith, nat_tests)

small_tab : (b : ℕ) → is_tab b ≡ true → b < 128
small_tab b h = grind (arith, nat_tests)

small_quote : (b : ℕ) → is_quote b ≡ true → b < 128
small_quote b h = grind (arith, nat_tests)

small_end : (b : ℕ) → in_comment b ≡ false → b < 128
small_end b h = grind (arith, nat_tests)

name_in : (b : ℕ) → begins_name b ≡ true → continues_name b ≡ true
name_in b h = ap (λ x. x || is_digit b) h

-- a body ends in its quote
body_last : (count q : ℕ) → (0 == count) ≡ false → (w : List ℕ) → ((row : ℕ) (joins : Bool) → 0 < length w → is_body count q row joins w ≡ true → last w ≡ q) × (is_escaped count q w ≡ true → last w ≡ q)
body_last count q none [] = (λ row joins pos h. absurd (omega (arith, pos)), λ h. let bad : false ≡ true = h in cc)
body_last count q none (b ∷ []) =
    (λ row joins pos h. one row (row == count) (b == q) (b == 92) (is_plain count b || (joins && (b == 10))) refl h, λ h. let bad = sym none ∙ (and_both (not (b == 0)) (0 == count) h).1 in cc)
  where
    one : (row : ℕ) (over closes escapes stands : Bool) → (b == q) ≡ closes → (not over && (if closes then row + 1 == count else (if escapes then false else stands && (0 == count)))) ≡ true → b ≡ q
    one row true closes escapes stands e h = cc
    one row false true escapes stands e h = eqb-true b q e
    one row false false true stands e h = cc
    one row false false false true e h = let bad = sym none ∙ h in cc
    one row false false false false e h = cc
body_last count q none (b ∷ (c ∷ w)) =
    let go = body_last count q none (c ∷ w) in
    let pos : 0 < length (c ∷ w) = omega arith in (
      λ row joins some h. more row (row == count) (b == q) (b == 92) (is_plain count b || (joins && (b == 10))) (λ row. go.0 row false pos) go.1 h,
      λ h. go.0 0 (b == 13) pos (and_both (not (b == 0)) _ h).1,
    )
  where
    more : (row : ℕ) (over closes escapes stands : Bool) → ((row : ℕ) → is_body count q row false (c ∷ w) ≡ true → last (c ∷ w) ≡ q) → (is_escaped count q (c ∷ w) ≡ true → last (c ∷ w) ≡ q)
        → (not over && (if closes then is_body count q (row + 1) false (c ∷ w) else (if escapes then is_escaped count q (c ∷ w) else stands && is_body count q 0 false (c ∷ w)))) ≡ true → last (c ∷ w) ≡ q
    more row true closes escapes stands go after h = cc
    more row false true escapes stands go after h = go (row + 1) h
    more row false false true stands go after h = after h
    more row false false false true go after h = go 0 h
    more row false false false false go after h = cc

quoted_last : (w : List ℕ) → is_quoted w ≡ true → last w < 128
quoted_last [] h = let bad : false ≡ true = h in cc
quoted_last (q ∷ []) h = let bad : false ≡ true = (and_both (is_quote q) false h).1 in cc
quoted_last (q ∷ (a ∷ [])) h =
    let p = and_both (is_quote q) (is_body 1 q 0 false (a ∷ [])) h in
    let l = (body_last 1 q refl (a ∷ [])).0 0 false (omega arith) p.1 in let s = small_quote q p.0 in omega (arith, l, s)
quoted_last (q ∷ (a ∷ (b ∷ v))) h = by ((q == a) && (a == b)) h
  where
    three : (v : List ℕ) → is_quote q ≡ true → is_body 3 q 0 false v ≡ true → last (q ∷ a ∷ b ∷ v) < 128
    three [] i h = let bad : false ≡ true = h in cc
    three (c ∷ v) i h = let l = (body_last 3 q refl (c ∷ v)).0 0 false (omega arith) h in let s = small_quote q i in omega (arith, l, s)

    by : (t : Bool) → (is_quote q && is_body (if t then 3 else 1) q 0 false (drop (if t then 3 else 1) (q ∷ a ∷ b ∷ v))) ≡ true → last (q ∷ a ∷ b ∷ v) < 128
    by true h = let p = and_both (is_quote q) _ h in three v p.0 (sym (ap (is_body 3 q 0 false) (drop_none v)) ∙ p.1)
    by false h =
        let p = and_both (is_quote q) (is_body 1 q 0 false (a ∷ b ∷ v)) h in
        let l = (body_last 1 q refl (a ∷ b ∷ v)).0 0 false (omega arith) p.1 in let s = small_quote q p.0 in omega (arith, l, s)

text_last : (w : List ℕ) → is_text w ≡ true → last w < 128
text_last [] h = let bad : false ≡ true = h in cc
text_last (b ∷ []) h = by (is_prefix b) h
  where
    by : (t : Bool) → is_quoted (drop (if t then 1 else 0) (b ∷ [])) ≡ true → last (b ∷ []) < 128
    by true h = let bad : false ≡ true = h in cc
    by false h = quoted_last (b ∷ []) h
text_last (b ∷ (c ∷ w)) h = by (is_double_prefix b c) (is_prefix b) h
  where
    after : (w : List ℕ) → is_quoted w ≡ true → last (b ∷ (c ∷ w)) < 128
    after [] h = let bad : false ≡ true = h in cc
    after (a ∷ w) h = quoted_last (a ∷ w) h

    by : (d t : Bool) → is_quoted (drop (if d then 2 else (if t then 1 else 0)) (b ∷ (c ∷ w))) ≡ true → last (b ∷ (c ∷ w)) < 128
    by true t h = after w h
    by false true h = quoted_last (c ∷ w) h
    by false false h = quoted_last (b ∷ (c ∷ w)) h

abbrev ends_small : List ℕ → Bool
ends_small w = nat_lt (last w) 128

symbol_last : (w : List ℕ) (s : Symbol) → spelled symbols w ≡ Some s → last w < 128
unfolding symbols
symbol_last w s h = let t = spelled_test ends_small symbols refl w s h in from_test (last w) t
  where
    from_test : (n : ℕ) → nat_lt n 128 ≡ true → n < 128
    from_test n h = grind (arith, nat_tests)

end_last : (w : List ℕ) → IsIn line_ends w → last w < 128
end_last w h = ⊎_elim (λ e. at w (10 ∷ []) e (omega arith)) (λ g. ⊎_elim (λ e. at w (13 ∷ 10 ∷ []) e (omega arith)) (λ g. ⊎_elim (λ e. at w (13 ∷ []) e (omega arith)) (λ bad. absurd bad) g) g) h
  where
    at : (w v : List ℕ) → w ≡ v → last v < 128 → last w < 128
    at w v e h = subst (λ x. last x < 128) (sym e) h

abbrev no_comment : Sort → Type 0
no_comment Comment = ⊥
no_comment _ = Unit {0}

word_last : (k : Sort) (w : List ℕ) → no_comment k → IsWord k w → last w < 128
word_last Name w u h = run_last begins_name continues_name small_name name_in w h
word_last Int w u h = run_last is_digit continues_name small_name digit_in w h
word_last Text w u h = text_last w h
word_last Operator w u h = symbol_last w h.0 h.1
word_last Spaces w u h = run_last is_space is_space small_space (λ b e. e) w h
word_last Tabs w u h = run_last is_tab is_tab small_tab (λ b e. e) w h
word_last Comment w u h = absurd u
word_last LineEnd w u h = end_last w h

-- the last of the first n
last_take : (n : ℕ) (bs : List ℕ) → n < length bs → last (take (suc n) bs) ≡ get_or bs n 0
last_take n [] h = absurd (omega (arith, h))
last_take zero (b ∷ []) h = refl
last_take zero (b ∷ (c ∷ bs)) h = refl
last_take (suc n) (b ∷ []) h = absurd (omega (arith, h))
last_take (suc n) (b ∷ (c ∷ bs)) h = last_take n (c ∷ bs) (omega (arith, h))

cut_last : (bs : List ℕ) (n : ℕ) → IsUtf8 bs → 0 < n → n ≤ length bs → last (take n bs) < 128 → IsCharBoundary bs n
cut_last bs zero u pos le h = absurd (omega (arith, pos))
cut_last bs (suc n) u pos le h =
    let l = last_take n bs (omega (arith, le)) in
    let next : n + 1 ≡ suc n = omega arith in
    subst (IsCharBoundary bs) next (IsCharBoundary-after_ascii bs n u (omega (arith, le)) (omega (arith, l, h)))

-- a comment and one byte more
longer : (first p : ℕ → Bool) (b : ℕ) (w : List ℕ) → p b ≡ true → IsRun first p w → IsRun first p (w ++ b ∷ [])
longer first p b [] t h = absurd h
longer first p b (c ∷ w) t h = (h.0, all w h.1)
  where
    all : (w : List ℕ) → each p w → each p (w ++ b ∷ [])
    all [] h = (t, tt)
    all (c ∷ w) h = (h.0, all w h.1)

comment_ends : (bs : List ℕ) (n : ℕ) → Longest bs Comment n → n < length bs → get_or bs n 0 < 128
comment_ends bs n f lt = by (in_comment (get_or bs n 0)) refl
  where
    by : (t : Bool) → in_comment (get_or bs n 0) ≡ t → get_or bs n 0 < 128
    by false e = small_end (get_or bs n 0) e
    by true e = absurd (f.longest (get_or bs n 0 ∷ []) (drop (suc n) bs) Comment (omega arith) (drop-cons bs n 0 lt) (longer is_hash in_comment (get_or bs n 0) (take n bs) e f.word))

pub cut_at : (bs : List ℕ) (k : Sort) (n : ℕ) → IsUtf8 bs → Longest bs k n → IsCharBoundary bs n
cut_at bs Name n u f = cut_last bs n u f.some f.within (word_last Name (take n bs) tt f.word)
cut_at bs Int n u f = cut_last bs n u f.some f.within (word_last Int (take n bs) tt f.word)
cut_at bs Text n u f = cut_last bs n u f.some f.within (word_last Text (take n bs) tt f.word)
cut_at bs Operator n u f = cut_last bs n u f.some f.within (word_last Operator (take n bs) tt f.word)
cut_at bs Spaces n u f = cut_last bs n u f.some f.within (word_last Spaces (take n bs) tt f.word)
cut_at bs Tabs n u f = cut_last bs n u f.some f.within (word_last Tabs (take n bs) tt f.word)
cut_at bs LineEnd n u f = cut_last bs n u f.some f.within (word_last LineEnd (take n bs) tt f.word)
cut_at bs Comment n u f =
    ⊎_elim
    (λ lt. IsCharBoundary-before_ascii bs n lt (comment_ends bs n f lt))
    (λ le. let e : length bs ≡ n = let w = f.within in omega (arith, le, w) in subst (IsCharBoundary bs) e (IsCharBoundary-end bs))
    (order n (length bs))
