-- The worked cases compute.
use Rattle.std.proofs.Common.{◌≡◌, ◌≢◌, ℕ, ◌+◌, ◌<◌, ◌≤◌, ◌^◌, List, [], ◌∷◌, ◌++◌, length, refl, ap, ◌∙◌, arith, inl, inr}
use Rattle.std.specs.Prelude.{codes}
use Rattle.std.specs.Fmt.{decimal, digits}
use Rattle.std.specs.Str.Parse.{digits_value}
use Rattle.std.proofs.lemmas.Fmt.{decimal_injective, decimal_digit, digits_value-decimal}
use Rattle.std.proofs.lemmas.List.{append_cancel_left}
use Rattle.si_schedule.specs.Schedules.{version_line, interpreters_line, count_line, end_line}
use Rattle.si_schedule.specs.BadLines.{IsBadLine}
use Rattle.si_schedule.specs.inner.Reading.{HasRead}
use Rattle.si_schedule.specs.Worked.{WorkedCases, eight}
use Rattle.si_schedule.proofs.Numbers.{own, canonical_of}
use Rattle.si_schedule.proofs.Lines.{interpreters_word, count_word, has_feed, line_test, Reading}
use Rattle.si_schedule.proofs.Schedules.{version_reading, interpreters_reading}
use Rattle.si_schedule.proofs.BadLines.{no_version, no_interpreters, no_count, no_caller, no_end, goes_on}

-- numbers that are not written so
not_wide : (w : ℕ) → w ≤ 64 → interpreters_word ++ decimal 65 ≢ interpreters_line w
not_wide w m e =
    let k : 65 ≡ w = decimal_injective 65 w (omega arith) (omega arith) (append_cancel_left {A = ℕ} interpreters_word (decimal 65) (decimal w) e) in
    omega arith

no_zero : (n : ℕ) → n < 2 ^ 64 → count_word ++ codes "01" ≢ count_line n
no_zero n lt e =
    let c = canonical_of (codes "01") n lt (append_cancel_left {A = ℕ} count_word (codes "01") (decimal n) e) in
    let k : ◌≡◌ {A = ℕ} 2 1 = c.2 refl in
    omega arith

not_held : (n : ℕ) → n < 2 ^ 64 → count_word ++ codes "18446744073709551616" ≢ count_line n
not_held n lt e =
    let f = append_cancel_left {A = ℕ} count_word (codes "18446744073709551616") (decimal n) e in
    let k : 18446744073709551616 ≡ n = ap (digits_value 10) f ∙ digits_value-decimal own n lt in
    omega arith

not_eight : (i : ℕ) → i < 8 → codes "8" ≢ decimal i
not_eight i lt e =
    let f : codes "8" ≡ (48 + i) ∷ [] = e ∙ decimal_digit i (omega arith) in
    let k : 56 ≡ 48 + i = cc f in
    omega arith

not_end : (i : ℕ) → i < 8 → end_line ≢ decimal i
not_end i lt e =
    let f : codes "end" ≡ (48 + i) ∷ [] = e ∙ decimal_digit i (omega arith) in
    let k : ◌≡◌ {A = ℕ} 3 1 = ap (λ (l : List ℕ). length l) f in
    omega arith

-- how far the texts were read
abbrev at_first : List ℕ → List ℕ
at_first left = version_line ++ 10 ∷ left

read_version : (left : List ℕ) → Reading (at_first left) (version_line ∷ []) left
read_version left = version_reading (at_first left) left refl

read_interpreters : (left : List ℕ) → Reading (eight left) (version_line ∷ interpreters_line 8 ∷ []) left
unfolding digits
read_interpreters left = interpreters_reading (eight left) (interpreters_line 8 ++ 10 ∷ left) left 8 (omega arith) (omega arith) (read_version (interpreters_line 8 ++ 10 ∷ left)) refl

-- how they go on after a line
abbrev with_line : List ℕ → List ℕ → List ℕ
with_line line after = line ++ 10 ∷ after

is_65 : IsBadLine (at_first (with_line (codes "interpreters 65") (codes "turns 0\nend\n"))) 2
unfolding digits has_feed
is_65 =
    let left = with_line (codes "interpreters 65") (codes "turns 0\nend\n") in
    no_interpreters (at_first left) left (read_version left) (inr (codes "interpreters 65", codes "turns 0\nend\n", refl, line_test (codes "interpreters 65") refl, λ w l m. not_wide w m))

not_ended : IsBadLine (at_first (codes "interpreters 8")) 2
unfolding has_feed
not_ended =
    let left = codes "interpreters 8" in
    no_interpreters (at_first left) left (read_version left) (inl (line_test left refl))

leads_zero : IsBadLine (eight (with_line (codes "turns 01") (codes "0\nend\n"))) 3
unfolding has_feed
leads_zero =
    let left = with_line (codes "turns 01") (codes "0\nend\n") in
    no_count (eight left) left 8 (read_interpreters left) (inr (codes "turns 01", codes "0\nend\n", refl, line_test (codes "turns 01") refl, no_zero))

past_64 : IsBadLine (eight (with_line (codes "turns 18446744073709551616") (codes "end\n"))) 3
unfolding has_feed
past_64 =
    let line = codes "turns 18446744073709551616" in
    let left = with_line line (codes "end\n") in
    no_count (eight left) left 8 (read_interpreters left) (inr (line, codes "end\n", refl, line_test line refl, not_held))

has_read : (left : List ℕ) → HasRead (eight (with_line (codes "turns 1") left)) 8 1 [] left
unfolding digits
has_read left = record { least = omega arith; most = omega arith; bound = omega arith; each = tt; few = omega arith; split = refl }

not_below : IsBadLine (eight (with_line (codes "turns 1") (with_line (codes "8") (codes "end\n")))) 4
unfolding has_feed
not_below =
    let left = with_line (codes "8") (codes "end\n") in
    no_caller (eight (with_line (codes "turns 1") left)) 8 1 [] left 4 (has_read left) (omega arith) (inr (codes "8", codes "end\n", refl, line_test (codes "8") refl, not_eight)) refl

has_most : (left : List ℕ) → HasRead (eight (codes "turns 18446744073709551615\n0\n" ++ left)) 8 18446744073709551615 (0 ∷ []) left
unfolding digits
has_most left = record { least = omega arith; most = omega arith; bound = omega arith; each = ((let k : 0 < 8 = omega arith in k), tt); few = (let k : 1 ≤ 18446744073709551615 = omega arith in k); split = refl }

few : IsBadLine (eight (codes "turns 18446744073709551615\n0\n" ++ codes "end\n")) 5
unfolding has_feed
few =
    let left = codes "end\n" in
    no_caller (eight (codes "turns 18446744073709551615\n0\n" ++ left)) 8 18446744073709551615 (0 ∷ []) left 5 (has_most left) (let k : 1 < 18446744073709551615 = omega arith in k) (inr (codes "end", [], refl, line_test (codes "end") refl, not_end)) refl

has_two : (left : List ℕ) → HasRead (eight (codes "turns 2\n0\n0\n" ++ left)) 8 2 (0 ∷ 0 ∷ []) left
unfolding digits
has_two left = record { least = omega arith; most = omega arith; bound = omega arith; each = ((let k : 0 < 8 = omega arith in k), ((let k : 0 < 8 = omega arith in k), tt)); few = (let k : 2 ≤ 2 = omega arith in k); split = refl }

many : IsBadLine (eight (codes "turns 2\n0\n0\n" ++ codes "0\nend\n")) 6
unfolding has_feed
many =
    let left = codes "0\nend\n" in
    no_end (eight (codes "turns 2\n0\n0\n" ++ left)) 8 2 (0 ∷ 0 ∷ []) left 6 (has_two left) refl (inr (codes "0", codes "end\n", refl, line_test (codes "0") refl, λ e. let k : ◌≡◌ {A = ℕ} 1 3 = ap (λ (l : List ℕ). length l) e in omega arith)) refl

none_left : IsBadLine (eight (codes "turns 2\n0\n0\n" ++ [])) 6
none_left = no_end (eight (codes "turns 2\n0\n0\n" ++ [])) 8 2 (0 ∷ 0 ∷ []) [] 6 (has_two []) refl (inl tt) refl

has_none : (left : List ℕ) → HasRead (eight (codes "turns 0\n" ++ left)) 8 0 [] left
unfolding digits
has_none left = record { least = omega arith; most = omega arith; bound = omega arith; each = tt; few = omega arith; split = refl }

more : IsBadLine (eight (codes "turns 0\n" ++ codes "end\nx")) 5
more = goes_on (eight (codes "turns 0\n" ++ codes "end\nx")) 8 0 [] (codes "end\nx") (codes "x") 5 (has_none (codes "end\nx")) refl refl (λ e. cc e) refl

returned : IsBadLine (with_line (codes "schedule 1\r") (codes "interpreters 8\nturns 0\nend\n")) 1
unfolding has_feed
returned =
    let line = codes "schedule 1\r" in
    let after = codes "interpreters 8\nturns 0\nend\n" in
    no_version (with_line line after) (inr (line, after, refl, line_test line refl, λ e. let k : ◌≡◌ {A = ℕ} 11 10 = ap (λ (l : List ℕ). length l) e in omega arith))

pub worked : WorkedCases
unfolding digits
worked = record {
  three_callers = refl;
  no_callers = refl;
  two_digits = refl;
  nothing = no_version [] (inl tt);
  carriage_return = returned;
  not_ended = not_ended;
  sixty_five = is_65;
  leading_zero = leads_zero;
  past_64_bits = past_64;
  not_below_8 = not_below;
  too_few = few;
  too_many = many;
  cut = none_left;
  after_the_end = more;
}
