-- The length of a literal: what is found at the front is a literal, and a literal at the front is found.
use Rattle.std.proofs.Common.{◌≡◌, ℕ, zero, suc, ◌+◌, ◌<◌, ◌≤◌, List, [], ◌∷◌, ◌++◌, length, take, drop, Bool, true, false, refl, sym, ap, ◌∙◌, subst, arith, Option, Some, None}
use Rattle.std.specs.Prelude.{◌||◌, ◌&&◌, ◌==◌, not, if◌then◌else◌}
use Rattle.std.proofs.lemmas.Bool.Decides.{nat_tests}
use Rattle.si_semantics.specs.Literals.{is_quote, is_prefix, is_double_prefix, prefix_at, unprefixed, quotes_at}
use Rattle.si_semantics.specs.Words.{is_plain, is_body, is_escaped, is_quoted, is_text, is_closed}
use Rattle.si_token.specs.inner.Reading.{add_one, plus, body_length, escaped_length, quoted_length, text_length}

-- ---- tests

pub if_true : {A : Type 0} (b : Bool) (x y : A) → b ≡ true → (if b then x else y) ≡ x
if_true true x y h = refl
if_true false x y h = cc

pub if_false : {A : Type 0} (b : Bool) (x y : A) → b ≡ false → (if b then x else y) ≡ y
if_false false x y h = refl
if_false true x y h = cc

pub and_both : (p q : Bool) → (p && q) ≡ true → (p ≡ true) × (q ≡ true)
and_both true q h = (refl, h)
and_both false q h = cc

pub some_inj : {A : Type 0} (x y : A) → ◌≡◌ {A = Option A} (Some x) (Some y) → x ≡ y
some_inj x y h = cc

-- what add_one comes from
from_add_one : (o : Option ℕ) (n : ℕ) → add_one o ≡ Some n → (m : ℕ) × (o ≡ Some m) × (n ≡ suc m)
from_add_one None n h = cc
from_add_one (Some m) n h = (m, refl, let e : suc m ≡ n = cc in sym e)

-- ---- the body

-- enough closed quotes stand before
pub body_over : (count quote row : ℕ) (joins : Bool) (bs : List ℕ) → (row == count) ≡ true → body_length count quote row joins bs ≡ Some 0
body_over count quote row joins [] h = if_true (row == count) (Some 0) None h
body_over count quote row joins (b ∷ bs) h = if_true (row == count) (Some 0) _ h

-- a length of a body that begins with a byte, by what the byte is
abbrev turn : ℕ → ℕ → ℕ → ℕ → List ℕ → Bool → Bool → Bool → Option ℕ
turn count quote row b bs closes escapes stands =
    if closes then add_one (body_length count quote (row + 1) false bs)
    else (if escapes then add_one (escaped_length count quote bs)
    else (if stands then add_one (body_length count quote 0 false bs) else None))

abbrev is_turn : ℕ → ℕ → ℕ → ℕ → List ℕ → Bool → Bool → Bool → Bool
is_turn count quote row b bs closes escapes stands =
    if closes then is_body count quote (row + 1) false bs else (if escapes then is_escaped count quote bs else stands && is_body count quote 0 false bs)

found_turn : (count quote row b : ℕ) (w rest : List ℕ) (over closes escapes stands : Bool) → ((row : ℕ) → is_body count quote row false w ≡ true → body_length count quote row false (w ++ rest) ≡ Some (length w))
    → (is_escaped count quote w ≡ true → escaped_length count quote (w ++ rest) ≡ Some (length w)) → (not over && is_turn count quote row b w closes escapes stands) ≡ true
    → (if over then Some 0 else turn count quote row b (w ++ rest) closes escapes stands) ≡ Some (suc (length w))
found_turn count quote row b w rest true closes escapes stands go after h = cc
found_turn count quote row b w rest false true escapes stands go after h = ap add_one (go (row + 1) h)
found_turn count quote row b w rest false false true stands go after h = ap add_one (after h)
found_turn count quote row b w rest false false false true go after h = ap add_one (go 0 h)
found_turn count quote row b w rest false false false false go after h = cc

found_escaped : (o : Option ℕ) (n : ℕ) (nul is : Bool) → (is ≡ true → o ≡ Some n) → (not nul && is) ≡ true → (if nul then None else add_one o) ≡ Some (suc n)
found_escaped o n true is go h = cc
found_escaped o n false is go h = ap add_one (go h)

-- a body at the front is what is found, whatever follows it
body_found : (count quote : ℕ) (w rest : List ℕ)
    → ((row : ℕ) (joins : Bool) → is_body count quote row joins w ≡ true → body_length count quote row joins (w ++ rest) ≡ Some (length w)) × (is_escaped count quote w ≡ true → escaped_length count quote (w ++ rest) ≡ Some (length w))
body_found count quote [] rest = (λ row joins h. body_over count quote row joins rest h, λ h. let bad : false ≡ true = h in cc)
body_found count quote (b ∷ w) rest =
    let go = body_found count quote w rest in (
      λ row joins h. found_turn count quote row b w rest (row == count) (b == quote) (b == 92) (is_plain count b || (joins && (b == 10))) (λ row. go.0 row false) go.1 h,
      λ h. found_escaped (body_length count quote 0 (b == 13) (w ++ rest)) (length w) (b == 0) (is_body count quote 0 (b == 13) w) (go.0 0 (b == 13)) h,
    )

-- what is found is a body
abbrev FoundBody : ℕ → ℕ → ℕ → Bool → List ℕ → ℕ → Type 0
FoundBody count quote row joins bs n = (is_body count quote row joins (take n bs) ≡ true) × (n ≤ length bs)

abbrev FoundEscaped : ℕ → ℕ → List ℕ → ℕ → Type 0
FoundEscaped count quote bs n = (is_escaped count quote (take n bs) ≡ true) × (n ≤ length bs)

some_zero : (n : ℕ) → ◌≡◌ {A = Option ℕ} (Some 0) (Some n) → 0 ≡ n
some_zero n h = some_inj 0 n h

turn_is : (count quote row b : ℕ) (bs : List ℕ) (n : ℕ) (closes escapes stands : Bool) → ((row n : ℕ) → body_length count quote row false bs ≡ Some n → FoundBody count quote row false bs n)
    → ((n : ℕ) → escaped_length count quote bs ≡ Some n → FoundEscaped count quote bs n) → turn count quote row b bs closes escapes stands ≡ Some n
    → (m : ℕ) × (n ≡ suc m) × (is_turn count quote row b (take m bs) closes escapes stands ≡ true) × (m ≤ length bs)
turn_is count quote row b bs n true escapes stands go after h =
    let m = from_add_one (body_length count quote (row + 1) false bs) n h in let r = go (row + 1) m.0 m.1 in (m.0, m.2, r.0, r.1)
turn_is count quote row b bs n false true stands go after h = let m = from_add_one (escaped_length count quote bs) n h in let r = after m.0 m.1 in (m.0, m.2, r.0, r.1)
turn_is count quote row b bs n false false true go after h =
    let m = from_add_one (body_length count quote 0 false bs) n h in let r = go 0 m.0 m.1 in (m.0, m.2, r.0, r.1)
turn_is count quote row b bs n false false false go after h = cc

body_is : (count quote : ℕ) (bs : List ℕ)
    → ((row : ℕ) (joins : Bool) (n : ℕ) → body_length count quote row joins bs ≡ Some n → FoundBody count quote row joins bs n) × ((n : ℕ) → escaped_length count quote bs ≡ Some n → FoundEscaped count quote bs n)
body_is count quote [] = (λ row joins n h. by row joins n (row == count) refl h, λ n h. let bad : ◌≡◌ {A = Option ℕ} None (Some n) = h in cc)
  where
    by : (row : ℕ) (joins : Bool) (n : ℕ) (t : Bool) → (row == count) ≡ t → (if t then Some 0 else None) ≡ Some n → FoundBody count quote row joins [] n
    by row joins n true e h = subst (FoundBody count quote row joins []) (some_zero n h) (e, omega arith)
    by row joins n false e h = cc
body_is count quote (b ∷ bs) =
    let go = body_is count quote bs in (
      λ row joins n h. by row joins n (row == count) refl (λ row. go.0 row false) go.1 h,
      λ n h. escape n (b == 0) refl (go.0 0 (b == 13)) h,
    )
  where
    by : (row : ℕ) (joins : Bool) (n : ℕ) (t : Bool) → (row == count) ≡ t → ((row n : ℕ) → body_length count quote row false bs ≡ Some n → FoundBody count quote row false bs n)
        → ((n : ℕ) → escaped_length count quote bs ≡ Some n → FoundEscaped count quote bs n)
        → (if t then Some 0 else turn count quote row b bs (b == quote) (b == 92) (is_plain count b || (joins && (b == 10)))) ≡ Some n → FoundBody count quote row joins (b ∷ bs) n
    by row joins n true e go after h = subst (FoundBody count quote row joins (b ∷ bs)) (some_zero n h) (e, omega arith)
    by row joins n false e go after h =
        let r = turn_is count quote row b bs n (b == quote) (b == 92) (is_plain count b || (joins && (b == 10))) go after h in
        subst (FoundBody count quote row joins (b ∷ bs)) (sym r.1)
        (ap (λ t. not t && is_turn count quote row b (take r.0 bs) (b == quote) (b == 92) (is_plain count b || (joins && (b == 10)))) e ∙ r.2, (let l = r.3 in omega (arith, l)))

    escape : (n : ℕ) (t : Bool) → (b == 0) ≡ t → ((n : ℕ) → body_length count quote 0 (b == 13) bs ≡ Some n → FoundBody count quote 0 (b == 13) bs n)
        → (if t then None else add_one (body_length count quote 0 (b == 13) bs)) ≡ Some n → FoundEscaped count quote (b ∷ bs) n
    escape n true e go h = cc
    escape n false e go h =
        let m = from_add_one (body_length count quote 0 (b == 13) bs) n h in
        let r = go m.0 m.1 in
        subst (FoundEscaped count quote (b ∷ bs)) (sym m.2) (ap (λ t. not t && is_body count quote 0 (b == 13) (take m.0 bs)) e ∙ r.0, (let l = r.1 in omega (arith, l)))

-- ---- the quotes

pub drop_none : (l : List ℕ) → drop 0 l ≡ l
drop_none [] = refl
drop_none (b ∷ l) = refl

same_turned : (a b : ℕ) → not (b == a) ≡ true → (a == b) ≡ false
same_turned a b h = grind (arith, nat_tests)

quoted_as : (q : ℕ) (v : List ℕ) (k n : ℕ) → is_quote q ≡ true → quotes_at (q ∷ v) ≡ k → body_length k q 0 false (drop k (q ∷ v)) ≡ Some n → quoted_length (q ∷ v) ≡ Some (k + n)
quoted_as q v k n h e found =
    if_true (is_quote q) (plus (quotes_at (q ∷ v)) (body_length (quotes_at (q ∷ v)) q 0 false (drop (quotes_at (q ∷ v)) (q ∷ v)))) None h
    ∙ ap (λ k. plus k (body_length k q 0 false (drop k (q ∷ v)))) e
    ∙ ap (plus k) found

is_quoted_as : (q : ℕ) (v : List ℕ) (k : ℕ) → is_quote q ≡ true → quotes_at (q ∷ v) ≡ k → is_body k q 0 false (drop k (q ∷ v)) ≡ true → is_quoted (q ∷ v) ≡ true
is_quoted_as q v k h e is =
    ap (λ t. t && is_body (quotes_at (q ∷ v)) q 0 false (drop (quotes_at (q ∷ v)) (q ∷ v))) h ∙ ap (λ k. is_body k q 0 false (drop k (q ∷ v))) e ∙ is

abbrev quotes_by : Bool → ℕ
quotes_by t = if t then 3 else 1

-- three bytes say how many quotes open a literal
three_found : (q a b : ℕ) (v rest : List ℕ) (t : Bool) → is_body (quotes_by t) q 0 false (drop (quotes_by t) (q ∷ a ∷ b ∷ v)) ≡ true
    → (m : ℕ) × (body_length (quotes_by t) q 0 false (drop (quotes_by t) (q ∷ a ∷ b ∷ (v ++ rest))) ≡ Some m) × (quotes_by t + m ≡ suc (suc (suc (length v))))
three_found q a b v rest true h = (
  length v,
  ap (body_length 3 q 0 false) (drop_none (v ++ rest)) ∙ (body_found 3 q v rest).0 0 false (sym (ap (is_body 3 q 0 false) (drop_none v)) ∙ h),
  omega arith,
)
three_found q a b v rest false h = (suc (suc (length v)), (body_found 1 q (a ∷ b ∷ v) rest).0 0 false h, omega arith)

-- a literal of two bytes is empty
pair_is : (q a : ℕ) → is_body 1 q 0 false (a ∷ []) ≡ true → (a == q) ≡ true
pair_is q a h = by (a == q) (a == 92) (is_plain 1 a || (false && (a == 10))) h
  where
    by : (t u v : Bool) → (if t then true else (if u then false else v && false)) ≡ true → t ≡ true
    by true u v h = refl
    by false true v h = cc
    by false false true h = cc
    by false false false h = cc

pub quoted_found : (w rest : List ℕ) → is_quoted w ≡ true → is_closed w rest ≡ true → quoted_length (w ++ rest) ≡ Some (length w)
quoted_found [] rest h c = cc
quoted_found (q ∷ []) rest h c = let bad : false ≡ true = (and_both (is_quote q) false h).1 in cc
quoted_found (q ∷ (a ∷ [])) [] h c =
    let p = and_both (is_quote q) (is_body 1 q 0 false (a ∷ [])) h in quoted_as q (a ∷ []) 1 1 p.0 refl ((body_found 1 q (a ∷ []) []).0 0 false p.1)
quoted_found (q ∷ (a ∷ [])) (b ∷ rest) h c =
    let p = and_both (is_quote q) (is_body 1 q 0 false (a ∷ [])) h in
    quoted_as q (a ∷ b ∷ rest) 1 1 p.0 (ap (λ t. quotes_by ((q == a) && t)) (same_turned a b c) ∙ last (q == a)) ((body_found 1 q (a ∷ []) (b ∷ rest)).0 0 false p.1)
  where
    last : (t : Bool) → quotes_by (t && false) ≡ 1
    last true = refl
    last false = refl
quoted_found (q ∷ (a ∷ (b ∷ v))) rest h c =
    let p = and_both (is_quote q) (is_body (quotes_by ((q == a) && (a == b))) q 0 false (drop (quotes_by ((q == a) && (a == b))) (q ∷ a ∷ b ∷ v))) h in
    let f = three_found q a b v rest ((q == a) && (a == b)) p.1 in
    quoted_as q (a ∷ b ∷ (v ++ rest)) (quotes_by ((q == a) && (a == b))) f.0 p.0 refl f.1 ∙ ap Some f.2

-- what plus comes from
from_plus : (k : ℕ) (o : Option ℕ) (n : ℕ) → plus k o ≡ Some n → (m : ℕ) × (o ≡ Some m) × (k + m ≡ n)
from_plus k None n h = cc
from_plus k (Some m) n h = (m, refl, some_inj (k + m) n h)

-- a body is not empty
body_some : (count quote : ℕ) (bs : List ℕ) (n : ℕ) → (0 == count) ≡ false → body_length count quote 0 false bs ≡ Some n → 0 < n
body_some count quote [] n none h = let bad : ◌≡◌ {A = Option ℕ} None (Some n) = sym (if_false (0 == count) (Some 0) None none) ∙ h in cc
body_some count quote (b ∷ bs) n none h =
    let go = body_is count quote bs in
    let r = turn_is count quote 0 b bs n (b == quote) (b == 92) (is_plain count b || (false && (b == 10))) (λ row. go.0 row false) go.1 (sym (if_false (0 == count) (Some 0) _ none) ∙ h) in
    let e = r.1 in omega (arith, e)

quoted_parts : (q : ℕ) (v : List ℕ) (n : ℕ) → quoted_length (q ∷ v) ≡ Some n
    → (m : ℕ) × (body_length (quotes_at (q ∷ v)) q 0 false (drop (quotes_at (q ∷ v)) (q ∷ v)) ≡ Some m) × (quotes_at (q ∷ v) + m ≡ n) × (is_quote q ≡ true)
quoted_parts q v n h = by (is_quote q) refl h
  where
    by : (t : Bool) → is_quote q ≡ t → (if t then plus (quotes_at (q ∷ v)) (body_length (quotes_at (q ∷ v)) q 0 false (drop (quotes_at (q ∷ v)) (q ∷ v))) else None) ≡ Some n
        → (m : ℕ) × (body_length (quotes_at (q ∷ v)) q 0 false (drop (quotes_at (q ∷ v)) (q ∷ v)) ≡ Some m) × (quotes_at (q ∷ v) + m ≡ n) × (is_quote q ≡ true)
    by true e h = let p = from_plus (quotes_at (q ∷ v)) (body_length (quotes_at (q ∷ v)) q 0 false (drop (quotes_at (q ∷ v)) (q ∷ v))) n h in (p.0, p.1, p.2, e)
    by false e h = cc

-- after two quotes a third one may stand: then three open a longer literal, or none
pub quoted_reaches : (w rest : List ℕ) (n : ℕ) → is_quoted w ≡ true → quoted_length (w ++ rest) ≡ Some n → length w ≤ n
quoted_reaches w rest n h e = by (is_closed w rest) refl
  where
    two : (q a b m : ℕ) (rest : List ℕ) (t : Bool) → body_length (quotes_by t) q 0 false (drop (quotes_by t) (q ∷ a ∷ b ∷ rest)) ≡ Some m → 2 ≤ quotes_by t + m
    two q a b m rest true f = omega arith
    two q a b m rest false f = let some = body_some 1 q (a ∷ b ∷ rest) m refl f in omega (arith, some)

    longer : (w rest : List ℕ) → is_quoted w ≡ true → is_closed w rest ≡ false → quoted_length (w ++ rest) ≡ Some n → length w ≤ n
    longer [] rest h c e = omega arith
    longer (q ∷ []) rest h c e = let bad : false ≡ true = (and_both (is_quote q) false h).1 in cc
    longer (q ∷ (a ∷ [])) [] h c e = cc
    longer (q ∷ (a ∷ [])) (b ∷ rest) h c e =
        let p = quoted_parts q (a ∷ b ∷ rest) n e in
        let l = two q a b p.0 rest ((q == a) && (a == b)) p.1 in let s = p.2 in omega (arith, l, s)
    longer (q ∷ (a ∷ (b ∷ v))) rest h c e = cc

    by : (t : Bool) → is_closed w rest ≡ t → length w ≤ n
    by true c = let s : length w ≡ n = some_inj (length w) n (sym (quoted_found w rest h c) ∙ e) in omega (arith, s)
    by false c = longer w rest h c e

-- what is found is a literal
abbrev FoundQuoted : List ℕ → ℕ → Type 0
FoundQuoted bs n = (is_quoted (take n bs) ≡ true) × (n ≤ length bs)

three_is : (q a b : ℕ) (v : List ℕ) (t : Bool) (m : ℕ) → ((q == a) && (a == b)) ≡ t → is_quote q ≡ true → body_length (quotes_by t) q 0 false (drop (quotes_by t) (q ∷ a ∷ b ∷ v)) ≡ Some m → FoundQuoted (q ∷ a ∷ b ∷ v) (quotes_by t + m)
three_is q a b v true m e h f =
    let r = (body_is 3 q v).0 0 false m (sym (ap (body_length 3 q 0 false) (drop_none v)) ∙ f) in
    let l = r.1 in
    let long : suc (suc (suc m)) ≡ 3 + m = omega arith in
    subst (FoundQuoted (q ∷ a ∷ b ∷ v)) long
    (is_quoted_as q (a ∷ b ∷ take m v) 3 h (ap quotes_by e) (ap (is_body 3 q 0 false) (drop_none (take m v)) ∙ r.0), omega (arith, l))
three_is q a b v false zero e h f = absurd (let some = body_some 1 q (a ∷ b ∷ v) 0 refl f in omega (arith, some))
three_is q a b v false (suc zero) e h f =
    let r = (body_is 1 q (a ∷ b ∷ v)).0 0 false 1 f in (is_quoted_as q (a ∷ []) 1 h refl r.0, omega arith)
three_is q a b v false (suc (suc m)) e h f =
    let r = (body_is 1 q (a ∷ b ∷ v)).0 0 false (suc (suc m)) f in
    let l = r.1 in
    let long : suc (suc (suc m)) ≡ 1 + suc (suc m) = omega arith in
    subst (FoundQuoted (q ∷ a ∷ b ∷ v)) long (is_quoted_as q (a ∷ b ∷ take m v) 1 h (ap quotes_by e) r.0, omega (arith, l))

quoted_is : (bs : List ℕ) (n : ℕ) → quoted_length bs ≡ Some n → FoundQuoted bs n
quoted_is [] n h = cc
quoted_is (q ∷ []) n h = let p = quoted_parts q [] n h in let bad : ◌≡◌ {A = Option ℕ} None (Some p.0) = p.1 in cc
quoted_is (q ∷ (a ∷ [])) n h =
    let p = quoted_parts q (a ∷ []) n h in
    let r = (body_is 1 q (a ∷ [])).0 0 false p.0 p.1 in
    let some = body_some 1 q (a ∷ []) p.0 refl p.1 in
    let l = r.1 in
    let one : p.0 ≡ 1 = omega (arith, some, l) in
    let s = p.2 in
    let two : 2 ≡ n = omega (arith, one, s) in
    subst (FoundQuoted (q ∷ a ∷ [])) two (is_quoted_as q (a ∷ []) 1 p.3 refl (sym (ap (λ m. is_body 1 q 0 false (take m (a ∷ []))) one) ∙ r.0), omega arith)
quoted_is (q ∷ (a ∷ (b ∷ v))) n h =
    let p = quoted_parts q (a ∷ b ∷ v) n h in subst (FoundQuoted (q ∷ a ∷ b ∷ v)) p.2 (three_is q a b v ((q == a) && (a == b)) p.0 refl p.3 p.1)

-- ---- the prefix

-- a literal without prefix has two quotes
pub quoted_long : (w : List ℕ) → is_quoted w ≡ true → 2 ≤ length w
quoted_long [] h = cc
quoted_long (q ∷ []) h = let bad : false ≡ true = (and_both (is_quote q) false h).1 in cc
quoted_long (q ∷ (a ∷ w)) h = omega arith

-- what follows a literal leaves its prefix as it is
pub prefix_stays : (w rest : List ℕ) → is_text w ≡ true → (prefix_at (w ++ rest) ≡ prefix_at w) × (unprefixed (w ++ rest) ≡ unprefixed w ++ rest)
prefix_stays [] rest h = cc
prefix_stays (b ∷ []) rest h = by (is_prefix b) h
  where
    by : (t : Bool) → is_quoted (drop (if t then 1 else 0) (b ∷ [])) ≡ true → (prefix_at (b ∷ rest) ≡ prefix_at (b ∷ [])) × (unprefixed (b ∷ rest) ≡ unprefixed (b ∷ []) ++ rest)
    by true h = cc
    by false h = let l = quoted_long (b ∷ []) h in absurd (omega (arith, l))
prefix_stays (b ∷ (c ∷ w)) rest h = (refl, by (is_double_prefix b c) (is_prefix b))
  where
    by : (d t : Bool) → drop (if d then 2 else (if t then 1 else 0)) (b ∷ (c ∷ (w ++ rest))) ≡ drop (if d then 2 else (if t then 1 else 0)) (b ∷ (c ∷ w)) ++ rest
    by true t = refl
    by false true = refl
    by false false = refl

-- a prefix and what follows it
pub prefixed_length : (w : List ℕ) → prefix_at w + length (unprefixed w) ≡ length w
prefixed_length [] = refl
prefixed_length (b ∷ []) = by (is_prefix b)
  where
    by : (t : Bool) → (if t then 1 else 0) + length (drop (if t then 1 else 0) (b ∷ [])) ≡ 1
    by true = refl
    by false = refl
prefixed_length (b ∷ (c ∷ w)) = by (is_double_prefix b c) (is_prefix b)
  where
    by : (d t : Bool) → (if d then 2 else (if t then 1 else 0)) + length (drop (if d then 2 else (if t then 1 else 0)) (b ∷ (c ∷ w))) ≡ suc (suc (length w))
    by true t = omega arith
    by false true = omega arith
    by false false = omega arith

-- a literal at the front is found where it may stand there
pub text_found : (w rest : List ℕ) → is_text w ≡ true → is_closed (unprefixed w) rest ≡ true → text_length (w ++ rest) ≡ Some (length w)
text_found w rest h c =
    let stays = prefix_stays w rest h in
    (λ i. plus (stays.0 i) (quoted_length (stays.1 i)))
    ∙ ap (plus (prefix_at w)) (quoted_found (unprefixed w) rest h c)
    ∙ ap Some (prefixed_length w)

-- and what is found is no shorter
pub text_reaches : (w rest : List ℕ) (n : ℕ) → is_text w ≡ true → text_length (w ++ rest) ≡ Some n → length w ≤ n
text_reaches w rest n h e =
    let stays = prefix_stays w rest h in
    let p = from_plus (prefix_at w) (quoted_length (unprefixed w ++ rest)) n ((λ i. plus (sym stays.0 i) (quoted_length (sym stays.1 i))) ∙ e) in
    let l = quoted_reaches (unprefixed w) rest p.0 h p.1 in
    let s = p.2 in
    let all = prefixed_length w in omega (arith, l, s, all)

abbrev FoundText : List ℕ → ℕ → Type 0
FoundText bs n = (is_text (take n bs) ≡ true) × (2 ≤ n) × (n ≤ length bs)

pub text_is : (bs : List ℕ) (n : ℕ) → text_length bs ≡ Some n → FoundText bs n
text_is bs n h =
    let p = from_plus (prefix_at bs) (quoted_length (unprefixed bs)) n h in
    let r = quoted_is (unprefixed bs) p.0 p.1 in
    subst (FoundText bs) p.2 (whole bs p.0 r.0 r.1 (quoted_long (take p.0 (unprefixed bs)) r.0))
  where
    taken : (m : ℕ) (xs : List ℕ) → 2 ≤ length (take m xs) → 2 ≤ m
    taken zero [] l = absurd (omega (arith, l))
    taken zero (x ∷ xs) l = absurd (omega (arith, l))
    taken (suc zero) [] l = absurd (omega (arith, l))
    taken (suc zero) (x ∷ []) l = absurd (omega (arith, l))
    taken (suc zero) (x ∷ (y ∷ xs)) l = absurd (omega (arith, l))
    taken (suc (suc m)) xs l = omega arith

    two_by : (b c : ℕ) (v : List ℕ) (m : ℕ) (d t : Bool) → is_double_prefix b c ≡ d → is_prefix b ≡ t → 2 ≤ m
        → is_quoted (take m (drop (if d then 2 else (if t then 1 else 0)) (b ∷ (c ∷ v)))) ≡ true
        → is_text (take ((if d then 2 else (if t then 1 else 0)) + m) (b ∷ (c ∷ v))) ≡ true
    two_by b c v m true t e f l h =
        let long : suc (suc m) ≡ 2 + m = omega arith in
        subst (λ k. is_text (take k (b ∷ (c ∷ v))) ≡ true) long
        (ap (λ x. is_quoted (drop (if x then 2 else (if is_prefix b then 1 else 0)) (b ∷ (c ∷ take m v)))) e ∙ h)
    two_by b c v zero false t e f l h = absurd (omega (arith, l))
    two_by b c v (suc zero) false t e f l h = absurd (omega (arith, l))
    two_by b c v (suc (suc m)) false true e f l h =
        let long : suc (suc (suc m)) ≡ 1 + suc (suc m) = omega arith in
        subst (λ k. is_text (take k (b ∷ (c ∷ v))) ≡ true) long
        ((λ i. is_quoted (drop (if e i then 2 else (if f i then 1 else 0)) (b ∷ (c ∷ take (suc m) v)))) ∙ h)
    two_by b c v (suc (suc m)) false false e f l h =
        let long : suc (suc m) ≡ 0 + suc (suc m) = omega arith in
        subst (λ k. is_text (take k (b ∷ (c ∷ v))) ≡ true) long
        ((λ i. is_quoted (drop (if e i then 2 else (if f i then 1 else 0)) (b ∷ (c ∷ take m v)))) ∙ h)

    short : (m : ℕ) (xs : List ℕ) → length xs ≤ 1 → m ≤ length xs → 2 ≤ m → ⊥
    short m xs a b c = omega (arith, a, b, c)

    one_by : (b : ℕ) (t : Bool) → length (drop (if t then 1 else 0) (b ∷ [])) ≤ 1
    one_by b true = omega arith
    one_by b false = omega arith

    whole : (bs : List ℕ) (m : ℕ) → is_quoted (take m (unprefixed bs)) ≡ true → m ≤ length (unprefixed bs) → 2 ≤ length (take m (unprefixed bs)) → FoundText bs (prefix_at bs + m)
    whole bs m h within long =
        let all = prefixed_length bs in
        let two = taken m (unprefixed bs) long in
        (text bs h within two, omega (arith, two), omega (arith, within, all))
      where
        text : (bs : List ℕ) → is_quoted (take m (unprefixed bs)) ≡ true → m ≤ length (unprefixed bs) → 2 ≤ m → is_text (take (prefix_at bs + m) bs) ≡ true
        text [] h w l = absurd (omega (arith, w, l))
        text (b ∷ []) h w l = absurd (short m (unprefixed (b ∷ [])) (one_by b (is_prefix b)) w l)
        text (b ∷ (c ∷ v)) h w l = two_by b c v m (is_double_prefix b c) (is_prefix b) refl refl l h
