-- A str literal's quotes and escapes, character by character.
use Rattle.std.proofs.Common.{◌≡◌, ℕ, zero, suc, ◌+◌, ◌-◌, ◌*◌, ◌<◌, ◌≤◌, List, [], ◌∷◌, ◌++◌, length, take, drop, Bool, true, false, Option, Some, None, refl, sym, ap, ◌∙◌, subst, arith, IsUtf8, length-append}
use Rattle.std.specs.Prelude.{◌==◌, option_map, option_and_then, nat_lt, nat_le, MatchOption, encode_utf8, if◌then◌else◌}
use Rattle.std.specs.Option.{is_some}
use Rattle.std.specs.Char.{digit_value}
use Rattle.std.specs.Str.{chars}
use Rattle.std.proofs.lemmas.Bool.Decides.{nat_tests}
use Rattle.std.proofs.lemmas.Str.{chars-nil, chars-append, chars_past_char, IsUtf8-drop, IsCharBoundary-from_take}
use Rattle.si_semantics.specs.Value.{Text}
use Rattle.si_semantics.specs.Literals.{Written, digits_within, with_one_more, escape, unescaped, peeled}
use Rattle.si_token.specs.inner.Literals.{front_of, digit_front, up_to}
use Rattle.si_token.proofs.Texts.{if_true, if_false, some_inj, drop_none}
use Rattle.si_token.proofs.Runs.{take_append, drop_append}

pub front_is : (cs : Text) (c : ℕ) (ds : Text) → ◌≡◌ {A = Option (ℕ × Text)} (Some (c, ds)) (front_of cs) → cs ≡ c ∷ ds
front_is [] c ds h = cc
front_is (d ∷ cs) c ds h = let e : (c, ds) ≡ (d, cs) = some_inj (c, ds) (d, cs) h in λ i. sym (ap (λ x. x.0) e) i ∷ sym (ap (λ x. x.1) e) i

-- ---- the quotes

-- the last character
last_char : (after inside : List ℕ) (d : ℕ) → IsUtf8 after → IsUtf8 inside → after ≡ inside ++ encode_utf8 d → chars after ≡ chars inside ++ d ∷ []
last_char after inside d u v e =
    let front : inside ≡ take (length inside) after = sym (take_append inside (encode_utf8 d)) ∙ ap (take (length inside)) (sym e) in
    let back : drop (length inside) after ≡ encode_utf8 d = ap (drop (length inside)) e ∙ drop_append inside (encode_utf8 d) in
    let long : length after ≡ length inside + length (encode_utf8 d) = ap length e ∙ length-append inside (encode_utf8 d) in
    let one : IsUtf8 (encode_utf8 d) = subst IsUtf8 back (IsUtf8-drop after (length inside) u (IsCharBoundary-from_take after (length inside) u (omega (arith, long)) (subst IsUtf8 front v))) in
    ap chars e ∙ chars-append inside (encode_utf8 d) v ∙ ap (λ l. chars inside ++ l) (chars_past_char (encode_utf8 d) [] d one (sym (no_more (encode_utf8 d))) ∙ ap (λ l. d ∷ l) chars-nil)
  where
    no_more : (l : List ℕ) → l ++ [] ≡ l
    no_more [] = refl
    no_more (b ∷ l) = ap (λ l. b ∷ l) (no_more l)

without_ends : (c d : ℕ) (cs : Text) → cs ≡ peeled (c ∷ (cs ++ d ∷ []))
without_ends c d cs =
    let l = length-append cs (d ∷ []) in
    let long : length cs ≡ length (c ∷ (cs ++ d ∷ [])) - 2 = omega (arith, l) in
    sym (take_append cs (d ∷ [])) ∙ (λ i. take (long i) (sym (drop_none (cs ++ d ∷ [])) i))

-- without the first and the last character
pub peeled_is : (text after inside : List ℕ) (c : ℕ) (r : Option ℕ) → chars text ≡ c ∷ chars after → IsUtf8 after → IsUtf8 inside
    → MatchOption r ((length after ≡ 0) × (inside ≡ after)) (λ d. after ≡ inside ++ encode_utf8 d) → chars inside ≡ peeled (chars text)
peeled_is text after inside c (Some d) e u v h = without_ends c d (chars inside) ∙ ap (λ l. peeled (c ∷ l)) (sym (last_char after inside d u v h)) ∙ ap peeled (sym e)
peeled_is text after inside c None e u v h =
    let none = chars_none after h.0 in ap chars h.1 ∙ none ∙ ap (λ l. peeled (c ∷ l)) (sym none) ∙ ap peeled (sym e)
  where
    chars_none : (l : List ℕ) → length l ≡ 0 → chars l ≡ []
    chars_none [] h = chars-nil
    chars_none (b ∷ l) h = absurd (omega (arith, h))

-- ---- digits

-- a number and how many digits write it, after so many digits
abbrev pub after : ℕ → Option (ℕ × ℕ) → Option (ℕ × ℕ)
after before o = option_map (λ (r : ℕ × ℕ). (r.0, before + r.1)) o

after_more : (before : ℕ) (o : Option (ℕ × ℕ)) → after before (with_one_more o) ≡ after (before + 1) o
after_more before None = refl
after_more before (Some r) = let e : before + suc r.1 ≡ before + 1 + r.1 = omega arith in ap (λ k. Some (r.0, k)) e

-- no digit stands in front
one_stop : (base least most number : ℕ) (cs : Text) → ◌≡◌ {A = Option (ℕ × Text)} None (digit_front base cs) → 0 < most → digits_within base least most number cs ≡ (if least == 0 then Some (number, 0) else None)
one_stop base least zero number cs h some = absurd (omega (arith, some))
one_stop base least (suc most) number [] h some = refl
one_stop base least (suc most) number (c ∷ cs) h some = by (nat_lt (digit_value c) base) h
  where
    by : (t : Bool) → ◌≡◌ {A = Option (ℕ × Text)} None (if t then Some (digit_value c, cs) else None)
        → (if t then with_one_more (digits_within base (least - 1) most (number * base + digit_value c) cs) else (if least == 0 then Some (number, 0) else None)) ≡ (if least == 0 then Some (number, 0) else None)
    by true h = cc
    by false h = refl

-- a digit stands in front
one_digit : (base least most number : ℕ) (cs ds : Text) (d : ℕ) → ◌≡◌ {A = Option (ℕ × Text)} (Some (d, ds)) (digit_front base cs) → 0 < most
    → digits_within base least most number cs ≡ with_one_more (digits_within base (least - 1) (most - 1) (number * base + d) ds)
one_digit base least zero number cs ds d h some = absurd (omega (arith, some))
one_digit base least (suc most) number [] ds d h some = cc
one_digit base least (suc most) number (c ∷ cs) ds d h some = by (nat_lt (digit_value c) base) h
  where
    by : (t : Bool) → ◌≡◌ {A = Option (ℕ × Text)} (Some (d, ds)) (if t then Some (digit_value c, cs) else None)
        → (if t then with_one_more (digits_within base (least - 1) most (number * base + digit_value c) cs) else (if least == 0 then Some (number, 0) else None)) ≡ with_one_more (digits_within base (least - 1) (suc most - 1) (number * base + d) ds)
    by true h =
        let less : most ≡ suc most - 1 = omega arith in
        let e : (d, ds) ≡ (digit_value c, cs) = some_inj (d, ds) (digit_value c, cs) h in
        λ i. with_one_more (digits_within base (least - 1) (less i) (number * base + sym (ap (λ x. x.0) e) i) (sym (ap (λ x. x.1) e) i))
    by false h = cc

past : (n limit : ℕ) → limit < n → nat_le n limit ≡ false
past n limit h = grind (arith, nat_tests)

low : (n limit : ℕ) → n ≤ limit → nat_le n limit ≡ true
low n limit h = grind (arith, nat_tests)

larger : (base n d : ℕ) → 2 ≤ base → n ≤ n * base + d
larger base n d h = grind arith

-- a number that is past the limit stays past it
too_large : (cs : Text) (base least most number limit before : ℕ) → 2 ≤ base → limit < number → up_to limit (after before (digits_within base least most number cs)) ≡ None
too_large cs base least zero number limit before some h = if_false (nat_le number limit) (Some (number, before + 0)) None (past number limit h)
too_large [] base least (suc most) number limit before some h = by (least == 0)
  where
    by : (t : Bool) → up_to limit (after before (if t then Some (number, 0) else None)) ≡ None
    by true = if_false (nat_le number limit) (Some (number, before + 0)) None (past number limit h)
    by false = refl
too_large (c ∷ cs) base least (suc most) number limit before some h =
    by (nat_lt (digit_value c) base) (least == 0) (too_large cs base (least - 1) most (number * base + digit_value c) limit (before + 1) some (let l = larger base number (digit_value c) some in omega (arith, l, h)))
  where
    by : (t u : Bool) → up_to limit (after (before + 1) (digits_within base (least - 1) most (number * base + digit_value c) cs)) ≡ None
        → up_to limit (after before (if t then with_one_more (digits_within base (least - 1) most (number * base + digit_value c) cs) else (if u then Some (number, 0) else None))) ≡ None
    by true u go = ap (up_to limit) (after_more before (digits_within base (least - 1) most (number * base + digit_value c) cs)) ∙ go
    by false true go = if_false (nat_le number limit) (Some (number, before + 0)) None (past number limit h)
    by false false go = refl

module _ (base least most limit count number : ℕ) (cs : Text) (more : count < most) where
  abbrev Left : Option (ℕ × ℕ)
  Left = up_to limit (after count (digits_within base (least - count) (most - count) number cs))

  stopped : (t : Bool) → (least - count == 0) ≡ t → ◌≡◌ {A = Option (ℕ × Text)} None (digit_front base cs) → Left ≡ up_to limit (after count (if t then Some (number, 0) else None))
  stopped t e h =
      ap (λ o. up_to limit (after count o)) (one_stop base (least - count) (most - count) number cs h (omega (arith, more)))
      ∙ ap (λ t. up_to limit (after count (if t then Some (number, 0) else None))) e

  pub too_few : ◌≡◌ {A = Option (ℕ × Text)} None (digit_front base cs) → count < least → Left ≡ None
  too_few h few = stopped false (grind (arith, nat_tests)) h

  pub enough : ◌≡◌ {A = Option (ℕ × Text)} None (digit_front base cs) → least ≤ count → number ≤ limit → Left ≡ Some (number, count)
  enough h many small =
      let same : count + 0 ≡ count = omega arith in
      stopped true (grind (arith, nat_tests)) h ∙ if_true (nat_le number limit) (Some (number, count + 0)) None (low number limit small) ∙ ap (λ k. Some (number, k)) same

  module _ (d : ℕ) (ds : Text) (h : ◌≡◌ {A = Option (ℕ × Text)} (Some (d, ds)) (digit_front base cs)) where
    pub with_one : Left ≡ up_to limit (after (count + 1) (digits_within base (least - (count + 1)) (most - (count + 1)) (number * base + d) ds))
    with_one =
        let a : least - count - 1 ≡ least - (count + 1) = omega arith in
        let b : most - count - 1 ≡ most - (count + 1) = omega arith in
        ap (λ o. up_to limit (after count o)) (one_digit base (least - count) (most - count) number cs ds d h (omega (arith, more)))
        ∙ ap (up_to limit) (after_more count (digits_within base (least - count - 1) (most - count - 1) (number * base + d) ds))
        ∙ (λ i. up_to limit (after (count + 1) (digits_within base (a i) (b i) (number * base + d) ds)))

    pub passed : 2 ≤ base → limit < number * base + d → Left ≡ None
    passed some large = with_one ∙ too_large ds base (least - (count + 1)) (most - (count + 1)) (number * base + d) limit (count + 1) some large

-- ---- escapes

is_some_map : {A B : Type 0} (f : A → B) (o : Option A) → is_some (option_map f o) ≡ is_some o
is_some_map f None = refl
is_some_map f (Some x) = refl

module _ (bytes : Bool) (skipped c : ℕ) (cs ds : Text) (front : ◌≡◌ {A = Option (ℕ × Text)} (Some (c, ds)) (front_of cs)) (first : skipped ≡ 0) where
  here : unescaped bytes skipped cs ≡ unescaped bytes 0 (c ∷ ds)
  here = λ i. unescaped bytes (first i) (front_is cs c ds front i)

  escape_here : c ≡ 92 → unescaped bytes skipped cs ≡ option_and_then (λ (e : Written). option_map (λ text. e.0 ++ text) (unescaped bytes e.1 ds)) (escape bytes ds)
  escape_here h = here ∙ if_true (c == 92) _ (option_map (λ text. c ∷ text) (unescaped bytes 0 ds)) (ap (λ c. c == 92) h)

  pub no_escape : c ≡ 92 → escape bytes ds ≡ None → is_some (unescaped bytes skipped cs) ≡ false
  no_escape h none = ap is_some (escape_here h ∙ ap (option_and_then (λ (e : Written). option_map (λ text. e.0 ++ text) (unescaped bytes e.1 ds))) none)

  pub on_escape : c ≡ 92 → (w : Text) (k : ℕ) → escape bytes ds ≡ Some (w, k) → is_some (unescaped bytes k ds) ≡ is_some (unescaped bytes skipped cs)
  on_escape h w k some =
      sym (is_some_map (λ text. w ++ text) (unescaped bytes k ds))
      ∙ sym (ap is_some (escape_here h ∙ ap (option_and_then (λ (e : Written). option_map (λ text. e.0 ++ text) (unescaped bytes e.1 ds))) some))
