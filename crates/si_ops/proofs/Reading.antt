-- Integers that are read from texts.
use Rattle.std.proofs.Common.{◌≡◌, ℕ, zero, suc, ◌+◌, ◌-◌, ◌*◌, ◌^◌, ◌<◌, ◌≤◌, ◌≢◌, ℤ, pos, negsuc, neg_ℤ, min, Bool, true, false, cond, List, [], ◌∷◌, length, drop, get_or, Option, Some, None, option_map, Result, Err, inl, inr, refl, sym, ap, ap₂, ◌∙◌, arith, ne_eqb}
use Rattle.std.specs.Prelude.{◌==◌}
use Rattle.std.proofs.lemmas.Bool.{eq-eqb, cases_lt}
use Rattle.std.proofs.Math.ListN.{drop_of_length-le}
use Rattle.si_plain.specs.declared.kind.Kind.{Kind}
use Rattle.si_plain.specs.declared.kind.Kind.TheVariants.{OverflowError, ValueError}
use Rattle.si_plain.specs.Integers.{in_range}
use Rattle.si_plain.proofs.IntegerFacts.{in_range-exceeds}
use Rattle.si_semantics.specs.Numerals.{is_space, is_digit, after_space, whole, digits_after, signed, read, read_integer}
use Rattle.si_ops.specs.Numerals.{signed_number}
use Rattle.si_ops.proofs.Compared.{after}

-- ---- white space

pub space_next : (s : List ℕ) (i : ℕ) → i < length s → is_space (get_or s i 0) ≡ true → after_space (drop i s) ≡ after_space (drop (i + 1) s)
space_next s i h e = ap after_space (after s i h) ∙ ap (λ b. cond b (after_space (drop (i + 1) s)) (get_or s i 0 ∷ drop (i + 1) s)) e

pub space_ends : (s : List ℕ) (i : ℕ) → i < length s → is_space (get_or s i 0) ≡ false → after_space (drop i s) ≡ drop i s
space_ends s i h e =
    ap after_space (after s i h) ∙ ap (λ b. cond b (after_space (drop (i + 1) s)) (get_or s i 0 ∷ drop (i + 1) s)) e ∙ sym (after s i h)

pub space_only : (s : List ℕ) (i : ℕ) → length s ≤ i → after_space (drop i s) ≡ drop (length s) s
space_only s i h = ap after_space (drop_of_length-le s h) ∙ sym (drop_of_length-le s (omega arith))

-- ---- digits, where a number above a limit is as good as the limit

abbrev pub capped : ℕ → Option ℕ → Option ℕ
capped limit o = option_map (λ n. min n limit) o

abbrev after_digit : Bool → Bool → Bool → ℕ → ℕ → List ℕ → Option ℕ
after_digit digit due underscore n c cs =
    cond digit (digits_after false (n * 10 + (c - 48)) cs) (cond due None (cond underscore (digits_after true n cs) (whole n (after_space (c ∷ cs)))))

same_capped : (limit a b d : ℕ) → min a limit ≡ min b limit → min (a * 10 + d) limit ≡ min (b * 10 + d) limit
same_capped limit a b d e = omega (arith, e)

whole_capped : (limit a b : ℕ) (cs : List ℕ) → min a limit ≡ min b limit → capped limit (whole a cs) ≡ capped limit (whole b cs)
whole_capped limit a b [] e = ap (λ n. Some n) e
whole_capped limit a b (c ∷ cs) e = refl

-- numbers that the limit makes one stay so
as_capped : (limit : ℕ) (due : Bool) (a b : ℕ) (cs : List ℕ) → min a limit ≡ min b limit → capped limit (digits_after due a cs) ≡ capped limit (digits_after due b cs)
as_capped limit true a b [] e = refl
as_capped limit false a b [] e = ap (λ n. Some n) e
as_capped limit due a b (c ∷ cs) e = by (is_digit c) due (c == 95) (as_capped limit false (a * 10 + (c - 48)) (b * 10 + (c - 48)) cs (same_capped limit a b (c - 48) e)) (as_capped limit true a b cs e)
  where
    by : (digit due underscore : Bool) → capped limit (digits_after false (a * 10 + (c - 48)) cs) ≡ capped limit (digits_after false (b * 10 + (c - 48)) cs) → capped limit (digits_after true a cs) ≡ capped limit (digits_after true b cs) → capped limit (after_digit digit due underscore a c cs) ≡ capped limit (after_digit digit due underscore b c cs)
    by true due underscore f g = f
    by false true underscore f g = refl
    by false false true f g = g
    by false false false f g = whole_capped limit a b (after_space (c ∷ cs)) e

module _ (limit : ℕ) (s : List ℕ) (i n : ℕ) (h : i < length s) where
  at : (due digit underscore : Bool) → is_digit (get_or s i 0) ≡ digit → (get_or s i 0 == 95) ≡ underscore → digits_after due n (drop i s) ≡ after_digit digit due underscore n (get_or s i 0) (drop (i + 1) s)
  at due digit underscore e f =
      ap (digits_after due n) (after s i h)
      ∙ ap (λ d. after_digit d due (get_or s i 0 == 95) n (get_or s i 0) (drop (i + 1) s)) e
      ∙ ap (λ u. after_digit digit due u n (get_or s i 0) (drop (i + 1) s)) f

  pub digit_next : (due : Bool) (new : ℕ) → is_digit (get_or s i 0) ≡ true → new ≡ min (n * 10 + (get_or s i 0 - 48)) limit → capped limit (digits_after due n (drop i s)) ≡ capped limit (digits_after false new (drop (i + 1) s))
  digit_next due new e f =
      ap (capped limit) (at due true _ e refl)
      ∙ as_capped limit false (n * 10 + (get_or s i 0 - 48)) new (drop (i + 1) s) (omega (arith, f))

  pub digit_due : is_digit (get_or s i 0) ≡ false → digits_after true n (drop i s) ≡ None
  digit_due e = at true false _ e refl

  pub underscore_next : is_digit (get_or s i 0) ≡ false → get_or s i 0 ≡ 95 → digits_after false n (drop i s) ≡ digits_after true n (drop (i + 1) s)
  underscore_next e f = at false false true e (eq-eqb _ _ f)

  pub digits_end : is_digit (get_or s i 0) ≡ false → get_or s i 0 ≢ 95 → digits_after false n (drop i s) ≡ whole n (after_space (drop i s))
  digits_end e f = at false false false e (ne_eqb _ _ f) ∙ ap (λ cs. whole n (after_space cs)) (sym (after s i h))

-- a digit is read
pub digit_step : (limit : ℕ) (s : List ℕ) (i n c new : ℕ) (due r new_due : Bool) → i < length s → c ≡ get_or s i 0 → r ≡ is_digit c → r ≡ true → new ≡ min (n * 10 + (c - 48)) limit → new_due ≡ false → capped limit (digits_after due n (drop i s)) ≡ capped limit (digits_after new_due new (drop (i + 1) s))
digit_step limit s i n c new due r new_due h e f g k l =
    digit_next limit s i n h due new (ap is_digit (sym e) ∙ sym f ∙ g) (k ∙ ap (λ d. min (n * 10 + (d - 48)) limit) e)
    ∙ ap (λ b. capped limit (digits_after b new (drop (i + 1) s))) (sym l)

-- an underscore is read
pub underscore_step : (limit : ℕ) (s : List ℕ) (i n c new : ℕ) (due r new_due : Bool) → i < length s → c ≡ get_or s i 0 → r ≡ is_digit c → r ≡ false → due ≡ false → c ≡ 95 → new ≡ n → new_due ≡ true → capped limit (digits_after due n (drop i s)) ≡ capped limit (digits_after new_due new (drop (i + 1) s))
underscore_step limit s i n c new due r new_due h e f g k l m o =
    ap (λ b. capped limit (digits_after b n (drop i s))) k
    ∙ ap (capped limit) (underscore_next limit s i n h (ap is_digit (sym e) ∙ sym f ∙ g) (sym e ∙ l))
    ∙ ap₂ (λ b a. capped limit (digits_after b a (drop (i + 1) s))) (sym o) (sym m)

pub digits_over : (s : List ℕ) (i n : ℕ) (due : Bool) → length s ≤ i → digits_after due n (drop i s) ≡ cond due None (Some n)
digits_over s i n due h = ap (digits_after due n) (drop_of_length-le s h)

-- the digits end the text
pub digits_last : (limit n i : ℕ) (s : List ℕ) (due : Bool) → length s ≤ i → n ≤ limit → due ≡ false → Some n ≡ capped limit (digits_after due n (drop i s))
digits_last limit n i s due h l e = ap (λ k. Some k) (omega (arith, l)) ∙ sym (ap (capped limit) (digits_over s i n due h ∙ ap (λ b. cond b None (Some n)) e))

-- something else than white space follows
pub not_whole : (s : List ℕ) (n i j : ℕ) → after_space (drop i s) ≡ drop j s → j ≤ length s → j ≢ length s → None ≡ whole n (after_space (drop i s))
not_whole s n i j e h d = sym (ap (whole n) (e ∙ after s j (omega (arith, h, d))))

-- a number within the limit is itself
pub whole_within : (limit n : ℕ) (cs : List ℕ) → n ≤ limit → capped limit (whole n cs) ≡ whole n cs
whole_within limit n [] h = ap (λ k. Some k) (omega (arith, h))
whole_within limit n (c ∷ cs) h = refl

-- ---- the sign

past : (negative : Bool) (n : ℕ) → 2 ^ 64 - 1 ≤ n → in_range (signed_number negative n) ≡ Err OverflowError
past true zero h = absurd (omega (arith, h))
past true (suc n) h = in_range-exceeds (negsuc n) (λ f. let l : n < 2 ^ 63 = f.sfits in omega (arith, h, l))
past false n h = in_range-exceeds (pos n) (λ f. let l : n < 2 ^ 63 = f.sfits in omega (arith, h, l))

-- past the integers the limit is as good as the number
pub read_capped : (negative : Bool) (o : Option ℕ) (magnitude : ℕ) → Some magnitude ≡ capped (2 ^ 64 - 1) o → in_range (signed_number negative magnitude) ≡ read (option_map (signed_number negative) o)
read_capped negative None magnitude e = cc
read_capped negative (Some n) magnitude e =
    let same : magnitude ≡ min n (2 ^ 64 - 1) = cc in
    elim (cases_lt n (2 ^ 64 - 1)) [
      | inl l ↦ ap (λ k. in_range (signed_number negative k)) (omega (arith, same, l))
      | inr g ↦ past negative magnitude (omega (arith, same, g)) ∙ sym (past negative n g)
    ]

pub unread : (negative : Bool) (o : Option ℕ) → None ≡ capped (2 ^ 64 - 1) o → Err ValueError ≡ read (option_map (signed_number negative) o)
unread negative None e = refl
unread negative (Some n) e = cc

-- ---- the whole text

module _ (s : List ℕ) (start : ℕ) where
  pub read_nothing : after_space (drop 0 s) ≡ drop start s → start ≡ length s → Err ValueError ≡ read_integer s
  read_nothing e f = sym (ap (λ cs. read (signed cs)) (e ∙ drop_of_length-le s (omega (arith, f))))

  at_sign : after_space (drop 0 s) ≡ drop start s → start < length s → read_integer s ≡ read (signed (get_or s start 0 ∷ drop (start + 1) s))
  at_sign e h = ap (λ cs. read (signed cs)) (e ∙ after s start h)

  abbrev sign_read : Bool → Bool → ℕ → Result ℤ Kind
  sign_read minus plus c = read (cond minus (option_map (λ n. neg_ℤ (pos n)) (digits_after true 0 (drop (start + 1) s))) (option_map (λ n. pos n) (digits_after true 0 (cond plus (drop (start + 1) s) (c ∷ drop (start + 1) s)))))

  pub read_minus : after_space (drop 0 s) ≡ drop start s → start < length s → get_or s start 0 ≡ 45 → read (option_map (signed_number true) (digits_after true 0 (drop (start + 1) s))) ≡ read_integer s
  read_minus e h f = sym (at_sign e h ∙ ap (λ b. sign_read b (get_or s start 0 == 43) (get_or s start 0)) (eq-eqb _ _ f))

  pub read_plus : after_space (drop 0 s) ≡ drop start s → start < length s → get_or s start 0 ≡ 43 → read (option_map (signed_number false) (digits_after true 0 (drop (start + 1) s))) ≡ read_integer s
  read_plus e h f =
      sym
      (at_sign e h
      ∙ ap (λ b. sign_read b (get_or s start 0 == 43) (get_or s start 0)) (ne_eqb (get_or s start 0) 45 (λ g. absurd (omega (arith, f, g))))
      ∙ ap (λ b. sign_read false b (get_or s start 0)) (eq-eqb _ _ f))

  pub read_unsigned : after_space (drop 0 s) ≡ drop start s → start < length s → get_or s start 0 ≢ 45 → get_or s start 0 ≢ 43 → read (option_map (signed_number false) (digits_after true 0 (drop start s))) ≡ read_integer s
  read_unsigned e h f g =
      ap (λ cs. read (option_map (signed_number false) (digits_after true 0 cs))) (after s start h)
      ∙ sym
      (at_sign e h
      ∙ ap (λ b. sign_read b (get_or s start 0 == 43) (get_or s start 0)) (ne_eqb (get_or s start 0) 45 f)
      ∙ ap (λ b. sign_read false b (get_or s start 0)) (ne_eqb (get_or s start 0) 43 g))
