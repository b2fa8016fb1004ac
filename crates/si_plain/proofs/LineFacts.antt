-- Line ends, counted byte by byte.
use Rattle.std.proofs.Common.{◌≡◌, ℕ, zero, suc, ◌+◌, ◌-◌, ◌<◌, List, [], ◌∷◌, length, take, drop, get_or, Bool, refl, sym, ap, ◌∙◌, arith}
use Rattle.std.specs.Prelude.{min, if◌then◌else◌}
use Rattle.std.proofs.lemmas.List.{take_rest}
use Rattle.si_plain.specs.LineEnds.{ends_line, ends_before}

abbrev pub one_if : ℕ → List ℕ → ℕ
one_if b bs = if ends_line b bs then 1 else 0

drop_none : (text : List ℕ) → drop 0 text ≡ text
drop_none [] = refl
drop_none (b ∷ text) = refl

one_suc : (n : ℕ) (text : List ℕ) (d : ℕ) → n < length text → ends_before (suc n) text ≡ ends_before n text + one_if (get_or text n d) (drop (suc n) text)
one_suc n [] d h = absurd (omega (arith, h))
one_suc zero (b ∷ text) d h =
    let swap : one_if b text + 0 ≡ 0 + one_if b text = omega arith in swap ∙ ap (λ l. 0 + one_if b l) (sym (drop_none text))
one_suc (suc n) (b ∷ text) d h = let e = one_suc n text d (omega (arith, h)) in omega (arith, e)

-- one byte more, which ends a line or doesn't
pub one_more : (n : ℕ) (text : List ℕ) (ends : Bool) → n < length text → ends ≡ ends_line (get_or text n 0) (take (length text - (n + 1)) (drop (n + 1) text))
    → ends_before (n + 1) text ≡ ends_before n text + (if ends then 1 else 0)
one_more n text ends h e =
    let next : n + 1 ≡ suc n = omega arith in
    let is : ends ≡ ends_line (get_or text n 0) (drop (n + 1) text) = e ∙ ap (ends_line (get_or text n 0)) (take_rest text (n + 1)) in
    (λ i. ends_before (next i) text) ∙ one_suc n text 0 h ∙ (λ i. ends_before n text + one_if (get_or text n 0) (drop (sym next i) text))
    ∙ ap (λ t. ends_before n text + (if t then 1 else 0)) (sym is)

none_left : (n : ℕ) → ends_before n [] ≡ 0
none_left zero = refl
none_left (suc n) = refl

-- no byte is left
pub past_the_end : (n : ℕ) (text : List ℕ) → ends_before (min n (length text)) text ≡ ends_before n text
past_the_end zero text = let none : min 0 (length text) ≡ 0 = omega arith in ap (λ n. ends_before n text) none
past_the_end (suc n) [] = none_left (min (suc n) 0)
past_the_end (suc n) (b ∷ text) =
    let one : min (suc n) (suc (length text)) ≡ suc (min n (length text)) = omega arith in
    ap (λ n. ends_before n (b ∷ text)) one ∙ ap (λ k. one_if b text + k) (past_the_end n text)
