-- Texts that are repeated.
use Rattle.std.proofs.Common.{◌≡◌, ℕ, zero, suc, ◌+◌, ◌*◌, ◌<◌, ◌≤◌, List, [], ◌∷◌, ◌++◌, length, ℤ, pos, negsuc, refl, sym, ap, ◌∙◌, arith, append-nil, append_assoc, length-append, add-one, cond, ne_eqb, mul_comm, mul-le-mul_right, zero-mul, suc-mul}
use Rattle.si_semantics.specs.Operations.{times}
use Rattle.si_arena.specs.Texts.{Rows, text_of, TextLies, row_of, with_row, repeated_text, copies_of}
use Rattle.si_arena.specs.declared.value.Ref.{Ref}
use Rattle.si_arena.specs.declared.value.Width.{Width}
use Rattle.si_arena.proofs.Rows.{text-grows, grows_row, row_more}

times_more : (n : ℕ) (s : List ℕ) → times n s ++ s ≡ times (suc n) s
times_more zero s = sym (append-nil s)
times_more (suc n) s = append_assoc s (times n s) s ∙ ap (λ t. s ++ t) (times_more n s)

-- one time more
pub times_next : (n : ℕ) (s : List ℕ) → times n s ++ s ≡ times (n + 1) s
times_next n s = times_more n s ∙ ap (λ k. times k s) (sym (add-one n))

pub length_times : (n : ℕ) (s : List ℕ) → length (times n s) ≡ n * length s
length_times zero s = sym (zero-mul (length s))
length_times (suc n) s = length-append s (times n s) ∙ ap (λ k. length s + k) (length_times n s) ∙ omega (arith, suc-mul n (length s))

times_nil : (n : ℕ) → times n [] ≡ []
times_nil zero = refl
times_nil (suc n) = times_nil n

times_empty : (n : ℕ) (s : List ℕ) → length s ≡ 0 → times n s ≡ []
times_empty n [] e = times_nil n
times_empty n (c ∷ cs) e = absurd (omega arith)

some_copies : (l m : ℕ) → copies_of (suc l) (pos m) ≡ m
some_copies l m = ap (λ b. cond b 0 m) (ne_eqb (suc l) 0 (λ e. omega arith))

-- the copies that count make the repeated text
pub copies_same : (s : List ℕ) (j : ℤ) (l n : ℕ) → l ≡ length s → n ≡ copies_of l j → times n s ≡ repeated_text s j
copies_same s (pos m) zero n e h = ap (λ k. times k s) h ∙ sym (times_empty m s (sym e))
copies_same s (pos m) (suc l) n e h = ap (λ k. times k s) (h ∙ some_copies l m)
copies_same s (negsuc k) l n e h = ap (λ k. times k s) h

-- how long it is
pub repeated_length : (s : List ℕ) (j : ℤ) (l n : ℕ) → l ≡ length s → n ≡ copies_of l j → length (repeated_text s j) ≡ l * n
repeated_length s j l n e h =
    ap length (sym (copies_same s j l n e h)) ∙ length_times n s ∙ ap (λ k. n * k) (sym e) ∙ mul_comm n l

-- one copy more has room, where all have
pub room : (i n l most : ℕ) → i < n → n * l ≤ most → i * l + l ≤ most
room i n l most h k = omega (arith, suc-mul i l, mul-le-mul_right {m = suc i} {n = n} l (omega arith))

-- a copy more at the end of a row
pub copied : (w : Width) (old mid new : Rows) (r : Ref) (i : ℕ) → TextLies old r → mid ≡ with_row w (row_of w old ++ times i (text_of old r)) old → new ≡ with_row w (row_of w mid ++ text_of mid r) mid → new ≡ with_row w (row_of w old ++ times (i + 1) (text_of old r)) old
copied w old mid new r i h e f =
    let same : text_of mid r ≡ text_of old r = text-grows old mid r (grows_row w old mid (times i (text_of old r)) e) h in
    row_more w old mid new (times i (text_of old r)) (text_of mid r) e f
    ∙ ap (λ xs. with_row w (row_of w old ++ (times i (text_of old r) ++ xs)) old) same
    ∙ ap (λ xs. with_row w (row_of w old ++ xs) old) (times_next i (text_of old r))
