-- Each fault that the code finds is the first bad line.
use Rattle.std.proofs.Common.{◌≡◌, ◌≢◌, ℕ, ◌+◌, ◌<◌, ◌≤◌, ◌^◌, List, [], ◌∷◌, ◌++◌, length, length-append, append-nil, ap, sym, ◌∙◌, subst, arith, ◌⊎◌, inl, inr}
use Rattle.std.specs.List.{AllByRecursion}
use Rattle.std.proofs.lemmas.Bool.Decides.{eqb_tells}
use Rattle.si_schedule.specs.Schedules.{Schedule, IsSchedule, version_line, interpreters_line, count_line, end_line, ended, text_of}
use Rattle.si_schedule.specs.BadLines.{IsLine, CanGoOn, IsBadLine}
use Rattle.si_schedule.specs.inner.Reading.{HasRead, IsNoVersion, IsNoInterpreters, IsNoCount, IsNoCaller, IsNoEnd}
use Rattle.si_schedule.proofs.Lines.{first_lines, all_go_on, Reading, bad_line, missing, first_are_lines, end_is_line}
use Rattle.si_schedule.proofs.Schedules.{first_count, start_reading, interpreters_reading, count_reading, first_reading, bad_version, bad_interpreters, bad_count, bad_caller, bad_end, none_after, not_all, text_is, all_lines}

-- a bad version
pub no_version : (t : List ℕ) → IsNoVersion t → IsBadLine t 1
no_version t (inl n) = missing t [] t 1 (start_reading t) n (λ s is e z. cc e) (omega arith)
no_version t (inr b) = bad_line t [] t b.0 b.1 1 (start_reading t) b.2 b.3 (bad_version b.0 b.4) (omega arith)

-- a bad number of interpreters
pub no_interpreters : (t left : List ℕ) → Reading t (version_line ∷ []) left → IsNoInterpreters left → IsBadLine t 2
no_interpreters t left r (inl n) = missing t (version_line ∷ []) left 2 r n (λ s is e z. cc e) (omega arith)
no_interpreters t left r (inr b) = bad_line t (version_line ∷ []) left b.0 b.1 2 r b.2 b.3 (bad_interpreters b.0 b.4) (omega arith)

pub wide : (t left after : List ℕ) (w : ℕ) → Reading t (version_line ∷ []) left → (1 ≤ w) × (w ≤ 64) × (left ≡ interpreters_line w ++ 10 ∷ after) → Reading t (version_line ∷ (interpreters_line w ∷ [])) after
wide t left after w r f = interpreters_reading t left after w f.0 f.1 r f.2

-- a bad number of callers
pub no_count : (t left : List ℕ) (w : ℕ) → Reading t (version_line ∷ (interpreters_line w ∷ [])) left → IsNoCount left → IsBadLine t 3
no_count t left w r (inl n) = missing t (version_line ∷ (interpreters_line w ∷ [])) left 3 r n (λ s is e z. cc e) (omega arith)
no_count t left w r (inr b) = bad_line t (version_line ∷ (interpreters_line w ∷ [])) left b.0 b.1 3 r b.2 b.3 (bad_count w b.0 b.4) (omega arith)

pub heads : (t left after : List ℕ) (w n : ℕ) → Reading t (version_line ∷ (interpreters_line w ∷ [])) left → 1 ≤ w → w ≤ 64 → n < 2 ^ 64 → left ≡ count_line n ++ 10 ∷ after → HasRead t w n [] after
heads t left after w n r h k m e =
    let c = count_reading t left after w n h k m r e in
    record { least = h; most = k; bound = m; each = tt; few = omega arith; split = c.split }

-- a bad caller
pub no_caller : (t : List ℕ) (w n : ℕ) (xs rest : List ℕ) (k : ℕ) → HasRead t w n xs rest → length xs < n → IsNoCaller rest w → k ≡ length xs + 4 → IsBadLine t k
no_caller t w n xs rest k h l (inl e) ek = missing t (first_lines w n xs) rest k (first_reading t w n xs rest h) e (λ s is f z. not_all w n xs s h.most h.bound h.few is f) (let c = first_count w n xs in omega arith)
no_caller t w n xs rest k h l (inr b) ek =
    bad_line t (first_lines w n xs) rest b.0 b.1 k (first_reading t w n xs rest h) b.2 b.3 (bad_caller w n xs b.0 h.most h.bound l b.4) (let c = first_count w n xs in omega arith)

-- a bad end
pub no_end : (t : List ℕ) (w n : ℕ) (xs rest : List ℕ) (k : ℕ) → HasRead t w n xs rest → length xs ≡ n → IsNoEnd rest → k ≡ length xs + 4 → IsBadLine t k
no_end t w n xs rest k h l (inl e) ek = missing t (first_lines w n xs) rest k (first_reading t w n xs rest h) e (λ s is f z. not_all w n xs s h.most h.bound h.few is f) (let c = first_count w n xs in omega arith)
no_end t w n xs rest k h l (inr b) ek =
    bad_line t (first_lines w n xs) rest b.0 b.1 k (first_reading t w n xs rest h) b.2 b.3 (bad_end w n xs b.0 h.most h.bound l b.4) (let c = first_count w n xs in omega arith)

-- a text is a line and what follows, or no line ends in it
abbrev HasLine : List ℕ → Type 0
HasLine t = (line : List ℕ) × (after : List ℕ) × (t ≡ line ++ 10 ∷ after) × IsLine line

line_or_none : (t : List ℕ) → IsLine t ⊎ HasLine t
line_or_none [] = inl tt
line_or_none (b ∷ bs) = elim (eqb_tells b 10) [
  | inl w ↦ inr ([], bs, ap (λ (x : ℕ). x ∷ bs) w.1, tt)
  | inr w ↦ elim (line_or_none bs) [
    | inl n ↦ inl (w.1, n)
    | inr l ↦ inr (b ∷ l.0, l.1, ap (λ (x : List ℕ). b ∷ x) l.2, (w.1, l.3))
  ]
]

with_end : (xs : List (List ℕ)) → AllByRecursion IsLine xs → AllByRecursion IsLine (xs ++ end_line ∷ [])
with_end [] h = (end_is_line, tt)
with_end (x ∷ xs) h = (h.0, with_end xs h.1)

end_reading : (t : List ℕ) (w n : ℕ) (xs rest after : List ℕ) → HasRead t w n xs rest → length xs ≡ n → rest ≡ end_line ++ 10 ∷ after → Reading t (first_lines w n xs ++ end_line ∷ []) after
end_reading t w n xs rest after h l e =
    let b = all_go_on w xs h.least h.most (let c = h.bound in omega arith) h.each in
    record {
      split = text_is t w n xs rest after h l e;
      each = with_end (first_lines w n xs) (first_are_lines w n xs h.most h.bound h.each);
      begins = subst (λ (m : ℕ). CanGoOn (first_lines w m xs ++ end_line ∷ [])) l b;
    }

more_at : (t : List ℕ) (w n : ℕ) (xs after : List ℕ) (k : ℕ) → w ≤ 64 → n < 2 ^ 64 → length xs ≡ n → Reading t (first_lines w n xs ++ end_line ∷ []) after → after ≢ [] → k ≡ length xs + 5 → IsLine after ⊎ HasLine after → IsBadLine t k
more_at t w n xs after k h m l r ne ek (inl e) = missing t (first_lines w n xs ++ end_line ∷ []) after k r e (λ s is f z. ne z) (let a = length-append (first_lines w n xs) (end_line ∷ []) in let c = first_count w n xs in omega arith)
more_at t w n xs after k h m l r ne ek (inr b) = bad_line t (first_lines w n xs ++ end_line ∷ []) after b.0 b.1 k r b.2 b.3 (none_after w n xs b.0 h m l)
    (let a = length-append (first_lines w n xs) (end_line ∷ []) in let c = first_count w n xs in omega arith)

-- something after the end
pub goes_on : (t : List ℕ) (w n : ℕ) (xs rest after : List ℕ) (k : ℕ) → HasRead t w n xs rest → length xs ≡ n → rest ≡ end_line ++ 10 ∷ after → after ≢ [] → k ≡ length xs + 5 → IsBadLine t k
goes_on t w n xs rest after k h l e ne ek = more_at t w n xs after k h.most h.bound l (end_reading t w n xs rest after h l e) ne ek (line_or_none after)

-- the whole text
pub whole : (t : List ℕ) (w n : ℕ) (xs rest : List ℕ) → HasRead t w n xs rest → length xs ≡ n → rest ≡ end_line ++ 10 ∷ [] → (let s : Schedule = record { interpreters = w; callers = xs } in t ≡ text_of s)
whole t w n xs rest h l e =
    text_is t w n xs rest [] h l e ∙ append-nil (ended (first_lines w n xs ++ end_line ∷ [])) ∙ ap (λ (m : ℕ). ended (first_lines w m xs ++ end_line ∷ [])) (sym l) ∙ ap ended (all_lines w xs)

pub whole_is : (t : List ℕ) (w n : ℕ) (xs rest : List ℕ) → HasRead t w n xs rest → length xs ≡ n → (let s : Schedule = record { interpreters = w; callers = xs } in IsSchedule s)
whole_is t w n xs rest h l = record { least = h.least; most = h.most; each = h.each; count = let c = h.bound in omega arith }
