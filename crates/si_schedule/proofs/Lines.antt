-- Lines, and which of them the text of a schedule begins with.
use Rattle.std.proofs.Common.{◌≡◌, ◌≢◌, ℕ, zero, suc, ◌+◌, ◌-◌, ◌<◌, ◌≤◌, ◌^◌, List, [], ◌∷◌, ◌++◌, length, map, replicate, length-append, append-nil, append_assoc, refl, ap, sym, ◌∙◌, subst, arith, inl, inr, Bool, true, false}
use Rattle.std.specs.Prelude.{◌==◌, if◌then◌else◌, codes}
use Rattle.std.specs.List.{AllByRecursion}
use Rattle.std.specs.Fmt.{decimal}
use Rattle.std.proofs.lemmas.List.{map-append, length-replicate}
use Rattle.std.proofs.lemmas.Bool.Decides.{eqb_tells}
use Rattle.std.proofs.lemmas.Grind.{flat_map-append}
use Rattle.si_schedule.specs.Schedules.{Schedule, IsSchedule, version_line, interpreters_line, count_line, end_line, head_lines, lines_of, ended}
use Rattle.si_schedule.specs.BadLines.{IsLine, CanGoOn, IsBadLine}
use Rattle.si_schedule.proofs.Numbers.{decimal_is_line}

pub ended-append : (xs ys : List (List ℕ)) → ended (xs ++ ys) ≡ ended xs ++ ended ys
ended-append xs ys = flat_map-append (λ (l : List ℕ). l ++ 10 ∷ []) xs ys

abbrev pub interpreters_word : List ℕ
interpreters_word = codes "interpreters "

abbrev pub count_word : List ℕ
count_word = codes "turns "

-- where a line ends is seen
pub cut_line : (x y a b : List ℕ) → IsLine x → IsLine y → x ++ 10 ∷ a ≡ y ++ 10 ∷ b → (x ≡ y) × (a ≡ b)
cut_line [] [] a b h k e = let t : a ≡ b = cc e in (refl, t)
cut_line [] (c ∷ y) a b h k e = let t : c ≡ 10 = cc e in absurd (k.0 t)
cut_line (c ∷ x) [] a b h k e = let t : c ≡ 10 = cc e in absurd (h.0 t)
cut_line (c ∷ x) (d ∷ y) a b h k e =
    let t : c ≡ d = cc e in
    let s : x ++ 10 ∷ a ≡ y ++ 10 ∷ b = cc e in
    let r = cut_line x y a b h.1 k.1 s in
    (ap (λ (n : ℕ). n ∷ x) t ∙ ap (λ (z : List ℕ). d ∷ z) r.0, r.1)

no_line : (y a : List ℕ) → (let none : List ℕ = [] in none ≡ y ++ 10 ∷ a) → ⊥
no_line [] a e = cc e
no_line (c ∷ y) a e = cc e

pub one_line : (x a : List ℕ) → (x ++ 10 ∷ []) ++ a ≡ x ++ 10 ∷ a
one_line x a = append_assoc x (10 ∷ []) a

-- lines that begin with other lines
pub record Cut (xs ys : List (List ℕ)) (more : List ℕ) : Type 0 where
  pub rest : List (List ℕ)
  pub split : xs ≡ ys ++ rest
  pub left : ended rest ≡ more

pub cut_lines : (xs ys : List (List ℕ)) (more : List ℕ) → AllByRecursion IsLine xs → AllByRecursion IsLine ys → ended xs ≡ ended ys ++ more → Cut xs ys more
cut_lines xs [] more h k e = record { rest = xs; split = refl; left = e }
cut_lines [] (y ∷ ys) more h k e = absurd (no_line y (ended ys ++ more) (e ∙ append_assoc (y ++ 10 ∷ []) (ended ys) more ∙ one_line y (ended ys ++ more)))
cut_lines (x ∷ xs) (y ∷ ys) more h k e =
    let f : x ++ 10 ∷ ended xs ≡ y ++ 10 ∷ (ended ys ++ more) = sym (one_line x (ended xs)) ∙ e ∙ append_assoc (y ++ 10 ∷ []) (ended ys) more ∙ one_line y (ended ys ++ more) in
    let c = cut_line x y (ended xs) (ended ys ++ more) h.0 k.0 f in
    let r = cut_lines xs ys more h.1 k.1 c.1 in
    record { rest = r.rest; split = ap (λ (z : List ℕ). z ∷ xs) c.0 ∙ ap (λ (zs : List (List ℕ)). y ∷ zs) r.split; left = r.left }

-- no line ends in the lines of a schedule
unfoldable pub has_feed : List ℕ → Bool
has_feed [] = false
has_feed (b ∷ bs) = if b == 10 then true else has_feed bs

feed_step : (b : ℕ) (bs : List ℕ) → (if b == 10 then true else has_feed bs) ≡ false → (b ≢ 10) × (has_feed bs ≡ false)
feed_step b bs e = elim (eqb_tells b 10) [
  | inl w ↦ (let k : true ≡ false = rw w.0 at e in absurd (cc k))
  | inr w ↦ (w.1, (let k : has_feed bs ≡ false = rw w.0 at e in k))
]

pub line_test : (l : List ℕ) → has_feed l ≡ false → IsLine l
unfolding has_feed
line_test [] e = tt
line_test (b ∷ bs) e = let k = feed_step b bs e in (k.0, line_test bs k.1)

line-append : (x y : List ℕ) → IsLine x → IsLine y → IsLine (x ++ y)
line-append [] y h k = k
line-append (c ∷ x) y h k = (h.0, line-append x y h.1 k)

version_is_line : IsLine version_line
unfolding has_feed
version_is_line = line_test version_line refl

pub interpreters_is_line : (w : ℕ) → w < 2 ^ 64 → IsLine (interpreters_line w)
unfolding has_feed
interpreters_is_line w h = line-append interpreters_word (decimal w) (line_test interpreters_word refl) (decimal_is_line w h)

pub count_is_line : (n : ℕ) → n < 2 ^ 64 → IsLine (count_line n)
unfolding has_feed
count_is_line n h = line-append count_word (decimal n) (line_test count_word refl) (decimal_is_line n h)

pub end_is_line : IsLine end_line
unfolding has_feed
end_is_line = line_test end_line refl

all-append : (xs ys : List (List ℕ)) → AllByRecursion IsLine xs → AllByRecursion IsLine ys → AllByRecursion IsLine (xs ++ ys)
all-append [] ys h k = k
all-append (x ∷ xs) ys h k = (h.0, all-append xs ys h.1 k)

pub callers_are_lines : (w : ℕ) (xs : List ℕ) → w ≤ 64 → AllByRecursion (λ i. i < w) xs → AllByRecursion IsLine (map decimal xs)
callers_are_lines w [] h k = tt
callers_are_lines w (x ∷ xs) h k = let a = k.0 in (decimal_is_line x (omega arith), callers_are_lines w xs h k.1)

pub head_are_lines : (w n : ℕ) → w ≤ 64 → n < 2 ^ 64 → AllByRecursion IsLine (head_lines w n)
head_are_lines w n h k = (version_is_line, (interpreters_is_line w (omega arith), (count_is_line n k, tt)))

-- the lines that were read
abbrev pub first_lines : ℕ → ℕ → List ℕ → List (List ℕ)
first_lines w n xs = head_lines w n ++ map decimal xs

pub first_are_lines : (w n : ℕ) (xs : List ℕ) → w ≤ 64 → n < 2 ^ 64 → AllByRecursion (λ i. i < w) xs → AllByRecursion IsLine (first_lines w n xs)
first_are_lines w n xs h k e = all-append (head_lines w n) (map decimal xs) (head_are_lines w n h k) (callers_are_lines w xs h e)

pub all_are_lines : (s : Schedule) → IsSchedule s → AllByRecursion IsLine (lines_of s)
all_are_lines s h = all-append (head_lines s.interpreters (length s.callers)) _ (head_are_lines s.interpreters (length s.callers) h.most h.count)
    (all-append (map decimal s.callers) (end_line ∷ []) (callers_are_lines s.interpreters s.callers h.most h.each) (end_is_line, tt))

-- with what a schedule's text begins
pub lines_go_on : (s : Schedule) → IsSchedule s → (ls more : List (List ℕ)) → lines_of s ≡ ls ++ more → CanGoOn ls
lines_go_on s h ls more e = record { schedule = s; is = h; more = ended more; text = ap ended e ∙ ended-append ls more }

pub front_goes_on : (ls more : List (List ℕ)) → CanGoOn (ls ++ more) → CanGoOn ls
front_goes_on ls more h = record { schedule = h.schedule; is = h.is; more = ended more ++ h.more; text = h.text ∙ ap (λ (x : List ℕ). x ++ h.more) (ended-append ls more) ∙ append_assoc (ended ls) (ended more) h.more }

zeros_below : (w n : ℕ) → 1 ≤ w → AllByRecursion (λ i. i < w) (replicate n 0)
zeros_below w zero h = tt
zeros_below w (suc n) h = ((let k : 0 < w = omega arith in k), zeros_below w n h)

below-append : (w : ℕ) (xs ys : List ℕ) → AllByRecursion (λ i. i < w) xs → AllByRecursion (λ i. i < w) ys → AllByRecursion (λ i. i < w) (xs ++ ys)
below-append w [] ys h k = k
below-append w (x ∷ xs) ys h k = (h.0, below-append w xs ys h.1 k)

abbrev filled : ℕ → ℕ → List ℕ → Schedule
filled w n xs = record { interpreters = w; callers = xs ++ replicate (n - length xs) 0 }

filled_count : (n : ℕ) (xs : List ℕ) → length xs ≤ n → length (xs ++ replicate (n - length xs) 0) ≡ n
filled_count n xs h = let b : length (replicate {A = ℕ} (n - length xs) 0) ≡ n - length xs = length-replicate {A = ℕ} (n - length xs) 0 in
    length-append {A = ℕ} xs (replicate {A = ℕ} (n - length xs) 0) ∙ ap (λ (k : ℕ). length xs + k) b ∙ (let z : length xs + (n - length xs) ≡ n = omega arith in z)

filled_is : (w n : ℕ) (xs : List ℕ) → 1 ≤ w → w ≤ 64 → n < 2 ^ 64 → AllByRecursion (λ i. i < w) xs → length xs ≤ n → IsSchedule (filled w n xs)
filled_is w n xs h k m e l = record { least = h; most = k; each = below-append w xs _ e (zeros_below w (n - length xs) h); count = let a = filled_count n xs l in omega arith }

pub first_go_on : (w n : ℕ) (xs : List ℕ) → 1 ≤ w → w ≤ 64 → n < 2 ^ 64 → AllByRecursion (λ i. i < w) xs → length xs ≤ n → CanGoOn (first_lines w n xs)
first_go_on w n xs h k m e l =
    let zs = replicate (n - length xs) 0 in
    let a : head_lines w (length (xs ++ zs)) ≡ head_lines w n = ap (head_lines w) (filled_count n xs l) in
    let more : List (List ℕ) = map decimal zs ++ end_line ∷ [] in
    let b : map decimal (xs ++ zs) ++ end_line ∷ [] ≡ map decimal xs ++ more = ap (λ (x : List (List ℕ)). x ++ end_line ∷ []) (map-append decimal xs zs) ∙ append_assoc (map decimal xs) (map decimal zs) (end_line ∷ []) in
    lines_go_on (filled w n xs) (filled_is w n xs h k m e l) (first_lines w n xs) more
    (ap (λ (x : List (List ℕ)). x ++ (map decimal (xs ++ zs) ++ end_line ∷ [])) a ∙ ap (λ (x : List (List ℕ)). head_lines w n ++ x) b ∙ sym (append_assoc (head_lines w n) (map decimal xs) more))

pub all_go_on : (w : ℕ) (xs : List ℕ) → 1 ≤ w → w ≤ 64 → length xs < 2 ^ 64 → AllByRecursion (λ i. i < w) xs → CanGoOn (first_lines w (length xs) xs ++ end_line ∷ [])
all_go_on w xs h k m e =
    let s : Schedule = record { interpreters = w; callers = xs } in
    lines_go_on s (record { least = h; most = k; each = e; count = m }) _ []
    (sym (append_assoc (head_lines w (length xs)) (map decimal xs) (end_line ∷ [])) ∙ sym (append-nil (first_lines w (length xs) xs ++ end_line ∷ [])))

-- a line with which no schedule's text begins
abbrev pub NoneHas : List (List ℕ) → List ℕ → Type 0
NoneHas before line = (s : Schedule) (more : List (List ℕ)) → IsSchedule s → lines_of s ≡ before ++ line ∷ more → ⊥

refuted : (before : List (List ℕ)) (line : List ℕ) → AllByRecursion IsLine before → IsLine line → NoneHas before line → CanGoOn (before ++ line ∷ []) → ⊥
refuted before line h k f b =
    let c = cut_lines (lines_of b.schedule) (before ++ line ∷ []) b.more (all_are_lines b.schedule b.is) (all-append before (line ∷ []) h (k, tt)) b.text in
    f b.schedule c.rest b.is (c.split ∙ append_assoc before (line ∷ []) c.rest)

-- what was read, and what is left
pub record Reading (t : List ℕ) (before : List (List ℕ)) (rest : List ℕ) : Type 0 where
  pub split : t ≡ ended before ++ rest
  pub each : AllByRecursion IsLine before
  pub begins : CanGoOn before

pub line_more : (t : List ℕ) (before : List (List ℕ)) (rest line after : List ℕ) → t ≡ ended before ++ rest → rest ≡ line ++ 10 ∷ after → t ≡ ended (before ++ line ∷ []) ++ after
line_more t before rest line after e f =
    let g : rest ≡ ended (line ∷ []) ++ after = f ∙ sym (one_line line after) ∙ ap (λ (x : List ℕ). x ++ after) (sym (append-nil (line ++ 10 ∷ []))) in
    e ∙ ap (λ (x : List ℕ). ended before ++ x) g ∙ sym (append_assoc (ended before) (ended (line ∷ [])) after) ∙ ap (λ (x : List ℕ). x ++ after) (sym (ended-append before (line ∷ [])))

pub bad_line : (t : List ℕ) (before : List (List ℕ)) (rest line after : List ℕ) (k : ℕ) → Reading t before rest → rest ≡ line ++ 10 ∷ after → IsLine line → NoneHas before line → k ≡ length before + 1 → IsBadLine t k
bad_line t before rest line after k r e n f ek = record {
  before = before;
  left = rest;
  split = r.split;
  are_lines = r.each;
  go_on = r.begins;
  number = ek;
  bad = inr (record { line = line; after = after; split = e; is_line = n; stuck = refuted before line r.each n f });
  none = λ s is q. refuted before line r.each n f (record { schedule = s; is = is; more = after; text = sym q ∙ line_more t before rest line after r.split e });
}

pub feed_in : (z a : List ℕ) → IsLine (z ++ 10 ∷ a) → ⊥
feed_in [] a h = h.0 refl
feed_in (c ∷ z) a h = feed_in z a h.1

left_none : (ls : List (List ℕ)) (rest : List ℕ) → ended ls ≡ rest → IsLine rest → (ls ≡ []) × (rest ≡ [])
left_none [] rest e h = (refl, sym e)
left_none (l ∷ ls) rest e h = absurd (feed_in l (ended ls) (subst IsLine (sym e ∙ one_line l (ended ls)) h))

-- the next line is missing or not ended
pub missing : (t : List ℕ) (before : List (List ℕ)) (rest : List ℕ) (k : ℕ) → Reading t before rest → IsLine rest → ((s : Schedule) → IsSchedule s → lines_of s ≡ before → rest ≡ [] → ⊥) → k ≡ length before + 1 → IsBadLine t k
missing t before rest k r n f ek = record {
  before = before;
  left = rest;
  split = r.split;
  are_lines = r.each;
  go_on = r.begins;
  number = ek;
  bad = inl n;
  none = λ s is q.
      let c = cut_lines (lines_of s) before rest (all_are_lines s is) r.each (sym q ∙ r.split) in
      let z = left_none c.rest rest c.left n in
      f s is (c.split ∙ ap (λ (x : List (List ℕ)). before ++ x) z.0 ∙ append-nil before) z.1;
}
