-- What the first lines of a text say of its schedule, and that a text is that of one schedule at most.
use Rattle.std.proofs.Common.{◌≡◌, ◌≢◌, ℕ, suc, ◌+◌, ◌<◌, ◌≤◌, ◌^◌, List, [], ◌∷◌, ◌++◌, length, map, length-append, append-nil, append_assoc, refl, ap, sym, ◌∙◌, subst, arith}
use Rattle.std.specs.List.{AllByRecursion}
use Rattle.std.specs.Fmt.{decimal}
use Rattle.std.proofs.lemmas.Fmt.{decimal_injective}
use Rattle.std.proofs.lemmas.List.{append_cancel_left, map-append, length-map}
use Rattle.si_schedule.specs.Schedules.{Schedule, IsSchedule, version_line, interpreters_line, count_line, end_line, head_lines, lines_of, ended, text_of}
use Rattle.si_schedule.specs.inner.Reading.{HasRead}
use Rattle.si_schedule.proofs.Lines.{interpreters_word, count_word, cut_lines, first_lines, first_are_lines, all_are_lines, first_go_on, front_goes_on, head_are_lines, interpreters_is_line, NoneHas, Reading, line_more}

-- a number of interpreters, a number of callers, and callers, as lines name them
interpreters_is : (w v : ℕ) → w ≤ 64 → v ≤ 64 → interpreters_line w ≡ interpreters_line v → w ≡ v
interpreters_is w v h k e = decimal_injective w v (omega arith) (omega arith) (append_cancel_left {A = ℕ} interpreters_word (decimal w) (decimal v) e)

count_is : (m n : ℕ) → m < 2 ^ 64 → n < 2 ^ 64 → count_line m ≡ count_line n → m ≡ n
count_is m n h k e = decimal_injective m n h k (append_cancel_left {A = ℕ} count_word (decimal m) (decimal n) e)

-- a schedule with this head
pub record HasHead (s : Schedule) (w n : ℕ) (ls : List (List ℕ)) : Type 0 where
  pub interpreters : s.interpreters ≡ w
  pub count : length s.callers ≡ n
  pub rest : map decimal s.callers ++ end_line ∷ [] ≡ ls

pub has_head : (s : Schedule) (w n : ℕ) (ls : List (List ℕ)) → IsSchedule s → w ≤ 64 → n < 2 ^ 64 → lines_of s ≡ head_lines w n ++ ls → HasHead s w n ls
has_head s w n ls h k m e = record {
  interpreters = interpreters_is s.interpreters w h.most k (cc e);
  count = count_is (length s.callers) n h.count m (cc e);
  rest = cc e;
}

caller_line : (w : ℕ) (ys xs : List ℕ) (line : List ℕ) (more : List (List ℕ)) → length xs < length ys → AllByRecursion (λ i. i < w) ys → map decimal ys ++ end_line ∷ [] ≡ map decimal xs ++ line ∷ more → (y : ℕ) × (y < w) × (line ≡ decimal y)
caller_line w [] xs line more l h e = absurd (omega arith)
caller_line w (y ∷ ys) [] line more l h e = let k : decimal y ≡ line = cc e in (y, h.0, sym k)
caller_line w (y ∷ ys) (x ∷ xs) line more l h e =
    let k : map decimal ys ++ end_line ∷ [] ≡ map decimal xs ++ line ∷ more = cc e in
    caller_line w ys xs line more (omega arith) h.1 k

end_is : (ys xs : List ℕ) (line : List ℕ) (more : List (List ℕ)) → length ys ≡ length xs → map decimal ys ++ end_line ∷ [] ≡ map decimal xs ++ line ∷ more → line ≡ end_line
end_is [] [] line more l e = let k : end_line ≡ line = cc e in sym k
end_is [] (x ∷ xs) line more l e = absurd (let k : 0 ≡ suc (length xs) = l in omega arith)
end_is (y ∷ ys) [] line more l e = absurd (let k : suc (length ys) ≡ 0 = l in omega arith)
end_is (y ∷ ys) (x ∷ xs) line more l e =
    let k : map decimal ys ++ end_line ∷ [] ≡ map decimal xs ++ line ∷ more = cc e in
    end_is ys xs line more (let m : suc (length ys) ≡ suc (length xs) = l in omega arith) k

lines_count : (ys : List ℕ) → length (map decimal ys ++ end_line ∷ []) ≡ length ys + 1
lines_count ys = length-append (map decimal ys) (end_line ∷ []) ∙ ap (λ (n : ℕ). n + 1) (length-map ys decimal)

pub first_count : (w n : ℕ) (xs : List ℕ) → length (first_lines w n xs) ≡ length xs + 3
first_count w n xs = let e = length-map xs decimal in omega arith

-- how the text stands after its first lines, and why the next line may be bad
pub start_reading : (t : List ℕ) → Reading t [] t
start_reading t = record { split = refl; each = tt; begins = front_goes_on [] _ (first_go_on 1 0 [] (omega arith) (omega arith) (omega arith) tt (omega arith)) }

pub version_reading : (t rest : List ℕ) → t ≡ version_line ++ 10 ∷ rest → Reading t (version_line ∷ []) rest
version_reading t rest e = record {
  split = line_more t [] t version_line rest refl e;
  each = ((head_are_lines 1 0 (omega arith) (omega arith)).0, tt);
  begins = front_goes_on (version_line ∷ []) (interpreters_line 1 ∷ (count_line 0 ∷ [])) (first_go_on 1 0 [] (omega arith) (omega arith) (omega arith) tt (omega arith));
}

pub interpreters_reading : (t rest after : List ℕ) (w : ℕ) → 1 ≤ w → w ≤ 64 → Reading t (version_line ∷ []) rest → rest ≡ interpreters_line w ++ 10 ∷ after → Reading t (version_line ∷ (interpreters_line w ∷ [])) after
interpreters_reading t rest after w h k r e = record {
  split = line_more t (version_line ∷ []) rest (interpreters_line w) after r.split e;
  each = (r.each.0, (interpreters_is_line w (omega arith), tt));
  begins = front_goes_on (version_line ∷ (interpreters_line w ∷ [])) (count_line 0 ∷ []) (first_go_on w 0 [] h k (omega arith) tt (omega arith));
}

pub count_reading : (t rest after : List ℕ) (w n : ℕ) → 1 ≤ w → w ≤ 64 → n < 2 ^ 64 → Reading t (version_line ∷ (interpreters_line w ∷ [])) rest → rest ≡ count_line n ++ 10 ∷ after → Reading t (first_lines w n []) after
count_reading t rest after w n h k m r e = record {
  split = line_more t (version_line ∷ (interpreters_line w ∷ [])) rest (count_line n) after r.split e;
  each = first_are_lines w n [] k m tt;
  begins = first_go_on w n [] h k m tt (omega arith);
}

each-more : (w : ℕ) (xs : List ℕ) (x : ℕ) → AllByRecursion (λ i. i < w) xs → x < w → AllByRecursion (λ i. i < w) (xs ++ x ∷ [])
each-more w [] x h k = (k, tt)
each-more w (y ∷ xs) x h k = (h.0, each-more w xs x h.1 k)

pub first_reading : (t : List ℕ) (w n : ℕ) (xs : List ℕ) (rest : List ℕ) → HasRead t w n xs rest → Reading t (first_lines w n xs) rest
first_reading t w n xs rest h = record { split = h.split; each = first_are_lines w n xs h.most h.bound h.each; begins = first_go_on w n xs h.least h.most h.bound h.each h.few }

pub one_more : (t : List ℕ) (w n : ℕ) (xs : List ℕ) (x : ℕ) (rest line after : List ℕ) → HasRead t w n xs rest → length xs < n → rest ≡ line ++ 10 ∷ after → line ≡ decimal x → x < w → HasRead t w n (xs ++ x ∷ []) after
one_more t w n xs x rest line after h l e f b =
    let a : first_lines w n (xs ++ x ∷ []) ≡ first_lines w n xs ++ decimal x ∷ [] = ap (λ (ls : List (List ℕ)). head_lines w n ++ ls) (map-append decimal xs (x ∷ [])) ∙ sym (append_assoc (head_lines w n) (map decimal xs) (decimal x ∷ [])) in
    record {
      least = h.least;
      most = h.most;
      bound = h.bound;
      each = each-more w xs x h.each b;
      few = let k = length-append xs (x ∷ []) in omega arith;
      split = line_more t (first_lines w n xs) rest (decimal x) after h.split (e ∙ ap (λ (z : List ℕ). z ++ 10 ∷ after) f) ∙ ap (λ (ls : List (List ℕ)). ended ls ++ after) (sym a);
    }

head_of : (s : Schedule) (w n : ℕ) (xs : List ℕ) (ls : List (List ℕ)) → IsSchedule s → w ≤ 64 → n < 2 ^ 64 → lines_of s ≡ first_lines w n xs ++ ls → HasHead s w n (map decimal xs ++ ls)
head_of s w n xs ls h k m e = has_head s w n (map decimal xs ++ ls) h k m (e ∙ append_assoc (head_lines w n) (map decimal xs) ls)

-- bad lines
pub bad_version : (line : List ℕ) → line ≢ version_line → NoneHas [] line
bad_version line ne = λ s more is e. let k : version_line ≡ line = cc e in ne (sym k)

pub bad_interpreters : (line : List ℕ) → ((w : ℕ) → 1 ≤ w → w ≤ 64 → line ≢ interpreters_line w) → NoneHas (version_line ∷ []) line
bad_interpreters line ne = λ s more is e. let k : interpreters_line s.interpreters ≡ line = cc e in ne s.interpreters is.least is.most (sym k)

pub bad_count : (w : ℕ) (line : List ℕ) → ((n : ℕ) → n < 2 ^ 64 → line ≢ count_line n) → NoneHas (version_line ∷ (interpreters_line w ∷ [])) line
bad_count w line ne = λ s more is e. let k : count_line (length s.callers) ≡ line = cc e in ne (length s.callers) is.count (sym k)

pub bad_caller : (w n : ℕ) (xs : List ℕ) (line : List ℕ) → w ≤ 64 → n < 2 ^ 64 → length xs < n → ((i : ℕ) → i < w → line ≢ decimal i) → NoneHas (first_lines w n xs) line
bad_caller w n xs line k m l ne = λ s more is e.
    let h = head_of s w n xs (line ∷ more) is k m e in
    let lt : length xs < length s.callers = (let c = h.count in omega arith) in
    let y = caller_line s.interpreters s.callers xs line more lt is.each h.rest in
    let b : y.0 < w = (let c = h.interpreters in let d = y.1 in omega arith) in
    ne y.0 b y.2

pub bad_end : (w n : ℕ) (xs : List ℕ) (line : List ℕ) → w ≤ 64 → n < 2 ^ 64 → length xs ≡ n → line ≢ end_line → NoneHas (first_lines w n xs) line
bad_end w n xs line k m l ne = λ s more is e.
    let h = head_of s w n xs (line ∷ more) is k m e in
    ne (end_is s.callers xs line more (h.count ∙ sym l) h.rest)

pub none_after : (w n : ℕ) (xs : List ℕ) (line : List ℕ) → w ≤ 64 → n < 2 ^ 64 → length xs ≡ n → NoneHas (first_lines w n xs ++ end_line ∷ []) line
none_after w n xs line k m l = λ s more is e.
    let h = head_of s w n xs (end_line ∷ (line ∷ more)) is k m (e ∙ append_assoc (first_lines w n xs) (end_line ∷ []) (line ∷ more)) in
    let a = ap (λ (ls : List (List ℕ)). length ls) h.rest in
    let b = lines_count s.callers in
    let c = length-append (map decimal xs) (end_line ∷ (line ∷ more)) in
    let d = length-map xs decimal in
    let f = h.count in
    omega arith

pub not_all : (w n : ℕ) (xs : List ℕ) (s : Schedule) → w ≤ 64 → n < 2 ^ 64 → length xs ≤ n → IsSchedule s → lines_of s ≡ first_lines w n xs → ⊥
not_all w n xs s k m l is e =
    let h = head_of s w n xs [] is k m (e ∙ sym (append-nil (first_lines w n xs))) in
    let a = ap (λ (ls : List (List ℕ)). length ls) (h.rest ∙ append-nil (map decimal xs)) in
    let b = lines_count s.callers in
    let d = length-map xs decimal in
    let f = h.count in
    omega arith

-- the whole text
pub text_is : (t : List ℕ) (w n : ℕ) (xs : List ℕ) (rest after : List ℕ) → HasRead t w n xs rest → length xs ≡ n → rest ≡ end_line ++ 10 ∷ after → t ≡ ended (first_lines w n xs ++ end_line ∷ []) ++ after
text_is t w n xs rest after h l e = line_more t (first_lines w n xs) rest end_line after h.split e

pub all_lines : (w : ℕ) (xs : List ℕ) → (let s : Schedule = record { interpreters = w; callers = xs } in first_lines w (length xs) xs ++ end_line ∷ [] ≡ lines_of s)
all_lines w xs = append_assoc (head_lines w (length xs)) (map decimal xs) (end_line ∷ [])

map_one : (xs ys : List ℕ) (w : ℕ) → w ≤ 64 → AllByRecursion (λ i. i < w) xs → AllByRecursion (λ i. i < w) ys → map decimal xs ++ end_line ∷ [] ≡ map decimal ys ++ end_line ∷ [] → length xs ≡ length ys → xs ≡ ys
map_one [] [] w k h g e l = refl
map_one [] (y ∷ ys) w k h g e l = absurd (let m : 0 ≡ suc (length ys) = l in omega arith)
map_one (x ∷ xs) [] w k h g e l = absurd (let m : suc (length xs) ≡ 0 = l in omega arith)
map_one (x ∷ xs) (y ∷ ys) w k h g e l =
    let a : decimal x ≡ decimal y = cc e in
    let b : map decimal xs ++ end_line ∷ [] ≡ map decimal ys ++ end_line ∷ [] = cc e in
    let hx = h.0 in
    let gy = g.0 in
    let c : x ≡ y = decimal_injective x y (omega arith) (omega arith) a in
    let d = map_one xs ys w k h.1 g.1 b (let m : suc (length xs) ≡ suc (length ys) = l in omega arith) in
    ap (λ (z : ℕ). z ∷ xs) c ∙ ap (λ (zs : List ℕ). y ∷ zs) d

not_empty : (l a : List ℕ) → (let none : List ℕ = [] in (l ++ 10 ∷ []) ++ a ≡ none) → ⊥
not_empty [] a e = cc e
not_empty (c ∷ l) a e = cc e

no_rest : (ls : List (List ℕ)) → (let none : List ℕ = [] in ended ls ≡ none) → ls ≡ []
no_rest [] e = refl
no_rest (l ∷ ls) e = absurd (not_empty l (ended ls) e)

-- one text, one schedule
pub one_schedule : (s r : Schedule) → IsSchedule s → IsSchedule r → text_of s ≡ text_of r → s ≡ r
one_schedule s r h k e =
    let c = cut_lines (lines_of s) (lines_of r) [] (all_are_lines s h) (all_are_lines r k) (e ∙ sym (append-nil (text_of r))) in
    let f : lines_of s ≡ head_lines r.interpreters (length r.callers) ++ ((map decimal r.callers ++ end_line ∷ []) ++ c.rest) = c.split ∙ append_assoc (head_lines r.interpreters (length r.callers)) (map decimal r.callers ++ end_line ∷ []) c.rest in
    let g = has_head s r.interpreters (length r.callers) _ h k.most k.count f in
    let z : (c.rest ≡ []) = no_rest c.rest c.left in
    let m : map decimal s.callers ++ end_line ∷ [] ≡ map decimal r.callers ++ end_line ∷ [] = g.rest ∙ ap (λ (x : List (List ℕ)). (map decimal r.callers ++ end_line ∷ []) ++ x) z ∙ append-nil (map decimal r.callers ++ end_line ∷ []) in
    let each : AllByRecursion (λ i. i < r.interpreters) s.callers = subst (λ (w : ℕ). AllByRecursion (λ i. i < w) s.callers) g.interpreters h.each in
    let d = map_one s.callers r.callers r.interpreters k.most each k.each m g.count in
    ap (λ (w : ℕ). let x : Schedule = record { interpreters = w; callers = s.callers } in x) g.interpreters ∙ ap (λ (xs : List ℕ). let x : Schedule = record { interpreters = r.interpreters; callers = xs } in x) d
