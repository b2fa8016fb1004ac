-- A text is that of one schedule at most, and has one first bad line at most.
use Rattle.std.proofs.Common.{◌≡◌, ℕ, List, [], ◌∷◌, ◌++◌, length, append-nil, append_assoc, refl, ap, sym, ◌∙◌, subst, arith, ◌⊎◌, inl, inr}
use Rattle.std.specs.List.{AllByRecursion}
use Rattle.si_schedule.specs.Schedules.{ended}
use Rattle.si_schedule.specs.BadLines.{IsLine, CanGoOn, IsBadNext}
use Rattle.si_schedule.specs.Laws.{OneText, OneBadLine}
use Rattle.si_schedule.proofs.Lines.{cut_line, one_line, front_goes_on, feed_in}
use Rattle.si_schedule.proofs.Schedules.{one_schedule}

pub one_text : OneText
one_text = one_schedule

-- one text as lines and what is left, in two ways: the lines of the one begin with those of the other
record Further (xs ys : List (List ℕ)) (a b : List ℕ) : Type 0 where
  pub rest : List (List ℕ)
  pub split : xs ≡ ys ++ rest
  pub left : ended rest ++ a ≡ b

first_line : (x : List ℕ) (xs : List (List ℕ)) (a : List ℕ) → ended (x ∷ xs) ++ a ≡ x ++ 10 ∷ (ended xs ++ a)
first_line x xs a = append_assoc (x ++ 10 ∷ []) (ended xs) a ∙ one_line x (ended xs ++ a)

two_cuts : (xs ys : List (List ℕ)) (a b : List ℕ) → AllByRecursion IsLine xs → AllByRecursion IsLine ys → ended xs ++ a ≡ ended ys ++ b → Further xs ys a b ⊎ Further ys xs b a
two_cuts xs [] a b h k e = inl (record { rest = xs; split = refl; left = e })
two_cuts [] (y ∷ ys) a b h k e = inr (record { rest = y ∷ ys; split = refl; left = sym e })
two_cuts (x ∷ xs) (y ∷ ys) a b h k e =
    let f : x ++ 10 ∷ (ended xs ++ a) ≡ y ++ 10 ∷ (ended ys ++ b) = sym (first_line x xs a) ∙ e ∙ first_line y ys b in
    let c = cut_line x y (ended xs ++ a) (ended ys ++ b) h.0 k.0 f in
    elim (two_cuts xs ys a b h.1 k.1 c.1) [
      | inl r ↦ inl (record { rest = r.rest; split = ap (λ (z : List ℕ). z ∷ xs) c.0 ∙ ap (λ (zs : List (List ℕ)). y ∷ zs) r.split; left = r.left })
      | inr r ↦ inr (record { rest = r.rest; split = ap (λ (z : List ℕ). z ∷ ys) (sym c.0) ∙ ap (λ (zs : List (List ℕ)). x ∷ zs) r.split; left = r.left })
    ]

line_at : (xs : List (List ℕ)) (l : List ℕ) (more : List (List ℕ)) → AllByRecursion IsLine (xs ++ l ∷ more) → IsLine l
line_at [] l more h = h.0
line_at (x ∷ xs) l more h = line_at xs l more h.1

-- after a bad line nothing goes on
stuck_at : (before : List (List ℕ)) (l : List ℕ) (more : List (List ℕ)) (left b : List ℕ) → IsBadNext before left → AllByRecursion IsLine (before ++ l ∷ more) → CanGoOn (before ++ l ∷ more) → ended (l ∷ more) ++ b ≡ left → ⊥
stuck_at before l more left b (inl n) h g e = feed_in l (ended more ++ b) (subst IsLine (sym e ∙ first_line l more b) n)
stuck_at before l more left b (inr n) h g e =
    let f : n.line ++ 10 ∷ n.after ≡ l ++ 10 ∷ (ended more ++ b) = sym n.split ∙ sym e ∙ first_line l more b in
    let c = cut_line n.line l n.after (ended more ++ b) n.is_line (line_at before l more h) f in
    let k : CanGoOn (before ++ l ∷ []) = front_goes_on (before ++ l ∷ []) more (subst CanGoOn (sym (append_assoc before (l ∷ []) more)) g) in
    n.stuck (subst (λ (z : List ℕ). CanGoOn (before ++ z ∷ [])) (sym c.0) k)

no_later : (before rest after : List (List ℕ)) (left b : List ℕ) → IsBadNext before left → AllByRecursion IsLine after → CanGoOn after → after ≡ before ++ rest → ended rest ++ b ≡ left → length after ≡ length before
no_later before [] after left b n h g e f = ap (λ (xs : List (List ℕ)). length xs) (e ∙ append-nil before)
no_later before (l ∷ more) after left b n h g e f = absurd (stuck_at before l more left b n (subst (AllByRecursion IsLine) e h) (subst CanGoOn e g) f)

pub one_bad_line : OneBadLine
one_bad_line t j k a b = elim (two_cuts a.before b.before a.left b.left a.are_lines b.are_lines (sym a.split ∙ b.split)) [
  | inl r ↦ (let e : length a.before ≡ length b.before = no_later b.before r.rest a.before b.left a.left b.bad a.are_lines a.go_on r.split r.left in
      let p = a.number in
      let q = b.number in
      omega arith)
  | inr r ↦ (let e : length b.before ≡ length a.before = no_later a.before r.rest b.before a.left b.left a.bad b.are_lines b.go_on r.split r.left in
      let p = a.number in
      let q = b.number in
      omega arith)
]
