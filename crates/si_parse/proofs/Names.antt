-- Names in a row: what is read is spelled, and what is spelled is read.
use Rattle.std.proofs.Common.{◌≡◌, ◌+◌, ◌<◌, ◌≤◌, List, [], ◌∷◌, ◌++◌, length, Option, Some, None, true, refl, sym, ap, ◌∙◌, subst, map, arith, append_assoc, length-append}
use Rattle.std.specs.Prelude.{nat_le, if◌then◌else◌, false}
use Rattle.std.proofs.lemmas.List.{append-nil}
use Rattle.std.proofs.lemmas.Option.{cond_some}
use Rattle.si_semantics.specs.Value.{Text}
use Rattle.si_semantics.specs.Tokens as token
use Rattle.si_semantics.specs.Grammar.{Terminal, NAME, Sign, After, Following, Separated, IsName, Names, max_parameters}
use Rattle.si_parse.specs.inner.Lookahead.{after}
use Rattle.si_parse.specs.inner.Lists.{then_read, many_by}
use Rattle.si_parse.specs.inner.Names.{name_at, and_name, next_name_by, no_comma, names_by, with_parameter, listed_from, listed_by, few, parameters_by}
use Rattle.si_parse.proofs.Laws.{then_read_some, some_inj, after_close_some, after_comma_some, name_at_some}
use Rattle.si_parse.proofs.Lists.{le_from, le_to, added, Pairwise, separated_sound, separated_complete, many_sound, many_complete}

-- ---- names with commas between them

abbrev with_next : List Text → Text → List Text
with_next xs x = xs ++ x ∷ []

added_names : (xs ys : List Text) → added with_next xs ys ≡ xs ++ ys
added_names xs [] = sym (append-nil xs)
added_names xs (y ∷ ys) = added_names (xs ++ y ∷ []) ys ∙ append_assoc xs (y ∷ []) ys

abbrev AfterComma : Text → List Terminal → Type 0
AfterComma = After (Sign token.Comma) IsName

abbrev NextRead : List Text → List Terminal → List Text × List Terminal → Type 0
NextRead xs ts r = (x : Text) × (f : List Terminal) × (r.0 ≡ with_next xs x) × (ts ≡ f ++ r.1) × AfterComma x f

next_reads : (xs : List Text) (ts : List Terminal) (r : List Text × List Terminal) → next_name_by xs ts ≡ Some r → NextRead xs ts r
next_reads xs ts r h =
    let s = then_read_some (after (Sign token.Comma) ts) (λ rest. then_read (name_at rest) (and_name xs)) r h in
    let n = then_read_some (name_at s.0) (and_name xs) r s.2 in
    let P : List Text × List Terminal → Type 0 = NextRead xs ts in
    subst P (some_inj (xs ++ n.0.0 ∷ [], n.0.1) r n.2) (
      n.0.0,
      Sign token.Comma ∷ (NAME n.0.0 ∷ []),
      refl,
      after_comma_some ts s.0 s.1 ∙ ap (λ t. Sign token.Comma ∷ t) (name_at_some s.0 n.0 n.1),
      (NAME n.0.0 ∷ [], refl, refl),
    )

pub names_reads : (ts : List Terminal) (r : List Text × List Terminal) → names_by ts ≡ Some r → (f : List Terminal) × (ts ≡ f ++ r.1) × Names r.0 f
names_reads ts r h =
    let n = then_read_some (name_at ts) (λ n. many_by next_name_by no_comma (length n.1) (n.0 ∷ []) n.1) r h in
    let m = many_sound with_next next_name_by no_comma AfterComma next_reads (length n.0.1) (n.0.0 ∷ []) n.0.1 r n.2 in
    let P : List Text → Type 0 = λ l. Names l (NAME n.0.0 ∷ m.1) in
    let all : r.0 ≡ n.0.0 ∷ m.0 = m.2 ∙ added_names (n.0.0 ∷ []) m.0 in
    (NAME n.0.0 ∷ m.1, name_at_some ts n.0 n.1 ∙ ap (λ t. NAME n.0.0 ∷ t) m.3, subst P (sym all) (m.1, refl, m.4))

abbrev Any : List Terminal → Type 0
Any ts = Unit {0}

next_name : (xs : List Text) (x : Text) (f more : List Terminal) → AfterComma x f → Any more → (next_name_by xs (f ++ more) ≡ Some (with_next xs x, more)) × (no_comma (f ++ more) ≡ false) × (0 < length f)
next_name xs x f more h any = (
  ap (λ t. next_name_by xs (t ++ more)) h.1 ∙ ap (λ t. then_read (name_at (t ++ more)) (and_name xs)) h.2,
  ap (λ t. no_comma (t ++ more)) h.1,
  omega (arith, ap length h.1),
)

pub names_complete : (xs : List Text) (f more : List Terminal) → Names xs f → 0 < length more → no_comma more ≡ true → names_by (f ++ more) ≡ Some (xs, more)
names_complete [] f more h some over = absurd h
names_complete (x ∷ xs) f more h some over =
    let fuel : length h.0 < length (h.0 ++ more) = omega (arith, length-append h.0 more) in
    ap (λ t. names_by (t ++ more)) h.1
    ∙ many_complete with_next next_name_by no_comma AfterComma Any (λ x f more h any. tt) next_name (length (h.0 ++ more)) (x ∷ []) xs h.0 more fuel h.2 tt over
    ∙ ap (λ l. Some (l, more)) (added_names (x ∷ []) xs)

-- ---- parameters

abbrev Spelled : Text × List Terminal → List Terminal → Type 0
Spelled r f = IsName r.0 f

abbrev first : Text × List Terminal → Text
first r = r.0

name_reads : (ts : List Terminal) (r : Text × List Terminal) → name_at ts ≡ Some r → (f : List Terminal) × (ts ≡ f ++ r.1) × Spelled r f
name_reads ts r h = (NAME r.0 ∷ [], name_at_some ts r h, refl)

added_parameters : (xs : List Text) (rs : List (Text × List Terminal)) → added with_parameter xs rs ≡ xs ++ map first rs
added_parameters xs [] = sym (append-nil xs)
added_parameters xs (r ∷ rs) = added_parameters (xs ++ r.0 ∷ []) rs ∙ append_assoc xs (r.0 ∷ []) (map first rs)

following_firsts : (rs : List (Text × List Terminal)) (g : List Terminal) → Following Spelled token.Comma rs g → Following IsName token.Comma (map first rs) g
following_firsts [] g h = h
following_firsts (r ∷ rs) g h = (h.0, h.1, h.2, h.3, following_firsts rs h.1 h.4)

separated_firsts : (rs : List (Text × List Terminal)) (g : List Terminal) → Separated Spelled token.Comma rs g → Separated IsName token.Comma (map first rs) g
separated_firsts [] g h = h
separated_firsts (r ∷ rs) g h = (h.0, h.1, h.2, h.3, following_firsts rs h.1 h.4)

abbrev ListedRead : List Terminal → List Text × List Terminal → Type 0
ListedRead ts r = (g : List Terminal) × (ts ≡ g ++ Sign token.RightParenthesis ∷ r.1) × Separated IsName token.Comma r.0 g

listed_reads : (ts : List Terminal) (o : Option (List Terminal)) → after (Sign token.RightParenthesis) ts ≡ o → (r : List Text × List Terminal) → listed_from ts o ≡ Some r → ListedRead ts r
listed_reads ts (Some rest) is r h =
    let P : List Text × List Terminal → Type 0 = ListedRead ts in subst P (some_inj ([], rest) r h) ([], after_close_some ts rest is, refl)
listed_reads ts None is r h =
    let s = separated_sound with_parameter (λ r. r.1) name_at (after (Sign token.Comma)) (after (Sign token.RightParenthesis)) token.Comma (Sign token.RightParenthesis) Spelled name_reads after_comma_some after_close_some (length ts) [] ts r h in
    let all : r.0 ≡ map first s.0 = s.2 ∙ added_parameters [] s.0 in
    let P : List Text → Type 0 = λ l. Separated IsName token.Comma l s.1 in
    (s.1, s.4, subst P (sym all) (separated_firsts s.0 s.1 s.5))

abbrev pub ParametersRead : List Terminal → List Text × List Terminal → Type 0
ParametersRead ts r = (g : List Terminal) × (ts ≡ g ++ Sign token.RightParenthesis ∷ r.1) × Separated IsName token.Comma r.0 g × (length r.0 ≤ max_parameters)

pub parameters_reads : (ts : List Terminal) (r : List Text × List Terminal) → parameters_by ts ≡ Some r → ParametersRead ts r
parameters_reads ts r h =
    let s = then_read_some (listed_by ts) few r h in
    let c = cond_some (nat_le (length s.0.0) max_parameters) s.0 r s.2 in
    let g = listed_reads ts (after (Sign token.RightParenthesis) ts) refl s.0 s.1 in
    let P : List Text × List Terminal → Type 0 = ParametersRead ts in
    subst P c.1 (g.0, g.1, g.2, le_from (length s.0.0) max_parameters c.0)

abbrev Read : Text → Text × List Terminal → Type 0
Read x r = x ≡ r.0

collected : (before xs : List Text) (rs : List (Text × List Terminal)) → Pairwise Read xs rs → added with_parameter before rs ≡ before ++ xs
collected before [] [] h = sym (append-nil before)
collected before [] (r ∷ rs) h = absurd h
collected before (x ∷ xs) [] h = absurd h
collected before (x ∷ xs) (r ∷ rs) h = collected (before ++ r.0 ∷ []) xs rs h.1 ∙ append_assoc before (r.0 ∷ []) xs ∙ ap (λ y. before ++ y ∷ xs) (sym h.0)

name_read : (x : Text) (f more : List Terminal) → IsName x f → Any more → (r : Text × List Terminal) × (name_at (f ++ more) ≡ Some r) × (r.1 ≡ more) × Read x r
name_read x f more h any = ((x, more), ap (λ t. name_at (t ++ more)) h, refl, refl)

name_open : (x : Text) (f more : List Terminal) → IsName x f → after (Sign token.RightParenthesis) (f ++ more) ≡ None
name_open x f more h = ap (λ t. after (Sign token.RightParenthesis) (t ++ more)) h

listed_complete : (xs : List Text) (g more : List Terminal) → Separated IsName token.Comma xs g → listed_by (g ++ Sign token.RightParenthesis ∷ more) ≡ Some (xs, more)
listed_complete [] g more h = ap (λ t. listed_by (t ++ Sign token.RightParenthesis ∷ more)) h
listed_complete (x ∷ xs) g more h =
    let ts = g ++ Sign token.RightParenthesis ∷ more in
    let long : length ts ≡ length g + length (Sign token.RightParenthesis ∷ more) = length-append g (Sign token.RightParenthesis ∷ more) in
    let split : ts ≡ h.0 ++ (h.1 ++ Sign token.RightParenthesis ∷ more) = ap (λ t. t ++ Sign token.RightParenthesis ∷ more) h.2 ∙ append_assoc h.0 h.1 (Sign token.RightParenthesis ∷ more) in
    let open_yet : (after (Sign token.RightParenthesis)) ts ≡ None = ap (after (Sign token.RightParenthesis)) split ∙ name_open x h.0 (h.1 ++ Sign token.RightParenthesis ∷ more) h.3 in
    let s = separated_complete with_parameter (λ r. r.1) name_at (after (Sign token.Comma)) (after (Sign token.RightParenthesis)) token.Comma (Sign token.RightParenthesis) IsName Read Any name_read name_open (λ ts. refl) (λ ts. refl) (λ ts. refl) (λ ts. tt) (λ ts. tt)
    (length ts) [] (x ∷ xs) g more (omega arith) (omega arith) h in
    ap (listed_from ts) open_yet ∙ s.2 ∙ ap (λ l. Some (l, more)) (collected [] (x ∷ xs) s.0 s.1)

pub parameters_complete : (xs : List Text) (g more : List Terminal) → Separated IsName token.Comma xs g → length xs ≤ max_parameters → parameters_by (g ++ Sign token.RightParenthesis ∷ more) ≡ Some (xs, more)
parameters_complete xs g more h le =
    ap (λ o. then_read o few) (listed_complete xs g more h) ∙ ap (λ b. if b then Some (xs, more) else None) (le_to (length xs) max_parameters le)
