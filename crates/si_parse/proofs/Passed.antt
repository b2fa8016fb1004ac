-- The expressions and the names of arguments: what is passed by name stands after the others, and no name comes twice.
use Rattle.std.proofs.Common.{◌≡◌, Bool, true, false, ℕ, ◌+◌, ◌<◌, List, [], ◌∷◌, ◌++◌, length, Option, Some, None, refl, sym, ap, ◌∙◌, subst, map, append_assoc, arith, ◌⊎◌, inl, inr, ⊎_elim, if◌then◌else◌}
use Rattle.std.specs.Prelude.{nat_eq, not, ◌&&◌, ◌||◌}
use Rattle.std.specs.Option.{option_map, is_some}
use Rattle.std.specs.List.{list_any}
use Rattle.std.specs.Str.{bytes_eq}
use Rattle.std.proofs.lemmas.List.{append-nil}
use Rattle.std.proofs.lemmas.Option.{cond_some}
use Rattle.si_plain.specs.Names.{place_in, with_name}
use Rattle.si_semantics.specs.Value.{Text}
use Rattle.si_semantics.specs.Text.{same_text}
use Rattle.si_semantics.specs.Tree.{Expr}
use Rattle.si_semantics.specs.Scope.{is_in, are_distinct}
use Rattle.si_semantics.specs.Grammar.{Argument, Positional, ByName, IsPassed}
use Rattle.si_semantics.proofs.Names.{same_is, same_self}
use Rattle.si_parse.specs.inner.Lists.{then_read}
use Rattle.si_parse.specs.inner.Expressions.{Passed, no_names, with_passed, passed_from}
use Rattle.si_parse.specs.declared.argument.Argument.{Argument as Rust}
use Rattle.si_parse.specs.inner.Gives.{argument_of}
use Rattle.si_parse.proofs.Laws.{then_read_some, some_inj}
use Rattle.si_parse.proofs.Lists.{chosen}

-- ---- a name among others

both : (a b : Bool) → (a && b) ≡ true → (a ≡ true) × (b ≡ true)
both true b h = (refl, h)
both false b h = cc

either : (a b : Bool) → (a || b) ≡ false → (a ≡ false) × (b ≡ false)
either true b h = cc
either false b h = (refl, h)

same_bytes : (x y : Text) → bytes_eq x y ≡ same_text x y
same_bytes [] [] = refl
same_bytes [] (d ∷ ds) = refl
same_bytes (c ∷ cs) [] = refl
same_bytes (c ∷ cs) (d ∷ ds) = ap (λ b. nat_eq c d && b) (same_bytes cs ds)

-- two texts in either order
same_turned : (x y : Text) → same_text x y ≡ false → same_text y x ≡ false
same_turned x y h = by (same_text y x) refl
  where
    by : (b : Bool) → same_text y x ≡ b → b ≡ false
    by true e = let same : y ≡ x = same_is y x e in sym (sym h ∙ ap (same_text x) same ∙ same_self x)
    by false e = refl

mapped : (o : Option ℕ) → is_some (option_map (λ place. place + 1) o) ≡ is_some o
mapped None = refl
mapped (Some k) = refl

-- a name has a place exactly where it is one of them
pub placed : (x : Text) (xs : List Text) → is_some (place_in x xs) ≡ is_in x xs
placed x [] = refl
placed x (y ∷ ys) = by (bytes_eq x y) ∙ ap (λ b. b || is_some (place_in x ys)) (same_bytes x y) ∙ ap (λ b. same_text x y || b) (placed x ys)
  where
    by : (b : Bool) → is_some (if b then Some 0 else option_map (λ place. place + 1) (place_in x ys)) ≡ (b || is_some (place_in x ys))
    by true = refl
    by false = mapped (place_in x ys)

pub listed : (x : Text) (xs : List Text) → list_any (bytes_eq x) xs ≡ is_in x xs
listed x [] = refl
listed x (y ∷ ys) = ap (λ b. b || list_any (bytes_eq x) ys) (same_bytes x y) ∙ ap (λ b. same_text x y || b) (listed x ys)

-- a name that is none of them is added
pub with_new_name : (x : Text) (xs : List Text) → is_in x xs ≡ false → with_name xs x ≡ xs ++ x ∷ []
with_new_name x xs h = ap (λ b. if b then xs else xs ++ x ∷ []) (listed x xs ∙ h)

-- ---- one more argument

pub positional_on : (es : List Expr) (xs : List Text) (e : Expr) → length xs ≡ 0 → with_passed (es, xs) (Positional e) ≡ Some (es ++ e ∷ [], xs)
positional_on es [] e h = refl
positional_on es (x ∷ xs) e h = absurd (omega arith)

pub positional_stuck : (es : List Expr) (xs : List Text) (e : Expr) → 0 < length xs → with_passed (es, xs) (Positional e) ≡ None
positional_stuck es [] e h = absurd (omega arith)
positional_stuck es (x ∷ xs) e h = refl

pub named_on : (es : List Expr) (xs : List Text) (x : Text) (e : Expr) → is_in x xs ≡ false → with_passed (es, xs) (ByName x e) ≡ Some (es ++ e ∷ [], xs ++ x ∷ [])
named_on es xs x e h = ap (λ b. if b then None else Some (es ++ e ∷ [], xs ++ x ∷ [])) h

pub named_stuck : (es : List Expr) (xs : List Text) (x : Text) (e : Expr) → is_in x xs ≡ true → with_passed (es, xs) (ByName x e) ≡ None
named_stuck es xs x e h = ap (λ b. if b then None else Some (es ++ e ∷ [], xs ++ x ∷ [])) h

passed_on : (b c : Passed) (a : Argument) (more : List Argument) → with_passed b a ≡ Some c → passed_from b (a ∷ more) ≡ passed_from c more
passed_on b c a more h = ap (λ o. then_read o (λ c. passed_from c more)) h

-- one turn over arguments that were read
module _ (b : Passed) (left rest : List Rust) (a : Rust) (x : Argument) (next : left ≡ a ∷ rest) (seen : argument_of a ≡ x) where
  same : passed_from b (map argument_of left) ≡ passed_from b (x ∷ map argument_of rest)
  same = ap (λ l. passed_from b (map argument_of l)) next ∙ ap (λ y. passed_from b (y ∷ map argument_of rest)) seen

  pub goes_on : (c : Passed) → with_passed b x ≡ Some c → passed_from b (map argument_of left) ≡ passed_from c (map argument_of rest)
  goes_on c h = same ∙ passed_on b c x (map argument_of rest) h

  pub stuck : with_passed b x ≡ None → passed_from b (map argument_of left) ≡ None
  stuck h = same ∙ ap (λ o. then_read o (λ c. passed_from c (map argument_of rest))) h

-- ---- what is kept is passed

abbrev by_name : Text × Expr → Argument
by_name p = ByName p.0 p.1

abbrev name_in : Text × Expr → Text
name_in p = p.0

abbrev value_in : Text × Expr → Expr
value_in p = p.1

in_end : (y : Text) (ys : List Text) (x : Text) → same_text y x ≡ false → is_in y ys ≡ false → is_in y (ys ++ x ∷ []) ≡ false
in_end y [] x e h = ap (λ b. b || false) e
in_end y (z ∷ zs) x e h =
    let p = either (same_text y z) (is_in y zs) h in ap (λ b. b || is_in y (zs ++ x ∷ [])) p.0 ∙ in_end y zs x e p.1

opposite : (b : Bool) → not b ≡ true → b ≡ false
opposite true h = cc
opposite false h = refl

-- a name that is new may come last
distinct_end : (xs : List Text) (x : Text) → are_distinct xs ≡ true → is_in x xs ≡ false → are_distinct (xs ++ x ∷ []) ≡ true
distinct_end [] x d h = refl
distinct_end (y ∷ ys) x d h =
    let p = both (not (is_in y ys)) (are_distinct ys) d in
    let q = either (same_text x y) (is_in x ys) h in
    ap (λ b. not b && are_distinct (ys ++ x ∷ [])) (in_end y ys x (same_turned x y q.0) (opposite (is_in y ys) p.0)) ∙ distinct_end ys x p.1 q.1

-- an argument is after those before
abbrev Kept : Passed → List Argument → Passed → Type 0
Kept b arguments r =
    (positional : List Expr) × (named : List (Text × Expr)) × (arguments ≡ map Positional positional ++ map by_name named) × (r.0 ≡ b.0 ++ (positional ++ map value_in named)) × (r.1 ≡ b.1 ++ map name_in named)
    × (are_distinct r.1 ≡ true) × ((b.1 ≡ []) ⊎ (positional ≡ []))

no_names_is : (xs : List Text) → no_names xs ≡ true → xs ≡ []
no_names_is [] h = refl
no_names_is (x ∷ xs) h = cc

filled : (xs : List Text) (x : Text) → xs ++ x ∷ [] ≡ [] → ⊥
filled [] x h = cc
filled (y ∷ ys) x h = cc

kept_positional : (b r : Passed) (e : Expr) (arguments : List Argument) → b.1 ≡ [] → Kept (b.0 ++ e ∷ [], b.1) arguments r → Kept b (Positional e ∷ arguments) r
kept_positional b r e arguments first k = (
  e ∷ k.0,
  k.1,
  ap (λ l. Positional e ∷ l) k.2,
  k.3 ∙ append_assoc b.0 (e ∷ []) (k.0 ++ map value_in k.1),
  k.4,
  k.5,
  inl first,
)

kept_named : (b r : Passed) (x : Text) (e : Expr) (arguments : List Argument) → Kept (b.0 ++ e ∷ [], b.1 ++ x ∷ []) arguments r → Kept b (ByName x e ∷ arguments) r
kept_named b r x e arguments k =
    let none : k.0 ≡ [] = ⊎_elim (λ bad. absurd (filled b.1 x bad)) (λ same. same) k.6 in (
      [],
      (x, e) ∷ k.1,
      ap (λ l. ByName x e ∷ l) (k.2 ∙ ap (λ l. map Positional l ++ map by_name k.1) none),
      k.3 ∙ append_assoc b.0 (e ∷ []) (k.0 ++ map value_in k.1) ∙ ap (λ l. b.0 ++ e ∷ (l ++ map value_in k.1)) none,
      k.4 ∙ append_assoc b.1 (x ∷ []) (map name_in k.1),
      k.5,
      inr refl,
    )

passed_kept : (b r : Passed) (arguments : List Argument) → are_distinct b.1 ≡ true → passed_from b arguments ≡ Some r → Kept b arguments r
passed_kept b r [] apart h =
    let P : Passed → Type 0 = Kept b [] in
    let none : Kept b [] b = ([], [], refl, sym (append-nil b.0), sym (append-nil b.1), apart, inr refl) in
    subst P (some_inj b r h) none
passed_kept b r (Positional e ∷ arguments) apart h =
    let s = then_read_some (with_passed b (Positional e)) (λ c. passed_from c arguments) r h in
    let c = cond_some (no_names b.1) (b.0 ++ e ∷ [], b.1) s.0 s.1 in
    kept_positional b r e arguments (no_names_is b.1 c.0) (passed_kept (b.0 ++ e ∷ [], b.1) r arguments apart (ap (λ d. passed_from d arguments) c.1 ∙ s.2))
passed_kept b r (ByName x e ∷ arguments) apart h =
    let s = then_read_some (with_passed b (ByName x e)) (λ c. passed_from c arguments) r h in
    let next : Passed = (b.0 ++ e ∷ [], b.1 ++ x ∷ []) in
    ⊎_elim
    (λ y. let bad : None ≡ Some s.0 = y.1 in cc)
    (λ n. kept_named b r x e arguments (passed_kept next r arguments (distinct_end b.1 x apart n.0) (ap (λ d. passed_from d arguments) (some_inj next s.0 n.1) ∙ s.2)))
    (chosen (is_in x b.1) None (Some next) (Some s.0) s.1)

-- arguments that are read are passed so
pub passed_sound : (arguments : List Argument) (r : Passed) → passed_from ([], []) arguments ≡ Some r → IsPassed arguments r.0 r.1
passed_sound arguments r h =
    let k = passed_kept ([], []) r arguments refl h in record { positional = k.0; named = k.1; in_order = k.2; values_are = k.3; names_are = k.4; once = k.5 }

-- ---- what is passed is kept

-- a name with others after it, and no name twice, is not one of those before
not_before : (xs more : List Text) (x : Text) → are_distinct (xs ++ x ∷ more) ≡ true → is_in x xs ≡ false
not_before [] more x d = refl
not_before (y ∷ ys) more x d =
    let p = both (not (is_in y (ys ++ x ∷ more))) (are_distinct (ys ++ x ∷ more)) d in
    ap (λ b. b || is_in x ys) (same_turned y x (other_in ys (opposite (is_in y (ys ++ x ∷ more)) p.0))) ∙ not_before ys more x p.1
  where
    other_in : (ys : List Text) → is_in y (ys ++ x ∷ more) ≡ false → same_text y x ≡ false
    other_in [] h = let q = either (same_text y x) (is_in y more) h in q.0
    other_in (z ∷ zs) h = let q = either (same_text y z) (is_in y (zs ++ x ∷ more)) h in other_in zs q.1

named_kept : (es : List Expr) (xs : List Text) (named : List (Text × Expr)) → are_distinct (xs ++ map name_in named) ≡ true → passed_from (es, xs) (map by_name named) ≡ Some (es ++ map value_in named, xs ++ map name_in named)
named_kept es xs [] d = ap (λ l. Some (l, xs)) (sym (append-nil es)) ∙ ap (λ l. Some (es ++ [], l)) (sym (append-nil xs))
named_kept es xs (p ∷ named) d =
    passed_on (es, xs) (es ++ p.1 ∷ [], xs ++ p.0 ∷ []) (by_name p) (map by_name named) (named_on es xs p.0 p.1 (not_before xs (map name_in named) p.0 d))
    ∙ named_kept (es ++ p.1 ∷ []) (xs ++ p.0 ∷ []) named (ap are_distinct (append_assoc xs (p.0 ∷ []) (map name_in named)) ∙ d)
    ∙ ap (λ l. Some (l, (xs ++ p.0 ∷ []) ++ map name_in named)) (append_assoc es (p.1 ∷ []) (map value_in named))
    ∙ ap (λ l. Some (es ++ p.1 ∷ map value_in named, l)) (append_assoc xs (p.0 ∷ []) (map name_in named))

positional_kept : (es positional : List Expr) (arguments : List Argument) → passed_from (es, []) (map Positional positional ++ arguments) ≡ passed_from (es ++ positional, []) arguments
positional_kept es [] arguments = ap (λ l. passed_from (l, []) arguments) (sym (append-nil es))
positional_kept es (e ∷ positional) arguments = positional_kept (es ++ e ∷ []) positional arguments ∙ ap (λ l. passed_from (l, []) arguments) (append_assoc es (e ∷ []) positional)

-- arguments that are passed so are read
pub passed_complete : (arguments : List Argument) (values : List Expr) (names : List Text) → IsPassed arguments values names → passed_from ([], []) arguments ≡ Some (values, names)
passed_complete arguments values names p =
    ap (passed_from ([], [])) p.in_order
    ∙ positional_kept [] p.positional (map by_name p.named)
    ∙ named_kept p.positional [] p.named (ap are_distinct (sym p.names_are) ∙ p.once)
    ∙ ap (λ l. Some (l, map name_in p.named)) (sym p.values_are)
    ∙ ap (λ l. Some (values, l)) (sym p.names_are)
