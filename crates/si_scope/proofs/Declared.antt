-- What the walk keeps of names so far: of parameters, and of names that are declared global.
use Rattle.std.proofs.Common.{◌≡◌, ℕ, ◌+◌, ◌<◌, ◌≤◌, Bool, true, false, ◌&&◌, List, [], ◌∷◌, ◌++◌, map, length, drop, get_or, String, Global, string_bytes, Option, Some, None, refl, sym, ap, ◌∙◌, append_assoc, if◌then◌else◌}
use Rattle.std.specs.Prelude.{not}
use Rattle.std.specs.Option.{is_some}
use Rattle.std.proofs.lemmas.List.{append-nil, drop_all}
use Rattle.si_plain.specs.Names.{with_name, place_in}
use Rattle.si_semantics.specs.Value.{Text}
use Rattle.si_semantics.specs.Scope.{is_in, are_apart, are_distinct, with_new}
use Rattle.si_syntax.proofs.Rows.{rest_is}
use Rattle.si_scope.specs.declared.seen.Seen.{Seen}
use Rattle.si_scope.specs.inner.Walk.{binding, declaring}
use Rattle.si_scope.proofs.Sets.{found_in, bound_new, bound_old, new_name}
use Rattle.si_scope.proofs.Apart.{apart_nil, apart_front, apart_cons}

abbrev Strings : Type 0
Strings = List (String Global)

abbrev pub seen_of : List Text → List Text → List Text → Seen
seen_of u d l = record { used = u; declared = d; locals = l }

-- ---- a name is bound

pub bound_seen : (s : Seen) (x : Text) (used locals : List Text) → used ≡ with_name s.used x → locals ≡ with_new s.locals s.declared (x ∷ []) → seen_of used s.declared locals ≡ binding x s
bound_seen s x used locals is_used is_local = ap (λ u. seen_of u s.declared locals) is_used ∙ ap (λ l. seen_of (with_name s.used x) s.declared l) is_local

pub bound_locally : (s : Seen) (x : Text) (place : Option ℕ) (used locals : List Text) → place ≡ place_in x s.declared → is_some place ≡ false → used ≡ with_name s.used x → locals ≡ with_name s.locals x → seen_of used s.declared locals ≡ binding x s
bound_locally s x place used locals is found is_used is_local = bound_seen s x used locals is_used (is_local ∙ bound_new s.locals s.declared x (found_in x s.declared place false is found))

pub bound_globally : (s : Seen) (x : Text) (place : Option ℕ) (used : List Text) → place ≡ place_in x s.declared → is_some place ≡ true → used ≡ with_name s.used x → seen_of used s.declared s.locals ≡ binding x s
bound_globally s x place used is found is_used = bound_seen s x used s.locals is_used (bound_old s.locals s.declared x (found_in x s.declared place true is found))

-- ---- names are declared global

-- one more of them, by whether it was used
pub next_declared : (all : Strings) (i : ℕ) (item : String Global) (text : Text) (place : Option ℕ) (b : Bool) (s0 s : Seen) → i < length all → get_or all i item ≡ item → text ≡ string_bytes item → place ≡ place_in text s.used → is_some place ≡ b
    → declaring (map string_bytes all) s0 ≡ declaring (map string_bytes (drop i all)) s
    → declaring (map string_bytes all) s0 ≡ (if b then None else declaring (map string_bytes (drop (i + 1) all)) (seen_of s.used (with_name s.declared text) s.locals))
next_declared all i item text place b s0 s lt at value is found so_far =
    let rest = map string_bytes (drop (i + 1) all) in
    so_far ∙ ap (λ l. declaring (map string_bytes l) s) (rest_is all i item lt at)
    ∙ ap (λ x. declaring (x ∷ rest) s) (sym value)
    ∙ ap (λ c. if c then None else declaring rest (seen_of s.used (with_name s.declared text) s.locals)) (found_in text s.used place b is found)

pub last_declared : (all : Strings) (i : ℕ) (s0 s : Seen) → length all ≤ i → declaring (map string_bytes all) s0 ≡ declaring (map string_bytes (drop i all)) s → declaring (map string_bytes all) s0 ≡ Some s
last_declared all i s0 s le so_far = so_far ∙ ap (λ l. declaring (map string_bytes l) s) (drop_all i all le)

-- ---- parameters

-- none of these comes twice, and none is one of those before
abbrev pub are_new : List Text → List Text → Bool
are_new before xs = are_apart before xs && are_distinct xs

pub new_cons : (before : List Text) (x : Text) (xs : List Text) → are_new before (x ∷ xs) ≡ (not (is_in x before) && are_new (before ++ x ∷ []) xs)
new_cons before x xs =
    ap (λ b. b && (not (is_in x xs) && are_distinct xs)) (apart_cons before x xs)
    ∙ by (not (is_in x before)) (are_apart before xs) (not (is_in x xs)) (are_distinct xs)
    ∙ ap (λ b. not (is_in x before) && (b && are_distinct xs)) (sym (apart_front before (x ∷ []) xs))
  where
    by : (p a n d : Bool) → ((p && a) && (n && d)) ≡ (p && ((a && (n && true)) && d))
    by false a n d = refl
    by true false n d = refl
    by true true false d = refl
    by true true true d = refl

-- the parameters so far
pub record Taken (all : Strings) (i : ℕ) (front locals : List Text) : Type 0 where
  pub whole : front ++ map string_bytes (drop i all) ≡ map string_bytes all
  pub same : locals ≡ front
  pub distinct : are_distinct (map string_bytes all) ≡ are_new front (map string_bytes (drop i all))

pub none_taken : (all : Strings) (used locals : List Text) → used ≡ [] → locals ≡ [] → Taken all 0 used locals
none_taken all used locals e f = record {
  whole = ap (λ u. u ++ map string_bytes all) e;
  same = f ∙ sym e;
  distinct = sym (ap (λ u. are_new u (map string_bytes all)) e);
}

-- one more, by whether it came before
pub next_distinct : (all : Strings) (i : ℕ) (item : String Global) (text : Text) (place : Option ℕ) (b : Bool) (used locals : List Text) → i < length all → get_or all i item ≡ item → text ≡ string_bytes item → place ≡ place_in text used → is_some place ≡ b
    → Taken all i used locals → are_distinct (map string_bytes all) ≡ (not b && are_new (used ++ text ∷ []) (map string_bytes (drop (i + 1) all)))
next_distinct all i item text place b used locals lt at value is found taken =
    let rest = map string_bytes (drop (i + 1) all) in
    taken.distinct ∙ ap (λ l. are_new used (map string_bytes l)) (rest_is all i item lt at) ∙ ap (λ x. are_new used (x ∷ rest)) (sym value)
    ∙ new_cons used text rest ∙ ap (λ c. not c && are_new (used ++ text ∷ []) rest) (found_in text used place b is found)

pub next_taken : (all : Strings) (i : ℕ) (item : String Global) (text : Text) (place : Option ℕ) (used locals more_used more_locals : List Text) → i < length all → get_or all i item ≡ item → text ≡ string_bytes item
    → place ≡ place_in text used → is_some place ≡ false → more_used ≡ with_name used text → more_locals ≡ with_name locals text
    → Taken all i used locals → Taken all (i + 1) more_used more_locals
next_taken all i item text place used locals more_used more_locals lt at value is found added added_again taken =
    let rest = map string_bytes (drop (i + 1) all) in
    let last : more_used ≡ used ++ text ∷ [] = added ∙ new_name used text (found_in text used place false is found) in
    record {
      whole = ap (λ u. u ++ rest) last ∙ append_assoc used (text ∷ []) rest ∙ ap (λ x. used ++ (x ∷ rest)) value ∙ ap (λ l. used ++ map string_bytes l) (sym (rest_is all i item lt at)) ∙ taken.whole;
      same = added_again ∙ ap (λ l. with_name l text) taken.same ∙ sym added;
      distinct = next_distinct all i item text place false used locals lt at value is found taken ∙ ap (λ u. are_new u rest) (sym last);
    }

pub all_taken : (all : Strings) (i : ℕ) (used locals : List Text) → length all ≤ i → Taken all i used locals → (used ≡ map string_bytes all) × (are_distinct (map string_bytes all) ≡ true)
all_taken all i used locals le taken = (
  sym (append-nil used) ∙ ap (λ l. used ++ map string_bytes l) (sym (drop_all i all le)) ∙ taken.whole,
  taken.distinct ∙ ap (λ l. are_new used (map string_bytes l)) (drop_all i all le) ∙ ap (λ b. b && true) (apart_nil used),
)
