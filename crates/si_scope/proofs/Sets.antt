-- Sets of names as lists, by whether a name is in them.
use Rattle.std.proofs.Common.{◌≡◌, ℕ, ◌+◌, Bool, true, false, ◌&&◌, ◌||◌, List, [], ◌∷◌, ◌++◌, Option, Some, None, refl, sym, ap, ◌∙◌, if◌then◌else◌}
use Rattle.std.specs.Prelude.{nat_eq}
use Rattle.std.specs.Option.{is_some, option_map}
use Rattle.std.specs.List.{list_any}
use Rattle.std.specs.Str.{bytes_eq}
use Rattle.std.proofs.Math.Bool.{or-false, or-true}
use Rattle.si_plain.specs.Names.{with_name, place_in}
use Rattle.si_semantics.specs.Value.{Text}
use Rattle.si_semantics.specs.Text.{same_text}
use Rattle.si_semantics.specs.Scope.{is_in, with_new}
use Rattle.si_scope.specs.inner.Walk.{with_names}

-- texts and their bytes are compared alike
pub same_bytes : (x y : Text) → same_text x y ≡ bytes_eq x y
same_bytes [] [] = refl
same_bytes [] (d ∷ ds) = refl
same_bytes (c ∷ cs) [] = refl
same_bytes (c ∷ cs) (d ∷ ds) = ap (λ b. nat_eq c d && b) (same_bytes cs ds)

-- a name is in a list where a look-up finds it
pub in_any : (x : Text) (names : List Text) → list_any (bytes_eq x) names ≡ is_in x names
in_any x [] = refl
in_any x (y ∷ ys) = ap (λ b. b || list_any (bytes_eq x) ys) (sym (same_bytes x y)) ∙ ap (λ b. same_text x y || b) (in_any x ys)

mapped : (place : Option ℕ) → is_some (option_map (λ k. k + 1) place) ≡ is_some place
mapped None = refl
mapped (Some k) = refl

-- a name has a place in the lists that it is in
pub placed : (x : Text) (names : List Text) → is_some (place_in x names) ≡ is_in x names
placed x [] = refl
placed x (y ∷ ys) = by (bytes_eq x y) (same_text x y) (same_bytes x y) (placed x ys)
  where
    by : (b c : Bool) → c ≡ b → is_some (place_in x ys) ≡ is_in x ys → is_some (if b then Some 0 else option_map (λ k. k + 1) (place_in x ys)) ≡ (c || is_in x ys)
    by true c e rest = ap (λ d. d || is_in x ys) (sym e)
    by false c e rest = mapped (place_in x ys) ∙ rest ∙ ap (λ d. d || is_in x ys) (sym e)

-- what a look-up found
pub found_in : (x : Text) (names : List Text) (place : Option ℕ) (b : Bool) → place ≡ place_in x names → is_some place ≡ b → is_in x names ≡ b
found_in x names place b is found = sym (placed x names) ∙ ap is_some (sym is) ∙ found

-- a name that is bound is added where it is in neither list
pub bound_new : (names but : List Text) (x : Text) → is_in x but ≡ false → with_name names x ≡ with_new names but (x ∷ [])
bound_new names but x out = ap (λ b. if b then names else names ++ x ∷ []) (in_any x names ∙ sym (or-false (is_in x names)) ∙ ap (λ b. is_in x names || b) (sym out))

pub bound_old : (names but : List Text) (x : Text) → is_in x but ≡ true → names ≡ with_new names but (x ∷ [])
bound_old names but x there = ap (λ b. if b then names else names ++ x ∷ []) (sym (ap (λ b. is_in x names || b) there ∙ or-true (is_in x names)))

-- a name that isn't there comes last
pub new_name : (names : List Text) (x : Text) → is_in x names ≡ false → with_name names x ≡ names ++ x ∷ []
new_name names x out = ap (λ b. if b then names else names ++ x ∷ []) (in_any x names ∙ out)

-- two rows of names, one after the other
pub with_names-append : (names xs ys : List Text) → with_names names (xs ++ ys) ≡ with_names (with_names names xs) ys
with_names-append names [] ys = refl
with_names-append names (x ∷ xs) ys = with_names-append (with_name names x) xs ys
