-- Lists of names of which none is in the other.
use Rattle.std.proofs.Common.{◌≡◌, Bool, true, false, ◌&&◌, ◌||◌, List, [], ◌∷◌, ◌++◌, refl, sym, ap, ◌∙◌, if◌then◌else◌}
use Rattle.std.specs.Prelude.{not}
use Rattle.std.specs.List.{list_any}
use Rattle.std.specs.Str.{bytes_eq}
use Rattle.std.proofs.Math.Bool.{and-true, and_assoc, or-false, or_assoc}
use Rattle.si_plain.specs.Names.{with_name}
use Rattle.si_semantics.specs.Value.{Text}
use Rattle.si_semantics.specs.Text.{same_text}
use Rattle.si_semantics.specs.Scope.{is_in, are_apart}
use Rattle.si_semantics.proofs.Names.{same_is}
use Rattle.si_scope.specs.inner.Walk.{with_names}
use Rattle.si_scope.proofs.Sets.{in_any}

-- ---- tests joined

pub first_of : (a b : Bool) → (a && b) ≡ true → a ≡ true
first_of true b h = refl
first_of false b h = cc

pub second_of : (a b : Bool) → (a && b) ≡ true → b ≡ true
second_of true b h = h
second_of false b h = cc

pub and_both : (a b : Bool) → a ≡ true → b ≡ true → (a && b) ≡ true
and_both a b h k = ap (λ x. x && b) h ∙ k

-- ---- none is in the other

pub apart_nil : (xs : List Text) → are_apart xs [] ≡ true
apart_nil [] = refl
apart_nil (x ∷ xs) = apart_nil xs

same_turned : (x y : Text) → same_text x y ≡ same_text y x
same_turned x y = by (same_text x y) (same_text y x) refl refl
  where
    by : (b c : Bool) → same_text x y ≡ b → same_text y x ≡ c → b ≡ c
    by true true p q = refl
    by false false p q = refl
    by true false p q = sym p ∙ ap (λ z. same_text z y) (same_is x y p) ∙ sym (ap (λ z. same_text y z) (same_is x y p)) ∙ q
    by false true p q = sym p ∙ ap (λ z. same_text z y) (sym (same_is y x q)) ∙ sym (ap (λ z. same_text y z) (sym (same_is y x q))) ∙ q

-- a name more after
pub apart_cons : (us : List Text) (x : Text) (xs : List Text) → are_apart us (x ∷ xs) ≡ (not (is_in x us) && are_apart us xs)
apart_cons [] x xs = refl
apart_cons (u ∷ us) x xs =
    ap (λ b. not (b || is_in u xs) && are_apart us (x ∷ xs)) (same_turned u x) ∙ ap (λ b. not (same_text x u || is_in u xs) && b) (apart_cons us x xs)
    ∙ by (same_text x u) (is_in u xs) (is_in x us) (are_apart us xs)
  where
    by : (s i j a : Bool) → (not (s || i) && (not j && a)) ≡ (not (s || j) && (not i && a))
    by true i j a = refl
    by false true true a = refl
    by false true false a = refl
    by false false true a = refl
    by false false false a = refl

pub apart_front : (xs zs ys : List Text) → are_apart (xs ++ zs) ys ≡ (are_apart xs ys && are_apart zs ys)
apart_front [] zs ys = refl
apart_front (x ∷ xs) zs ys = ap (λ b. not (is_in x ys) && b) (apart_front xs zs ys) ∙ sym (and_assoc (not (is_in x ys)) (are_apart xs ys) (are_apart zs ys))

pub apart_back : (us xs ys : List Text) → are_apart us (xs ++ ys) ≡ (are_apart us xs && are_apart us ys)
apart_back us [] ys = sym (ap (λ b. b && are_apart us ys) (apart_nil us))
apart_back us (x ∷ xs) ys =
    apart_cons us x (xs ++ ys) ∙ ap (λ b. not (is_in x us) && b) (apart_back us xs ys) ∙ sym (and_assoc (not (is_in x us)) (are_apart us xs) (are_apart us ys))
    ∙ ap (λ b. b && are_apart us ys) (sym (apart_cons us x xs))

-- ---- once names were added

in_back : (y x : Text) (xs : List Text) → is_in y (xs ++ x ∷ []) ≡ (is_in y xs || same_text y x)
in_back y x [] = or-false (same_text y x)
in_back y x (z ∷ zs) = ap (λ b. same_text y z || b) (in_back y x zs) ∙ sym (or_assoc (same_text y z) (is_in y zs) (same_text y x))

in_name : (y x : Text) (names : List Text) → is_in y (with_name names x) ≡ (is_in y names || same_text y x)
in_name y x names = by (list_any (bytes_eq x) names) (in_any x names)
  where
    there : (b : Bool) → same_text y x ≡ b → is_in x names ≡ true → is_in y names ≡ (is_in y names || b)
    there true e h = let same : is_in y names ≡ true = ap (λ z. is_in z names) (same_is y x e) ∙ h in same ∙ sym (ap (λ b. b || true) same)
    there false e h = sym (or-false (is_in y names))

    by : (b : Bool) → b ≡ is_in x names → is_in y (if b then names else names ++ x ∷ []) ≡ (is_in y names || same_text y x)
    by true e = there (same_text y x) refl (sym e)
    by false e = in_back y x names

pub in_names : (y : Text) (names xs : List Text) → is_in y (with_names names xs) ≡ (is_in y names || is_in y xs)
in_names y names [] = sym (or-false (is_in y names))
in_names y names (x ∷ xs) = in_names y (with_name names x) xs ∙ ap (λ b. b || is_in y xs) (in_name y x names) ∙ or_assoc (is_in y names) (same_text y x) (is_in y xs)

-- one of these is no name that none of them is
out_of : (x : Text) (names ys : List Text) → is_in x names ≡ true → are_apart names ys ≡ true → is_in x ys ≡ false
out_of x [] ys h a = cc
out_of x (n ∷ ns) ys h a = by (same_text x n) refl h (λ k. out_of x ns ys k (second_of (not (is_in n ys)) (are_apart ns ys) a))
  where
    not_there : (b : Bool) → not b ≡ true → b ≡ false
    not_there true e = cc
    not_there false e = refl

    by : (b : Bool) → same_text x n ≡ b → (b || is_in x ns) ≡ true → (is_in x ns ≡ true → is_in x ys ≡ false) → is_in x ys ≡ false
    by true e k rest = ap (λ z. is_in z ys) (same_is x n e) ∙ not_there (is_in n ys) (first_of (not (is_in n ys)) (are_apart ns ys) a)
    by false e k rest = rest k

apart_name : (names : List Text) (x : Text) (ys : List Text) → are_apart (with_name names x) ys ≡ (are_apart names ys && not (is_in x ys))
apart_name names x ys = by (list_any (bytes_eq x) names) (in_any x names)
  where
    there : (b : Bool) → are_apart names ys ≡ b → is_in x names ≡ true → b ≡ (b && not (is_in x ys))
    there true e h = sym (ap not (out_of x names ys h e))
    there false e h = refl

    by : (b : Bool) → b ≡ is_in x names → are_apart (if b then names else names ++ x ∷ []) ys ≡ (are_apart names ys && not (is_in x ys))
    by true e = there (are_apart names ys) refl (sym e)
    by false e = apart_front names (x ∷ []) ys ∙ ap (λ b. are_apart names ys && b) (and-true (not (is_in x ys)))

pub apart_names : (names xs ys : List Text) → are_apart (with_names names xs) ys ≡ (are_apart names ys && are_apart xs ys)
apart_names names [] ys = sym (and-true (are_apart names ys))
apart_names names (x ∷ xs) ys =
    apart_names (with_name names x) xs ys ∙ ap (λ b. b && are_apart xs ys) (apart_name names x ys) ∙ and_assoc (are_apart names ys) (not (is_in x ys)) (are_apart xs ys)
