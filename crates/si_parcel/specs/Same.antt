-- A device for `==`: values that have a code are compared by it, and so they are equal exactly where they are the same.
use Rattle.std.specs.Prelude.{◌≡◌, ◌↔◌, ◌==◌, ◌&&◌, Bool, true, false, IsTrue}
use Rattle.std.specs.Bool.{Decides, one_answer}
use Rattle.std.specs.Cmp.{IsEquivalence, IsPartialEquivalence, partial_equiv_from_equiv, decided, unsigned_Decides}
use Rattle.std.proofs.lemmas.Bool.{and_parts, and_from, false≢true}
use base.Stored.{Gv, gnil, gnum, gcons, Coded}
use mathlib.Core.Path.{refl, ap, subst}

abbrev pub same_code : Gv → Gv → Bool
same_code gnil gnil = true
same_code (gnum m) (gnum n) = m == n
same_code (gcons a b) (gcons c d) = same_code a c && same_code b d
same_code _ _ = false

-- whether two values are the same
pub same_by : {A : Type 0} → Coded A → A → A → Bool
same_by c x y = same_code (c.code x) (c.code y)

same_itself : (g : Gv) → same_code g g ≡ true
same_itself gnil = refl
same_itself (gnum n) = (unsigned_Decides n n).1 refl
same_itself (gcons a b) = and_from (same_code a a) (same_code b b) (same_itself a) (same_itself b)

one_code : (g h : Gv) → same_code g h ≡ true → g ≡ h
one_code gnil gnil e = refl
one_code (gnum m) (gnum n) e = ap gnum ((unsigned_Decides m n).0 e)
one_code (gcons a b) (gcons c d) e =
    let p = and_parts (same_code a c) (same_code b d) e in
    λ i. gcons (one_code a c p.0 i) (one_code b d p.1 i)
one_code gnil (gnum n) e = absurd (false≢true e)
one_code gnil (gcons c d) e = absurd (false≢true e)
one_code (gnum m) gnil e = absurd (false≢true e)
one_code (gnum m) (gcons c d) e = absurd (false≢true e)
one_code (gcons a b) gnil e = absurd (false≢true e)
one_code (gcons a b) (gnum n) e = absurd (false≢true e)

module _ {A : Type 0} (c : Coded A) where
  pub same_by_decides : (x y : A) → Decides (same_by c x y) (x ≡ y)
  unfolding same_by
  same_by_decides x y = (
    λ e. c.inj x y (one_code (c.code x) (c.code y) e),
    λ e. subst (λ z. same_code (c.code x) (c.code z) ≡ true) e (same_itself (c.code x)),
  )

  pub same_by_equiv : IsEquivalence (same_by c)
  same_by_equiv = decided (same_by c) same_by_decides

  pub same_by_per : IsPartialEquivalence (same_by c)
  same_by_per = partial_equiv_from_equiv same_by_equiv

  -- a test that is true just for the same value is `==`
  pub same_by_is : (x y : A) (r : Bool) → (IsTrue r ↔ (x ≡ y)) → r ≡ same_by c x y
  same_by_is x y r h = one_answer r (same_by c x y) h (same_by_decides x y)
