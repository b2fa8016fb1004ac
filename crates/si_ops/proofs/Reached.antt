-- The items of a range lie between its start and its stop.
use Rattle.std.proofs.Common.{◌≡◌, ℕ, ℤ, pos, negsuc, ◌+◌, ◌-◌, ◌*◌, ◌/◌, ◌^◌, ◌<◌, ◌≤◌, Bool, true, false, FitsSigned, w64, refl, sym, ap, subst, arith, le_trans, add-one, ◌∙◌, neg_ℤ}
use Rattle.std.proofs.Math.IntN.{pos-*ℤ-negsuc}
use Rattle.std.specs.Prelude.{◌+ℤ◌, ◌-ℤ◌, ◌*ℤ◌, unsigned_abs, int_lt, int_le, if◌then◌else◌}
use Rattle.std.proofs.Math.Nat.{div-mul-le_self, mul-le-mul_right}
use Rattle.std.proofs.lemmas.Bool.Decides.{nat_tests}
use Rattle.si_semantics.specs.Operations.{range_length}

-- so many steps go no further than a distance
steps_within : (k n d : ℕ) → k < d / n + 1 → k * n ≤ d
steps_within k n d h = let le : k ≤ d / n = omega (arith, h) in le_trans (mul-le-mul_right n le) (div-mul-le_self d n)

counted : (t : Bool) (k n d : ℕ) → k < (if t then d / n + 1 else 0) → (t ≡ true) × (k * n ≤ d)
counted true k n d h = (refl, steps_within k n d h)
counted false k n d h = absurd (omega (arith, h))

-- up
sum_fits : (a b : ℤ) (m : ℕ) → FitsSigned w64 a → FitsSigned w64 b → int_lt a b ≡ true → m ≤ unsigned_abs (b -ℤ a) - 1 → FitsSigned w64 (a +ℤ pos m)
sum_fits a b m fa fb lt le = grind (arith, nat_tests)

-- down
difference_fits : (a b : ℤ) (m : ℕ) → FitsSigned w64 a → FitsSigned w64 b → int_lt b a ≡ true → m ≤ unsigned_abs (a -ℤ b) - 1 → FitsSigned w64 (a -ℤ pos m)
difference_fits a b m fa fb lt le = grind (arith, nat_tests)

distance_fits : (a b : ℤ) (m : ℕ) → FitsSigned w64 a → FitsSigned w64 b → m ≤ unsigned_abs (b -ℤ a) - 1 → m < 2 ^ 64
distance_fits a b m fa fb le = grind (arith, nat_tests)

-- what an item of a range keeps
pub record IsReached (a c : ℤ) (k : ℕ) : Type 0 where
  pub distance : k * unsigned_abs c < 2 ^ 64
  pub fits : FitsSigned w64 (a +ℤ pos k *ℤ c)

pub item_reached : (a b c : ℤ) (k : ℕ) → FitsSigned w64 a → FitsSigned w64 b → k < range_length a b c → IsReached a c k
item_reached a b (pos n) k fa fb h =
    let r = counted (int_lt a b) k n (unsigned_abs (b -ℤ a) - 1) h in
    record { distance = distance_fits a b (k * n) fa fb r.1; fits = sum_fits a b (k * n) fa fb r.0 r.1 }
item_reached a b (negsuc n) k fa fb h =
    let r = counted (int_lt b a) k (n + 1) (unsigned_abs (a -ℤ b) - 1) h in
    let next = add-one n in
    record {
      distance = subst (λ s. k * s < 2 ^ 64) next (distance_fits b a (k * (n + 1)) fb fa r.1);
      fits = subst (λ z. FitsSigned w64 (a +ℤ z)) (ap (λ s. neg_ℤ (pos (k * s))) next ∙ sym (pos-*ℤ-negsuc k n)) (difference_fits a b (k * (n + 1)) fa fb r.0 r.1);
    }

-- so many steps, one way and the other
pub steps_up : (k : ℕ) (c : ℤ) → int_le (pos 0) c ≡ true → pos (k * unsigned_abs c) ≡ pos k *ℤ c
steps_up k (pos n) h = refl
steps_up k (negsuc n) h = cc

not_below : (n : ℕ) → int_le (pos 0) (pos n) ≡ false → ⊥
not_below n h = grind (arith, nat_tests)

pub steps_down : (k : ℕ) (c : ℤ) → int_le (pos 0) c ≡ false → neg_ℤ (pos (k * unsigned_abs c)) ≡ pos k *ℤ c
steps_down k (pos n) h = absurd (not_below n h)
steps_down k (negsuc n) h = sym (pos-*ℤ-negsuc k n)
