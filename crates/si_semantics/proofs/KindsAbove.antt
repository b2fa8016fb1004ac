-- A kind is another, or stands under it, exactly where `is_a` says so.
use Rattle.std.proofs.Common.{◌≡◌, ℕ, zero, suc, ◌≤◌, List, [], ◌∷◌, Bool, true, false, Option, Some, None, inl, inr, refl, sym, ap, ◌∙◌, arith}
use Rattle.std.specs.Prelude.{◌⊎◌, ◌||◌, slice_get}
use Rattle.std.proofs.lemmas.Bool.{eq-eqb, eqb-true}
use Rattle.std.proofs.Math.Bool.{or-true}
use Rattle.si_plain.specs.declared.kind.Kind.{Kind}
use Rattle.si_plain.specs.declared.kind.Kind.TheVariants.{BaseException, Exception, ArithmeticError, OverflowError, ZeroDivisionError, AttributeError, LookupError, IndexError, KeyError, NameError, UnboundLocalError, RuntimeError, RecursionError, SyntaxError, TypeError, NotShareableError, ValueError, InterpreterError, InterpreterNotFoundError, ExecutionFailed, QueueEmpty, QueueFull}
use Rattle.si_plain.specs.Kinds.{parent, IsUnder, directly, further, number_of, same_kind, is_a_within, is_a}
use Rattle.si_semantics.specs.Laws.{KindsAbove}

-- ---- one number, one kind

kinds : List Kind
kinds =
    BaseException ∷ Exception ∷ ArithmeticError ∷ OverflowError ∷ ZeroDivisionError ∷ AttributeError ∷ LookupError ∷ IndexError ∷ KeyError ∷ NameError
    ∷ UnboundLocalError ∷ RuntimeError ∷ RecursionError ∷ SyntaxError ∷ TypeError ∷ NotShareableError ∷ ValueError ∷ InterpreterError ∷ InterpreterNotFoundError
    ∷ ExecutionFailed ∷ QueueEmpty ∷ QueueFull ∷ []

at_its_number : (k : Kind) → slice_get kinds (number_of k) ≡ Some k
unfolding kinds
at_its_number BaseException = refl
at_its_number Exception = refl
at_its_number ArithmeticError = refl
at_its_number OverflowError = refl
at_its_number ZeroDivisionError = refl
at_its_number AttributeError = refl
at_its_number LookupError = refl
at_its_number IndexError = refl
at_its_number KeyError = refl
at_its_number NameError = refl
at_its_number UnboundLocalError = refl
at_its_number RuntimeError = refl
at_its_number RecursionError = refl
at_its_number SyntaxError = refl
at_its_number TypeError = refl
at_its_number NotShareableError = refl
at_its_number ValueError = refl
at_its_number InterpreterError = refl
at_its_number InterpreterNotFoundError = refl
at_its_number ExecutionFailed = refl
at_its_number QueueEmpty = refl
at_its_number QueueFull = refl

some_is : {A : Type 0} (a b : A) → Some a ≡ Some b → a ≡ b
some_is a b e = cc

same_is : (k l : Kind) → same_kind k l ≡ true → k ≡ l
same_is k l e = some_is k l (sym (at_its_number k) ∙ ap (slice_get kinds) (eqb-true (number_of k) (number_of l) e) ∙ at_its_number l)

same_self : (k : Kind) → same_kind k k ≡ true
same_self k = eq-eqb (number_of k) (number_of k) refl

-- ---- from `is_a`

-- where one step up leads to a kind that is another or stands under it, so does this
above_is : (n : ℕ) (k top : Kind) (o : Option Kind) → parent k ≡ o → ((a : Kind) → is_a_within n a top ≡ true → (a ≡ top) ⊎ IsUnder a top) → elim o [ None ↦ false | Some above ↦ is_a_within n above top ] ≡ true → (k ≡ top) ⊎ IsUnder k top
above_is n k top None p h e = cc
above_is n k top (Some a) p h e = inr (under (h a e))
  where
    under : (a ≡ top) ⊎ IsUnder a top → IsUnder k top
    under (inl s) = directly (p ∙ ap Some s)
    under (inr u) = further p u

either_is : (n : ℕ) (k top : Kind) (same : Bool) → same_kind k top ≡ same → ((a : Kind) → is_a_within n a top ≡ true → (a ≡ top) ⊎ IsUnder a top) → (same || elim (parent k) [ None ↦ false | Some above ↦ is_a_within n above top ]) ≡ true → (k ≡ top) ⊎ IsUnder k top
either_is n k top true s h e = inl (same_is k top s)
either_is n k top false s h e = above_is n k top (parent k) refl h e

is_above : (n : ℕ) (k top : Kind) → is_a_within n k top ≡ true → (k ≡ top) ⊎ IsUnder k top
is_above zero k top e = inl (same_is k top e)
is_above (suc n) k top e = either_is n k top (same_kind k top) refl (λ a. is_above n a top) e

-- ---- to `is_a`

-- how many kinds stand above a kind
abbrev height_within : ℕ → Kind → ℕ
height_within zero k = 0
height_within (suc n) k = elim (parent k) [ None ↦ 0 | Some above ↦ suc (height_within n above) ]

height : Kind → ℕ
height k = height_within 3 k

above_height : Option Kind → ℕ
above_height None = 0
above_height (Some a) = suc (height a)

height_is : (k : Kind) → height k ≡ above_height (parent k)
unfolding height above_height
height_is BaseException = refl
height_is Exception = refl
height_is ArithmeticError = refl
height_is OverflowError = refl
height_is ZeroDivisionError = refl
height_is AttributeError = refl
height_is LookupError = refl
height_is IndexError = refl
height_is KeyError = refl
height_is NameError = refl
height_is UnboundLocalError = refl
height_is RuntimeError = refl
height_is RecursionError = refl
height_is SyntaxError = refl
height_is TypeError = refl
height_is NotShareableError = refl
height_is ValueError = refl
height_is InterpreterError = refl
height_is InterpreterNotFoundError = refl
height_is ExecutionFailed = refl
height_is QueueEmpty = refl
height_is QueueFull = refl

lower : (k a : Kind) → parent k ≡ Some a → height k ≡ suc (height a)
unfolding above_height
lower k a p = height_is k ∙ ap above_height p

low : (k : Kind) → height k ≤ 3
unfolding height
low BaseException = omega arith
low Exception = omega arith
low ArithmeticError = omega arith
low OverflowError = omega arith
low ZeroDivisionError = omega arith
low AttributeError = omega arith
low LookupError = omega arith
low IndexError = omega arith
low KeyError = omega arith
low NameError = omega arith
low UnboundLocalError = omega arith
low RuntimeError = omega arith
low RecursionError = omega arith
low SyntaxError = omega arith
low TypeError = omega arith
low NotShareableError = omega arith
low ValueError = omega arith
low InterpreterError = omega arith
low InterpreterNotFoundError = omega arith
low ExecutionFailed = omega arith
low QueueEmpty = omega arith
low QueueFull = omega arith

same_first : (n : ℕ) (k : Kind) → is_a_within n k k ≡ true
same_first zero k = same_self k
same_first (suc n) k = ap (λ b. b || elim (parent k) [ None ↦ false | Some above ↦ is_a_within n above k ]) (same_self k)

-- a step up
one_up : (n : ℕ) (k a top : Kind) → parent k ≡ Some a → is_a_within n a top ≡ true → is_a_within (suc n) k top ≡ true
one_up n k a top p e =
    ap (λ o. same_kind k top || elim o [ None ↦ false | Some above ↦ is_a_within n above top ]) p
    ∙ ap (λ b. same_kind k top || b) e ∙ or-true (same_kind k top)

under_is : (n : ℕ) (k top : Kind) → height k ≤ n → IsUnder k top → is_a_within n k top ≡ true
under_is zero k top l (directly p) = absurd (omega (arith, l, lower k top p))
under_is zero k top l (further {above = a} p u) = absurd (omega (arith, l, lower k a p))
under_is (suc n) k top l (directly p) = one_up n k top top p (same_first n top)
under_is (suc n) k top l (further {above = a} p u) = one_up n k a top p (under_is n a top (omega (arith, l, lower k a p)) u)

both_are : (k top : Kind) → (k ≡ top) ⊎ IsUnder k top → is_a k top ≡ true
both_are k top (inl e) = ap (λ t. is_a k t) (sym e) ∙ same_first 3 k
both_are k top (inr u) = under_is 3 k top (low k) u

pub kinds_above : KindsAbove
kinds_above k top = (λ e. is_above 3 k top e, λ h. both_are k top h)
