-- Constants that are computed, by what is known of their operands.
use Rattle.std.proofs.Common.{◌≡◌, ℕ, ℤ, ◌+◌, ◌*◌, zero, suc, List, [], ◌++◌, length, Bool, true, false, Option, Some, None, refl, sym, ap, ◌∙◌, subst, pos, negsuc, mul-zero, append-nil, append_assoc, add-one}
use Rattle.std.specs.Prelude.{Result, Ok, Err, nat_lt}
use Rattle.std.specs.Option.{option_map}
use Rattle.std.specs.Result.{result_ok}
use Rattle.si_plain.specs.declared.kind.Kind.{Kind}
use Rattle.si_semantics.specs.Value.{Text, Value, Int, Str}
use Rattle.si_semantics.specs.Tree as tree
use Rattle.si_semantics.specs.Tree.{UnaryOperator, BinaryOperator}
use Rattle.si_semantics.specs.Operations.{times}
use Rattle.si_semantics.specs.Meaning.{choose}
use Rattle.si_slots.specs.Code.{folded, in_place, folded_binary, folded_copies, folded_integer, folded_unary, integer_source, max_folded}
use Rattle.si_emit.specs.inner.Foldings.{between_of, integer_of, signed_of}

pub unary_of : (o : UnaryOperator) (m : Option Value) → integer_of (folded_unary o m) ≡ signed_of o (integer_of m)
unary_of o (Some (Int i)) = refl
unary_of tree.Plus _ = refl
unary_of tree.Minus _ = refl
unary_of tree.Invert _ = refl
unary_of tree.Not _ = refl

integer_stands : (m : Option Value) → integer_source (option_map Int (integer_of m)) ≡ integer_source m
integer_stands (Some (Int i)) = refl
integer_stands _ = refl

pub int_place : (ls : List Text) (i : ℤ) (t : tree.Expr) (n : Option ℤ) → t ≡ tree.Constant (Int i) → n ≡ integer_of (folded t) → integer_source (option_map Int n) ≡ in_place ls t
int_place ls i t n is h = ap (λ m. integer_source (option_map Int m)) h ∙ integer_stands (folded t) ∙ ap (λ z. integer_source (folded z)) is ∙ sym (ap (in_place ls) is)

pub unary_place : (ls : List Text) (o : UnaryOperator) (a t : tree.Expr) (n : Option ℤ) → t ≡ tree.Unary o a → n ≡ integer_of (folded t) → integer_source (option_map Int n) ≡ in_place ls t
unary_place ls o a t n is h = ap (λ m. integer_source (option_map Int m)) h ∙ integer_stands (folded t) ∙ ap (λ z. integer_source (folded z)) is ∙ sym (ap (in_place ls) is)

pub binary_place : (ls : List Text) (o : BinaryOperator) (a b t : tree.Expr) (n : Option ℤ) → t ≡ tree.Binary o a b → n ≡ integer_of (folded t) → integer_source (option_map Int n) ≡ in_place ls t
binary_place ls o a b t n is h = ap (λ m. integer_source (option_map Int m)) h ∙ integer_stands (folded t) ∙ ap (λ z. integer_source (folded z)) is ∙ sym (ap (in_place ls) is)

-- a text is no integer
no_integer : (t : Text) (b : Bool) → integer_of (choose b None (Some (Str t))) ≡ None
no_integer t true = refl
no_integer t false = refl

no_copies : (t : Text) (i : ℤ) → integer_of (folded_copies t i) ≡ None
no_copies t (pos i) = no_integer _ (nat_lt max_folded (i * length t))
no_copies t (negsuc i) = refl

pub binary_of : (o : BinaryOperator) (m k : Option Value) → integer_of (folded_binary o m k) ≡ between_of o (integer_of m) (integer_of k)
binary_of o (Some (Int x)) (Some (Int y)) = refl
binary_of tree.Add (Some (Str s)) (Some (Str t)) = no_integer (s ++ t) (nat_lt max_folded (length (s ++ t)))
binary_of tree.Multiply (Some (Str s)) (Some (Int j)) = no_copies s j
binary_of tree.Multiply (Some (Int i)) (Some (Str t)) = no_copies t i
binary_of o (Some (Int x)) _ = refl
binary_of o _ _ = refl

pub integer_ok : (r : Result ℤ Kind) → integer_of (folded_integer r) ≡ result_ok r
integer_ok (Ok i) = refl
integer_ok (Err k) = refl

-- one copy more
times_more : (n : ℕ) (t : Text) → times n t ++ t ≡ times (suc n) t
times_more zero t = sym (append-nil t)
times_more (suc n) t = append_assoc t (times n t) t ∙ ap (λ u. t ++ u) (times_more n t)

pub times_next : (n : ℕ) (t : Text) → times n t ++ t ≡ times (n + 1) t
times_next n t = times_more n t ∙ ap (λ k. times k t) (sym (add-one n))

-- an empty text so many times
times_nothing : (n : ℕ) → times n [] ≡ []
times_nothing zero = refl
times_nothing (suc n) = times_nothing n

pub copies_empty : (t : Text) (i : ℤ) → t ≡ [] → folded_copies t i ≡ Some (Str [])
copies_empty t (pos i) h =
    subst (λ z. folded_copies z (pos i) ≡ Some (Str [])) (sym h)
    (ap (λ n. choose (nat_lt max_folded n) None (Some (Str (times i [])))) (mul-zero i) ∙ ap (λ z. Some (Str z)) (times_nothing i))
copies_empty t (negsuc i) h = refl
