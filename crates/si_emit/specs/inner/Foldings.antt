-- Constants that are computed. Devices of the proofs: si_slots/specs/Code.antt says which they are.
use Rattle.std.specs.Prelude.{ℤ, Option, Some, None}
use Rattle.si_semantics.specs.Value.{Value}
use Rattle.si_semantics.specs.Value as value
use Rattle.si_semantics.specs.Tree as tree
use Rattle.si_semantics.specs.Tree.{UnaryOperator, BinaryOperator, Expr}
use Rattle.si_semantics.specs.Operations.{operate_integers}
use Rattle.si_slots.specs.Code.{folded, folded_integer, folded_unary}
use Rattle.si_emit.specs.declared.folding.Known.{Known}
use Rattle.si_emit.specs.declared.folding.Known.TheVariants.{Int, Str}

-- the value of a constant
abbrev pub value_of : Known → Value
value_of (Int n) = value.Int n
value_of (Str t) = value.Str t

-- the constant that an operator gives, where it is computed
abbrev pub computed_in : Expr → Option Value
computed_in (tree.Unary o a) = folded (tree.Unary o a)
computed_in (tree.Binary o a b) = folded (tree.Binary o a b)
computed_in a = None

-- the integer that a constant is
abbrev pub integer_of : Option Value → Option ℤ
integer_of (Some (value.Int n)) = Some n
integer_of o = None

-- the integer that an operator before one gives
abbrev pub signed_of : UnaryOperator → Option ℤ → Option ℤ
signed_of o (Some n) = integer_of (folded_unary o (Some (value.Int n)))
signed_of o None = None

-- the integer that an operator between two gives
abbrev pub between_of : BinaryOperator → Option ℤ → Option ℤ → Option ℤ
between_of o (Some x) (Some y) = integer_of (folded_integer (operate_integers o x y))
between_of o x y = None
