-- What is told of a kind and a message.
use Rattle.std.proofs.Common.{◌≡◌, List, ℕ, [], ◌∷◌, ◌++◌, refl}
use Rattle.std.specs.Prelude.{codes}
use Rattle.std.specs.Str.{chars}
use Rattle.si_plain.specs.Characters.{characters_of}
use Rattle.si_plain.specs.declared.kind.Kind.{Kind}
use Rattle.si_plain.specs.declared.kind.Kind.TheVariants as kind
use Rattle.si_plain.specs.Kinds.{name_of}
use Rattle.si_semantics.specs.Text.{kind_and_message}

-- the name of a kind is ASCII
pub name_characters : (k : Kind) → characters_of (name_of k) ≡ name_of k
unfolding name_of chars
name_characters kind.BaseException = refl
name_characters kind.Exception = refl
name_characters kind.ArithmeticError = refl
name_characters kind.OverflowError = refl
name_characters kind.ZeroDivisionError = refl
name_characters kind.AttributeError = refl
name_characters kind.LookupError = refl
name_characters kind.IndexError = refl
name_characters kind.KeyError = refl
name_characters kind.NameError = refl
name_characters kind.UnboundLocalError = refl
name_characters kind.RuntimeError = refl
name_characters kind.RecursionError = refl
name_characters kind.SyntaxError = refl
name_characters kind.TypeError = refl
name_characters kind.NotShareableError = refl
name_characters kind.ValueError = refl
name_characters kind.InterpreterError = refl
name_characters kind.InterpreterNotFoundError = refl
name_characters kind.ExecutionFailed = refl
name_characters kind.QueueEmpty = refl
name_characters kind.QueueFull = refl

pub told_some : (k : Kind) (t : List ℕ) → (t ≡ [] → ⊥) → kind_and_message k t ≡ name_of k ++ (codes ": " ++ t)
told_some k [] h = absurd (h refl)
told_some k (c ∷ cs) h = refl
