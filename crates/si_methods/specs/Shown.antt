-- What a value is to a method.
use Rattle.std.specs.Prelude.{◌≡◌, ℕ, Bool, true, false, List, [], ◌∷◌, Option, Some, None, Result, Ok, Err}
use Rattle.si_semantics.specs.Value as pure
use Rattle.si_semantics.specs.World.{World}
use Rattle.si_semantics.specs.Operations.{wrong_type}
use Rattle.si_semantics.specs.Attributes.{tested_texts}
use Rattle.si_arena.specs.declared.cause.Cause.TheVariants.{WrongType}
use Rattle.si_arena.specs.declared.cause.Fault.{Fault}
use Rattle.si_arena.specs.declared.cause.Fault.TheVariants.{Raises, NoMemory}
use Rattle.si_arena.specs.declared.characters.Characters.{Characters}
use Rattle.si_arena.specs.declared.value.Ref.{Ref}
use Rattle.si_arena.specs.Texts.{characters_in}
use Rattle.si_arena.specs.Memory.{Memory, value_of, Lies}

-- no str; no queue; no interpreter; no method `exec`; no object; no tuple of one item
abbrev pub IsNoStr : pure.Value → Type 0
IsNoStr (pure.Str t) = ⊥
IsNoStr _ = Unit {0}

abbrev pub IsNoQueue : pure.Value → Type 0
IsNoQueue (pure.Queue q m) = ⊥
IsNoQueue _ = Unit {0}

abbrev pub IsNoInterpreter : pure.Value → Type 0
IsNoInterpreter (pure.Interpreter i) = ⊥
IsNoInterpreter _ = Unit {0}

abbrev pub IsNoExec : pure.Value → Type 0
IsNoExec (pure.Exec i) = ⊥
IsNoExec _ = Unit {0}

abbrev pub IsNoAddress : pure.Value → Type 0
IsNoAddress (pure.Address x) = ⊥
IsNoAddress _ = Unit {0}

abbrev pub IsNoSingle : pure.Value → Type 0
IsNoSingle (pure.Tuple (pure.MoreValues v pure.NoValues)) = ⊥
IsNoSingle _ = Unit {0}

-- the characters of a value, where it is a str
abbrev pub IsStr : pure.Value → Option Characters → Type 0
IsStr v (Some characters) = v ≡ pure.Str (characters_in characters)
IsStr v None = IsNoStr v

-- the characters of a value as a text, where it is a str; or memory is refused
abbrev pub IsTextOf : pure.Value → Result pure.Text Fault → Type 0
IsTextOf v (Ok t) = v ≡ pure.Str t
IsTextOf v (Err (Raises cause)) = IsNoStr v × (cause ≡ WrongType)
IsTextOf v (Err NoMemory) = Unit {0}

-- the number of a value and its bound, where it is a queue
abbrev pub IsQueue : pure.Value → Option (ℕ × ℕ) → Type 0
IsQueue v (Some q) = v ≡ pure.Queue q.0 q.1
IsQueue v None = IsNoQueue v

-- the number of a value, where it is an interpreter
abbrev pub IsInterpreter : pure.Value → Option ℕ → Type 0
IsInterpreter v (Some i) = v ≡ pure.Interpreter i
IsInterpreter v None = IsNoInterpreter v

-- the address of a value, where it is an object
abbrev pub IsAddress : pure.Value → Option ℕ → Type 0
IsAddress v (Some x) = v ≡ pure.Address x
IsAddress v None = IsNoAddress v

-- the characters of two values, where both are strs; no test takes others
abbrev pub AreStrs : (u v : pure.Value) → Option (Characters × Characters) → Type 0
AreStrs u v (Some p) = (u ≡ pure.Str (characters_in p.0)) × (v ≡ pure.Str (characters_in p.1))
AreStrs u v None = (test : pure.Text → pure.Text → Bool) (w : World) → tested_texts test u v w ≡ wrong_type w

-- the number of the interpreter whose `exec` a value is
abbrev pub IsExec : pure.Value → Option ℕ → Type 0
IsExec v (Some i) = v ≡ pure.Exec i
IsExec v None = IsNoExec v

-- the item of a tuple of one item, which lies in the arena
abbrev pub IsOnlyItem : Memory → pure.Value → Option Ref → Type 0
IsOnlyItem m v (Some r) = Lies m r × (v ≡ pure.Tuple (pure.MoreValues (value_of m r) pure.NoValues))
IsOnlyItem m v None = IsNoSingle v

-- values in a row are one alone
abbrev pub HasOne : List Ref → Option Ref → Type 0
HasOne rs (Some r) = rs ≡ r ∷ []
HasOne [] None = Unit {0}
HasOne (r ∷ []) None = ⊥
HasOne (r ∷ s ∷ rs) None = Unit {0}

-- a value is None
abbrev pub is_nothing : pure.Value → Bool
is_nothing pure.Nothing = true
is_nothing _ = false
