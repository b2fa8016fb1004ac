-- The bytes of an arena: they lie as the texts do whose characters have their numbers.
use Rattle.std.specs.Prelude.{ℕ, List}
use Rattle.si_arena.specs.declared.value.Ref.{Ref}
use Rattle.si_arena.specs.declared.value.Ref.TheVariants as value
use Rattle.si_arena.specs.Texts.{Rows, text_of}

-- the text that lies as bytes do; of anything else None, which is no text
abbrev pub text_of_bytes : Ref → Ref
text_of_bytes (value.ShortBytes s) = value.Short s
text_of_bytes (value.Bytes count start) = value.Narrow count start
text_of_bytes _ = value.None

-- the bytes that lie as a text does that is not in the wide row
abbrev pub bytes_of_text : Ref → Ref
bytes_of_text (value.Short s) = value.ShortBytes s
bytes_of_text (value.Narrow count start) = value.Bytes count start
bytes_of_text r = r

-- the bytes that a value is: those in the value itself, or a slice of the narrow row; of any other value none
abbrev pub bytes_of : Rows → Ref → List ℕ
bytes_of rows r = text_of rows (text_of_bytes r)

-- a value is bytes
abbrev pub IsBytes : Ref → Type 0
IsBytes (value.ShortBytes s) = Unit {0}
IsBytes (value.Bytes count start) = Unit {0}
IsBytes _ = ⊥
