-- What is written at the end of a String, in UTF-8.
use Rattle.std.specs.Prelude.{codes, ◌≡◌, ℕ, ◌+◌, ◌<◌, ◌≤◌, List, [], ◌∷◌, ◌++◌, length, ℤ, pos, Bool, Result, Ok, Err, encode_utf8_all, flat_map, if◌then◌else◌}
use Rattle.si_plain.specs.Repr.{escaped_byte}
use Rattle.si_semantics.specs.Value.{Text, Value, Object}
use Rattle.si_plain.specs.declared.kind.Kind.{Kind}
use Rattle.si_plain.specs.declared.kind.Kind.TheVariants.{KeyError, RecursionError, OverflowError}
use Rattle.si_semantics.specs.Text.{same_int, decimal, repr_text, Written, Whole, Broken, str_in, str_of, max_nested}
use Rattle.si_arena.specs.declared.cause.Cause.{Cause}
use Rattle.si_arena.specs.declared.cause.Cause.TheVariants.{TooDeep, TooLong}
use Rattle.si_arena.specs.declared.cause.Fault.{Fault}
use Rattle.si_arena.specs.declared.cause.Fault.TheVariants.{Raises, NoMemory}
use Rattle.std.specs.String.{string_bytes, string_len, string_capacity}
use Rattle.std.specs.declared.string.String.{String}

-- bytes were added
pub record Adds {Z : Type 0} (bs : List ℕ) (old new : String Z) : Type 0 where
  pub bytes : string_bytes new ≡ string_bytes old ++ bs
  pub len : string_len new ≡ string_len old + length bs
  pub room : string_capacity old ≤ string_capacity new

-- what stood there stands in front
abbrev pub Begins : {Z : Type 0} → String Z → String Z → Type 0
Begins old new = (more : List ℕ) × (string_bytes new ≡ string_bytes old ++ more)

-- there is no room for bytes
abbrev pub HasNoRoom : {Z : Type 0} → List ℕ → String Z → Type 0
HasNoRoom bs s = string_capacity s < string_len s + length bs

-- memory was refused for bytes that there was no room for; a part of them may have been added
pub record Lacks {Z : Type 0} (bs : List ℕ) (old new : String Z) : Type 0 where
  pub part : Begins old new
  pub room : HasNoRoom bs old

-- the end of the repr of a range
abbrev pub range_end : ℤ → Text
range_end step = if same_int step (pos 1) then codes ")" else codes ", " ++ decimal step ++ codes ")"

-- the same in UTF-8
abbrev pub step_bytes : ℤ → List ℕ
step_bytes step = if same_int step (pos 1) then codes ")" else codes ", " ++ (encode_utf8_all (decimal step) ++ codes ")")

-- what is written of a value, all of it or up to where it breaks
abbrev pub text_written : Written → Text
text_written (Whole t) = t
text_written (Broken t) = t

-- the same in UTF-8
abbrev pub spelled : Written → List ℕ
spelled w = encode_utf8_all (text_written w)

-- the most bytes of the characters of a str in UTF-8
abbrev pub max_bytes : ℕ
max_bytes = 4194304

-- the str of an exception of a kind that says this (Standard Library, "Built-in Exceptions")
abbrev pub caused_str : Kind → Text → Text
caused_str KeyError t = repr_text t
caused_str k t = t

-- bytes between two quotes
abbrev pub bytes_between : ℕ → List ℕ → Text
bytes_between quote bs = quote ∷ flat_map (escaped_byte quote) bs ++ quote ∷ []

-- a part of these bytes was added, and from a start on there are more than any str has
pub record Overruns {Z : Type 0} (bs : List ℕ) (start : ℕ) (old new : String Z) : Type 0 where
  pub part : List ℕ
  pub rest : List ℕ
  pub is : bs ≡ part ++ rest
  pub added : Adds part old new
  pub past : start + max_bytes < length (string_bytes new)

-- what is written was added, all of it, or up to where it breaks; or a part of it, where it is too long; or memory was
-- refused
abbrev pub Puts : {Z U : Type 0} → Written → ℕ → String Z → String Z → Result U Fault → Type 0
Puts w start old new (Ok _) = (t : Text) × (w ≡ Whole t) × Adds (encode_utf8_all t) old new
Puts w start old new (Err (Raises TooDeep)) = (t : Text) × (w ≡ Broken t) × Adds (encode_utf8_all t) old new
Puts w start old new (Err (Raises TooLong)) = Overruns (spelled w) start old new
Puts w start old new (Err (Raises _)) = ⊥
Puts w start old new (Err NoMemory) = Lacks (spelled w) old new

-- what came of a text, by whether it is too long: that is told, unless memory was refused
abbrev pub judged_by : {U : Type 0} → Bool → Result U Fault → Result U Fault
judged_by long (Err NoMemory) = Err NoMemory
judged_by long (Err (Raises cause)) = if long then Err (Raises TooLong) else Err (Raises cause)
judged_by long (Ok u) = if long then Err (Raises TooLong) else Ok u

-- ---- what is promised

-- a text can't be written, for this cause
abbrev pub IsUnwritten : Result Text Kind → Cause → Type 0
IsUnwritten r TooDeep = r ≡ Err RecursionError
IsUnwritten r TooLong = r ≡ Err OverflowError
IsUnwritten r _ = ⊥

-- a text was added, or why it can't be written, or memory was refused where there was no room for these bytes; then a
-- part of it may have been added
abbrev pub Writes : {Z U : Type 0} → Result Text Kind → List ℕ → String Z → String Z → Result U Fault → Type 0
Writes p longest old new (Ok _) = (t : Text) × (p ≡ Ok t) × Adds (encode_utf8_all t) old new
Writes p longest old new (Err (Raises cause)) = IsUnwritten p cause × Begins old new
Writes p longest old new (Err NoMemory) = Lacks longest old new

-- the same; what is not added leaves the text of the String as it was
abbrev pub Appends : {Z U : Type 0} → Result Text Kind → List ℕ → String Z → String Z → Result U Fault → Type 0
Appends p longest old new (Ok _) = (t : Text) × (p ≡ Ok t) × (string_bytes new ≡ string_bytes old ++ encode_utf8_all t)
Appends p longest old new (Err (Raises cause)) = IsUnwritten p cause × (string_bytes new ≡ string_bytes old)
Appends p longest old new (Err NoMemory) = HasNoRoom longest old × (string_bytes new ≡ string_bytes old)

-- the str of values, each with a space before it; the first that can't be written decides
abbrev pub spaced_in : List Object → List Value → Result Text Kind
spaced_in store [] = Ok []
spaced_in store (v ∷ vs) = elim (str_in store v) [ Err k ↦ Err k | Ok t ↦ elim (spaced_in store vs) [ Err k ↦ Err k | Ok rest ↦ Ok (32 ∷ (t ++ rest)) ] ]

-- the str of values in UTF-8, each with a space before it, however long it is; of one that is too deep what stands
-- before it breaks
abbrev pub spaced_bytes : List Object → List Value → List ℕ
spaced_bytes store [] = []
spaced_bytes store (v ∷ vs) = 32 ∷ (spelled (str_of max_nested store v) ++ spaced_bytes store vs)

-- the same of a line
abbrev pub line_bytes : List Object → List Value → List ℕ
line_bytes store [] = 10 ∷ []
line_bytes store (v ∷ vs) = spelled (str_of max_nested store v) ++ (spaced_bytes store vs ++ 10 ∷ [])
