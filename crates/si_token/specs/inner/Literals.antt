-- Reading a str literal as functions on characters, which the code computes.
use Rattle.std.specs.Prelude.{ℕ, List, [], ◌∷◌, Option, Some, None, chars, nat_lt, nat_le, if◌then◌else◌}
use Rattle.std.specs.Option.{option_to_list}
use Rattle.std.specs.Char.{digit_value}
use Rattle.si_semantics.specs.Value.{Text}
use Rattle.si_semantics.specs.Literals.{Written, with_line_feeds}

-- the characters of a text, with its line ends read as LF
abbrev pub characters : List ℕ → Text
characters bytes = with_line_feeds (chars bytes)

-- the first character, and those after it
abbrev pub front_of : Text → Option (ℕ × Text)
front_of [] = None
front_of (c ∷ cs) = Some (c, cs)

-- the value of the digit in front, and the characters after it
abbrev pub digit_front : ℕ → Text → Option (ℕ × Text)
digit_front base [] = None
digit_front base (c ∷ cs) = if nat_lt (digit_value c) base then Some (digit_value c, cs) else None

-- a number that is not past the limit
abbrev pub up_to : ℕ → Option (ℕ × ℕ) → Option (ℕ × ℕ)
up_to limit None = None
up_to limit (Some r) = if nat_le r.0 limit then Some r else None

-- a character or none, and how many characters write it
abbrev pub written_of : Option ℕ × ℕ → Written
written_of r = (option_to_list r.0, r.1)
