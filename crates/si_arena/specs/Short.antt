-- A text in the value itself.
use Rattle.std.specs.Prelude.{ℕ, ◌<◌, ◌≤◌, List, length, get_or, take}
use Rattle.si_arena.specs.declared.short.Short.{Short}

-- its characters: the first of the eleven that there is room for
abbrev pub short_text : Short → List ℕ
short_text s = take s.length s.characters

-- characters are few enough, and each is below 256, to be in the value itself
abbrev pub FitsShort : List ℕ → Type 0
FitsShort cs = (length cs ≤ 11) × ((i : ℕ) → i < length cs → get_or cs i 0 < 256)
