-- Schedules and their texts. Both are this project's own.
use Rattle.std.specs.Prelude.{ℕ, ◌<◌, ◌≤◌, ◌^◌, List, [], ◌∷◌, ◌++◌, length, map, codes}
use Rattle.std.specs.List.{flat_map, AllByRecursion}
use Rattle.std.specs.Fmt.{decimal}

-- how many interpreters a run may create, and the interpreters whose shared actions were taken, in order, by their numbers
pub record Schedule : Type 0 where
  pub interpreters : ℕ
  pub callers : List ℕ

-- there are from 1 to 64 interpreters, each caller is one of them, and 64 bits hold how many callers there are
pub record IsSchedule (s : Schedule) : Type 0 where
  pub least : 1 ≤ s.interpreters
  pub most : s.interpreters ≤ 64
  pub each : AllByRecursion (λ i. i < s.interpreters) s.callers
  pub count : length s.callers < 2 ^ 64

-- ---- its text

-- the first line: which version of these texts it is
abbrev pub version_line : List ℕ
version_line = codes "schedule 1"

-- the second: how many interpreters there are. Numbers are written in decimal, with no sign and no leading zeros.
abbrev pub interpreters_line : ℕ → List ℕ
interpreters_line w = codes "interpreters " ++ decimal w

-- the third: how many callers there are
abbrev pub count_line : ℕ → List ℕ
count_line n = codes "turns " ++ decimal n

-- the last
abbrev pub end_line : List ℕ
end_line = codes "end"

-- the first three lines
abbrev pub head_lines : ℕ → ℕ → List (List ℕ)
head_lines w n = version_line ∷ interpreters_line w ∷ count_line n ∷ []

-- all lines: between the third and the last there is one for each caller
abbrev pub lines_of : Schedule → List (List ℕ)
lines_of s = head_lines s.interpreters (length s.callers) ++ (map decimal s.callers ++ end_line ∷ [])

-- lines one after another, each ended by a line feed
abbrev pub ended : List (List ℕ) → List ℕ
ended lines = flat_map (λ line. line ++ 10 ∷ []) lines

-- the text of a schedule, in UTF-8, and nothing follows it
abbrev pub text_of : Schedule → List ℕ
text_of s = ended (lines_of s)
