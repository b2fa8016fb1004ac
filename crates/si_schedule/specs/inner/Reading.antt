-- How far a text was read, and how it goes on.
use Rattle.std.specs.Prelude.{◌≡◌, ◌≢◌, ℕ, ◌<◌, ◌≤◌, ◌^◌, List, [], ◌∷◌, ◌++◌, length, map, slice_index, ◌⊎◌}
use Rattle.std.specs.List.{AllByRecursion}
use Rattle.std.specs.Fmt.{decimal}
use Rattle.si_schedule.specs.declared.reading.Ending.{Ending}
use Rattle.si_schedule.specs.declared.reading.Ending.TheVariants as endings
use Rattle.si_schedule.specs.Schedules.{version_line, interpreters_line, count_line, end_line, head_lines, ended}
use Rattle.si_schedule.specs.BadLines.{IsLine}

-- not empty, no plus, and a zero at its front only alone
abbrev pub IsCanonical : List ℕ → Type 0
IsCanonical bytes = (0 < length bytes) × (slice_index bytes 0 ≢ 43) × (slice_index bytes 0 ≡ 48 → length bytes ≡ 1)

-- the text begins with the first three lines of w and n and with those of these callers, at most n, and this is left
pub record HasRead (text : List ℕ) (w n : ℕ) (callers left : List ℕ) : Type 0 where
  pub least : 1 ≤ w
  pub most : w ≤ 64
  pub bound : n < 2 ^ 64
  pub each : AllByRecursion (λ i. i < w) callers
  pub few : length callers ≤ n
  pub split : text ≡ ended (head_lines w n ++ map decimal callers) ++ left

-- the next line is missing or not ended, or it is not the version, names no number of interpreters, no number of callers, no
-- caller, or is not the last
abbrev pub IsNoVersion : List ℕ → Type 0
IsNoVersion left = IsLine left ⊎ ((line : List ℕ) × (after : List ℕ) × (left ≡ line ++ 10 ∷ after) × IsLine line × (line ≢ version_line))

abbrev pub IsNoInterpreters : List ℕ → Type 0
IsNoInterpreters left = IsLine left ⊎ ((line : List ℕ) × (after : List ℕ) × (left ≡ line ++ 10 ∷ after) × IsLine line × ((w : ℕ) → 1 ≤ w → w ≤ 64 → line ≢ interpreters_line w))

abbrev pub IsNoCount : List ℕ → Type 0
IsNoCount left = IsLine left ⊎ ((line : List ℕ) × (after : List ℕ) × (left ≡ line ++ 10 ∷ after) × IsLine line × ((n : ℕ) → n < 2 ^ 64 → line ≢ count_line n))

abbrev pub IsNoCaller : List ℕ → ℕ → Type 0
IsNoCaller left w = IsLine left ⊎ ((line : List ℕ) × (after : List ℕ) × (left ≡ line ++ 10 ∷ after) × IsLine line × ((i : ℕ) → i < w → line ≢ decimal i))

abbrev pub IsNoEnd : List ℕ → Type 0
IsNoEnd left = IsLine left ⊎ ((line : List ℕ) × (after : List ℕ) × (left ≡ line ++ 10 ∷ after) × IsLine line × (line ≢ end_line))

-- how a text ends
abbrev pub IsEnding : List ℕ → Ending → Type 0
IsEnding left endings.Ended = left ≡ end_line ++ 10 ∷ []
IsEnding left endings.NotEnded = IsNoEnd left
IsEnding left endings.GoesOn = (after : List ℕ) × (left ≡ end_line ++ 10 ∷ after) × (after ≢ [])
