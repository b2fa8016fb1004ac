-- What stints and rounds leave, with the turns in a row that moved nobody.
use Rattle.std.specs.Prelude.{◌≡◌, ℕ, ◌+◌, ◌≤◌, List, [], ◌∷◌, length, Bool, true, false}
use Rattle.si_world.specs.declared.mark.Mark.{Mark}
use Rattle.si_world.specs.Worlds.{WorldView}
use Rattle.si_world.specs.Marks.{Turned, Ran}
use Rattle.si_world.specs.Rounds.{is_move, idle_then, IdleWithin}

-- how many marks in a row are no moves after these marks, where so many were just before
abbrev pub idle_after : ℕ → List Mark → ℕ
idle_after idle [] = idle
idle_after idle (m ∷ ms) = idle_after (idle_then (is_move m) idle) ms

-- n turns lead from one world to another; `idle` turns in a row that moved nobody came just before, no more than 128 are
-- ever in a row, and at most `most` are at the end
pub record Gives (idle : ℕ) (old : WorldView) (n : ℕ) (new : WorldView) (most : ℕ) : Type 0 where
  pub turns : List ℕ
  pub marks : List Mark
  pub ran : Ran old turns marks new
  pub count : length turns ≡ n
  pub idle_within : IdleWithin 128 idle marks
  pub idle_end : idle_after idle marks ≤ most

-- the most turns in a row that moved nobody at the end of a stint, by whether any turn of it moved
abbrev pub stint_idle : Bool → ℕ → ℕ
stint_idle true idle = 1
stint_idle false idle = idle + 1

-- the same of so many stints of a round
abbrev pub round_idle : Bool → (stints idle : ℕ) → ℕ
round_idle true stints idle = stints
round_idle false stints idle = idle + stints

-- a turn that moved nobody
pub record IsIdleTurn (old : WorldView) (i : ℕ) (new : WorldView) : Type 0 where
  pub mark : Mark
  pub turned : Turned old i mark new
  pub still : is_move mark ≡ false
