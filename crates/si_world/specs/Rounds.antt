-- What turns given in rounds leave (this project's own).
use Rattle.std.specs.Prelude.{◌≡◌, ℕ, ◌+◌, ◌≤◌, List, [], ◌∷◌, length, Bool, true, false}
use Rattle.si_world.specs.declared.mark.Mark.{Mark}
use Rattle.si_world.specs.declared.mark.Mark.TheVariants as marks
use Rattle.si_world.specs.Worlds.{WorldView}
use Rattle.si_world.specs.Marks.{Ran}

-- the turn moved its interpreter
abbrev pub is_move : Mark → Bool
is_move marks.Local = true
is_move marks.Acted = true
is_move _ = false

-- how many marks in a row were no moves, one mark later
abbrev pub idle_then : Bool → ℕ → ℕ
idle_then true idle = 0
idle_then false idle = idle + 1

-- at most so many marks in a row are no moves, where so many were just before these
abbrev pub IdleWithin : (most idle : ℕ) → List Mark → Type 0
IdleWithin most idle [] = idle ≤ most
IdleWithin most idle (m ∷ ms) = (idle ≤ most) × IdleWithin most (idle_then (is_move m) idle) ms

-- some list of n turns leads from one world to another, and at most 128 of them in a row moved nobody
pub record Serves (old : WorldView) (n : ℕ) (new : WorldView) : Type 0 where
  pub turns : List ℕ
  pub marks : List Mark
  pub ran : Ran old turns marks new
  pub count : length turns ≡ n
  pub idle : IdleWithin 128 0 marks
