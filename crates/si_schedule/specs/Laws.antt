-- Laws of the texts of schedules.
use Rattle.std.specs.Prelude.{◌≡◌, ℕ, List}
use Rattle.si_schedule.specs.Schedules.{Schedule, IsSchedule, text_of}
use Rattle.si_schedule.specs.BadLines.{IsBadLine}

-- schedules with the same text are the same
abbrev pub OneText : Type 0
OneText = (s t : Schedule) → IsSchedule s → IsSchedule t → text_of s ≡ text_of t → s ≡ t

-- a text has at most one first bad line
abbrev pub OneBadLine : Type 0
OneBadLine = (text : List ℕ) (j k : ℕ) → IsBadLine text j → IsBadLine text k → j ≡ k
