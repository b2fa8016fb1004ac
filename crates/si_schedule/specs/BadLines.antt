-- Which line of a text is the first that can't be continued to the text of a schedule. The rule is this project's own.
use Rattle.std.specs.Prelude.{◌≡◌, ◌≢◌, ℕ, ◌+◌, List, [], ◌∷◌, ◌++◌, length, ⊤, ◌⊎◌}
use Rattle.std.specs.List.{AllByRecursion}
use Rattle.si_schedule.specs.declared.fault.ReadFault.{ReadFault}
use Rattle.si_schedule.specs.declared.fault.ReadFault.TheVariants as faults
use Rattle.si_schedule.specs.Schedules.{Schedule, IsSchedule, ended, text_of}

-- no line feed stands in it
abbrev pub IsLine : List ℕ → Type 0
IsLine line = AllByRecursion (λ byte. byte ≢ 10) line

-- these lines can be continued to the text of a schedule: there is one whose text begins with them
pub record CanGoOn (lines : List (List ℕ)) : Type 0 where
  pub schedule : Schedule
  pub is : IsSchedule schedule
  pub more : List ℕ
  pub text : text_of schedule ≡ ended lines ++ more

-- what is left begins with a line that is ended, and with it the lines before can't be continued
pub record IsNoNext (before : List (List ℕ)) (left : List ℕ) : Type 0 where
  pub line : List ℕ
  pub after : List ℕ
  pub split : left ≡ line ++ 10 ∷ after
  pub is_line : IsLine line
  pub stuck : CanGoOn (before ++ line ∷ []) → ⊥

-- the line after these is missing or not ended, or they can't be continued with it
abbrev pub IsBadNext : List (List ℕ) → List ℕ → Type 0
IsBadNext before left = IsLine left ⊎ IsNoNext before left

-- line k of a text that is no schedule's, counted from 1, is the first bad one: the lines before it can be continued, and it is
-- missing or not ended, or they can't be continued with it. Where more follows the text of a schedule, the line after `end` is
-- bad, whatever it is.
pub record IsBadLine (text : List ℕ) (k : ℕ) : Type 0 where
  pub before : List (List ℕ)
  pub left : List ℕ
  pub split : text ≡ ended before ++ left
  pub are_lines : AllByRecursion IsLine before
  pub go_on : CanGoOn before
  pub number : k ≡ length before + 1
  pub bad : IsBadNext before left
  pub none : (s : Schedule) → IsSchedule s → text ≢ text_of s

-- why nothing is read from a text: its first bad line, or memory was refused
abbrev pub IsReadFault : List ℕ → ReadFault → Type 0
IsReadFault text (faults.BadLine k) = IsBadLine text k
IsReadFault text faults.NoMemory = ⊤

-- memory was refused
abbrev pub IsNoMemory : ReadFault → Type 0
IsNoMemory (faults.BadLine k) = ⊥
IsNoMemory faults.NoMemory = ⊤
