-- Worked cases of the texts of schedules, computed from the definitions.
use Rattle.std.specs.Prelude.{◌≡◌, codes, ℕ, List, [], ◌∷◌, ◌++◌}
use Rattle.si_schedule.specs.Schedules.{Schedule, text_of}
use Rattle.si_schedule.specs.BadLines.{IsBadLine}

abbrev pub schedule : ℕ → List ℕ → Schedule
schedule w callers = record { interpreters = w; callers = callers }

-- the first lines, for 8 interpreters and this third line
abbrev pub eight : List ℕ → List ℕ
eight third = codes "schedule 1\ninterpreters 8\n" ++ third

pub record WorkedCases : Type 0 where
  pub three_callers : text_of (schedule 8 (0 ∷ 1 ∷ 0 ∷ [])) ≡ codes "schedule 1\ninterpreters 8\nturns 3\n0\n1\n0\nend\n"
  pub no_callers : text_of (schedule 1 []) ≡ codes "schedule 1\ninterpreters 1\nturns 0\nend\n"
  pub two_digits : text_of (schedule 64 (63 ∷ 10 ∷ [])) ≡ codes "schedule 1\ninterpreters 64\nturns 2\n63\n10\nend\n"
  -- nothing, and a line that ends as on another system
  pub nothing : IsBadLine [] 1
  pub carriage_return : IsBadLine (codes "schedule 1\r\ninterpreters 8\nturns 0\nend\n") 1
  -- a line with no line feed
  pub not_ended : IsBadLine (codes "schedule 1\ninterpreters 8") 2
  -- too many interpreters
  pub sixty_five : IsBadLine (codes "schedule 1\ninterpreters 65\nturns 0\nend\n") 2
  -- a leading zero, and a number that 64 bits don't hold
  pub leading_zero : IsBadLine (eight (codes "turns 01\n0\nend\n")) 3
  pub past_64_bits : IsBadLine (eight (codes "turns 18446744073709551616\nend\n")) 3
  -- no interpreter
  pub not_below_8 : IsBadLine (eight (codes "turns 1\n8\nend\n")) 4
  -- too few callers, too many, and the last line is missing
  pub too_few : IsBadLine (eight (codes "turns 18446744073709551615\n0\nend\n")) 5
  pub too_many : IsBadLine (eight (codes "turns 2\n0\n0\n0\nend\n")) 6
  pub cut : IsBadLine (eight (codes "turns 2\n0\n0\n")) 6
  -- something after the end
  pub after_the_end : IsBadLine (eight (codes "turns 0\nend\nx")) 5
