-- The report of the program, and its status (this project's own).
use Rattle.std.specs.Prelude.{codes, ℕ, pos, [], ◌∷◌, ◌++◌}
use Rattle.si_semantics.specs.Value.{Text}
use Rattle.si_semantics.specs.Text.{decimal}
pub use Rattle.si_semantics.specs.Text.{kind_and_message}
use Rattle.si_semantics.specs.Life.{Outcome, Returned, Raised}

-- how the program leaves its interpreter: at the end of its run, ready with its turns used up, or refused memory
pub data Standing : Type 0 where
  AtEnd : Outcome → Standing
  Ready : Standing
  Starved : Standing

-- a line of text
abbrev pub line : Text → Text
line t = t ++ 10 ∷ []

-- the line that begins an interpreter's part
abbrev pub heading : ℕ → Text
heading id = line (codes "== interpreter " ++ (decimal (pos id) ++ codes " =="))

-- the line of a run that was left by an exception
abbrev pub outcome_line : Outcome → Text
outcome_line Returned = []
outcome_line (Raised k message) = line (codes "raised " ++ kind_and_message k message)

-- the line of what the run was left by
abbrev pub raised_line : Standing → Text
raised_line (AtEnd o) = outcome_line o
raised_line Ready = []
raised_line Starved = []

-- the last line
abbrev pub end_line : Standing → Text
end_line (AtEnd o) = line (codes "end: finished")
end_line Ready = line (codes "end: spent")
end_line Starved = line (codes "end: starved")

-- the report of interpreter 0, from what it printed and how it was left
abbrev pub report : Text → Standing → Text
report printed standing = heading 0 ++ (printed ++ (raised_line standing ++ end_line standing))

-- the status of the program
abbrev pub status : Standing → ℕ
status (AtEnd Returned) = 0
status (AtEnd (Raised k message)) = 1
status Ready = 4
status Starved = 5
