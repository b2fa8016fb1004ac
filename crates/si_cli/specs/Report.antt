-- The report of a recording, which has a past and the interpreters that were created, and the program's status after it
-- (this project's own).
use Rattle.std.specs.Prelude.{ℕ, List, [], ◌∷◌, ◌++◌, codes, flat_map}
use Rattle.si_semantics.specs.Value.{Text}
use Rattle.si_semantics.specs.Life.{Outcome, Returned, Raised}
use Rattle.si_semantics.specs.Actions as shared
use Rattle.si_semantics.specs.Report.{heading, line, outcome_line}
use Rattle.si_interp.specs.Meaning.{InterpView, Logged}
use Rattle.si_world.specs.Worlds.{WorldView}
use Rattle.si_world.specs.Reports.{end_of}
use Rattle.si_world.specs.declared.ending.End.{End}
use Rattle.si_world.specs.declared.ending.End.TheVariants as end

-- the line of an action that was answered: of the end of a run that an exception left, that of the exception
abbrev pub action_line : shared.Action → Text
action_line (shared.End o) = outcome_line o
action_line _ = []

-- the lines of the runs of an interpreter that exceptions left, in order, by its log
abbrev pub raised_lines : List Logged → Text
raised_lines log = flat_map (λ (l : Logged). action_line l.action) log

-- an interpreter's part, by its number, what it printed and its log: its heading, what it printed, and the lines of its
-- exceptions
abbrev pub part_by : (id : ℕ) → (printed : Text) → List Logged → Text
part_by id printed log = heading id ++ (printed ++ raised_lines log)

-- that of an interpreter
abbrev pub part_of : InterpView → Text
part_of v = part_by v.id v.printed v.log

-- the parts of interpreters, one after the other
abbrev pub parts_of : List InterpView → Text
parts_of vs = flat_map part_of vs

-- the last line, by how the turns came to their end
abbrev pub end_line : End → Text
end_line end.Open = line (codes "end: open")
end_line end.Starved = line (codes "end: starved")
end_line end.Spent = line (codes "end: spent")
end_line end.Stuck = line (codes "end: stuck")
end_line end.Finished = line (codes "end: finished")

-- how the turns came to their end that left these interpreters, after this past
abbrev pub end_in : WorldView → End
end_in r = end_of r.past r.interps

-- the report of a recording: the parts of the interpreters that were created, by number, and the last line
abbrev pub report_of : WorldView → Text
report_of r = parts_of r.interps ++ end_line (end_in r)

-- the status of a run that has ended: 1 where an exception left it
abbrev pub status_of_run : Outcome → ℕ
status_of_run Returned = 0
status_of_run (Raised k message) = 1

-- the status of a log by its first action, and by that of the actions after it: an end of a run decides
abbrev pub status_from : shared.Action → ℕ → ℕ
status_from (shared.End o) later = status_of_run o
status_from _ later = later

-- the status of the first run of a log that has ended; 0 where none has
abbrev pub status_of_log : List Logged → ℕ
status_of_log [] = 0
status_of_log (l ∷ log) = status_from l.action (status_of_log log)

-- the status of the main run, the first of interpreter 0
abbrev pub status_of_main : List InterpView → ℕ
status_of_main [] = 0
status_of_main (v ∷ vs) = status_of_log v.log

-- the program's status by the end, and by the main run's status, which counts where all is finished
abbrev pub status_by : End → (main : ℕ) → ℕ
status_by end.Open main = 4
status_by end.Starved main = 5
status_by end.Spent main = 4
status_by end.Stuck main = 3
status_by end.Finished main = main

-- the program's status after a recording
abbrev pub status_of : WorldView → ℕ
status_of r = status_by (end_in r) (status_of_main r.interps)
