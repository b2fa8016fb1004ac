-- The requests of a command that runs a script, and of one that makes a run again.
use Rattle.std.specs.Prelude.{Option, ℕ, List}
use Rattle.std.specs.Borrow.{Bor}
use Rattle.si_plain.specs.Ranges.{Numbers}
use Rattle.si_cli.specs.declared.asked.Request.{Request}
use Rattle.si_cli.specs.declared.asked.Request.TheVariants.{Serial, Run, Replay, History}
use Rattle.si_cli.specs.declared.words.Mover.{Mover}
use Rattle.si_cli.specs.declared.words.Mover.TheVariants as mover
use Rattle.si_cli.specs.declared.words.Told.{Told}
use Rattle.si_cli.specs.declared.words.Told.TheVariants as told

-- by what moves the interpreters
abbrev pub run_in : Mover → Option (Bor (List ℕ)) → Numbers → Option (Bor (List ℕ)) → Request
run_in mover.Turns script limits saved = Serial script limits saved
run_in mover.Threads script limits saved = Run script limits saved

-- by what is told of the run
abbrev pub repeat_in : Told → Option (Bor (List ℕ)) → Bor (List ℕ) → Numbers → Request
repeat_in told.Report script schedule limits = Replay script schedule limits
repeat_in told.History script schedule limits = History script schedule limits
