-- The statuses with which the program ends (this project's own choice).
use Rattle.std.specs.Prelude.{ℕ, if◌then◌else◌}
use Rattle.si_cli.specs.declared.fault.CliFault.{CliFault}
use Rattle.si_cli.specs.declared.fault.CliFault.TheVariants.{Write, Script, Schedule, Replay, Run, NoMemory, Input, TooLong}
use Rattle.si_replay.specs.declared.fault.ReplayFault.{ReplayFault}
use Rattle.si_replay.specs.declared.fault.ReplayFault.TheVariants as replay
use Rattle.si_workers.specs.declared.fault.RunFault.{RunFault}
use Rattle.si_workers.specs.declared.fault.RunFault.TheVariants as run
use Rattle.si_cli.specs.declared.words.WordsFault.{WordsFault}
use Rattle.si_cli.specs.declared.words.WordsFault.TheVariants as words

-- where a schedule can't be followed: 5 where memory was refused, else 2
abbrev pub status_of_replay : ReplayFault → ℕ
status_of_replay (replay.NotEnabled k) = 2
status_of_replay (replay.Nobody k) = 2
status_of_replay (replay.Spent k) = 2
status_of_replay replay.Starved = 5
status_of_replay replay.Unfinished = 2
status_of_replay replay.NoMemory = 5

-- where worker threads came to no recording: 5 for want of memory, else 6
abbrev pub status_of_run_fault : RunFault → ℕ
status_of_run_fault run.NoMemory = 5
status_of_run_fault run.NoThread = 6
status_of_run_fault (run.Broken i) = 6

-- where a command stops without a report: 5 for want of memory, 6 where worker threads came to no recording, else 2
abbrev pub status_of_fault : CliFault → ℕ
status_of_fault Write = 2
status_of_fault (Script line) = 2
status_of_fault (Schedule line) = 2
status_of_fault (Replay fault) = status_of_replay fault
status_of_fault (Run fault) = status_of_run_fault fault
status_of_fault NoMemory = 5
status_of_fault Input = 2
status_of_fault TooLong = 2

-- where the words ask for no command: 0 where they ask for help, else 2, and 5 for want of memory
abbrev pub status_of_words : WordsFault → ℕ
status_of_words (words.Words help text) = if help then 0 else 2
status_of_words words.NoMemory = 5
