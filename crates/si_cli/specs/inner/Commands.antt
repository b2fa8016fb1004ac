-- Parts of the definitions of commands, the two commands that run a script, and the two that make a run again.
use Rattle.std.specs.Prelude.{codes}
use Rattle.clap.specs.Words.{App, Text, new_app, with_rule}
use Rattle.si_cli.specs.declared.words.Told.{Told}
use Rattle.si_cli.specs.declared.words.Told.TheVariants as told
use Rattle.si_cli.specs.declared.words.Mover.{Mover}
use Rattle.si_cli.specs.declared.words.Mover.TheVariants as mover
use Rattle.si_cli.specs.Words.{script, interpreters, turns, serial, run, replay, history}

-- `serial` without `--record PATH`
abbrev pub limited : App
limited = with_rule (with_rule (with_rule (new_app (codes "serial")) script) interpreters) turns

-- `run` without it
abbrev pub limited_run : App
limited_run = with_rule (with_rule (with_rule (new_app (codes "run")) script) interpreters) turns

-- the command that runs a script, by turns or by threads
abbrev pub runs : Mover → App
runs mover.Turns = serial
runs mover.Threads = run

-- its name
abbrev pub runs_name : Mover → Text
runs_name mover.Turns = codes "serial"
runs_name mover.Threads = codes "run"

-- the command that makes a run again, and tells its report or its history
abbrev pub repeats : Told → App
repeats told.Report = replay
repeats told.History = history

-- its name
abbrev pub repeats_name : Told → Text
repeats_name told.Report = codes "replay"
repeats_name told.History = codes "history"
