use Rattle.std.proofs.Common.{◌≡◌, ◌++◌, map, take, string_bytes, length}
use Rattle.std.specs.Fmt.{decimal}
use Rattle.si_schedule.specs.Schedules.{ended, head_lines}
use Rattle.si_schedule.proofs.writing.write.Given as goal

abbrev pub invariant-loop-by : goal.invariant-loop-by
invariant-loop-by l = string_bytes l.text ≡ ended (head_lines l.schedule.interpreters (length l.schedule.callers) ++ map decimal (take l.by-index l.schedule.callers))
