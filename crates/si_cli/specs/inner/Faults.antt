-- Which faults the parts of a command have.
use Rattle.si_workers.specs.declared.fault.RunFault.TheVariants as run_faults
use Rattle.si_cli.specs.declared.fault.CliFault.{CliFault}
use Rattle.si_cli.specs.declared.fault.CliFault.TheVariants.{Write, Script, Schedule as BadSchedule, Replay as NotFollowed, Run as NotRun, NoMemory}

-- a fault of saving a schedule
abbrev pub IsOfSaving : CliFault → Type 0
IsOfSaving NoMemory = Unit {0}
IsOfSaving Write = Unit {0}
IsOfSaving _ = ⊥

-- a fault of making a run again, before anything is written
abbrev pub IsOfRepeating : CliFault → Type 0
IsOfRepeating (Script line) = Unit {0}
IsOfRepeating (BadSchedule line) = Unit {0}
IsOfRepeating (NotFollowed fault) = Unit {0}
IsOfRepeating NoMemory = Unit {0}
IsOfRepeating _ = ⊥

-- a fault of a run by worker threads, before anything is written
abbrev pub IsOfWorking : CliFault → Type 0
IsOfWorking (Script line) = Unit {0}
IsOfWorking (NotRun run_faults.NoMemory) = ⊥
IsOfWorking (NotRun fault) = Unit {0}
IsOfWorking NoMemory = Unit {0}
IsOfWorking _ = ⊥
