-- the name is that of none of the slots so far
use Rattle.std.proofs.Common.{◌≡◌, drop}
use Rattle.si_steps.specs.Moments.{global_of}
use Rattle.si_steps.proofs.state.State.global_named.Given as goal

abbrev pub invariant-loop-slot : goal.invariant-loop-slot
invariant-loop-slot l =
    global_of l.self.arena l.self.table.names l.self.globals.items l.name ≡ global_of l.self.arena (drop l.slot l.self.table.names) (drop l.slot l.self.globals.items) l.name
