use Rattle.std.proofs.Common.{◌≡◌, ◌++◌, ◌≤◌, length, take, drop}
use Rattle.si_world.specs.Legal.{calls_of, exchanges}
use Rattle.si_workers.proofs.agreeing.agrees.Given as goal

abbrev pub invariant-loop-call : goal.invariant-loop-call
invariant-loop-call l = record {
  within : l.next ≤ length l.log;
  so_far : exchanges l.log ≡ calls_of l.i (take l.call-index l.journal) ++ exchanges (drop l.next l.log);
}
