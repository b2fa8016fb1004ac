use Rattle.std.proofs.Common.{◌≡◌, drop}
use Rattle.si_slots.specs.Contents.{Extends}
use Rattle.si_slots.specs.Views.{locals_now}
use Rattle.si_emit.proofs.AssignCode.{EachSoFar}
use Rattle.si_emit.proofs.assigning.assign_each.Given as goal

-- with the code of the rest it is the code of all
abbrev pub invariant-loop-target : goal.invariant-loop-target
invariant-loop-target l = record {
  gains : EachSoFar l.locals l.last l.initial.table l.others l.table (drop l.target-index l.others);
  names : locals_now l.table ≡ l.locals;
  extends : Extends l.initial.table l.table;
}
