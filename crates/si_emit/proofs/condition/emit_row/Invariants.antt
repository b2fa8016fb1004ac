use Rattle.std.proofs.Common.{◌≡◌, ◌≤◌, drop, length}
use Rattle.std.specs.List.{AllByRecursion}
use Rattle.si_slots.specs.Contents.{Extends}
use Rattle.si_slots.specs.Views.{locals_now}
use Rattle.si_emit.proofs.Conditions.{RowSoFar}
use Rattle.si_emit.proofs.condition.emit_row.Given as goal

-- the jumps so far are due, whatever the rest makes due
abbrev pub invariant-loop-other : goal.invariant-loop-other
invariant-loop-other l = record {
  due : RowSoFar l.locals l.soon l.initial.table l.jumps.items l.first l.others l.table l.operand (drop l.other-index l.others);
  after : AllByRecursion (λ at. length l.initial.table.lines ≤ at) l.jumps.items;
  names : locals_now l.table ≡ l.locals;
  extends : Extends l.initial.table l.table;
}
