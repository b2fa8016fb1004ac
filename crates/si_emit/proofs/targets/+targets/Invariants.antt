use Rattle.std.proofs.Common.{◌≡◌, ◌+◌, length, drop}
use Rattle.si_syntax.specs.Trees.{targets_of}
use Rattle.si_slots.specs.Code.{targets_code}
use Rattle.si_slots.specs.Contents.{Extends}
use Rattle.si_slots.specs.Views.{locals_now}
use Rattle.si_emit.proofs.TargetCode.{SoFar}
use Rattle.si_emit.proofs.targets.+targets.Given as goal

-- with the code of the rest it is the code of all; the item of the next target lies above those of the rest
abbrev pub invariant-emit_targets-loop-target : goal.invariant-emit_targets-loop-target
invariant-emit_targets-loop-target l = record {
  gains : SoFar l.locals l.d l.fn.table (targets_code l.locals l.d (targets_of l.targets)) l.table (drop l.target-index l.targets);
  above : l.at + l.target-index ≡ l.d + length l.targets;
  names : locals_now l.table ≡ l.locals;
  extends : Extends l.fn.table l.table;
}
