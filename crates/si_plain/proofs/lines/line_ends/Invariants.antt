use Rattle.std.proofs.Common.{◌≡◌, ◌≤◌}
use Rattle.si_plain.specs.LineEnds.{ends_before}
use Rattle.si_plain.proofs.lines.line_ends.Given as goal

abbrev pub invariant-loop-place : goal.invariant-loop-place
invariant-loop-place l = record {
  counted : l.ends ≡ ends_before l.place l.text;
  few : l.ends ≤ l.place;
}
