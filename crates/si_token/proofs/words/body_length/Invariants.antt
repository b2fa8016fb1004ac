use Rattle.std.proofs.Common.{◌≡◌, ◌≤◌, ◌-◌, length, drop, false}
use Rattle.si_token.specs.inner.Reading.{body_length, plus}
use Rattle.si_token.proofs.words.body_length.Given as goal

abbrev pub invariant-loop-row : goal.invariant-loop-row
invariant-loop-row l = record {
  same : body_length l.count l.quote 0 false l.bytes ≡ plus l.i (body_length l.count l.quote l.row l.joins (drop l.i l.bytes));
  within : l.i ≤ length l.bytes;
  few : l.row ≤ l.i;
}

abbrev pub decreases-loop-row : goal.decreases-loop-row
decreases-loop-row l = length l.bytes - l.i
