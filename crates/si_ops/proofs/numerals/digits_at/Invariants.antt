-- the number of the digits so far, where one above the limit is as good as the limit
use Rattle.std.proofs.Common.{◌≡◌, ◌^◌, ◌-◌, ◌≤◌, drop, true}
use Rattle.si_semantics.specs.Numerals.{digits_after}
use Rattle.si_arena.specs.Texts.{characters_in}
use Rattle.si_ops.proofs.Reading.{capped}
use Rattle.si_ops.proofs.numerals.digits_at.Given as goal

abbrev pub invariant-loop-i : goal.invariant-loop-i
invariant-loop-i l = record {
  within : l.number ≤ 2 ^ 64 - 1;
  read : capped (2 ^ 64 - 1) (digits_after true 0 (drop l.start (characters_in l.text))) ≡ capped (2 ^ 64 - 1) (digits_after l.is_due l.number (drop l.i (characters_in l.text)));
}
