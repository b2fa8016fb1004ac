use Rattle.std.proofs.Common.{◌≡◌, ◌≤◌, drop}
use Rattle.si_semantics.specs.Literals.{digits_after}
use Rattle.si_token.proofs.numbers.digits_value.Given as goal

abbrev pub invariant-loop-c : goal.invariant-loop-c
invariant-loop-c l = record {
  small : l.value ≤ 9223372036854775807;
  same : digits_after l.base l.fn.first_is_due 0 l.digits ≡ digits_after l.base l.due l.value (drop l.c-index l.digits);
}
