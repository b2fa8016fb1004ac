use Rattle.std.proofs.Common.{◌≡◌, ◌≤◌, ◌-◌, IsUtf8}
use Rattle.si_semantics.specs.Literals.{digits_within}
use Rattle.si_token.specs.inner.Literals.{characters, up_to}
use Rattle.si_token.proofs.Literals.{after}
use Rattle.si_token.proofs.literal.digits.Given as goal

abbrev pub invariant-loop-count : goal.invariant-loop-count
invariant-loop-count l = record {
  utf8 : IsUtf8 l.rest;
  small : l.number ≤ l.limit;
  reads : up_to l.limit (after l.count (digits_within l.base (l.least - l.count) (l.most - l.count) l.number (characters l.rest))) ≡ up_to l.limit (digits_within l.base l.least l.most 0 (characters l.text));
}
