use Rattle.std.proofs.Common.{length, ◌≤◌, ◌+◌, ◌≡◌, map, drop, reverse, IsUtf8}
use Rattle.si_semantics.specs.Layout.{line_at}
use Rattle.si_token.specs.inner.Places.{IsWithin}
use Rattle.si_token.specs.Views.{token_of, place_of}
use Rattle.si_token.proofs.Slices.{AreParts}
use Rattle.si_token.proofs.Steps.{AreBefore}
use Rattle.si_token.proofs.scan.tokens.Given as goal

abbrev pub invariant-loop-rest : goal.invariant-loop-rest
invariant-loop-rest l = record {
  source : l.all.source ≡ l.text;
  utf8 : IsUtf8 l.rest;
  short : length l.text ≤ 1048576;
  at : l.place.at + length l.rest ≡ length l.text;
  within : IsWithin l.place;
  line : l.place.line ≡ line_at l.text l.place.at;
  left : drop l.place.at l.text ≡ l.rest;
  parts : AreParts l.text l.all.items l.place.at;
  before : AreBefore (map token_of l.all.items) (place_of l.place) (reverse l.columns.items) l.rest l.text;
}

abbrev pub decreases-loop-rest : goal.decreases-loop-rest
decreases-loop-rest l = length l.rest
