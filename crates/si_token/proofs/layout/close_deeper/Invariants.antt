use Rattle.std.proofs.Common.{◌≡◌, ◌+◌, length, reverse}
use Rattle.si_semantics.specs.Layout.{closing}
use Rattle.si_token.specs.inner.Laying.{after_dedents}
use Rattle.si_token.proofs.layout.close_deeper.Given as goal

abbrev pub invariant-loop-columns : goal.invariant-loop-columns
invariant-loop-columns l = record {
  count : l.closed + length l.columns.items ≡ length l.fn.columns.items;
  closed : closing l.column (reverse l.fn.columns.items) ≡ after_dedents l.closed (closing l.column (reverse l.columns.items));
}

abbrev pub decreases-loop-columns : goal.decreases-loop-columns
decreases-loop-columns l = length l.columns.items
