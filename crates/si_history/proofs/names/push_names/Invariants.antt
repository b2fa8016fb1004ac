-- the names so far
use Rattle.std.proofs.Common.{string_bytes, take}
use Rattle.si_history.specs.History.{names_text}
use Rattle.si_history.specs.inner.Adding.{Adds}
use Rattle.si_history.proofs.names.push_names.Given as goal

abbrev pub invariant-pairs : goal.invariant-pairs
invariant-pairs l = Adds (string_bytes l.initial.out) (string_bytes l.out) (names_text (take l.pair-index l.pairs))
