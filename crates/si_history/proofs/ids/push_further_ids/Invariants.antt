-- the numbers so far
use Rattle.std.proofs.Common.{string_bytes, take}
use Rattle.si_history.specs.History.{further_ids}
use Rattle.si_history.specs.inner.Adding.{Adds}
use Rattle.si_history.proofs.ids.push_further_ids.Given as goal

abbrev pub invariant-ids : goal.invariant-ids
invariant-ids l = Adds (string_bytes l.initial.out) (string_bytes l.out) (further_ids (take l.id-index l.ids))
