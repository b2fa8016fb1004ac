use Rattle.std.proofs.Common.{◌≡◌}
use Rattle.si_workers.specs.inner.Pages.{roused_first}
use Rattle.si_workers.proofs.page.rouse_all.Given as goal

abbrev pub invariant-loop-k : goal.invariant-loop-k
invariant-loop-k l = l.pages.items ≡ roused_first l.hub.past 0 l.k l.fn.pages.items
