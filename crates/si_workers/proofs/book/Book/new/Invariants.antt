use Rattle.std.proofs.Common.{◌≡◌, replicate}
use Rattle.si_workers.specs.Books.{Busy}
use Rattle.si_workers.proofs.book.Book.new.Given as goal

abbrev pub invariant-loop-k : goal.invariant-loop-k
invariant-loop-k l = l.pages.items ≡ replicate l._k Busy
