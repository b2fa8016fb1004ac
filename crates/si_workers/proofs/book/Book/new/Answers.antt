use Rattle.std.proofs.Common.{◌≡◌, ◌∙◌, ℕ, ap, arith, replicate}
use Rattle.si_plain.specs.Ranges.{Numbers}
use Rattle.si_workers.specs.Books.{Busy}
use Rattle.si_workers.proofs.Booking.{book_first}
use Rattle.si_workers.proofs.book.Book.new.Goals as goal

pub invariant_of-result : goal.invariant_of-result
invariant_of-result c =
    let n = c.interpreters-k-end.ensures.value ∙ ap (λ (l : Numbers). l.interpreters) c.limits.ensures in
    let all : c.loop-k._k ≡ c.args.hub.past.limits.interpreters = (let t = c.loop-k-test.false in let e = c.loop-k.auto._k-end in omega arith) in
    book_first c.args.hub.past c.loop-k.pages.items c.facts.ensures.told (c.loop-k.invariant ∙ ap (λ (k : ℕ). replicate k Busy) all)
