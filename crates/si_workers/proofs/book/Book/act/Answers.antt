use Rattle.std.proofs.Common.{◌∙◌, ap, slice_get}
use Rattle.std.proofs.lemmas.Option.{slice_get_within}
use Rattle.si_hub.specs.HubCode.{Past}
use Rattle.si_workers.specs.Books.{Busy, BookView}
use Rattle.si_workers.proofs.Booking.{book_roused}
use Rattle.si_workers.proofs.book.Book.act.Goals as goal

pub invariant_of-self : goal.invariant_of-self
invariant_of-self c =
    book_roused c.self.inside.hub.past c.act.new.self.past c.self.inside.pages.items c.rouse_all.new.pages.items c.self.invariant
    (ap (λ (p : Past). p.limits) c.in-Ok.ensures.ok.journal) c.facts.ensures.told c.rouse_all.ensures

pub set_page-requires : goal.set_page-requires
set_page-requires c = slice_get_within c.self.inside.pages.items c.args.i Busy (ap (λ (b : BookView). slice_get b.pages c.args.i) c.self.view_is ∙ c.requires)
