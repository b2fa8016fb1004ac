-- How pages and views of books are told apart, for the contracts of types that hold them: a device. What they are stands in
-- Books.antt.
use Rattle.std.specs.Prelude.{List, ◌≡◌, ◌⊎◌}
use Rattle.std.specs.Coded.{Coded, code_by, coded×, coded_list, coded⊎}
use base.Stored.{coded_unit}
use mathlib.Core.Logic.{inl, inr}
use mathlib.Core.Path.{refl}
use Rattle.si_semantics.specs.Actions.{Action}
use Rattle.si_hub.specs.HubCode.{Past, past_code, action_code}
use Rattle.si_workers.specs.Books.{Page, Busy, Woken, Waiting, Rest, BookView}

abbrev pub PageParts : Type 0
PageParts = Unit {0} ⊎ (Action ⊎ (Action ⊎ Unit {0}))

abbrev pub page_parts : Page → PageParts
page_parts Busy = inl tt
page_parts (Woken a) = inr (inl a)
page_parts (Waiting a) = inr (inr (inl a))
page_parts Rest = inr (inr (inr tt))

abbrev pub page_by_parts : PageParts → Page
page_by_parts (inl _) = Busy
page_by_parts (inr (inl a)) = Woken a
page_by_parts (inr (inr (inl a))) = Waiting a
page_by_parts (inr (inr (inr _))) = Rest

pub page_by_parts-page_parts : (s : Page) → page_by_parts (page_parts s) ≡ s
page_by_parts-page_parts Busy = refl
page_by_parts-page_parts (Woken a) = refl
page_by_parts-page_parts (Waiting a) = refl
page_by_parts-page_parts Rest = refl

abbrev pub page_code : Coded Page
page_code = code_by PageParts (coded⊎ coded_unit (coded⊎ action_code (coded⊎ action_code coded_unit))) page_parts page_by_parts page_by_parts-page_parts

abbrev pub book_code : Coded BookView
book_code = code_by (Past × List Page) (coded× past_code (coded_list page_code)) (λ b. (b.past, b.pages)) (λ p. record { past = p.0; pages = p.1 }) (λ _. refl)
