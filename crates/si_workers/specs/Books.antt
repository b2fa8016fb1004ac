-- The book that workers share: the hub, and what the worker of each interpreter does (this project's own).
use Rattle.std.specs.Prelude.{◌≡◌, ℕ, ◌+◌, List, [], ◌∷◌, Bool, true, false, length, slice_get, slice_set, Some, if◌then◌else◌}
use Rattle.std.specs.List.{list_all}
use Rattle.si_semantics.specs.Actions.{Action}
use Rattle.si_parcel.specs.Shared.{action_of, answer_of}
use Rattle.si_hub.specs.HubCode.{Past}
use Rattle.si_hub.specs.Hubs.{IsTold, Acts, can_act}
use Rattle.si_workers.specs.declared.acted.Acted.{Acted}
use Rattle.si_workers.specs.declared.acted.Acted.TheVariants as acted

-- what the worker of an interpreter does: it is at work; it waits with an action, which was enabled when the book last
-- changed, and is to take it up; it waits with an action that is not enabled; or it is done
pub data Page : Type 0 where
  Busy : Page
  Woken : Action → Page
  Waiting : Action → Page
  Rest : Page

-- what contracts see of a book: the past of its hub, and the page of each interpreter that the limits allow, by its number
pub record BookView : Type 0 where
  pub past : Past
  pub pages : List Page

abbrev pub book : Past → List Page → BookView
book p pages = record { past = p; pages = pages }

-- the book with another page i
abbrev pub with_page : BookView → ℕ → Page → BookView
with_page b i s = book b.past (slice_set b.pages i s)

-- page i after a past: one that waits with an action that is enabled is woken
abbrev pub roused : Past → ℕ → Page → Page
roused p i (Waiting a) = if can_act p i a then Woken a else Waiting a
roused p i s = s

-- all pages after a past, numbered from i on
abbrev pub roused_from : Past → ℕ → List Page → List Page
roused_from p i [] = []
roused_from p i (s ∷ ss) = roused p i s ∷ roused_from p (i + 1) ss

-- what `act` does with an action of interpreter i, whose page is busy: it is done and answered, and each page whose action
-- that has enabled is woken; or it is not enabled, and the page waits with it; or memory was refused, the action comes back,
-- and nothing has changed
abbrev pub ActsInBook : BookView → ℕ → Action → Acted → BookView → Type 0
ActsInBook old i a (acted.Answered r) new = Acts old.past i a (answer_of r) new.past × (new.pages ≡ roused_from new.past 0 old.pages)
ActsInBook old i a acted.Waits new = (can_act old.past i a ≡ false) × (new ≡ with_page old i (Waiting a))
ActsInBook old i a (acted.Refused b) new = (can_act old.past i a ≡ true) × (action_of b ≡ a) × (new ≡ old)

-- its worker is not at work, nor is to be
abbrev pub is_still : Page → Bool
is_still Busy = false
is_still (Woken a) = false
is_still (Waiting a) = true
is_still Rest = true

-- no worker is at work, nor is to be
abbrev pub is_over : List Page → Bool
is_over pages = list_all is_still pages

-- its worker waits, and is to go on
abbrev pub is_woken : Page → Bool
is_woken (Woken a) = true
is_woken _ = false

-- what every book keeps true: each call of its hub had the answer of the table; there is a page for each interpreter that
-- the limits allow; and no action with which a page waits is enabled, so that none waits that could go on
pub record IsBook (b : BookView) : Type 0 where
  pub told : IsTold b.past
  pub count : length b.pages ≡ b.past.limits.interpreters
  pub waits : (i : ℕ) (a : Action) → slice_get b.pages i ≡ Some (Waiting a) → can_act b.past i a ≡ false
