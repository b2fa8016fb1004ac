-- The pages for which values of the code stand.
use Rattle.std.specs.Prelude.{ℕ, zero, suc, ◌+◌, List, [], ◌∷◌, Bool, true, false, Option, Some, None}
use Rattle.si_semantics.specs.Actions.{Action}
use Rattle.si_parcel.specs.Shared.{action_of}
use Rattle.si_hub.specs.HubCode.{Past}
use Rattle.si_hub.specs.Hubs.{can_act}
use Rattle.si_workers.specs.declared.page.Doing.{Doing}
use Rattle.si_workers.specs.declared.page.Doing.TheVariants as doing
use Rattle.si_workers.specs.Books.{Page, Busy, Woken, Waiting, Rest, roused}

abbrev pub page_in : Doing → Page
page_in doing.Busy = Busy
page_in (doing.Woken a) = Woken (action_of a)
page_in (doing.Waiting a) = Waiting (action_of a)
page_in doing.Rest = Rest

-- the action that a page keeps
abbrev pub kept : Page → Option Action
kept (Woken a) = Some a
kept (Waiting a) = Some a
kept _ = None

abbrev pub is_busy : Page → Bool
is_busy Busy = true
is_busy _ = false

abbrev pub is_waiting : Page → Bool
is_waiting (Waiting a) = true
is_waiting _ = false

-- page i waits with an action that is enabled
abbrev pub is_ready : Past → ℕ → Page → Bool
is_ready p i (Waiting a) = can_act p i a
is_ready p i _ = false

-- the first k pages are roused, numbered from i on
abbrev pub roused_first : Past → (i k : ℕ) → List Page → List Page
roused_first p i zero ss = ss
roused_first p i (suc k) [] = []
roused_first p i (suc k) (s ∷ ss) = roused p i s ∷ roused_first p (i + 1) k ss
