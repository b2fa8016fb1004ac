-- Which workers sleep, beside what the book says of them (this project's own).
use Rattle.std.specs.Prelude.{◌≡◌, ℕ, List, Bool, true, slice_get, Some}
use Rattle.si_semantics.specs.Actions.{Action}
use Rattle.si_workers.specs.Books.{Page, Woken}

-- worker i sleeps, and its page was woken: it is to be told
pub record IsToWake (asleep : List Bool) (pages : List Page) (i : ℕ) : Type 0 where
  pub sleeps : slice_get asleep i ≡ Some true
  pub action : Action
  pub woken : slice_get pages i ≡ Some (Woken action)
