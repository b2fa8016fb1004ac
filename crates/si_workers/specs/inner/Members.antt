-- What is known of the reports that were looked at.
use Rattle.std.specs.Prelude.{◌≡◌, ◌<◌, ℕ, List, length, slice_get, Some}
use Rattle.si_hub.specs.HubCode.{Past}
use Rattle.si_interp.specs.Meaning.{InterpView}
use Rattle.si_world.specs.Worlds.{IsMember}
use Rattle.si_workers.specs.Gathers.{IsReport}

-- interpreter i has a report
pub record HasReport (worked : List InterpView) (i : ℕ) : Type 0 where
  pub place : ℕ
  pub seen : InterpView
  pub report : IsReport worked i place seen

-- it has one, and each is of an interpreter of a world of this past
pub record IsFit (p : Past) (worked : List InterpView) (i : ℕ) : Type 0 where
  pub some : HasReport worked i
  pub each : (k : ℕ) (v : InterpView) → IsReport worked i k v → IsMember p i v

-- the first n interpreters have
abbrev pub AreFit : Past → List InterpView → ℕ → Type 0
AreFit p worked n = (i : ℕ) → i < n → IsFit p worked i

-- these are reports of the first n interpreters, by their numbers
pub record AreReports (worked : List InterpView) (n : ℕ) (vs : List InterpView) : Type 0 where
  pub count : length vs ≡ n
  pub each : (i : ℕ) (v : InterpView) → slice_get vs i ≡ Some v → (k : ℕ) × IsReport worked i k v

-- and each is that of an interpreter of a world of this past
pub record AreMembers (p : Past) (worked : List InterpView) (n : ℕ) (vs : List InterpView) : Type 0 where
  pub count : length vs ≡ n
  pub each : (i : ℕ) (v : InterpView) → slice_get vs i ≡ Some v → IsMember p i v × ((k : ℕ) × IsReport worked i k v)
