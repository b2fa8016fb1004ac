-- What `serial` runs (this project's own).
use Rattle.std.specs.Prelude.{◌<◌, ℕ}
use Rattle.si_plain.specs.Ranges.{Numbers}
use Rattle.si_semantics.specs.Value.{Text}
use Rattle.si_world.specs.Worlds.{IsWorld, WorldView, first_of}
use Rattle.si_world.specs.Legal.{Legal}
use Rattle.si_world.specs.Marks.{AtRest}
use Rattle.si_world.specs.Rounds.{Serves}
use Rattle.si_world.specs.Core.{IsOfCore, NoneStarved}

-- the world of a script after all turns that `serial` gives: some list of turns led there from the script's first world, of
-- which at most 128 in a row moved nobody; where they were fewer than the largest number of 64 bits, no interpreter can be
-- moved; each interpreter shows its meaning, under the answers that the journal gave it and no others; the journal is a
-- legal history; and where memory was refused to no interpreter, all texts and standings are a function of the turns
pub record IsRunOf (script : Text) (limits : Numbers) (w : WorldView) : Type 0 where
  pub turns : ℕ
  pub serves : Serves (first_of script limits) turns w
  pub rest : turns < 18446744073709551615 → AtRest w
  pub world : IsWorld w
  pub legal : Legal w.past
  pub core : NoneStarved w → IsOfCore w
