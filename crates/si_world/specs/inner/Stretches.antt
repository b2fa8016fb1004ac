-- Turns of one interpreter while nothing is asked of what all share.
use Rattle.std.specs.Prelude.{◌≡◌, ℕ, ◌+◌, ◌≤◌, List, [], ◌∷◌, length, Bool, true, false}
use Rattle.si_hub.specs.HubCode.{Past}
use Rattle.si_interp.specs.Meaning.{InterpView}
use Rattle.si_interp.specs.View.{Counts, starved_view}
use Rattle.si_world.specs.declared.mark.Mark.{Mark}
use Rattle.si_world.specs.Marks.{Moves, AreLines}
use Rattle.si_world.specs.Rounds.{IdleWithin}
use Rattle.si_world.specs.inner.Serving.{idle_after}

-- turns of interpreter i with these marks, which leave the past as it is
abbrev pub Goes : Past → (i : ℕ) → InterpView → List Mark → InterpView → Type 0
Goes p i v [] w = w ≡ v
Goes p i v (m ∷ ms) w = (u : InterpView) × Moves p i v m p u × Goes p i u ms w

-- how many turns in a row moved nobody after these, by whether memory was refused in the last
abbrev pub last_idle : Bool → ℕ
last_idle true = 1
last_idle false = 0

-- one turn: a line was run, or memory was refused to it
abbrev pub IsOneLine : InterpView → (starved : Bool) → InterpView → Type 0
IsOneLine v false w = Counts v w
IsOneLine v true w = w ≡ starved_view v

-- n turns, of which none but the last can have been refused memory
pub record Stretched (turns : ℕ) (v : InterpView) (n : ℕ) (starved : Bool) (w : InterpView) : Type 0 where
  pub marks : List Mark
  pub count : length marks ≡ n
  pub are : AreLines n starved marks
  pub counted : starved ≡ false → w.locals ≡ v.locals + n
  pub goes : (p : Past) (i : ℕ) → p.limits.turns ≡ turns → Goes p i v marks w
  pub id : w.id ≡ v.id
  pub log : w.log ≡ v.log
  pub taken : v.taken ≡ false → w.taken ≡ false
  pub locals : v.locals ≤ turns → w.locals ≤ turns
  pub idle_within : IdleWithin 128 0 marks
  pub idle_end : idle_after 0 marks ≡ last_idle starved
