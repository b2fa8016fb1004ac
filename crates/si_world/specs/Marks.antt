-- What a turn does (this project's own).
use Rattle.std.specs.Prelude.{◌≡◌, ℕ, ◌+◌, ◌<◌, ◌≤◌, List, [], ◌∷◌, ◌++◌, replicate, Bool, true, false, ◌⊎◌, slice_get, slice_set, Some}
use Rattle.si_semantics.specs.Actions.{Action, Answer}
use Rattle.si_hub.specs.HubCode.{Past}
use Rattle.si_hub.specs.Hubs.{Acts, can_act}
use Rattle.si_interp.specs.Meaning.{InterpView, Ready, At, Gone, Starved}
use Rattle.si_interp.specs.View.{Answers, Counts, starved_view}
use Rattle.si_world.specs.declared.mark.Mark.{Mark}
use Rattle.si_world.specs.declared.mark.Mark.TheVariants as marks
use Rattle.si_world.specs.Worlds.{WorldView, created}

-- a turn can move interpreter i, which stands as v: it has a line to run and turns left, or its action is enabled
abbrev pub CanMove : Past → ℕ → InterpView → Type 0
CanMove p i v = ((v.stand ≡ Ready) × (v.locals < p.limits.turns)) ⊎ ((a : Action) × (v.stand ≡ At a) × (can_act p i a ≡ true))

-- The table of marks: a turn of interpreter i, which stands as v, leads from the past p to q, and i to w. The action of an
-- Acted turn is the last call of the journal now, with its reply; no other mark changes the past.
abbrev pub Moves : Past → ℕ → InterpView → Mark → Past → InterpView → Type 0
Moves p i v marks.Local q w = (v.stand ≡ Ready) × (v.locals < p.limits.turns) × (q ≡ p) × Counts v w
Moves p i v marks.Acted q w = (a : Action) × (r : Answer) × (v.stand ≡ At a) × Acts p i a r q × Answers v r w
Moves p i v marks.Waited q w = (a : Action) × (v.stand ≡ At a) × (can_act p i a ≡ false) × (q ≡ p) × (w ≡ v)
Moves p i v marks.Spent q w = (v.stand ≡ Ready) × (p.limits.turns ≤ v.locals) × (q ≡ p) × (w ≡ v)
Moves p i v marks.Nobody q w = ((v.stand ≡ Gone) ⊎ (v.stand ≡ Starved)) × (q ≡ p) × (w ≡ v)
Moves p i v marks.Starved q w = CanMove p i v × (q ≡ p) × (w ≡ starved_view v)

-- interpreter i moves, and every other is as it was
pub record MovesOne (old : WorldView) (i : ℕ) (m : Mark) (new : WorldView) : Type 0 where
  pub before : InterpView
  pub after : InterpView
  pub stood : slice_get old.interps i ≡ Some before
  pub moves : Moves old.past i before m new.past after
  pub others : new.interps ≡ slice_set old.interps i after

-- a turn of i, with its mark; one that was not created is nobody, and nothing changes
pub record Turned (old : WorldView) (i : ℕ) (m : Mark) (new : WorldView) : Type 0 where
  pub made : i < created old.past → MovesOne old i m new
  pub nobody : created old.past ≤ i → (m ≡ marks.Nobody) × (new ≡ old)

-- the turns of a list one after the other, each with its mark
abbrev pub Ran : WorldView → List ℕ → List Mark → WorldView → Type 0
Ran old [] [] new = new ≡ old
Ran old (i ∷ is) (m ∷ ms) new = (mid : WorldView) × Turned old i m mid × Ran mid is ms new
Ran old [] (m ∷ ms) new = ⊥
Ran old (i ∷ is) [] new = ⊥

-- the marks of n turns of one interpreter while each runs a line: all are Local, but the last where memory was refused in it
abbrev pub AreLines : (n : ℕ) → (starved : Bool) → List Mark → Type 0
AreLines n false ms = ms ≡ replicate n marks.Local
AreLines n true ms = (k : ℕ) × (n ≡ k + 1) × (ms ≡ replicate k marks.Local ++ marks.Starved ∷ [])

-- n turns of interpreter i while each runs a line
pub record RanLines (old : WorldView) (i n : ℕ) (starved : Bool) (new : WorldView) : Type 0 where
  pub marks : List Mark
  pub are : AreLines n starved marks
  pub ran : Ran old (replicate n i) marks new

-- interpreter i, if it was created, has no line to run, or no turn left for it
abbrev pub HasNoLine : WorldView → ℕ → Type 0
HasNoLine w i = (v : InterpView) → i < created w.past → slice_get w.interps i ≡ Some v → v.stand ≡ Ready → w.past.limits.turns ≤ v.locals

-- no interpreter that was created can move
abbrev pub AtRest : WorldView → Type 0
AtRest w = (i : ℕ) (v : InterpView) → i < created w.past → slice_get w.interps i ≡ Some v → CanMove w.past i v → ⊥
