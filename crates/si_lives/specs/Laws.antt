-- Laws of lives.
use Rattle.std.specs.Prelude.{◌≡◌, ℕ, ◌≤◌, List, [], ◌∷◌, ◌++◌}
use Rattle.std.specs.List.{All}
use Rattle.si_semantics.specs.World.{Answer}
use Rattle.si_semantics.specs.Meaning.{Piece, State}
use Rattle.si_semantics.specs.Life.{Told, Stops, IsGone, IsCut, life_of}
use Rattle.si_semantics.specs.Laws.{state_of}

-- a later state of a life: further answers were taken, visits begun and pieces printed, these numbered no lower than the
-- visits that had begun before
pub record Later (s t : State) : Type 0 where
  pub answers : (taken : List Answer) × (s.answers ≡ taken ++ t.answers)
  pub visits : s.visits ≤ t.visits
  pub pieces : (further : List Piece) × (t.pieces ≡ s.pieces ++ further) × All (λ p. s.visits ≤ p.number) further

-- a state with more answers to come, after those that are left
abbrev pub with_answers : List Answer → State → State
with_answers more s = record s { answers = s.answers ++ more }

-- what the life under some answers says of the one under these and further ones: where it stops at an action, it has taken
-- all its answers, and the other has taken the first further one at least, and has all pieces and visits of that state;
-- where it is gone or cut, so is the other, in the same state but for the answers that are left
abbrev pub Waits : (first : Answer) (more : List Answer) → (life other : Told) → Type 0
Waits first more (Stops a s) other = (s.answers ≡ []) × Later (record s { answers = more }) (state_of other)
Waits first more (IsGone s) other = other ≡ IsGone (with_answers (first ∷ more) s)
Waits first more (IsCut s) other = other ≡ IsCut (with_answers (first ∷ more) s)

-- further answers change nothing in a life before the action that the first of them answers
abbrev pub AnswersWait : Type 0
AnswersWait = (own n : ℕ) (answers : List Answer) (first : Answer) (more : List Answer) → Waits first more (life_of own n answers) (life_of own n (answers ++ first ∷ more))
