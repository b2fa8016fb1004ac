-- An order of turns that leads to a world (this project's own). There are many: in this one the lines that an interpreter
-- runs before an action come just before the action.
use Rattle.std.specs.Prelude.{ℕ, zero, suc, ◌+◌, ◌-◌, List, [], ◌∷◌, ◌++◌, length, replicate, slice_get, Option, Some, None}
use Rattle.si_semantics.specs.History.{Call}
use Rattle.si_interp.specs.Meaning.{Logged, InterpView}
use Rattle.si_world.specs.Legal.{calls_of}
use Rattle.si_world.specs.Worlds.{WorldView}

-- at how many lines an entry of a log was answered, 0 where there is none
abbrev pub lines_of : Option Logged → ℕ
lines_of None = 0
lines_of (Some l) = l.at

-- how many lines had been run when so many entries of a log were answered
abbrev pub last_at : List Logged → ℕ → ℕ
last_at log zero = 0
last_at log (suc k) = lines_of (slice_get log k)

abbrev pub log_of : Option InterpView → List Logged
log_of None = []
log_of (Some v) = v.log

-- the turns of interpreter i for its next call, after so many: one for each line before it, and its own
abbrev pub call_turns : List Logged → ℕ → ℕ → List ℕ
call_turns log done i = replicate (last_at log (suc done) - last_at log done) i ++ i ∷ []

-- those for the calls of a journal, after the calls that are done
abbrev pub turns_for : List InterpView → (done : List Call) → List Call → List ℕ
turns_for vs done [] = []
turns_for vs done (c ∷ cs) = call_turns (log_of (slice_get vs c.by)) (length (calls_of c.by done)) c.by ++ turns_for vs (done ++ c ∷ []) cs

-- those for the lines after the last call of each interpreter, numbered from i on
abbrev pub rest_turns : ℕ → List InterpView → List ℕ
rest_turns i [] = []
rest_turns i (v ∷ vs) = replicate (v.locals - last_at v.log (length v.log)) i ++ rest_turns (i + 1) vs

-- the turns for a whole world: the calls of its journal in their order, and then all lines that are left
abbrev pub order_of : WorldView → List ℕ
order_of w = turns_for w.interps [] w.past.journal ++ rest_turns 0 w.interps
