-- What it is to exchange two neighbours of a legal history (this project's own).
use Rattle.std.specs.Prelude.{◌≡◌, ℕ, List, ◌∷◌, ◌++◌}
use Rattle.si_semantics.specs.History.{Call}
use Rattle.si_hub.specs.HubCode.{Past}
use Rattle.si_hub.specs.Hubs.{state_of}
use Rattle.si_world.specs.Legal.{calls_of, answers_to, Legal}
use Rattle.si_exchange.specs.Independence.{Independent}

-- a past of the same script and limits, in which these calls were made
abbrev pub with_journal : List Call → Past → Past
with_journal calls p = record { script = p.script; limits = p.limits; journal = calls }

-- a past in the place of another: it is a legal history, so that each call in turn is asked by the life of its caller, is
-- enabled at its point and has the answer of the table; it leaves the same state; and each interpreter made the same calls in
-- the same order, and was answered the same
pub record StaysLegal (old new : Past) : Type 0 where
  pub legal : Legal new
  pub state : state_of new ≡ state_of old
  pub calls_of_each : (i : ℕ) → calls_of i new.journal ≡ calls_of i old.journal
  pub answers_to_each : (i : ℕ) → answers_to i new.journal ≡ answers_to i old.journal

-- independent neighbours of a legal history may be exchanged, wherever they stand in it
abbrev pub MayExchangeLegal : Type 0
MayExchangeLegal =
    (p : Past) (before after : List Call) (c d : Call)
    → Independent c d → p.journal ≡ before ++ c ∷ (d ∷ after) → Legal p → StaysLegal p (with_journal (before ++ d ∷ (c ∷ after)) p)
