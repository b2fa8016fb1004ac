-- What is recorded of a world, and how a recording ends (this project's own).
use Rattle.std.specs.Prelude.{◌≡◌, ℕ, ◌+◌, List, [], ◌∷◌, nat_lt, nat_le, if◌then◌else◌, take, map}
use Rattle.si_semantics.specs.Parcels.{Tree}
use Rattle.si_semantics.specs.Shared.{Queue, is_take}
use Rattle.si_parcel.specs.Shared.{action_of}
use Rattle.si_hub.specs.HubCode.{Past}
use Rattle.si_hub.specs.Hubs.{state_of, can_act}
use Rattle.si_interp.specs.Meaning.{InterpView, Stand, Ready, At, Gone, Starved}
use Rattle.si_world.specs.declared.report.Standing.{Standing}
use Rattle.si_world.specs.declared.report.Standing.TheVariants as standing
use Rattle.si_world.specs.declared.ending.End.{End}
use Rattle.si_world.specs.declared.ending.End.TheVariants as end
use Rattle.si_world.specs.Worlds.{WorldView, world, created, IsWorld}

-- how an interpreter stands, by a value of the code
abbrev pub stand_of : Standing → Stand
stand_of standing.Ready = Ready
stand_of (standing.AtAction a) = At (action_of a)
stand_of standing.Gone = Gone
stand_of standing.Starved = Starved

-- what interpreter i, which has run so many lines and stands so, says of the end: a turn could move it, it was starved, its
-- turns are used up, or it waits with a run open. Take is what an interpreter asks between its runs, every other action is
-- asked by one.
abbrev pub end_by : Past → (i locals : ℕ) → Stand → End
end_by p i locals Ready = if nat_lt locals p.limits.turns then end.Open else end.Spent
end_by p i locals (At a) = if can_act p i a then end.Open else if is_take a then end.Finished else end.Stuck
end_by p i locals Gone = end.Finished
end_by p i locals Starved = end.Starved

-- of two ends the one that goes before: Open, Starved, Spent, Stuck, Finished
abbrev pub rank : End → ℕ
rank end.Open = 0
rank end.Starved = 1
rank end.Spent = 2
rank end.Stuck = 3
rank end.Finished = 4

abbrev pub first_of_ends : End → End → End
first_of_ends e f = if nat_le (rank e) (rank f) then e else f

-- that of all of these interpreters, numbered from i on, and of one end more
abbrev pub end_from : Past → (i : ℕ) → End → List InterpView → End
end_from p i e [] = e
end_from p i e (v ∷ vs) = end_from p (i + 1) (first_of_ends e (end_by p i v.locals v.stand)) vs

-- how a world ends whose interpreters these are
abbrev pub end_of : Past → List InterpView → End
end_of p vs = end_from p 0 end.Finished vs

-- the interpreters of a world that were created
abbrev pub members : WorldView → List InterpView
members w = take (created w.past) w.interps

-- what is recorded of a world
abbrev pub recorded : WorldView → WorldView
recorded w = world w.past (members w)

-- this is recorded of some world
pub record IsRecorded (r : WorldView) : Type 0 where
  pub left : WorldView
  pub is : IsWorld left
  pub seen : r ≡ recorded left

-- what each queue holds after a past, by its number
abbrev pub queue_items : Past → List (List Tree)
queue_items p = map (λ (q : Queue). q.items) (state_of p).queues
