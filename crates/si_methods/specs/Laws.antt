-- What is proved of what is kept of requests, and of parcels.
use Rattle.std.specs.Prelude.{◌≡◌, ◌↔◌, true}
use Rattle.si_semantics.specs.World as world
use Rattle.si_semantics.specs.World.{World, Request}
use Rattle.si_semantics.specs.Replies.{reply}
use Rattle.si_semantics.specs.Actions as shared
use Rattle.si_semantics.specs.Actions.{fits}
use Rattle.si_semantics.specs.Parcels.{Tree, is_parcel, IsParcel}
use Rattle.si_methods.specs.Requests.{action_of}
use Rattle.si_methods.specs.Kept.{awaited_of}

-- two requests of which the same is kept get the same replies
abbrev pub SameReplies : Type 0
SameReplies = (q r : Request) → awaited_of q ≡ awaited_of r → (answer : world.Answer) (w : World) → reply q answer w ≡ reply r answer w

-- the same answers fit them
abbrev pub SameFit : Type 0
SameFit = (q r : Request) → awaited_of q ≡ awaited_of r → (answer : shared.Answer) → fits answer (action_of q) ≡ fits answer (action_of r)

-- the test for the limits of parcels says what they are
abbrev pub OneLimit : Type 0
OneLimit = (t : Tree) → (is_parcel t ≡ true) ↔ IsParcel t
