-- Which of its arguments a call takes, wherever the arguments lie.
use Rattle.std.specs.Prelude.{◌≡◌, ◌++◌, ◌∷◌, [], ℕ, List, Option, Some, None, Result, Ok, Err, slice_get}
use Rattle.si_plain.specs.declared.kind.Kind.{Kind}
use Rattle.si_plain.specs.declared.kind.Kind.TheVariants.{NotShareableError}
use Rattle.std.specs.Borrow.{Bor}
use Rattle.std.specs.declared.alloc.AllocError.{AllocError}
use Rattle.si_semantics.specs.Value as pure
use Rattle.si_semantics.specs.Parcels.{Tree}
use Rattle.si_semantics.specs.Shareable.{sent_as}
use Rattle.si_semantics.specs.World as world
use Rattle.si_semantics.specs.World.{World, Ran, Asked}
use Rattle.si_semantics.specs.Operations.{wrong_arguments, wrong_type, integer_in}
use Rattle.si_semantics.specs.Containers.{pop_item, get_value}
use Rattle.si_semantics.specs.Attributes as attributes
use Rattle.si_semantics.specs.Attributes.{thread_of, prepare, prepares, as_pairs, parcels_by_name, pops, gets_value}
use Rattle.si_arena.specs.declared.value.Ref.{Ref}
use Rattle.si_arena.specs.declared.atom.Atom.{Atom}
use Rattle.si_arena.specs.declared.dict.Pair.{Pair}
use Rattle.si_arena.specs.declared.cause.Cause.{Cause}
use Rattle.si_arena.specs.declared.cause.Cause.TheVariants.{WrongType, Refused}
use Rattle.si_arena.specs.declared.cause.Fault.{Fault}
use Rattle.si_arena.specs.declared.cause.Fault.TheVariants.{Raises, NoMemory}
use Rattle.si_arena.specs.declared.refusal.Refusal.TheVariants.{NotShareable}
use Rattle.si_arena.specs.Memory.{Memory, value_of, all_of, pairs_of, Lies, AllLie, PairsLie}
use Rattle.si_arena.specs.Texts.{text_of, IsText}
use Rattle.si_ops.specs.Runs.{Throws}
use Rattle.si_share.specs.declared.fault.ShareFault.{ShareFault}
use Rattle.si_share.specs.declared.fault.ShareFault.TheVariants as share
use Rattle.si_share.specs.Copies.{TakesMemory}

-- a call takes this argument, the only one, which lies where they do; or they do not fit
abbrev pub Passes : (List pure.Value → (pure.Value → Ran) → World → Ran) → List Ref → Option Ref → Type 0
Passes takes rs (Some r) = (m : Memory) → AllLie m rs → Lies m r × ((does : pure.Value → Ran) (w : World) → takes (all_of m rs) does w ≡ does (value_of m r)) × (rs ≡ r ∷ [])
Passes takes rs None = (m : Memory) (does : pure.Value → Ran) (w : World) → takes (all_of m rs) does w ≡ wrong_arguments w

-- a thread is made of these two, its target and its arguments; or they do not fit
abbrev pub PassesThread : List Ref → List pure.Text → Option (Ref × Ref) → Type 0
PassesThread rs names (Some p) =
    (m : Memory) → AllLie m rs → Lies m p.0 × Lies m p.1 × ((w : World) → attributes.makes_thread (all_of m rs) names w ≡ thread_of (value_of m p.0) (value_of m p.1) w)
PassesThread rs names None = (m : Memory) (w : World) → attributes.makes_thread (all_of m rs) names w ≡ wrong_arguments w

-- the one text that a thread is to run, where its arguments are that
abbrev pub IsOnlyText : Memory → pure.Value → Option Ref → Type 0
IsOnlyText m v (Some r) = Lies m r × IsText r × (v ≡ pure.Tuple (pure.MoreValues (pure.Str (text_of m.texts r)) pure.NoValues))
IsOnlyText m v None = (i : ℕ) (w : World) → thread_of (pure.Exec i) v w ≡ wrong_type w

-- why a value is not sent
abbrev pub unsent_of : ShareFault → Fault
unsent_of share.NotShareable = Raises (Refused NotShareable)
unsent_of share.TooLarge = Raises (Refused NotShareable)
unsent_of share.NoMemory = NoMemory

-- the parcel as which a value is sent; or it has none; or memory is refused, which its parcel takes
abbrev pub IsSent : pure.Value → Result Tree Fault → Type 0
IsSent v (Ok p) = sent_as v ≡ Some p
IsSent v (Err (Raises cause)) = (sent_as v ≡ None) × (cause ≡ Refused NotShareable)
IsSent v (Err NoMemory) = (p : Tree) × (sent_as v ≡ Some p) × TakesMemory p

-- why a pair is not sent, by the kind: a value has no parcel, or a key is no str
abbrev pub refusal_by : Kind → Cause
refusal_by NotShareableError = Refused NotShareable
refusal_by _ = WrongType

-- pairs are not sent, as one of them is not; or memory is refused
abbrev pub IsUnsent : List (pure.Key × pure.Value) → Fault → Type 0
IsUnsent pairs (Raises cause) = (k : Kind) × (parcels_by_name pairs ≡ Err k) × (cause ≡ refusal_by k)
IsUnsent pairs NoMemory = Unit {0}

-- names with their parcels; or why there are none
abbrev pub AreSent : List (pure.Key × pure.Value) → Result (List (pure.Text × Tree)) Fault → Type 0
AreSent pairs (Ok bs) = parcels_by_name pairs ≡ Ok bs
AreSent pairs (Err fault) = IsUnsent pairs fault

-- one name with its parcel, as the only one
abbrev pub alone_of : Result (pure.Text × Tree) Fault → Result (List (pure.Text × Tree)) Fault
alone_of (Ok b) = Ok (b ∷ [])
alone_of (Err fault) = Err fault

-- a name with a parcel, and names with theirs, unless memory was refused for them
abbrev pub paired_of : Result pure.Text AllocError → Tree → Result (pure.Text × Tree) Fault
paired_of (Ok t) p = Ok (t, p)
paired_of (Err refused) p = Err NoMemory

abbrev pub granted_of : Result (List (pure.Text × Tree)) AllocError → Result (List (pure.Text × Tree)) Fault
granted_of (Ok bs) = Ok bs
granted_of (Err refused) = Err NoMemory

-- the pairs of a dict, where there is one; they lie in the arena
abbrev pub pairs_in : Memory → Option (Bor (List (Atom × Pair))) → List (pure.Key × pure.Value)
pairs_in m (Some dict) = pairs_of m dict.now
pairs_in m None = []

abbrev pub NamespaceLies : Memory → Option (Bor (List (Atom × Pair))) → Type 0
NamespaceLies m (Some dict) = PairsLie m dict.now
NamespaceLies m None = Unit {0}

-- what stands before the names is a dict, or None or nothing, which stand for one without keys; or why it raises
abbrev pub IsNamespace : List pure.Value → Memory → Result (Option (Bor (List (Atom × Pair)))) Cause → Type 0
IsNamespace vs m (Ok dict) =
    ((i : ℕ) (named : List (pure.Text × pure.Value)) (w : World) → w.store ≡ m.store → prepare i vs named w ≡ prepares i (parcels_by_name (pairs_in m dict ++ as_pairs named)) w) × NamespaceLies m dict
IsNamespace vs m (Err cause) = (i : ℕ) (named : List (pure.Text × pure.Value)) → Throws (λ w. prepare i vs named w) m cause

-- a call of a queue without an argument asks it of this queue, whatever it asks; or why it raises
abbrev pub AsksQueue : pure.Value → List pure.Value → Memory → Result (ℕ × ℕ) Cause → Type 0
AsksQueue v vs m (Ok q) = (request : ℕ → ℕ → world.Request) (w : World) → attributes.alone vs (attributes.asks_queue request v w) w ≡ Asked (request q.0 q.1) w
AsksQueue v vs m (Err cause) = (request : ℕ → ℕ → world.Request) → Throws (λ w. attributes.alone vs (attributes.asks_queue request v w) w) m cause

-- the same of an interpreter
abbrev pub AsksInterpreter : pure.Value → List pure.Value → Memory → Result ℕ Cause → Type 0
AsksInterpreter v vs m (Ok i) = (request : ℕ → world.Request) (w : World) → attributes.alone vs (attributes.asks_interpreter request v w) w ≡ Asked (request i) w
AsksInterpreter v vs m (Err cause) = (request : ℕ → world.Request) → Throws (λ w. attributes.alone vs (attributes.asks_interpreter request v w) w) m cause

-- an index is passed to `pop` of a list, or left out; or the arguments do not fit
abbrev pub PassesIndex : List Ref → List pure.Text → Option Ref → Type 0
PassesIndex rs names (Some r) =
    (m : Memory) → AllLie m rs → Lies m r × ((x : ℕ) (w : World) → pops (pure.Address x) (all_of m rs) names w ≡ pop_item x (slice_get w.store x) (integer_in (value_of m r)) w)
PassesIndex rs names None = (m : Memory) (x : ℕ) (w : World) → pops (pure.Address x) (all_of m rs) names w ≡ wrong_arguments w

-- a key is passed to `get` of a dict, and the value that stands for its own; or the arguments do not fit
abbrev pub PassesKey : List Ref → List pure.Text → Option (Ref × Ref) → Type 0
PassesKey rs names (Some p) =
    (m : Memory) → AllLie m rs → Lies m p.0 × Lies m p.1 × ((x : ℕ) (w : World) → gets_value (pure.Address x) (all_of m rs) names w ≡ get_value (slice_get w.store x) (value_of m p.0) (value_of m p.1) w)
PassesKey rs names None = (m : Memory) (x : ℕ) (w : World) → gets_value (pure.Address x) (all_of m rs) names w ≡ wrong_arguments w

-- a call that puts an item puts this parcel into this queue, whether it waits for room or not; or why it raises, or memory is
-- refused
abbrev pub PutsItem : (((pure.Value → Ran) → World → Ran)) → pure.Value → Memory → Result (ℕ × Tree) Fault → Type 0
PutsItem takes v m (Ok b) = (request : ℕ → Tree → world.Request) (w : World) → takes (λ u. attributes.puts request v u w) w ≡ Asked (request b.0 b.1) w
PutsItem takes v m (Err (Raises cause)) = (request : ℕ → Tree → world.Request) → Throws (λ w. takes (λ u. attributes.puts request v u w) w) m cause
PutsItem takes v m (Err NoMemory) = Unit {0}
