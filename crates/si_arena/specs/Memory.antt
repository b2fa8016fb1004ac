-- What an arena stands for, and what a value that lies in it denotes.
use Rattle.std.specs.Prelude.{◌≡◌, ℕ, ◌<◌, ◌≤◌, List, [], ◌∷◌, ◌++◌, map, length, get_or, slice_get, slice_set, true, false, Option, Some, None, Result, Ok, Err}
use Rattle.si_semantics.specs.Value as pure
use Rattle.si_semantics.specs.Text.{max_length}
use Rattle.si_semantics.specs.Tuples.{is_too_large}
use Rattle.si_semantics.specs.Dicts.{key_of, value_at}
use Rattle.si_semantics.specs.Opened.{Opened, InTuple, InList}
use Rattle.si_arena.specs.declared.value.BuiltIn.{BuiltIn}
use Rattle.si_arena.specs.declared.value.BuiltIn.TheVariants as built
use Rattle.si_arena.specs.declared.value.Ref.{Ref}
use Rattle.si_arena.specs.declared.value.Ref.TheVariants as value
use Rattle.si_arena.specs.declared.object.Steps.{Steps}
use Rattle.si_arena.specs.declared.object.Object.{Object}
use Rattle.si_arena.specs.declared.object.Object.TheVariants.{Bare, Made, Caused, Thread, Started}
use Rattle.si_arena.specs.declared.atom.Atom.{Atom}
use Rattle.si_arena.specs.declared.dict.Pair.{Pair}
use Rattle.si_arena.specs.declared.held.Held.{Held}
use Rattle.si_arena.specs.declared.held.Held.TheVariants as held
use Rattle.si_arena.specs.declared.contents.Contents.{Contents}
use Rattle.si_arena.specs.declared.contents.Contents.TheVariants as contents
use Rattle.si_arena.specs.declared.cause.Fault.{Fault}
use Rattle.si_arena.specs.declared.cause.Fault.TheVariants.{Raises, NoMemory}
use Rattle.si_arena.specs.declared.cause.Cause.TheVariants.{TooLong}
use Rattle.si_arena.specs.Texts.{Rows, text_of, IsText, TextLies, Grows}
use Rattle.si_arena.specs.Causes.{kind_of, message_of, name_at, CauseLies}

-- the texts, the names, what the places of ranges and of tuples denote, and the objects by their addresses
pub record Memory : Type 0 where
  pub texts : Rows
  pub names : List pure.Text
  pub ranges : List pure.Value
  pub tuples : List pure.Value
  pub store : List pure.Object

abbrev pub built_in_of : BuiltIn → pure.BuiltIn
built_in_of built.Print = pure.Print
built_in_of built.Range = pure.MakeRange
built_in_of built.Str = pure.MakeStr
built_in_of built.Repr = pure.Repr
built_in_of built.Len = pure.Len
built_in_of built.Bool = pure.MakeBool
built_in_of built.Abs = pure.Abs
built_in_of built.Int = pure.MakeInt
built_in_of built.Ord = pure.Ord
built_in_of built.Chr = pure.Chr
built_in_of built.Min = pure.Min
built_in_of built.Max = pure.Max
built_in_of built.Bytes = pure.MakeBytes
built_in_of built.Tuple = pure.MakeTuple
built_in_of built.List = pure.MakeList

-- what a value denotes; of what denotes none, None
abbrev pub value_of : Memory → Ref → pure.Value
value_of m value.Unbound = pure.Nothing
value_of m value.None = pure.Nothing
value_of m (value.Truth at b) = pure.Truth b
value_of m (value.Int n) = pure.Int n
value_of m (value.Short s) = pure.Str (text_of m.texts (value.Short s))
value_of m (value.Narrow count start) = pure.Str (text_of m.texts (value.Narrow count start))
value_of m (value.Wide count start) = pure.Str (text_of m.texts (value.Wide count start))
value_of m (value.ShortBytes s) = pure.Bytes (text_of m.texts (value.Short s))
value_of m (value.Bytes count start) = pure.Bytes (text_of m.texts (value.Narrow count start))
value_of m (value.BuiltIn at b) = pure.Provided (built_in_of b)
value_of m (value.Function number name) = pure.Function (name_at m.names name) number
value_of m (value.Range place) = get_or m.ranges place pure.Nothing
value_of m (value.Tuple place) = get_or m.tuples place pure.Nothing
value_of m (value.Kind at k) = pure.Class k
value_of m (value.Module at mo) = pure.Module mo
value_of m (value.Queue id maxsize) = pure.Queue id maxsize
value_of m (value.Interpreter i) = pure.Interpreter i
value_of m (value.Exec i) = pure.Exec i
value_of m (value.Object x) = pure.Address x

-- what values denote
abbrev pub all_of : Memory → List Ref → List pure.Value
all_of m rs = map (value_of m) rs

-- what is at a name: a value, or that it is not bound
abbrev pub bound_of : Memory → Ref → Option pure.Value
bound_of m value.Unbound = None
bound_of m r = Some (value_of m r)

-- a value lies in an arena: what it denotes is there. No value lies nowhere.
abbrev pub Lies : Memory → Ref → Type 0
Lies m value.Unbound = ⊥
Lies m (value.Narrow count start) = TextLies m.texts (value.Narrow count start)
Lies m (value.Wide count start) = TextLies m.texts (value.Wide count start)
Lies m (value.Bytes count start) = TextLies m.texts (value.Narrow count start)
Lies m (value.Function number name) = name < length m.names
Lies m (value.Range place) = place < length m.ranges
Lies m (value.Tuple place) = place < length m.tuples
Lies m (value.Object x) = x < length m.store
Lies m _ = Unit {0}

-- what is at a name: no value, or one that lies in an arena
abbrev pub Holds : Memory → Ref → Type 0
Holds m value.Unbound = Unit {0}
Holds m r = Lies m r

-- values lie in an arena
abbrev pub AllLie : Memory → List Ref → Type 0
AllLie m [] = Unit {0}
AllLie m (r ∷ rs) = Lies m r × AllLie m rs

-- a range
abbrev pub range_of : Steps → pure.Value
range_of s = pure.Range s.start s.stop s.step

-- the key that a value is; of what is none the empty word
abbrev pub key_meant : pure.Value → pure.Key
key_meant (pure.Int i) = pure.Number i
key_meant (pure.Str s) = pure.Word s
key_meant _ = pure.Word []

-- a value is a key
abbrev pub IsKey : pure.Value → Type 0
IsKey v = key_of v ≡ Some (key_meant v)

-- a key with its value
abbrev pub pair_of : Memory → Pair → pure.Key × pure.Value
pair_of m p = (key_meant (value_of m p.key), value_of m p.value)

-- the pairs of a dict, by its entries
abbrev pub pairs_of : Memory → List (Atom × Pair) → List (pure.Key × pure.Value)
pairs_of m es = map (λ e. pair_of m e.1) es

-- a key and its value lie in an arena
pub record PairLies (m : Memory) (p : Pair) : Type 0 where
  pub key : Lies m p.key
  pub is_key : IsKey (value_of m p.key)
  pub value : Lies m p.value

abbrev pub PairsLie : Memory → List (Atom × Pair) → Type 0
PairsLie m [] = Unit {0}
PairsLie m (e ∷ es) = PairLies m e.1 × PairsLie m es

-- an exception or a thread
abbrev pub object_of : Memory → Object → pure.Object
object_of m (Bare kind) = pure.Exception kind None
object_of m (Made kind r) = pure.Exception kind (Some (value_of m r))
object_of m (Caused cause) = pure.Exception (kind_of cause) (Some (pure.Str (message_of m.names cause)))
object_of m (Thread interpreter r) = pure.Thread interpreter (text_of m.texts r)
object_of m (Started run) = pure.Started run

-- what an object speaks of lies in an arena
abbrev pub ObjectLies : Memory → Object → Type 0
ObjectLies m (Bare kind) = Unit {0}
ObjectLies m (Made kind r) = Lies m r
ObjectLies m (Caused cause) = CauseLies m.names cause
ObjectLies m (Thread interpreter r) = Lies m r × IsText r
ObjectLies m (Started run) = Unit {0}

-- the object that lies at an address
abbrev pub held_of : Memory → Held → pure.Object
held_of m (held.Bare kind) = object_of m (Bare kind)
held_of m (held.Made kind r) = object_of m (Made kind r)
held_of m (held.Caused cause) = object_of m (Caused cause)
held_of m (held.Thread interpreter r) = object_of m (Thread interpreter r)
held_of m (held.Started run) = object_of m (Started run)
held_of m (held.List rs) = pure.Items (all_of m rs)
held_of m (held.Dict es) = pure.Pairs (pairs_of m es)

-- what it speaks of lies in an arena
abbrev pub HeldLies : Memory → Held → Type 0
HeldLies m (held.Bare kind) = ObjectLies m (Bare kind)
HeldLies m (held.Made kind r) = ObjectLies m (Made kind r)
HeldLies m (held.Caused cause) = ObjectLies m (Caused cause)
HeldLies m (held.Thread interpreter r) = ObjectLies m (Thread interpreter r)
HeldLies m (held.Started run) = ObjectLies m (Started run)
HeldLies m (held.List rs) = AllLie m rs
HeldLies m (held.Dict es) = PairsLie m es

abbrev pub ObjectsLie : Memory → List Held → Type 0
ObjectsLie m [] = Unit {0}
ObjectsLie m (h ∷ hs) = HeldLies m h × ObjectsLie m hs

-- what an object holds
abbrev pub contents_of : Memory → Contents → pure.Object
contents_of m (contents.Plain o) = object_of m o
contents_of m (contents.List rs) = pure.Items (all_of m rs.now)
contents_of m (contents.Dict d) = pure.Pairs (pairs_of m d.now)

-- and it lies in an arena
abbrev pub ContentsLie : Memory → Contents → Type 0
ContentsLie m (contents.Plain o) = ObjectLies m o
ContentsLie m (contents.List rs) = AllLie m rs.now
ContentsLie m (contents.Dict d) = PairsLie m d.now

-- ---- the words of contracts

-- texts, names, ranges and tuples go on: those that were there are as they were
pub record Lasts (old new : Memory) : Type 0 where
  pub texts : Grows old.texts new.texts
  pub names : (more : List pure.Text) × (new.names ≡ old.names ++ more)
  pub ranges : (more : List pure.Value) × (new.ranges ≡ old.ranges ++ more)
  pub tuples : (more : List pure.Value) × (new.tuples ≡ old.tuples ++ more)

-- an arena goes on, with as many objects or more: what lies in it lies in it still, and denotes the same
-- (`proofs/Lying.antt`)
pub record Extends (old new : Memory) : Type 0 where
  pub lasts : Lasts old new
  pub objects : length old.store ≤ length new.store

-- a value was placed, and no object was changed
pub record Placed (old : Memory) (v : pure.Value) (r : Ref) (new : Memory) : Type 0 where
  pub denotes : value_of new r ≡ v
  pub lies : Lies new r
  pub extends : Extends old new
  pub store : new.store ≡ old.store

-- a text is placed, unless it is longer than a str may be or memory is refused: then the arena is as it was
abbrev pub PlacesText : pure.Text → Memory → Memory → Result Ref Fault → Type 0
PlacesText t old new (Ok r) = (length t ≤ max_length) × Placed old (pure.Str t) r new
PlacesText t old new (Err (Raises cause)) = (max_length < length t) × (cause ≡ TooLong) × (new ≡ old)
PlacesText t old new (Err NoMemory) = new ≡ old

-- bytes are placed, unless they are more than bytes may be or memory is refused: then the arena is as it was
abbrev pub PlacesBytes : List ℕ → Memory → Memory → Result Ref Fault → Type 0
PlacesBytes bs old new (Ok r) = (length bs ≤ max_length) × Placed old (pure.Bytes bs) r new
PlacesBytes bs old new (Err (Raises cause)) = (max_length < length bs) × (cause ≡ TooLong) × (new ≡ old)
PlacesBytes bs old new (Err NoMemory) = new ≡ old

-- a tuple of these items is placed, unless it is too large or memory is refused: then the arena is as it was
abbrev pub PlacesTuple : List pure.Value → Memory → Memory → Result Ref Fault → Type 0
PlacesTuple vs old new (Ok r) = (is_too_large (pure.tuple_of vs) ≡ false) × Placed old (pure.tuple_of vs) r new
PlacesTuple vs old new (Err (Raises cause)) = (is_too_large (pure.tuple_of vs) ≡ true) × (cause ≡ TooLong) × (new ≡ old)
PlacesTuple vs old new (Err NoMemory) = new ≡ old

-- a name has the next number, and nothing else is changed
pub record IsNamed (x : pure.Text) (old new : Memory) (place : ℕ) : Type 0 where
  pub number : place ≡ length old.names
  pub memory : new ≡ record old { names = old.names ++ x ∷ [] }

-- an object was made: it has the next address, and nothing else is changed
pub record IsMade (o : pure.Object) (old new : Memory) (r : Ref) : Type 0 where
  pub address : r ≡ value.Object (length old.store)
  pub memory : new ≡ record old { store = old.store ++ o ∷ [] }

-- the items of a list; of any other object none
abbrev pub items_of_object : Option pure.Object → List pure.Value
items_of_object (Some (pure.Items vs)) = vs
items_of_object _ = []

-- the pairs of a dict; of any other object none
abbrev pub pairs_of_object : Option pure.Object → List (pure.Key × pure.Value)
pairs_of_object (Some (pure.Pairs ps)) = ps
pairs_of_object _ = []

-- the items of the list, and the pairs of the dict, at an address
abbrev pub list_at : Memory → ℕ → List pure.Value
list_at m x = items_of_object (slice_get m.store x)

abbrev pub dict_at : Memory → ℕ → List (pure.Key × pure.Value)
dict_at m x = pairs_of_object (slice_get m.store x)

-- a list, and a dict, is at an address
abbrev pub IsListAt : Memory → ℕ → Type 0
IsListAt m x = slice_get m.store x ≡ Some (pure.Items (list_at m x))

abbrev pub IsDictAt : Memory → ℕ → Type 0
IsDictAt m x = slice_get m.store x ≡ Some (pure.Pairs (dict_at m x))

-- an object is another from now on, at its address; nothing else is changed
abbrev pub with_object : ℕ → pure.Object → Memory → Memory
with_object x o m = record m { store = slice_set m.store x o }

-- the items of a tuple or a list; of any other value none
abbrev pub items_held : Opened → List pure.Value
items_held (InTuple vs) = vs
items_held (InList x vs) = vs
items_held _ = []

-- the value of a key, where there is one
abbrev pub value_by : Option pure.Key → List (pure.Key × pure.Value) → Option pure.Value
value_by (Some k) ps = value_at k ps
value_by None ps = None

-- a dict of pairs was made, where there are pairs; where a key is none, nothing is changed
abbrev pub MakesDict : Option (List (pure.Key × pure.Value)) → Memory → Memory → Option Ref → Type 0
MakesDict (Some ps) old new (Some r) = IsMade (pure.Pairs ps) old new r
MakesDict None old new None = new ≡ old
MakesDict _ old new _ = ⊥
