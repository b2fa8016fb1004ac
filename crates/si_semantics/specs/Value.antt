-- Values (Python Language Reference 3.14, 3.2).
use Rattle.std.specs.Prelude.{ℕ, ℤ, List, [], ◌∷◌, Bool, Option}
use Rattle.si_plain.specs.declared.kind.Kind.{Kind}
use Rattle.si_plain.specs.declared.modules.ModuleName.{ModuleName}

-- a text is the list of its characters, each by its code point
abbrev pub Text : Type 0
Text = List ℕ

-- the functions that are there without a definition, and the types that are called like functions
pub data BuiltIn : Type 0 where
  Print : BuiltIn
  MakeRange : BuiltIn
  MakeStr : BuiltIn
  Repr : BuiltIn
  Len : BuiltIn
  MakeBool : BuiltIn
  Abs : BuiltIn
  MakeInt : BuiltIn
  Ord : BuiltIn
  Chr : BuiltIn
  Min : BuiltIn
  Max : BuiltIn
  MakeBytes : BuiltIn
  MakeTuple : BuiltIn
  MakeList : BuiltIn

-- a tuple's items are a type of their own, since no constructor of a data type takes a List of that type
mutual
  pub data Value : Type 0 where
    Nothing : Value
    -- True and False
    Truth : Bool → Value
    Int : ℤ → Value
    Str : Text → Value
    -- bytes, each a number below 256 (3.2.5.1)
    Bytes : List ℕ → Value
    Provided : BuiltIn → Value
    -- a function of a script, by its name and its number among those that its interpreter has read; the number is this
    -- project's own
    Function : Text → ℕ → Value
    -- a range: its start, its stop, and its step, which is not 0 (Standard Library, "Built-in Types": ranges)
    Range : (start stop step : ℤ) → Value
    -- a tuple, by its items (3.2.5.1)
    Tuple : Values → Value
    -- a kind of exception (Standard Library, "Built-in Exceptions")
    Class : Kind → Value
    -- a module that was imported (3.2.11)
    Module : ModuleName → Value
    -- a queue, by its number and the most items that it may have, 0 for no bound (PEP 734, "Queue Objects")
    Queue : (id maxsize : ℕ) → Value
    -- an interpreter, by its number (PEP 734, "Interpreter Objects")
    Interpreter : ℕ → Value
    -- the method `exec` of an interpreter, which is good as the target of a thread alone (this project's own)
    Exec : ℕ → Value
    -- an object, by its address: its place in the store (3.1)
    Address : ℕ → Value

  -- values in a row
  pub data Values : Type 0 where
    NoValues : Values
    MoreValues : Value → Values → Values

-- values in a row, as a list
abbrev pub items_of : Values → List Value
items_of NoValues = []
items_of (MoreValues v vs) = v ∷ items_of vs

-- values from a list of them
abbrev pub values_of : List Value → Values
values_of [] = NoValues
values_of (v ∷ vs) = MoreValues v (values_of vs)

-- a tuple of these items
abbrev pub tuple_of : List Value → Value
tuple_of vs = Tuple (values_of vs)

-- a key of a dict: an integer or a str (3.2.7.1; that nothing else is a key is this project's own)
pub data Key : Type 0 where
  Number : ℤ → Key
  Word : Text → Key

-- a key as a value
abbrev pub value_of_key : Key → Value
value_of_key (Number i) = Int i
value_of_key (Word s) = Str s

-- an object of the store
pub data Object : Type 0 where
  -- a list, by its items (3.2.5.2)
  Items : List Value → Object
  -- a dict, by its keys and the value of each, in the order in which the keys were added (3.2.7.1)
  Pairs : List (Key × Value) → Object
  -- an exception, by its kind and the one argument that it may have (Standard Library, "Built-in Exceptions")
  Exception : Kind → Option Value → Object
  -- a thread that is to run a text in an interpreter, and one that was started, by its run (Standard Library, "threading")
  Thread : (interpreter : ℕ) → Text → Object
  Started : (run : ℕ) → Object
