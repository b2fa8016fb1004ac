-- How values are written as text (Python Standard Library 3.14, "Built-in Functions": str and repr).
use Rattle.std.specs.Prelude.{codes, ℕ, zero, suc, ℤ, pos, List, [], ◌∷◌, ◌++◌, length, Bool, true, false, ◌&&◌, ◌||◌, Option, Some, None, Result, Ok, Err, nat_eq, nat_lt, int_le, if◌then◌else◌}
use Rattle.si_plain.specs.declared.kind.Kind.{Kind}
use Rattle.si_plain.specs.declared.kind.Kind.TheVariants.{KeyError, RecursionError, OverflowError}
use Rattle.si_plain.specs.Kinds.{name_of}
use Rattle.si_plain.specs.declared.modules.ModuleName.{ModuleName}
use Rattle.si_plain.specs.declared.modules.ModuleName.TheVariants.{Threading, Interpreters}
use Rattle.si_plain.specs.Repr as plain
use Rattle.std.specs.Fmt.{signed_decimal}
use Rattle.si_semantics.specs.Opened.{Opened, Atom, InTuple, InList, InDict, InException, InThread, Nowhere, opened}
use Rattle.si_semantics.specs.Value.{Text, Value, Key, value_of_key, Nothing, Truth, Int, Str, Bytes, Provided, Function, Range, Tuple, Class, Module, Queue, Interpreter, Exec, Address, BuiltIn, Print, MakeRange, MakeStr, Repr, Len, MakeBool, Abs, MakeInt, Ord, Chr, Min, Max, MakeBytes, MakeTuple, MakeList, Object}

-- the most characters of a str, and the most bytes of bytes (this project's own)
abbrev pub max_length : ℕ
max_length = 1048576

-- two texts have the same characters
abbrev pub same_text : Text → Text → Bool
same_text [] [] = true
same_text [] (d ∷ ds) = false
same_text (c ∷ cs) [] = false
same_text (c ∷ cs) (d ∷ ds) = nat_eq c d && same_text cs ds

-- the repr of a str
abbrev pub repr_text : Text → Text
repr_text s = plain.repr_of s

-- an integer in decimal, with a minus sign below 0
abbrev pub decimal : ℤ → Text
decimal i = signed_decimal i

-- integers are equal
abbrev pub same_int : ℤ → ℤ → Bool
same_int i j = int_le i j && int_le j i

-- the name of a built-in
abbrev pub built_in_name : BuiltIn → Text
built_in_name Print = codes "print"
built_in_name MakeRange = codes "range"
built_in_name MakeStr = codes "str"
built_in_name Repr = codes "repr"
built_in_name Len = codes "len"
built_in_name MakeBool = codes "bool"
built_in_name Abs = codes "abs"
built_in_name MakeInt = codes "int"
built_in_name Ord = codes "ord"
built_in_name Chr = codes "chr"
built_in_name Min = codes "min"
built_in_name Max = codes "max"
built_in_name MakeBytes = codes "bytes"
built_in_name MakeTuple = codes "tuple"
built_in_name MakeList = codes "list"

-- the name to which an import binds a module (Language Reference, 7.11)
abbrev pub module_name : ModuleName → Text
module_name Threading = codes "threading"
module_name Interpreters = codes "interpreters"

-- the name of a module (Language Reference, 5.3)
abbrev pub full_name : ModuleName → Text
full_name Threading = codes "threading"
full_name Interpreters = codes "concurrent.interpreters"

-- a kind, and the message where there is one (this project's own)
abbrev pub kind_and_message : Kind → Text → Text
kind_and_message k [] = name_of k
kind_and_message k (c ∷ cs) = name_of k ++ (codes ": " ++ c ∷ cs)

-- the repr of a range: its step is left out where it is 1
abbrev pub repr_range : ℤ → ℤ → ℤ → Text
repr_range a b c =
    codes "range(" ++ decimal a ++ codes ", " ++ decimal b ++ (if same_int c (pos 1) then codes ")" else codes ", " ++ decimal c ++ codes ")")

-- the repr of a value that holds none
abbrev pub repr_atom : Value → Text
repr_atom Nothing = codes "None"
repr_atom (Truth true) = codes "True"
repr_atom (Truth false) = codes "False"
repr_atom (Int i) = decimal i
repr_atom (Str s) = repr_text s
repr_atom (Bytes bs) = plain.bytes_repr_of bs
repr_atom (Provided b) = codes "<built-in " ++ built_in_name b ++ codes ">"
repr_atom (Function f k) = codes "<function " ++ f ++ codes ">"
repr_atom (Range a b c) = repr_range a b c
repr_atom (Tuple vs) = []
repr_atom (Class k) = codes "<class '" ++ name_of k ++ codes "'>"
repr_atom (Module m) = codes "<module '" ++ full_name m ++ codes "'>"
repr_atom (Queue q m) = codes "Queue(" ++ decimal (pos q) ++ codes ")"
repr_atom (Interpreter i) = codes "Interpreter(" ++ decimal (pos i) ++ codes ")"
repr_atom (Exec i) = codes "<exec of Interpreter(" ++ decimal (pos i) ++ codes ")>"
repr_atom (Address x) = []

-- what is written of a value: all of it, or what stands before the first place where values are too deep within each other
pub data Written : Type 0 where
  Whole : Text → Written
  Broken : Text → Written

-- after a text
abbrev pub after : Text → Written → Written
after t (Whole u) = Whole (t ++ u)
after t (Broken u) = Broken (t ++ u)

-- one after the other
abbrev pub followed : Written → Written → Written
followed (Whole t) w = after t w
followed (Broken t) w = Broken t

-- between an opening and a closing text
abbrev pub between : Text → Written → Text → Written
between opening w closing = after opening (followed w (Whole closing))

-- items, each with a comma and a space before it
abbrev pub rest_by : {A : Type 0} → (A → Written) → List A → Written
rest_by repr [] = Whole []
rest_by repr (v ∷ vs) = after (codes ", ") (followed (repr v) (rest_by repr vs))

-- items, with a comma and a space between them
abbrev pub items_by : {A : Type 0} → (A → Written) → List A → Written
items_by repr [] = Whole []
items_by repr (v ∷ vs) = followed (repr v) (rest_by repr vs)

-- what stands after the items of a tuple: a comma after an only one (Language Reference, 6.15)
abbrev pub tuple_end : List Value → Text
tuple_end (v ∷ []) = codes ",)"
tuple_end _ = codes ")"

-- the values that an exception holds
abbrev pub argument_of : Option Value → List Value
argument_of None = []
argument_of (Some v) = v ∷ []

-- the repr of a pair of a dict, by that of its value: the key, a colon and the value
abbrev pub pair_by : (Value → Written) → Key × Value → Written
pair_by repr p = after (repr_atom (value_of_key p.0) ++ codes ": ") (repr p.1)

-- an address is one of these
abbrev pub is_inside : ℕ → List ℕ → Bool
is_inside x [] = false
is_inside x (y ∷ ys) = nat_eq x y || is_inside x ys

-- what is written in the place of a list or a dict: something short where it is inside itself (Standard Library, "reprlib")
abbrev pub unless_inside : ℕ → List ℕ → Text → Written → Written
unless_inside x inside short repr = if is_inside x inside then Whole short else repr

-- How the parts of a value are written: values in a row between two texts, and the pairs of a dict, both where these lists
-- and dicts are being written.
pub record Parts : Type 0 where
  pub row : (inside : List ℕ) → Text → List Value → Text → Written
  pub pairs : (inside : List ℕ) → List (Key × Value) → Written

-- the repr of an opened value, by how its parts are written, inside these lists and dicts: of a tuple and of a list the
-- items in brackets (Language Reference, 6.2.4 and 6.2.5), of a dict its pairs (6.2.7), of an exception its kind, and its
-- argument in brackets (Standard Library, "Built-in Exceptions")
abbrev pub repr_opened : Parts → (inside : List ℕ) → Opened → Written
repr_opened parts inside (Atom v) = Whole (repr_atom v)
repr_opened parts inside (InTuple vs) = parts.row inside (codes "(") vs (tuple_end vs)
repr_opened parts inside (InList x vs) = unless_inside x inside (codes "[...]") (parts.row (x ∷ inside) (codes "[") vs (codes "]"))
repr_opened parts inside (InDict x ps) = unless_inside x inside (codes "{...}") (parts.pairs (x ∷ inside) ps)
repr_opened parts inside (InException x k a) = parts.row inside (name_of k ++ codes "(") (argument_of a) (codes ")")
repr_opened parts inside (InThread x) = Whole (codes "<Thread>")
repr_opened parts inside Nowhere = Broken []

-- parts that are too deep to be written
abbrev pub too_deep : Parts
too_deep = record { row = λ inside opening vs closing. Broken []; pairs = λ inside ps. Broken [] }

-- parts that are written by the repr of a value
abbrev pub parts_by : ((inside : List ℕ) → Value → Written) → Parts
parts_by repr = record {
  row = λ inside opening vs closing. between opening (items_by (repr inside) vs) closing;
  pairs = λ inside ps. between (codes "{") (items_by (pair_by (repr inside)) ps) (codes "}");
}

-- the repr of a value inside these lists and dicts, where tuples and objects are within each other at most so deep
abbrev pub repr_of : ℕ → List Object → (inside : List ℕ) → Value → Written
repr_of zero store inside v = repr_opened too_deep inside (opened store v)
repr_of (suc n) store inside v = repr_opened (parts_by (repr_of n store)) inside (opened store v)

-- the str of an exception: that of its argument, of a KeyError the repr of its argument; empty without one
abbrev pub str_exception : (repr str : Value → Written) → Kind → Option Value → Written
str_exception repr str k None = Whole []
str_exception repr str KeyError (Some v) = repr v
str_exception repr str k (Some v) = str v

-- the str of an opened value, by that of an exception and by its repr: a str is its own
abbrev pub str_opened : (Kind → Option Value → Written) → Written → Opened → Written
str_opened exception repr (Atom (Str s)) = Whole s
str_opened exception repr (InException x k a) = exception k a
str_opened exception repr _ = repr

-- the str of a value, where tuples and objects are within each other at most so deep
abbrev pub str_of : ℕ → List Object → Value → Written
str_of zero store v = str_opened (λ k a. Broken []) (repr_of zero store [] v) (opened store v)
str_of (suc n) store v = str_opened (str_exception (repr_of n store []) (str_of n store)) (repr_of (suc n) store [] v) (opened store v)

-- the most tuples and objects within each other that are written or compared (this project's own)
abbrev pub max_nested : ℕ
max_nested = 200

-- a text that was written, or why it can't be: of too long for a str and too deep what is met first from the left, and too
-- deep where both are met at one place (this project's own)
abbrev pub written : Written → Result Text Kind
written (Whole t) = if nat_lt max_length (length t) then Err OverflowError else Ok t
written (Broken t) = if nat_lt max_length (length t) then Err OverflowError else Err RecursionError

-- the str and the repr of a value, in this store
abbrev pub str_in : List Object → Value → Result Text Kind
str_in store v = written (str_of max_nested store v)

abbrev pub repr_in : List Object → Value → Result Text Kind
repr_in store v = written (repr_of max_nested store [] v)

-- the message of an exception that leaves a run: its str, where there is one (this project's own)
abbrev pub message_of : Result Text Kind → Text
message_of (Ok t) = t
message_of (Err k) = codes "<exception str() failed>"

-- a text, then the str of values with a space before each, and a newline; the first that can't be written decides
abbrev pub line_after : List Object → Text → List Value → Result Text Kind
line_after store t [] = Ok (t ++ 10 ∷ [])
line_after store t (v ∷ vs) = elim (str_in store v) [ Err k ↦ Err k | Ok u ↦ elim (line_after store u vs) [ Err k ↦ Err k | Ok rest ↦ Ok (t ++ 32 ∷ rest) ] ]

-- the str of values, joined by spaces, and a newline; the first that can't be written decides (Standard Library,
-- "Built-in Functions": print)
abbrev pub line_of : List Object → List Value → Result Text Kind
line_of store [] = Ok (10 ∷ [])
line_of store (v ∷ vs) = elim (str_in store v) [ Err k ↦ Err k | Ok t ↦ line_after store t vs ]
