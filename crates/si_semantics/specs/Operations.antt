-- What operations on values do (Python Language Reference 3.14, 6.5 to 6.10, 7.8, 8.3 and 8.4). They never see answers.
use Rattle.std.specs.Prelude.{codes, ℕ, zero, suc, ◌+◌, ◌-◌, ◌*◌, ◌/◌, ◌%◌, ◌-ℤ◌, ◌+ℤ◌, ℤ, pos, negsuc, unsigned_abs, int_lt, List, [], ◌∷◌, ◌++◌, length, Bool, true, false, not, ◌&&◌, ◌||◌, Option, Some, None, option_map, is_some, Result, Ok, Err, nat_lt, nat_eq, slice_get, if◌then◌else◌}
use Rattle.si_plain.specs.declared.kind.Kind.{Kind}
use Rattle.si_plain.specs.declared.kind.Kind.TheVariants.{BaseException, Exception, ArithmeticError, OverflowError, ZeroDivisionError, AttributeError, LookupError, IndexError, KeyError, NameError, UnboundLocalError, RuntimeError, RecursionError, SyntaxError, TypeError, ValueError}
use Rattle.si_plain.specs.Kinds.{name_of, same_kind, is_a}
use Rattle.si_plain.specs.declared.modules.ModuleName.{ModuleName}
use Rattle.si_plain.specs.declared.modules.ModuleName.TheVariants.{Threading, Interpreters}
use Rattle.si_plain.specs.Integers.{in_range, sum_of, difference_of, product_of, floor_quotient, floor_remainder, power_result, negative_of, shifted_left, shifted_right, inverted, bits_and, bits_or, bits_xor}
use Rattle.si_semantics.specs.Value.{Text, Value, NoValues, Nothing, Truth, Int, Str, Bytes, Provided, Function, Range, Tuple, Class, Module, Queue, Interpreter, Exec, Address, BuiltIn, Print, MakeRange, MakeStr, Repr, Len, MakeBool, Abs, MakeInt, Ord, Chr, Min, Max, MakeTuple, MakeBytes, MakeList, Key, Object, items_of, tuple_of}
use Rattle.si_semantics.specs.Value as value
use Rattle.si_semantics.specs.Tree as tree
use Rattle.si_semantics.specs.Tree.{BinaryOperator, UnaryOperator, ComparisonOperator}
use Rattle.si_semantics.specs.Text.{max_length, max_nested, built_in_name, same_text, same_int, str_in, repr_in, line_of}
use Rattle.si_semantics.specs.Tuples.{is_too_large, characters_in, numbers_in, integers_in, copies, repeated_items}
use Rattle.si_semantics.specs.Dicts.{key_of, value_at, keys_in}
use Rattle.si_semantics.specs.Numerals.{read_integer}
use Rattle.si_semantics.specs.Literals.{is_character}
use Rattle.si_semantics.specs.Parts.{is_part}
use Rattle.si_semantics.specs.World.{World, Ran, Gave, Threw}

-- a new exception of a kind with an argument, by its address, and the world with it
abbrev pub exception : Kind → Option Value → World → ℕ × World
exception k a w = (length w.store, record w { store = w.store ++ value.Exception k a ∷ [] })

-- a value, and nothing is printed
abbrev pub gave : Value → World → Ran
gave v w = Gave v None w

-- a new object, by its address
abbrev pub placed : Object → World → Ran
placed o w = gave (Address (length w.store)) (record w { store = w.store ++ o ∷ [] })

-- an exception with a message
abbrev pub refused : Kind → Text → World → Ran
refused k message w = Threw k (Some (Str message)) w

-- past the most characters or bytes (this project's own)
abbrev pub too_long : World → Ran
too_long w = refused OverflowError (codes "too long") w

-- operands of a wrong kind (this project's own message)
abbrev pub wrong_type : World → Ran
wrong_type w = refused TypeError (codes "wrong type") w

-- an exception whose message may be too long for a str; then that is raised in its place (this project's own)
abbrev pub refused_within : Kind → Text → World → Ran
refused_within k message w = if nat_lt max_length (length message) then too_long w else refused k message w

-- a str, where it is not too long (this project's own)
abbrev pub within : Text → World → Ran
within s w = if nat_lt max_length (length s) then too_long w else gave (Str s) w

-- bytes, where they are not too many (this project's own)
abbrev pub bytes_within : List ℕ → World → Ran
bytes_within bs w = if nat_lt max_length (length bs) then too_long w else gave (Bytes bs) w

-- the message with which arithmetic refuses (this project's own)
abbrev pub arithmetic_message : Kind → Text
arithmetic_message ZeroDivisionError = codes "division by zero"
arithmetic_message OverflowError = codes "integer out of range"
arithmetic_message ValueError = codes "wrong value"
arithmetic_message _ = codes "wrong type"

-- what an operation on integers gives
abbrev pub integer : Result ℤ Kind → World → Ran
integer (Ok i) w = gave (Int i) w
integer (Err k) w = refused k (arithmetic_message k) w

-- a text, or bytes, so many times
abbrev pub times : ℕ → Text → Text
times zero s = []
times (suc n) s = s ++ times n s

-- a text repeated, below 0 as 0 (Standard Library, "Built-in Types": common sequence operations)
abbrev pub repeated : Text → ℤ → World → Ran
repeated s (pos n) w = elim (nat_lt max_length (n * length s)) [ true ↦ too_long w | false ↦ gave (Str (times n s)) w ]
repeated s (negsuc n) w = gave (Str []) w

-- bytes repeated, below 0 as 0 (Standard Library, "Built-in Types": common sequence operations)
abbrev pub bytes_repeated : List ℕ → ℤ → World → Ran
bytes_repeated bs (pos n) w = elim (nat_lt max_length (n * length bs)) [ true ↦ too_long w | false ↦ gave (Bytes (times n bs)) w ]
bytes_repeated bs (negsuc n) w = gave (Bytes []) w

-- an operator between integers (Language Reference, 6.5 and 6.7 to 6.9)
abbrev pub operate_integers : BinaryOperator → ℤ → ℤ → Result ℤ Kind
operate_integers tree.Add i j = sum_of i j
operate_integers tree.Subtract i j = difference_of i j
operate_integers tree.Multiply i j = product_of i j
operate_integers tree.FloorDivide i j = floor_quotient i j
operate_integers tree.Modulo i j = floor_remainder i j
operate_integers tree.Power i j = power_result i j
operate_integers tree.BitOr i j = Ok (bits_or i j)
operate_integers tree.BitXor i j = Ok (bits_xor i j)
operate_integers tree.BitAnd i j = Ok (bits_and i j)
operate_integers tree.ShiftLeft i j = shifted_left i j
operate_integers tree.ShiftRight i j = shifted_right i j

-- True counts as 1 and False as 0 (Language Reference, 3.2)
abbrev pub int_of_truth : Bool → ℤ
int_of_truth true = pos 1
int_of_truth false = pos 0

-- one of two is true and the other is not
abbrev pub differ : Bool → Bool → Bool
differ true b = not b
differ false b = b

-- an operator between two of True and False: `|`, `^` and `&` give one of them (Language Reference, 6.9)
abbrev pub operate_truths : BinaryOperator → Bool → Bool → World → Ran
operate_truths tree.BitOr a b w = gave (Truth (a || b)) w
operate_truths tree.BitXor a b w = gave (Truth (differ a b)) w
operate_truths tree.BitAnd a b w = gave (Truth (a && b)) w
operate_truths o a b w = integer (operate_integers o (int_of_truth a) (int_of_truth b)) w

-- a tuple of these items, where it is not too large (this project's own)
abbrev pub tuple_within : List Value → World → Ran
tuple_within vs w = if is_too_large (tuple_of vs) then too_long w else gave (tuple_of vs) w

-- a new list of these items, where they are not too many (this project's own)
abbrev pub list_within : List Value → World → Ran
list_within vs w = if nat_lt max_length (length vs) then too_long w else placed (value.Items vs) w

-- two objects joined: two lists in a new one
abbrev pub joined_objects : Option Object → Option Object → World → Ran
joined_objects (Some (value.Items us)) (Some (value.Items vs)) w = list_within (us ++ vs) w
joined_objects _ _ w = wrong_type w

-- items so many times in a new list, below 0 as none
abbrev pub list_repeated : List Value → ℤ → World → Ran
list_repeated vs (pos n) w = elim (nat_lt max_length (n * length vs)) [ true ↦ too_long w | false ↦ placed (value.Items (copies n vs)) w ]
list_repeated vs (negsuc n) w = placed (value.Items []) w

-- an object repeated: a list in a new one
abbrev pub repeated_object : Option Object → ℤ → World → Ran
repeated_object (Some (value.Items vs)) i w = list_repeated vs i w
repeated_object _ i w = wrong_type w

-- an operator between two values (Language Reference, 6.5 and 6.7 to 6.9)
abbrev pub operate : BinaryOperator → Value → Value → World → Ran
operate o (Int i) (Int j) w = integer (operate_integers o i j) w
operate o (Int i) (Truth b) w = integer (operate_integers o i (int_of_truth b)) w
operate o (Truth a) (Int j) w = integer (operate_integers o (int_of_truth a) j) w
operate o (Truth a) (Truth b) w = operate_truths o a b w
operate tree.Add (Str s) (Str t) w = within (s ++ t) w
operate tree.Multiply (Str s) (Int j) w = repeated s j w
operate tree.Multiply (Str s) (Truth b) w = repeated s (int_of_truth b) w
operate tree.Multiply (Int i) (Str t) w = repeated t i w
operate tree.Multiply (Truth a) (Str t) w = repeated t (int_of_truth a) w
operate tree.Add (Bytes s) (Bytes t) w = bytes_within (s ++ t) w
operate tree.Multiply (Bytes s) (Int j) w = bytes_repeated s j w
operate tree.Multiply (Bytes s) (Truth b) w = bytes_repeated s (int_of_truth b) w
operate tree.Multiply (Int i) (Bytes t) w = bytes_repeated t i w
operate tree.Multiply (Truth a) (Bytes t) w = bytes_repeated t (int_of_truth a) w
operate tree.Add (Tuple us) (Tuple vs) w = tuple_within (items_of us ++ items_of vs) w
operate tree.Multiply (Tuple us) (Int j) w = tuple_within (repeated_items (items_of us) j) w
operate tree.Multiply (Tuple us) (Truth b) w = tuple_within (repeated_items (items_of us) (int_of_truth b)) w
operate tree.Multiply (Int i) (Tuple vs) w = tuple_within (repeated_items (items_of vs) i) w
operate tree.Multiply (Truth a) (Tuple vs) w = tuple_within (repeated_items (items_of vs) (int_of_truth a)) w
operate tree.Add (Address x) (Address y) w = joined_objects (slice_get w.store x) (slice_get w.store y) w
operate tree.Multiply (Address x) (Int j) w = repeated_object (slice_get w.store x) j w
operate tree.Multiply (Address x) (Truth b) w = repeated_object (slice_get w.store x) (int_of_truth b) w
operate tree.Multiply (Int i) (Address y) w = repeated_object (slice_get w.store y) i w
operate tree.Multiply (Truth a) (Address y) w = repeated_object (slice_get w.store y) (int_of_truth a) w
operate _ _ _ w = wrong_type w

-- an item of a range lies before its stop, the way that the step goes (Standard Library, "Built-in Types": ranges)
abbrev pub is_item : (at stop step : ℤ) → Bool
is_item at stop (pos c) = int_lt at stop
is_item at stop (negsuc c) = int_lt stop at

-- how many items a range has: those from its start on, a step apart, before its stop
abbrev pub range_length : (start stop step : ℤ) → ℕ
range_length a b (pos c) = if int_lt a b then (unsigned_abs (b -ℤ a) - 1) / c + 1 else 0
range_length a b (negsuc c) = if int_lt b a then (unsigned_abs (a -ℤ b) - 1) / (c + 1) + 1 else 0

-- an integer is an item of a range: it lies not before its start and before its stop, the way that the step goes, and a
-- whole number of steps from its start
abbrev pub is_among : (at start stop step : ℤ) → Bool
is_among i a b c = not (is_item i a c) && (is_item i b c && nat_eq (unsigned_abs (i -ℤ a) % unsigned_abs c) 0)

-- an object counts as true: not a list without items, nor a dict without keys
abbrev pub is_true_object : Option Object → Bool
is_true_object (Some (value.Items [])) = false
is_true_object (Some (value.Pairs [])) = false
is_true_object _ = true

-- whether a value counts as true in a world (Standard Library, "Built-in Types": truth value testing)
abbrev pub is_true : Value → World → Bool
is_true Nothing w = false
is_true (Truth b) w = b
is_true (Int (pos zero)) w = false
is_true (Str []) w = false
is_true (Bytes []) w = false
is_true (Range a b c) w = is_item a b c
is_true (Tuple NoValues) w = false
is_true (Address x) w = is_true_object (slice_get w.store x)
is_true _ w = true

-- an operator before a value (Language Reference, 6.6; `not`: 6.11)
abbrev pub operate_unary : UnaryOperator → Value → World → Ran
operate_unary tree.Not v w = gave (Truth (not (is_true v w))) w
operate_unary tree.Plus (Int i) w = gave (Int i) w
operate_unary tree.Plus (Truth a) w = gave (Int (int_of_truth a)) w
operate_unary tree.Minus (Int i) w = integer (negative_of i) w
operate_unary tree.Minus (Truth a) w = integer (negative_of (int_of_truth a)) w
operate_unary tree.Invert (Int i) w = gave (Int (inverted i)) w
operate_unary tree.Invert (Truth a) w = gave (Int (inverted (int_of_truth a))) w
operate_unary _ _ w = wrong_type w

-- a text comes before another: at the first character that differs, or where it ends, a longer one goes on (6.10.1)
abbrev pub is_before : Text → Text → Bool
is_before [] [] = false
is_before [] (d ∷ ds) = true
is_before (c ∷ cs) [] = false
is_before (c ∷ cs) (d ∷ ds) = nat_lt c d || (nat_eq c d && is_before cs ds)

-- two built-ins have one name
abbrev pub same_built_in : BuiltIn → BuiltIn → Bool
same_built_in Print Print = true
same_built_in MakeRange MakeRange = true
same_built_in MakeStr MakeStr = true
same_built_in Repr Repr = true
same_built_in Len Len = true
same_built_in MakeBool MakeBool = true
same_built_in Abs Abs = true
same_built_in MakeInt MakeInt = true
same_built_in Ord Ord = true
same_built_in Chr Chr = true
same_built_in Min Min = true
same_built_in Max Max = true
same_built_in MakeBytes MakeBytes = true
same_built_in MakeTuple MakeTuple = true
same_built_in MakeList MakeList = true
same_built_in _ _ = false

-- two modules have one name
abbrev pub same_module : ModuleName → ModuleName → Bool
same_module Threading Threading = true
same_module Interpreters Interpreters = true
same_module _ _ = false

-- two ranges have the same items (Standard Library, "Built-in Types": ranges)
abbrev pub same_range : (a b c d e f : ℤ) → Bool
same_range a b c d e f =
    let n = range_length a b c in nat_eq n (range_length d e f) && (nat_eq n 0 || (same_int a d && (nat_eq n 1 || same_int c f)))

-- How the parts of two values are compared: the items of two sequences, and the pairs of two dicts.
pub record Compared : Type 0 where
  pub items : List Value → List Value → Result Bool Kind
  pub pairs : List (Key × Value) → List (Key × Value) → Result Bool Kind

-- `==` of two objects at different addresses: two lists by their items, two dicts by their pairs; others are unequal
abbrev pub equal_objects : Compared → Option Object → Option Object → Result Bool Kind
equal_objects parts (Some (value.Items us)) (Some (value.Items vs)) = parts.items us vs
equal_objects parts (Some (value.Pairs ps)) (Some (value.Pairs qs)) = parts.pairs ps qs
equal_objects parts _ _ = Ok false

-- `==` of two values, by that of their parts: integers, True and False by their values, str by their
-- characters, bytes by theirs, ranges by their items, tuples and lists by their items, dicts by their pairs, built-ins, kinds and
-- modules by name, queues, interpreters and their `exec` by number, exceptions and threads by address, None is equal to
-- itself, and so is what has one address; what is of different kinds is unequal (Language Reference, 6.10.1); two functions
-- are not compared (this project's own)
abbrev pub equal_by : Compared → Value → Value → World → Result Bool Kind
equal_by parts Nothing Nothing w = Ok true
equal_by parts (Int i) (Int j) w = Ok (same_int i j)
equal_by parts (Int i) (Truth b) w = Ok (same_int i (int_of_truth b))
equal_by parts (Truth a) (Int j) w = Ok (same_int (int_of_truth a) j)
equal_by parts (Truth a) (Truth b) w = Ok (not (differ a b))
equal_by parts (Str s) (Str t) w = Ok (same_text s t)
equal_by parts (Bytes s) (Bytes t) w = Ok (same_text s t)
equal_by parts (Provided f) (Provided g) w = Ok (same_built_in f g)
equal_by parts (Function f k) (Function g l) w = Err TypeError
equal_by parts (Range a b c) (Range d e f) w = Ok (same_range a b c d e f)
equal_by parts (Tuple us) (Tuple vs) w = parts.items (items_of us) (items_of vs)
equal_by parts (Class k) (Class l) w = Ok (same_kind k l)
equal_by parts (Module m) (Module n) w = Ok (same_module m n)
equal_by parts (Queue q m) (Queue r n) w = Ok (nat_eq q r)
equal_by parts (Interpreter i) (Interpreter j) w = Ok (nat_eq i j)
equal_by parts (Exec i) (Exec j) w = Ok (nat_eq i j)
equal_by parts (Address x) (Address y) w = if nat_eq x y then Ok true else equal_objects parts (slice_get w.store x) (slice_get w.store y)
equal_by parts _ _ w = Ok false

-- where what came first is equal, what comes after it decides
abbrev pub and_then : Result Bool Kind → Result Bool Kind → Result Bool Kind
and_then (Ok true) rest = rest
and_then decided rest = decided

-- items from the left, up to the first that are not equal
abbrev pub each_equal : (Value → Value → Result Bool Kind) → List Value → List Value → Result Bool Kind
each_equal equal [] [] = Ok true
each_equal equal (u ∷ us) (v ∷ vs) = and_then (equal u v) (each_equal equal us vs)
each_equal equal _ _ = Ok false

-- the items of two sequences: those of different lengths are not compared (Language Reference, 6.10.1)
abbrev pub items_equal : (Value → Value → Result Bool Kind) → List Value → List Value → Result Bool Kind
items_equal equal us vs = if nat_eq (length us) (length vs) then each_equal equal us vs else Ok false

-- a value is equal to that of a key, where the key is there
abbrev pub equal_found : (Value → Value → Result Bool Kind) → Value → Option Value → Result Bool Kind
equal_found equal u (Some v) = equal u v
equal_found equal u None = Ok false

-- each key of the first is in the second, with an equal value, up to the first of which that is not so
abbrev pub each_found : (Value → Value → Result Bool Kind) → List (Key × Value) → List (Key × Value) → Result Bool Kind
each_found equal [] qs = Ok true
each_found equal (p ∷ ps) qs = and_then (equal_found equal p.1 (value_at p.0 qs)) (each_found equal ps qs)

-- the pairs of two dicts: those of different lengths are not compared (Language Reference, 6.10.1)
abbrev pub pairs_equal : (Value → Value → Result Bool Kind) → List (Key × Value) → List (Key × Value) → Result Bool Kind
pairs_equal equal ps qs = if nat_eq (length ps) (length qs) then each_found equal ps qs else Ok false

-- parts that are too deep to be compared
abbrev pub not_compared : Compared
not_compared = record { items = λ us vs. Err RecursionError; pairs = λ ps qs. Err RecursionError }

-- parts that are compared by `==` of two values
abbrev pub compared_by : (Value → Value → Result Bool Kind) → Compared
compared_by equal = record { items = items_equal equal; pairs = pairs_equal equal }

-- `==`, where tuples, lists and dicts are within each other at most so deep (this project's own)
abbrev pub equal_within : ℕ → Value → Value → World → Result Bool Kind
equal_within zero u v w = equal_by not_compared u v w
equal_within (suc n) u v w = equal_by (compared_by (λ a b. equal_within n a b w)) u v w

-- `==` (Language Reference, 6.10.1)
abbrev pub are_equal : Value → Value → World → Result Bool Kind
are_equal u v w = equal_within max_nested u v w

-- `is`: None, True and False are each itself and nothing else (Language Reference, 6.10.3); the grammar lets nothing
-- else stand after it
abbrev pub is_same : Value → Value → Bool
is_same Nothing Nothing = true
is_same (Truth a) (Truth b) = not (differ a b)
is_same _ _ = false

-- `<`: two integers, where True and False count as 1 and 0, two str, or two bytes; no others have an order (Language
-- Reference, 6.10.1)
abbrev pub is_less : Value → Value → World → Result Bool Kind
is_less (Int i) (Int j) w = Ok (int_lt i j)
is_less (Int i) (Truth b) w = Ok (int_lt i (int_of_truth b))
is_less (Truth a) (Int j) w = Ok (int_lt (int_of_truth a) j)
is_less (Truth a) (Truth b) w = Ok (int_lt (int_of_truth a) (int_of_truth b))
is_less (Str s) (Str t) w = Ok (is_before s t)
is_less (Bytes s) (Bytes t) w = Ok (is_before s t)
is_less _ _ w = Err TypeError

-- an integer is among bytes; one that can't be a byte has the wrong value
abbrev pub is_byte_in : List ℕ → ℤ → Result Bool Kind
is_byte_in bs (pos n) = if nat_lt n 256 then Ok (is_part bs (n ∷ [])) else Err ValueError
is_byte_in bs (negsuc n) = Err ValueError

-- where what came first is not equal, what comes after it decides
abbrev pub or_later : Result Bool Kind → Result Bool Kind → Result Bool Kind
or_later (Ok false) rest = rest
or_later decided rest = decided

-- a value is equal to one of these: it is asked whether it is equal to each, from the left
abbrev pub is_any_of : List Value → Value → World → Result Bool Kind
is_any_of [] v w = Ok false
is_any_of (u ∷ us) v w = or_later (are_equal v u w) (is_any_of us v w)

-- a value is a key of a dict, where it can be one
abbrev pub is_key : Option Key → List (Key × Value) → Result Bool Kind
is_key (Some k) ps = Ok (is_some (value_at k ps))
is_key None ps = Err TypeError

-- an object contains a value: a list its items, a dict its keys
abbrev pub object_contains : Option Object → Value → World → Result Bool Kind
object_contains (Some (value.Items us)) v w = is_any_of us v w
object_contains (Some (value.Pairs ps)) v w = is_key (key_of v) ps
object_contains _ v w = Err TypeError

-- `v in u`: of a str its parts, which are str; of bytes their parts, which are bytes, and each of them; of a range, a tuple and
-- a list their items; of a dict its keys. True and False count as 1 and 0, and what is no integer is no item of a range. No
-- other value has any (Language Reference, 6.10.2)
abbrev pub contains : (whole : Value) → Value → World → Result Bool Kind
contains (Str s) (Str t) w = Ok (is_part s t)
contains (Bytes s) (Bytes t) w = Ok (is_part s t)
contains (Bytes s) (Int i) w = is_byte_in s i
contains (Bytes s) (Truth t) w = is_byte_in s (int_of_truth t)
contains (Range a b c) (Int i) w = Ok (is_among i a b c)
contains (Range a b c) (Truth t) w = Ok (is_among (int_of_truth t) a b c)
contains (Range a b c) _ w = Ok false
contains (Tuple us) v w = is_any_of (items_of us) v w
contains (Address x) v w = object_contains (slice_get w.store x) v w
contains _ _ w = Err TypeError

-- the message with which a comparison refuses (this project's own)
abbrev pub comparison_message : Kind → Text
comparison_message RecursionError = codes "too deep"
comparison_message ValueError = codes "wrong value"
comparison_message _ = codes "wrong type"

-- the truth that a comparison gives, or why it refuses
abbrev pub truth : Result Bool Kind → World → Ran
truth (Ok b) w = gave (Truth b) w
truth (Err k) w = refused k (comparison_message k) w

-- the opposite of what a comparison gives
abbrev pub opposite : Result Bool Kind → Result Bool Kind
opposite (Ok b) = Ok (not b)
opposite (Err k) = Err k

-- a comparison of two values (Language Reference, 6.10)
abbrev pub compare : ComparisonOperator → Value → Value → World → Ran
compare tree.Less u v w = truth (is_less u v w) w
compare tree.Greater u v w = truth (is_less v u w) w
compare tree.LessEqual u v w = truth (opposite (is_less v u w)) w
compare tree.GreaterEqual u v w = truth (opposite (is_less u v w)) w
compare tree.Equal u v w = truth (are_equal u v w) w
compare tree.NotEqual u v w = truth (opposite (are_equal u v w)) w
compare tree.Is u v w = gave (Truth (is_same u v)) w
compare tree.IsNot u v w = gave (Truth (not (is_same u v))) w
compare tree.In u v w = truth (contains v u w) w
compare tree.NotIn u v w = truth (opposite (contains v u w)) w

-- the kinds that have built-in names (Standard Library, "Built-in Exceptions")
abbrev pub built_in_kinds : List Kind
built_in_kinds =
    BaseException ∷ Exception ∷ ArithmeticError ∷ OverflowError ∷ ZeroDivisionError ∷ AttributeError ∷ LookupError ∷ IndexError ∷ KeyError ∷ NameError
    ∷ UnboundLocalError ∷ RuntimeError ∷ RecursionError ∷ SyntaxError ∷ TypeError ∷ ValueError ∷ []

-- the kind of a name among these
abbrev pub kind_named : Text → List Kind → Option Kind
kind_named x [] = None
kind_named x (k ∷ ks) = if same_text x (name_of k) then Some k else kind_named x ks

-- the built-ins that are no kinds (Standard Library, "Built-in Functions"), this project's own choice among them
abbrev pub built_ins : List BuiltIn
built_ins =
    Print ∷ MakeRange ∷ MakeStr ∷ Repr ∷ Len ∷ MakeBool ∷ Abs ∷ MakeInt ∷ Ord ∷ Chr ∷ Min ∷ Max ∷ MakeBytes ∷ MakeTuple ∷ MakeList ∷ []

-- the built-in of a name among these
abbrev pub built_in_named : Text → List BuiltIn → Option BuiltIn
built_in_named x [] = None
built_in_named x (b ∷ bs) = if same_text x (built_in_name b) then Some b else built_in_named x bs

-- the first of two that is there
abbrev pub or_else : Option Value → Option Value → Option Value
or_else (Some v) other = Some v
or_else None other = other

-- the value of a built-in name (Language Reference, 4.2.2)
abbrev pub built_in : Text → Option Value
built_in x = or_else (option_map Provided (built_in_named x built_ins)) (option_map Class (kind_named x built_in_kinds))

-- the value of a name, where there is one
abbrev pub found : Text → Option Value → World → Ran
found x (Some v) w = gave v w
found x None w = refused_within NameError (codes "name " ++ (x ++ codes " is not defined")) w

-- a name that is not local: a global one, else a built-in one (Language Reference, 4.2.2)
abbrev pub load_global : Text → World → Ran
load_global x w = found x (or_else (w.globals x) (built_in x)) w

-- the value of a local name, where it is bound (Language Reference, 4.2.2)
abbrev pub load_local : Text → Option Value → World → Ran
load_local x (Some v) w = gave v w
load_local x None w = refused_within UnboundLocalError (codes "local " ++ (x ++ codes " is not bound")) w

-- a call with arguments that do not fit (Language Reference, 6.3.3; the message is this project's own)
abbrev pub wrong_arguments : World → Ran
wrong_arguments w = refused TypeError (codes "wrong arguments") w

-- a call of what can't be called (Language Reference, 6.3.3; the message is this project's own)
abbrev pub not_callable : World → Ran
not_callable w = refused TypeError (codes "not callable") w

-- one call too many within each other (this project's own)
abbrev pub too_deep : World → Ran
too_deep w = refused RecursionError (codes "too deep") w

-- the message about a text that can't be written (this project's own)
abbrev pub text_message : Kind → Text
text_message RecursionError = codes "too deep"
text_message _ = codes "too long"

-- a str that was written, or why it can't be
abbrev pub text : Result Text Kind → World → Ran
text (Ok t) w = gave (Str t) w
text (Err k) w = refused k (text_message k) w

-- a line that is printed, or why it can't be
abbrev pub printing : Result Text Kind → World → Ran
printing (Ok t) w = Gave Nothing (Some t) w
printing (Err k) w = refused k (text_message k) w

-- an integer, or what True and False count as
abbrev pub integer_in : Value → Option ℤ
integer_in (Int i) = Some i
integer_in (Truth b) = Some (int_of_truth b)
integer_in _ = None

-- a range from integers, whose step is not 0 (Standard Library, "Built-in Types": ranges; the message is this project's
-- own)
abbrev pub range_of : (start stop step : Option ℤ) → World → Ran
range_of (Some a) (Some b) (Some (pos zero)) w = refused ValueError (codes "wrong value") w
range_of (Some a) (Some b) (Some c) w = gave (Range a b c) w
range_of _ _ _ w = wrong_type w

-- how many items or keys an object has: a list, a dict
abbrev pub length_of_object : Option Object → World → Ran
length_of_object (Some (value.Items vs)) w = gave (Int (pos (length vs))) w
length_of_object (Some (value.Pairs ps)) w = integer (in_range (pos (length ps))) w
length_of_object _ w = wrong_type w

-- how many characters, bytes, items or keys a value has: a str, bytes, a range, a tuple, a list and a dict have them (Standard
-- Library, "Built-in Functions": len); past the integers an OverflowError (this project's own)
abbrev pub length_of : Value → World → Ran
length_of (Str s) w = gave (Int (pos (length s))) w
length_of (Bytes bs) w = gave (Int (pos (length bs))) w
length_of (Range a b c) w = integer (in_range (pos (range_length a b c))) w
length_of (Tuple vs) w = gave (Int (pos (length (items_of vs)))) w
length_of (Address x) w = length_of_object (slice_get w.store x) w
length_of _ w = wrong_type w

-- an integer without its sign (Standard Library, "Built-in Functions": abs)
abbrev pub absolute : Option ℤ → World → Ran
absolute (Some i) w = integer (in_range (pos (unsigned_abs i))) w
absolute None w = wrong_type w

-- the integer that a value is, counts as or writes (Standard Library, "Built-in Functions": int)
abbrev pub integer_of : Value → World → Ran
integer_of (Int i) w = gave (Int i) w
integer_of (Truth b) w = gave (Int (int_of_truth b)) w
integer_of (Str s) w = integer (read_integer s) w
integer_of _ w = wrong_type w

-- the number of the one character of a str (Standard Library, "Built-in Functions": ord)
abbrev pub code_of : Value → World → Ran
code_of (Str (c ∷ [])) w = gave (Int (pos c)) w
code_of _ w = wrong_type w

-- the str of the character with a number (Standard Library, "Built-in Functions": chr); a surrogate is no character
-- (this project's own, as is the message)
abbrev pub character_of : Option ℤ → World → Ran
character_of (Some (pos n)) w = if is_character n then gave (Str (n ∷ [])) w else refused ValueError (codes "wrong value") w
character_of (Some (negsuc n)) w = refused ValueError (codes "wrong value") w
character_of None w = wrong_type w

-- the least of a value and more, the first of equal ones (Standard Library, "Built-in Functions": min)
abbrev pub least : Value → List Value → World → Ran
least u [] w = gave u w
least u (v ∷ vs) w = elim (is_less v u w) [ Err k ↦ refused k (comparison_message k) w | Ok true ↦ least v vs w | Ok false ↦ least u vs w ]

-- the greatest of a value and more, the first of equal ones (Standard Library, "Built-in Functions": max)
abbrev pub greatest : Value → List Value → World → Ran
greatest u [] w = gave u w
greatest u (v ∷ vs) w = elim (is_less u v w) [ Err k ↦ refused k (comparison_message k) w | Ok true ↦ greatest v vs w | Ok false ↦ greatest u vs w ]

-- so many integers from one on, a step apart
abbrev pub stepped : ℕ → (at step : ℤ) → List ℤ
stepped zero at step = []
stepped (suc n) at step = at ∷ stepped n (at +ℤ step) step

-- the items of a range (Standard Library, "Built-in Types": ranges)
abbrev pub range_items : (start stop step : ℤ) → List ℤ
range_items a b c = stepped (range_length a b c) a c

-- the bytes that integers are, where each is from 0 to 255
abbrev pub bytes_from : List ℤ → Option (List ℕ)
bytes_from [] = Some []
bytes_from (pos n ∷ is) = if nat_lt n 256 then option_map (λ bs. n ∷ bs) (bytes_from is) else None
bytes_from (negsuc n ∷ is) = None

-- the byte that an integer is
abbrev pub byte_meant : Option ℤ → Option ℕ
byte_meant (Some (pos n)) = if nat_lt n 256 then Some n else None
byte_meant _ = None

-- a byte and those after it, where there are all
abbrev pub more_bytes : Option ℕ → Option (List ℕ) → Option (List ℕ)
more_bytes (Some b) (Some bs) = Some (b ∷ bs)
more_bytes _ _ = None

-- the bytes that values are, where each is one
abbrev pub bytes_in : List Value → Option (List ℕ)
bytes_in [] = Some []
bytes_in (v ∷ vs) = more_bytes (byte_meant (integer_in v)) (bytes_in vs)

-- bytes that were made, or that there are none (the message is this project's own)
abbrev pub bytes_made : Option (List ℕ) → World → Ran
bytes_made (Some bs) w = bytes_within bs w
bytes_made None w = refused ValueError (codes "wrong value") w

-- the bytes of the items of an object, a list
abbrev pub bytes_of_object : Option Object → World → Ran
bytes_of_object (Some (value.Items vs)) w = bytes_made (bytes_in vs) w
bytes_of_object _ w = wrong_type w

-- the bytes of the items of a value (Standard Library, "Built-in Functions": bytes), of a range, a tuple or a list
abbrev pub bytes_of : Value → World → Ran
bytes_of (Range a b c) w = bytes_made (bytes_from (range_items a b c)) w
bytes_of (Tuple vs) w = bytes_made (bytes_in (items_of vs)) w
bytes_of (Address x) w = bytes_of_object (slice_get w.store x) w
bytes_of _ w = wrong_type w

-- the items of an object that can be gone over: those of a list, the keys of a dict
abbrev pub items_of_object : Option Object → Option (List Value)
items_of_object (Some (value.Items vs)) = Some vs
items_of_object (Some (value.Pairs ps)) = Some (keys_in ps)
items_of_object _ = None

-- all items of a value that can be gone over: the characters of a str, bytes as integers, the items of a range, a tuple and a
-- list, the keys of a dict
abbrev pub items_from : Value → World → Option (List Value)
items_from (Str s) w = Some (characters_in s)
items_from (Bytes bs) w = Some (numbers_in bs)
items_from (Range a b c) w = Some (integers_in (range_items a b c))
items_from (Tuple vs) w = Some (items_of vs)
items_from (Address x) w = items_of_object (slice_get w.store x)
items_from _ w = None

-- items, where there are any, in a tuple
abbrev pub tuple_made : Option (List Value) → World → Ran
tuple_made (Some vs) w = tuple_within vs w
tuple_made None w = wrong_type w

-- the tuple of a value's items; a tuple is its own (Standard Library, "Built-in Types": tuple)
abbrev pub tuple_from : Value → World → Ran
tuple_from (Tuple vs) w = gave (Tuple vs) w
tuple_from v w = tuple_made (items_from v w) w

-- items, where there are any, in a new list
abbrev pub list_made : Option (List Value) → World → Ran
list_made (Some vs) w = list_within vs w
list_made None w = wrong_type w

-- the new list of a value's items (Standard Library, "Built-in Types": list)
abbrev pub list_from : Value → World → Ran
list_from v w = list_made (items_from v w) w

-- a call of a built-in (Standard Library, "Built-in Functions": print, range, str, repr, len, bool, abs, int, ord, chr,
-- min, max, bytes, tuple, list); min and max take two values or more (this project's own)
abbrev pub call_built_in : BuiltIn → List Value → World → Ran
call_built_in Print vs w = printing (line_of w.store vs) w
call_built_in MakeRange (b ∷ []) w = range_of (Some (pos 0)) (integer_in b) (Some (pos 1)) w
call_built_in MakeRange (a ∷ b ∷ []) w = range_of (integer_in a) (integer_in b) (Some (pos 1)) w
call_built_in MakeRange (a ∷ b ∷ c ∷ []) w = range_of (integer_in a) (integer_in b) (integer_in c) w
call_built_in MakeStr (v ∷ []) w = text (str_in w.store v) w
call_built_in Repr (v ∷ []) w = text (repr_in w.store v) w
call_built_in Len (v ∷ []) w = length_of v w
call_built_in MakeBool (v ∷ []) w = gave (Truth (is_true v w)) w
call_built_in Abs (v ∷ []) w = absolute (integer_in v) w
call_built_in MakeInt (v ∷ []) w = integer_of v w
call_built_in Ord (v ∷ []) w = code_of v w
call_built_in Chr (v ∷ []) w = character_of (integer_in v) w
call_built_in Min (u ∷ v ∷ vs) w = least u (v ∷ vs) w
call_built_in Max (u ∷ v ∷ vs) w = greatest u (v ∷ vs) w
call_built_in MakeBytes (v ∷ []) w = bytes_of v w
call_built_in MakeTuple (v ∷ []) w = tuple_from v w
call_built_in MakeList (v ∷ []) w = list_from v w
call_built_in _ _ w = wrong_arguments w

-- a new exception as a value
abbrev pub made : ℕ × World → Ran
made x = gave (Address x.0) x.1

-- a call of a kind: an exception with an argument or without one (Standard Library, "Built-in Exceptions")
abbrev pub call_kind : Kind → List Value → World → Ran
call_kind k [] w = made (exception k None w)
call_kind k (v ∷ []) w = made (exception k (Some v) w)
call_kind k _ w = wrong_arguments w

-- a call of a value that is no function of a script, with its arguments (Language Reference, 6.3.3)
abbrev pub call_provided : Value → List Value → World → Ran
call_provided (Provided b) vs w = call_built_in b vs w
call_provided (Class k) vs w = call_kind k vs w
call_provided _ vs w = not_callable w

-- a call with an argument by name: nothing that can be called takes one yet (this project's own)
abbrev pub call_by_name : Value → World → Ran
call_by_name (Provided b) w = wrong_arguments w
call_by_name (Class k) w = wrong_arguments w
call_by_name (Function f k) w = wrong_arguments w
call_by_name _ w = not_callable w

-- ---- exceptions

-- the exception about an operand of a wrong kind
abbrev pub type_error : World → ℕ × World
type_error w = exception TypeError (Some (Str (codes "wrong type"))) w

-- an object that is raised: an exception itself
abbrev pub raised_object : ℕ → Option Object → World → ℕ × World
raised_object x (Some (value.Exception k a)) w = (x, w)
raised_object x _ w = type_error w

-- what `raise` raises: an exception itself, of a kind a new one without argument (Language Reference, 7.8)
abbrev pub raised_by : Value → World → ℕ × World
raised_by (Address x) w = raised_object x (slice_get w.store x) w
raised_by (Class k) w = exception k None w
raised_by _ w = type_error w

-- what a bare `raise` raises: the active exception again (Language Reference, 7.8; the message is this project's own)
abbrev pub raised_again : Option ℕ → World → ℕ × World
raised_again (Some x) w = (x, w)
raised_again None w = exception RuntimeError (Some (Str (codes "no active exception"))) w

-- an object is an exception of a kind, or of one under it
abbrev pub is_of : Kind → Option Object → Bool
is_of top (Some (value.Exception k a)) = is_a k top
is_of top _ = false

-- an object is an exception of one of these kinds, or of one under it; values that are no kinds have no answer, whatever
-- stands before them (this project's own)
abbrev pub is_of_one : List Value → Option Object → Option Bool
is_of_one [] o = Some false
is_of_one (Class top ∷ vs) o = option_map (λ b. is_of top o || b) (is_of_one vs o)
is_of_one _ o = None

-- the truth that a test gives, or that what was tested is of a wrong kind
abbrev pub tested : Option Bool → World → Ran
tested (Some b) w = gave (Truth b) w
tested None w = wrong_type w

-- whether an except clause with this value, a kind or a tuple of kinds, matches an exception (Language Reference, 8.4.1)
abbrev pub catches : Value → ℕ → World → Ran
catches (Class top) x w = gave (Truth (is_of top (slice_get w.store x))) w
catches (Tuple vs) x w = tested (is_of_one (items_of vs) (slice_get w.store x)) w
catches _ x w = wrong_type w

-- ---- items

-- what a `for` still has to give (Language Reference, 8.3)
pub data Iterator : Type 0 where
  -- the items of a range from this one on
  Numbers : (at stop step : ℤ) → Iterator
  -- the characters of a text, each as a str
  Characters : Text → Iterator
  -- bytes, each as an integer
  Octets : List ℕ → Iterator
  -- the items of a tuple
  Items : List Value → Iterator
  -- the items of a list, by its address, from a position on: it is looked at as it is at that turn
  Listed : (address at : ℕ) → Iterator
  -- the keys of a dict, by its address, from a position on, and how many it had at first
  Keys : (address at count : ℕ) → Iterator
  NoMore : Iterator

-- what an object gives, where it can be gone over
abbrev pub iterator_at : ℕ → Option Object → Option Iterator
iterator_at x (Some (value.Items vs)) = Some (Listed x 0)
iterator_at x (Some (value.Pairs ps)) = Some (Keys x 0 (length ps))
iterator_at x _ = None

-- what a value gives in a world, where it can be gone over
abbrev pub iterator_of : Value → World → Option Iterator
iterator_of (Range a b c) w = Some (Numbers a b c)
iterator_of (Str s) w = Some (Characters s)
iterator_of (Bytes bs) w = Some (Octets bs)
iterator_of (Tuple vs) w = Some (Items (items_of vs))
iterator_of (Address x) w = iterator_at x (slice_get w.store x)
iterator_of _ w = None

-- the items of a range after one: what lies past the integers lies past the stop
abbrev pub numbers_from : Result ℤ Kind → (stop step : ℤ) → Iterator
numbers_from (Ok at) stop step = Numbers at stop step
numbers_from (Err k) stop step = NoMore

-- what comes of the wish for a next item: one, and what is left; none; or an exception with a message
pub data Next : Type 0 where
  Item : Value → Iterator → Next
  Exhausted : Next
  Refuses : Kind → Text → Next

-- an item that was found, and what is left after it, or none
abbrev pub item_or_end : Option Value → Iterator → Next
item_or_end (Some v) more = Item v more
item_or_end None more = Exhausted

-- the next item of an object, a list
abbrev pub next_of_list : (address at : ℕ) → Option Object → Next
next_of_list x k (Some (value.Items vs)) = item_or_end (slice_get vs k) (Listed x (k + 1))
next_of_list x k _ = Exhausted

-- the next key of an object, a dict, which has as many as it had at first (Standard Library, "dict"; the message is this
-- project's own)
abbrev pub next_of_dict : (address at count : ℕ) → Option Object → Next
next_of_dict x k n (Some (value.Pairs ps)) =
    if nat_eq (length ps) n then item_or_end (slice_get (keys_in ps) k) (Keys x (k + 1) n) else Refuses RuntimeError (codes "dictionary changed size")
next_of_dict x k n _ = Exhausted

-- the next item in a world
abbrev pub next_item : Iterator → World → Next
next_item (Numbers at stop step) w = if is_item at stop step then Item (Int at) (numbers_from (sum_of at step) stop step) else Exhausted
next_item (Characters []) w = Exhausted
next_item (Characters (c ∷ cs)) w = Item (Str (c ∷ [])) (Characters cs)
next_item (Octets []) w = Exhausted
next_item (Octets (b ∷ bs)) w = Item (Int (pos b)) (Octets bs)
next_item (Items []) w = Exhausted
next_item (Items (v ∷ vs)) w = Item v (Items vs)
next_item (Listed x k) w = next_of_list x k (slice_get w.store x)
next_item (Keys x k n) w = next_of_dict x k n (slice_get w.store x)
next_item NoMore w = Exhausted
