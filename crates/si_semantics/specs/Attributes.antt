-- Attributes and methods (Python Language Reference 3.14, 6.3.1 and 6.3.3; Standard Library, "Built-in Types": string
-- methods, mutable sequence types and mapping types, and "threading"; PEP 734). A method is no value: it can be called, and nothing else (this project's own).
use Rattle.std.specs.Prelude.{codes, ℕ, ℤ, pos, negsuc, List, [], ◌∷◌, ◌++◌, ◌-◌, length, map, Result, Ok, Err, Bool, ◌&&◌, ◌||◌, Option, Some, None, option_map, slice_get, take, drop, encode_utf8_all, if◌then◌else◌}
use Rattle.si_plain.specs.declared.kind.Kind.{Kind}
use Rattle.si_plain.specs.declared.kind.Kind.TheVariants.{AttributeError, RuntimeError, TypeError, NotShareableError, InterpreterError, InterpreterNotFoundError, ExecutionFailed, QueueEmpty, QueueFull}
use Rattle.si_plain.specs.Integers.{in_range}
use Rattle.si_plain.specs.declared.modules.ModuleName.TheVariants.{Threading, Interpreters}
use Rattle.si_semantics.specs.Value.{Text, Value, Nothing, Truth, Int, Str, Tuple, Class, Module, Queue, Interpreter, Exec, Address, Key, Word, Object, Items, Pairs, Thread, Started, MoreValues, NoValues, items_of}
use Rattle.si_semantics.specs.Text.{same_text}
use Rattle.si_semantics.specs.Parts.{begins_with}
use Rattle.si_semantics.specs.Parcels.{Tree}
use Rattle.si_semantics.specs.Shareable.{sent_as, is_shareable}
use Rattle.si_semantics.specs.World as world
use Rattle.si_semantics.specs.World.{World, Ran, Asked}
use Rattle.si_semantics.specs.Operations.{gave, placed, refused, refused_within, within, bytes_within, wrong_type, wrong_arguments, kind_named, integer, integer_in}
use Rattle.si_semantics.specs.Tuples.{characters_in}
use Rattle.si_semantics.specs.Containers.{append, pop_item, get_value, pop_value}

-- ---- attributes

-- the kinds of exception that are attributes of the module `concurrent.interpreters` (PEP 734)
abbrev pub module_kinds : List Kind
module_kinds = NotShareableError ∷ InterpreterError ∷ InterpreterNotFoundError ∷ ExecutionFailed ∷ QueueEmpty ∷ QueueFull ∷ []

-- the first of two values that have names, by a name
abbrev pub one_of_two : (x a b : Text) → (u v : Value) → Option Value
one_of_two x a b u v = if same_text x a then Some u else if same_text x b then Some v else None

-- the value of an attribute, where there is one: of the module its kinds of exception, of a queue its number and the most
-- items that it may have, of an interpreter its number and its `exec` (PEP 734)
abbrev pub attribute_in : Value → Text → Option Value
attribute_in (Module Interpreters) x = option_map Class (kind_named x module_kinds)
attribute_in (Queue q m) x = one_of_two x (codes "id") (codes "maxsize") (Int (pos q)) (Int (pos m))
attribute_in (Interpreter i) x = one_of_two x (codes "id") (codes "exec") (Int (pos i)) (Exec i)
attribute_in _ x = None

-- the value that an attribute has, or that it has none (the message is this project's own); an integer past 64 bits is
-- refused as one that is computed
abbrev pub attribute_of : Text → Option Value → World → Ran
attribute_of x (Some (Int n)) w = integer (in_range n) w
attribute_of x (Some v) w = gave v w
attribute_of x None w = refused_within AttributeError (codes "no attribute " ++ x) w

-- an attribute of a value (Language Reference, 6.3.1)
abbrev pub attribute : Value → Text → World → Ran
attribute v x w = attribute_of x (attribute_in v x) w

-- ---- methods

-- the methods, and the functions of modules
pub data Method : Type 0 where
  StartsWith : Method
  EndsWith : Method
  JoinTexts : Method
  Encode : Method
  Append : Method
  PopItem : Method
  GetValue : Method
  PopValue : Method
  Create : Method
  ListAll : Method
  GetCurrent : Method
  GetMain : Method
  CreateQueue : Method
  IsShareable : Method
  MakeThread : Method
  Start : Method
  Join : Method
  Execute : Method
  IsRunning : Method
  Close : Method
  PrepareMain : Method
  IsEmpty : Method
  IsFull : Method
  Size : Method
  Put : Method
  PutNow : Method
  Get : Method
  GetNow : Method

abbrev pub method_name : Method → Text
method_name StartsWith = codes "startswith"
method_name EndsWith = codes "endswith"
method_name JoinTexts = codes "join"
method_name Encode = codes "encode"
method_name Append = codes "append"
method_name PopItem = codes "pop"
method_name GetValue = codes "get"
method_name PopValue = codes "pop"
method_name Create = codes "create"
method_name ListAll = codes "list_all"
method_name GetCurrent = codes "get_current"
method_name GetMain = codes "get_main"
method_name CreateQueue = codes "create_queue"
method_name IsShareable = codes "is_shareable"
method_name MakeThread = codes "Thread"
method_name Start = codes "start"
method_name Join = codes "join"
method_name Execute = codes "exec"
method_name IsRunning = codes "is_running"
method_name Close = codes "close"
method_name PrepareMain = codes "prepare_main"
method_name IsEmpty = codes "empty"
method_name IsFull = codes "full"
method_name Size = codes "qsize"
method_name Put = codes "put"
method_name PutNow = codes "put_nowait"
method_name Get = codes "get"
method_name GetNow = codes "get_nowait"

-- the methods of an object: of a list and a dict (Standard Library, "Built-in Types": mutable sequence types, and "dict"), of a
-- thread ("threading")
abbrev pub methods_of_object : Option Object → List Method
methods_of_object (Some (Items vs)) = Append ∷ PopItem ∷ []
methods_of_object (Some (Pairs ps)) = GetValue ∷ PopValue ∷ []
methods_of_object (Some (Thread i text)) = Start ∷ Join ∷ []
methods_of_object (Some (Started r)) = Start ∷ Join ∷ []
methods_of_object _ = []

-- the methods of a value (of str: Standard Library, "Built-in Types"; of the modules, of interpreters and of queues: PEP 734,
-- and Standard Library, "threading")
abbrev pub methods_of : Value → World → List Method
methods_of (Str s) w = StartsWith ∷ EndsWith ∷ JoinTexts ∷ Encode ∷ []
methods_of (Module Interpreters) w = Create ∷ ListAll ∷ GetCurrent ∷ GetMain ∷ CreateQueue ∷ IsShareable ∷ []
methods_of (Module Threading) w = MakeThread ∷ []
methods_of (Interpreter i) w = Execute ∷ IsRunning ∷ Close ∷ PrepareMain ∷ []
methods_of (Queue q m) w = IsEmpty ∷ IsFull ∷ Size ∷ Put ∷ PutNow ∷ Get ∷ GetNow ∷ []
methods_of (Address x) w = methods_of_object (slice_get w.store x)
methods_of _ w = []

-- the method of a name among these
abbrev pub method_named : Text → List Method → Option Method
method_named x [] = None
method_named x (m ∷ ms) = if same_text x (method_name m) then Some m else method_named x ms

-- the method of a name that a value has
abbrev pub method_of : Value → Text → World → Option Method
method_of v x w = method_named x (methods_of v w)

-- what a call of an attribute begins with: the object itself, where it has a method of that name, else the value of the
-- attribute
abbrev pub called_by : Option Method → Value → Text → World → Ran
called_by (Some m) v x w = gave v w
called_by None v x w = attribute v x w

abbrev pub called : Value → Text → World → Ran
called v x w = called_by (method_of v x w) v x w

-- ---- arguments

-- what is passed without a name, and what with one, of arguments of which the last ones have these names
abbrev pub positional : List Value → List Text → List Value
positional vs names = take (length vs - length names) vs

abbrev pub paired : List Text → List Value → List (Text × Value)
paired (x ∷ xs) (v ∷ vs) = (x, v) ∷ paired xs vs
paired _ _ = []

abbrev pub by_name : List Value → List Text → List (Text × Value)
by_name vs names = paired names (drop (length vs - length names) vs)

-- no argument
abbrev pub alone : List Value → Ran → World → Ran
alone [] does w = does
alone vs does w = wrong_arguments w

-- one argument, which may be passed by this name
abbrev pub one_argument : Text → List Value → List Text → (Value → Ran) → World → Ran
one_argument x (v ∷ []) [] does w = does v
one_argument x (v ∷ []) (y ∷ []) does w = if same_text x y then does v else wrong_arguments w
one_argument x _ _ does w = wrong_arguments w

-- one argument without a name
abbrev pub only_argument : List Value → List Text → (Value → Ran) → World → Ran
only_argument (v ∷ []) [] does w = does v
only_argument _ _ does w = wrong_arguments w

-- one argument or none, with the value that stands for none
abbrev pub optional_argument : Text → Value → List Value → List Text → (Value → Ran) → World → Ran
optional_argument x other [] names does w = does other
optional_argument x other vs names does w = one_argument x vs names does w

-- ---- calls

-- a text ends with another: it is that, or what follows its first character ends with it
abbrev pub ends_with : Text → Text → Bool
ends_with [] t = same_text [] t
ends_with (c ∷ cs) t = same_text (c ∷ cs) t || ends_with cs t

-- a test of two texts
abbrev pub tested_texts : (Text → Text → Bool) → Value → Value → World → Ran
tested_texts test (Str s) (Str t) w = gave (Truth (test s t)) w
tested_texts test _ _ w = wrong_type w

-- texts with a text between them, where all are texts
abbrev pub joined_after : Text → List Value → Option Text
joined_after s [] = Some []
joined_after s (Str t ∷ vs) = option_map (λ u. s ++ (t ++ u)) (joined_after s vs)
joined_after s _ = None

abbrev pub joined_texts : Text → List Value → Option Text
joined_texts s [] = Some []
joined_texts s (Str t ∷ vs) = option_map (λ u. t ++ u) (joined_after s vs)
joined_texts s _ = None

-- a text that was made of texts
abbrev pub text_made : Option Text → World → Ran
text_made (Some s) w = within s w
text_made None w = wrong_type w

-- what may be joined: the items of a list or a tuple, or the characters of a str (this project's own)
abbrev pub items_of_list : Option Object → Option (List Value)
items_of_list (Some (Items vs)) = Some vs
items_of_list _ = None

abbrev pub texts_in : Value → World → Option (List Value)
texts_in (Str s) w = Some (characters_in s)
texts_in (Tuple vs) w = Some (items_of vs)
texts_in (Address x) w = items_of_list (slice_get w.store x)
texts_in _ w = None

abbrev pub joins_texts : Value → Option (List Value) → World → Ran
joins_texts (Str s) (Some vs) w = text_made (joined_texts s vs) w
joins_texts _ _ w = wrong_type w

-- the bytes of a text in UTF-8
abbrev pub encodes : Value → World → Ran
encodes (Str s) w = bytes_within (encode_utf8_all s) w
encodes _ w = wrong_type w

-- a method of a list or a dict
abbrev pub appends : Value → Value → World → Ran
appends (Address x) v w = append x (slice_get w.store x) v w
appends _ v w = wrong_type w

-- `pop(index=-1, /)`
abbrev pub pops : Value → List Value → List Text → World → Ran
pops (Address x) [] [] w = pop_item x (slice_get w.store x) (Some (negsuc 0)) w
pops (Address x) (i ∷ []) [] w = pop_item x (slice_get w.store x) (integer_in i) w
pops (Address x) vs names w = wrong_arguments w
pops _ vs names w = wrong_type w

-- `get(key, default=None, /)`
abbrev pub gets_value : Value → List Value → List Text → World → Ran
gets_value (Address x) (k ∷ []) [] w = get_value (slice_get w.store x) k Nothing w
gets_value (Address x) (k ∷ other ∷ []) [] w = get_value (slice_get w.store x) k other w
gets_value (Address x) vs names w = wrong_arguments w
gets_value _ vs names w = wrong_type w

abbrev pub pops_value : Value → Value → World → Ran
pops_value (Address x) k w = pop_value x (slice_get w.store x) k w
pops_value _ k w = wrong_type w

-- a queue of at most so many items; 0 and below are no bound (PEP 734, "create_queue"; this project's own)
abbrev pub queue_of : Option ℤ → World → Ran
queue_of (Some (pos m)) w = Asked (world.CreateQueue m) w
queue_of (Some (negsuc m)) w = Asked (world.CreateQueue 0) w
queue_of None w = wrong_type w

-- a value goes to others as its parcel; one that has none is not shareable (PEP 734, "Shareable Objects"; the message is this
-- project's own)
abbrev pub shared : Option Tree → (Tree → Ran) → World → Ran
shared (Some p) does w = does p
shared None does w = refused NotShareableError (codes "not shareable") w

-- names with parcels, in order; or why there are none: pair by pair, and the key first, a key that is no str is of a wrong
-- type, and a value without a parcel is not shareable
abbrev pub parcels_by_name : List (Key × Value) → Result (List (Text × Tree)) Kind
parcels_by_name [] = Ok []
parcels_by_name ((Word x, v) ∷ bs) =
    elim (sent_as v) [ None ↦ Err NotShareableError | Some p ↦ elim (parcels_by_name bs) [ Ok ps ↦ Ok ((x, p) ∷ ps) | Err k ↦ Err k ] ]
parcels_by_name ((_, v) ∷ bs) = Err TypeError

abbrev pub prepares : ℕ → Result (List (Text × Tree)) Kind → World → Ran
prepares i (Ok bs) w = Asked (world.Prepare i bs) w
prepares i (Err NotShareableError) w = refused NotShareableError (codes "not shareable") w
prepares i (Err _) w = wrong_type w

-- names with their values, as pairs of a dict
abbrev pub as_pairs : List (Text × Value) → List (Key × Value)
as_pairs named = map (λ b. (Word b.0, b.1)) named

-- the pairs of a dict, and then names that were passed
abbrev pub prepare_from : ℕ → Option Object → List (Text × Value) → World → Ran
prepare_from i (Some (Pairs ps)) named w = prepares i (parcels_by_name (ps ++ as_pairs named)) w
prepare_from i _ named w = wrong_type w

-- `prepare_main(ns=None, /, **kwargs)`
abbrev pub prepare : ℕ → List Value → List (Text × Value) → World → Ran
prepare i [] named w = prepares i (parcels_by_name (as_pairs named)) w
prepare i (Nothing ∷ []) named w = prepares i (parcels_by_name (as_pairs named)) w
prepare i (Address x ∷ []) named w = prepare_from i (slice_get w.store x) named w
prepare i (v ∷ []) named w = wrong_type w
prepare i _ named w = wrong_arguments w

-- the text that `exec` runs
abbrev pub executes : ℕ → Value → World → Ran
executes i (Str text) w = Asked (world.Exec i text) w
executes i _ w = wrong_type w

-- a thread that is to run `exec` of an interpreter with one text (Standard Library, "threading"; no other target is one of
-- this project's)
abbrev pub thread_of : (target args : Value) → World → Ran
thread_of (Exec i) (Tuple (MoreValues (Str text) NoValues)) w = placed (Thread i text) w
thread_of _ _ w = wrong_type w

-- `Thread(target=.., args=..)`, in either order
abbrev pub makes_thread : List Value → List Text → World → Ran
makes_thread (u ∷ v ∷ []) (x ∷ y ∷ []) w =
    if same_text x (codes "target") && same_text y (codes "args") then thread_of u v w
    else if same_text x (codes "args") && same_text y (codes "target") then thread_of v u w
    else wrong_arguments w
makes_thread _ _ w = wrong_arguments w

-- a thread is started once, and joined after that (Standard Library, "threading"; the messages are this project's own)
abbrev pub starts : ℕ → Option Object → World → Ran
starts x (Some (Thread i text)) w = Asked (world.StartThread x i text) w
starts x (Some (Started r)) w = refused RuntimeError (codes "thread already started") w
starts x _ w = wrong_type w

abbrev pub joins : Option Object → World → Ran
joins (Some (Started r)) w = Asked (world.JoinThread r) w
joins (Some (Thread i text)) w = refused RuntimeError (codes "thread not started") w
joins _ w = wrong_type w

-- a method of an interpreter that takes no argument; one of a queue
abbrev pub asks_interpreter : (ℕ → world.Request) → Value → World → Ran
asks_interpreter request (Interpreter i) w = Asked (request i) w
asks_interpreter request _ w = wrong_type w

abbrev pub asks_queue : (ℕ → ℕ → world.Request) → Value → World → Ran
asks_queue request (Queue q m) w = Asked (request q m) w
asks_queue request _ w = wrong_type w

abbrev pub puts : (ℕ → Tree → world.Request) → Value → Value → World → Ran
puts request (Queue q m) v w = shared (sent_as v) (λ p. Asked (request q p) w) w
puts request _ v w = wrong_type w

abbrev pub executes_in : Value → Value → World → Ran
executes_in (Interpreter i) v w = executes i v w
executes_in _ v w = wrong_type w

abbrev pub prepares_in : Value → List Value → List Text → World → Ran
prepares_in (Interpreter i) vs names w = prepare i (positional vs names) (by_name vs names) w
prepares_in _ vs names w = wrong_type w

abbrev pub starts_at : Value → World → Ran
starts_at (Address x) w = starts x (slice_get w.store x) w
starts_at _ w = wrong_type w

abbrev pub joins_at : Value → World → Ran
joins_at (Address x) w = joins (slice_get w.store x) w
joins_at _ w = wrong_type w

-- a call of a method of a value with arguments, of which the last ones have these names (Standard Library, "Built-in Types":
-- str.startswith, str.endswith, of one str, str.join, str.encode, of none, list.append, list.pop, dict.get, dict.pop, of one key;
-- "threading"; PEP 734)
abbrev pub call_method : Method → Value → List Value → List Text → World → Ran
call_method StartsWith v vs names w = only_argument vs names (λ u. tested_texts begins_with v u w) w
call_method EndsWith v vs names w = only_argument vs names (λ u. tested_texts ends_with v u w) w
call_method JoinTexts v vs names w = only_argument vs names (λ u. joins_texts v (texts_in u w) w) w
call_method Encode v vs names w = alone vs (encodes v w) w
call_method Append v vs names w = only_argument vs names (λ u. appends v u w) w
call_method PopItem v vs names w = pops v vs names w
call_method GetValue v vs names w = gets_value v vs names w
call_method PopValue v vs names w = only_argument vs names (λ u. pops_value v u w) w
call_method Create v vs names w = alone vs (Asked world.Create w) w
call_method ListAll v vs names w = alone vs (Asked world.ListAll w) w
call_method GetCurrent v vs names w = alone vs (gave (Interpreter w.own) w) w
call_method GetMain v vs names w = alone vs (gave (Interpreter 0) w) w
call_method CreateQueue v vs names w = optional_argument (codes "maxsize") (Int (pos 0)) vs names (λ u. queue_of (integer_in u) w) w
call_method IsShareable v vs names w = one_argument (codes "obj") vs names (λ u. gave (Truth (is_shareable u)) w) w
call_method MakeThread v vs names w = makes_thread vs names w
call_method Start v vs names w = alone vs (starts_at v w) w
call_method Join v vs names w = alone vs (joins_at v w) w
call_method Execute v vs names w = only_argument vs names (λ u. executes_in v u w) w
call_method IsRunning v vs names w = alone vs (asks_interpreter world.IsRunning v w) w
call_method Close v vs names w = alone vs (asks_interpreter world.Close v w) w
call_method PrepareMain v vs names w = prepares_in v vs names w
call_method IsEmpty v vs names w = alone vs (asks_queue (λ q m. world.IsEmpty q) v w) w
call_method IsFull v vs names w = alone vs (asks_queue world.IsFull v w) w
call_method Size v vs names w = alone vs (asks_queue (λ q m. world.Size q) v w) w
call_method Put v vs names w = one_argument (codes "obj") vs names (λ u. puts world.Put v u w) w
call_method PutNow v vs names w = one_argument (codes "obj") vs names (λ u. puts world.PutNow v u w) w
call_method Get v vs names w = alone vs (asks_queue (λ q m. world.Get q) v w) w
call_method GetNow v vs names w = alone vs (asks_queue (λ q m. world.GetNow q) v w) w
