-- What causes of exceptions stand for: a kind and a message (the messages are this project's own).
use Rattle.std.specs.Prelude.{codes, ℕ, ◌<◌, List, [], ◌++◌, length, get_or}
use Rattle.si_plain.specs.declared.kind.Kind.{Kind}
use Rattle.si_plain.specs.declared.kind.Kind.TheVariants.{OverflowError, TypeError, NameError, UnboundLocalError, RuntimeError, RecursionError, IndexError, AttributeError, NotShareableError, InterpreterError, QueueFull, QueueEmpty}
use Rattle.si_semantics.specs.Value.{Text}
use Rattle.si_semantics.specs.Operations.{arithmetic_message}
use Rattle.si_arena.specs.declared.cause.Cause.{Cause}
use Rattle.si_arena.specs.declared.cause.Cause.TheVariants.{Arithmetic, TooLong, WrongType, NotCallable, WrongArguments, TooDeep, NoneActive, Outside, NotDefined, NotBound, NoAttribute, SizeChanged, Refused}
use Rattle.si_arena.specs.declared.refusal.Refusal.{Refusal}
use Rattle.si_arena.specs.declared.refusal.Refusal.TheVariants.{NotShareable, AlreadyStarted, NotStarted, TooManyInterpreters, TooManyQueues, QueueIsFull, QueueIsEmpty, Current, Main}

-- the kind of the exception of a refusal
abbrev pub refusal_kind : Refusal → Kind
refusal_kind NotShareable = NotShareableError
refusal_kind AlreadyStarted = RuntimeError
refusal_kind NotStarted = RuntimeError
refusal_kind TooManyInterpreters = InterpreterError
refusal_kind TooManyQueues = RuntimeError
refusal_kind QueueIsFull = QueueFull
refusal_kind QueueIsEmpty = QueueEmpty
refusal_kind Current = InterpreterError
refusal_kind Main = InterpreterError

-- its message
abbrev pub refusal_message : Refusal → Text
refusal_message NotShareable = codes "not shareable"
refusal_message AlreadyStarted = codes "thread already started"
refusal_message NotStarted = codes "thread not started"
refusal_message TooManyInterpreters = codes "too many interpreters"
refusal_message TooManyQueues = codes "too many queues"
refusal_message QueueIsFull = codes "queue is full"
refusal_message QueueIsEmpty = codes "queue is empty"
refusal_message Current = codes "interpreter is current"
refusal_message Main = codes "interpreter is main"

-- the kind of the exception
abbrev pub kind_of : Cause → Kind
kind_of (Arithmetic kind) = kind
kind_of TooLong = OverflowError
kind_of WrongType = TypeError
kind_of NotCallable = TypeError
kind_of WrongArguments = TypeError
kind_of TooDeep = RecursionError
kind_of NoneActive = RuntimeError
kind_of Outside = IndexError
kind_of (NotDefined name) = NameError
kind_of (NotBound name) = UnboundLocalError
kind_of (NoAttribute name) = AttributeError
kind_of SizeChanged = RuntimeError
kind_of (Refused refusal) = refusal_kind refusal

-- the message about a name that is bound nowhere
abbrev pub not_defined : Text → Text
not_defined x = codes "name " ++ (x ++ codes " is not defined")

-- the message about a local name that is not bound
abbrev pub not_bound : Text → Text
not_bound x = codes "local " ++ (x ++ codes " is not bound")

-- the message about an attribute that a value does not have
abbrev pub no_attribute : Text → Text
no_attribute x = codes "no attribute " ++ x

-- a name by its number; where there is none, the empty one
abbrev pub name_at : List Text → ℕ → Text
name_at names number = get_or names number []

-- the message of the exception, by the names
abbrev pub message_of : List Text → Cause → Text
message_of names (Arithmetic kind) = arithmetic_message kind
message_of names TooLong = codes "too long"
message_of names WrongType = codes "wrong type"
message_of names NotCallable = codes "not callable"
message_of names WrongArguments = codes "wrong arguments"
message_of names TooDeep = codes "too deep"
message_of names NoneActive = codes "no active exception"
message_of names Outside = codes "index out of range"
message_of names (NotDefined name) = not_defined (name_at names name)
message_of names (NotBound name) = not_bound (name_at names name)
message_of names (NoAttribute name) = no_attribute (name_at names name)
message_of names SizeChanged = codes "dictionary changed size"
message_of names (Refused refusal) = refusal_message refusal

-- the name of which a cause speaks is one of these
abbrev pub CauseLies : List Text → Cause → Type 0
CauseLies names (NotDefined name) = name < length names
CauseLies names (NotBound name) = name < length names
CauseLies names (NoAttribute name) = name < length names
CauseLies names _ = Unit {0}
