-- Which methods those of this crate are, and what an attribute is in an arena.
use Rattle.std.specs.Prelude.{codes, ◌≡◌, ℕ, Bool, false, nat_eq, List, [], ◌∷◌, Option, Some, None, Result, Ok, Err}
use Rattle.si_plain.specs.declared.kind.Kind.TheVariants.{OverflowError}
use Rattle.si_semantics.specs.Value as pure
use Rattle.si_semantics.specs.Text.{same_text}
use Rattle.si_semantics.specs.World.{World}
use Rattle.si_semantics.specs.Attributes as attributes
use Rattle.si_arena.specs.declared.value.Ref.{Ref}
use Rattle.si_arena.specs.declared.cause.Cause.{Cause}
use Rattle.si_arena.specs.declared.cause.Cause.TheVariants.{Arithmetic}
use Rattle.si_arena.specs.Memory.{Memory, value_of, Lies}
use Rattle.si_ops.specs.Runs.{Gives, Throws}
use Rattle.si_methods.specs.declared.method.Method.{Method}
use Rattle.si_methods.specs.declared.method.Method.TheVariants as method
use Rattle.si_methods.specs.declared.method.MethodName.{MethodName}
use Rattle.si_methods.specs.declared.method.MethodName.TheVariants as name

-- the methods of the definition, one for one
abbrev pub method_in : Method → attributes.Method
method_in method.StartsWith = attributes.StartsWith
method_in method.EndsWith = attributes.EndsWith
method_in method.JoinTexts = attributes.JoinTexts
method_in method.Encode = attributes.Encode
method_in method.Append = attributes.Append
method_in method.PopItem = attributes.PopItem
method_in method.GetValue = attributes.GetValue
method_in method.PopValue = attributes.PopValue
method_in method.Create = attributes.Create
method_in method.ListAll = attributes.ListAll
method_in method.GetCurrent = attributes.GetCurrent
method_in method.GetMain = attributes.GetMain
method_in method.CreateQueue = attributes.CreateQueue
method_in method.IsShareable = attributes.IsShareable
method_in method.MakeThread = attributes.MakeThread
method_in method.Start = attributes.Start
method_in method.Join = attributes.Join
method_in method.Execute = attributes.Execute
method_in method.IsRunning = attributes.IsRunning
method_in method.Close = attributes.Close
method_in method.PrepareMain = attributes.PrepareMain
method_in method.IsEmpty = attributes.IsEmpty
method_in method.IsFull = attributes.IsFull
method_in method.Size = attributes.Size
method_in method.Put = attributes.Put
method_in method.PutNow = attributes.PutNow
method_in method.Get = attributes.Get
method_in method.GetNow = attributes.GetNow

-- the name of a method, as scripts spell it
abbrev pub spelled : MethodName → pure.Text
spelled name.StartsWith = codes "startswith"
spelled name.EndsWith = codes "endswith"
spelled name.Join = codes "join"
spelled name.Encode = codes "encode"
spelled name.Append = codes "append"
spelled name.Pop = codes "pop"
spelled name.Get = codes "get"
spelled name.Create = codes "create"
spelled name.ListAll = codes "list_all"
spelled name.GetCurrent = codes "get_current"
spelled name.GetMain = codes "get_main"
spelled name.CreateQueue = codes "create_queue"
spelled name.IsShareable = codes "is_shareable"
spelled name.Thread = codes "Thread"
spelled name.Start = codes "start"
spelled name.Exec = codes "exec"
spelled name.IsRunning = codes "is_running"
spelled name.Close = codes "close"
spelled name.PrepareMain = codes "prepare_main"
spelled name.Empty = codes "empty"
spelled name.Full = codes "full"
spelled name.Size = codes "qsize"
spelled name.Put = codes "put"
spelled name.PutNow = codes "put_nowait"
spelled name.GetNow = codes "get_nowait"

-- the names by numbers, so that two are compared
abbrev pub number_of : MethodName → ℕ
number_of name.StartsWith = 0
number_of name.EndsWith = 1
number_of name.Join = 2
number_of name.Encode = 3
number_of name.Append = 4
number_of name.Pop = 5
number_of name.Get = 6
number_of name.Create = 7
number_of name.ListAll = 8
number_of name.GetCurrent = 9
number_of name.GetMain = 10
number_of name.CreateQueue = 11
number_of name.IsShareable = 12
number_of name.Thread = 13
number_of name.Start = 14
number_of name.Exec = 15
number_of name.IsRunning = 16
number_of name.Close = 17
number_of name.PrepareMain = 18
number_of name.Empty = 19
number_of name.Full = 20
number_of name.Size = 21
number_of name.Put = 22
number_of name.PutNow = 23
number_of name.GetNow = 24

abbrev pub same_name : MethodName → MethodName → Bool
same_name m n = nat_eq (number_of m) (number_of n)

-- none of these names is this text
abbrev pub AreOthers : pure.Text → List MethodName → Type 0
AreOthers x [] = Unit {0}
AreOthers x (n ∷ ns) = (same_text x (spelled n) ≡ false) × AreOthers x ns

-- a text is one of these names; or it is none of them
abbrev pub IsAmong : pure.Text → List MethodName → Option MethodName → Type 0
IsAmong x ns (Some n) = x ≡ spelled n
IsAmong x ns None = AreOthers x ns

-- a text is this name of a method; or no method has it for its name
abbrev pub IsMethodName : pure.Text → Option MethodName → Type 0
IsMethodName x (Some n) = x ≡ spelled n
IsMethodName x None = (ms : List attributes.Method) → attributes.method_named x ms ≡ None

-- the value of an attribute, which lies in the arena; or that there is none; or why it raises, which an integer past 64 bits
-- alone does
abbrev pub HasAttribute : pure.Value → pure.Text → Memory → Result (Option Ref) Cause → Type 0
HasAttribute v x m (Ok (Some r)) = Gives (λ w. attributes.attribute v x w) m (value_of m r) × Lies m r
HasAttribute v x m (Ok None) = (w : World) → attributes.attribute v x w ≡ attributes.attribute_of x None w
HasAttribute v x m (Err cause) = Throws (λ w. attributes.attribute v x w) m cause × (cause ≡ Arithmetic OverflowError)
