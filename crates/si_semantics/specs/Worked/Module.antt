-- Worked cases of the module `concurrent.interpreters` and of threads: what a script asks, and what it makes of the answers,
-- computed from the definitions.
use Rattle.std.specs.Prelude.{◌≡◌, codes, pos, List, [], ◌∷◌, true, Option, Some, None}
use Rattle.si_plain.specs.declared.kind.Kind.{Kind}
use Rattle.si_plain.specs.declared.kind.Kind.TheVariants.{TypeError, RuntimeError, ValueError, NotShareableError, InterpreterError, InterpreterNotFoundError, ExecutionFailed, QueueEmpty, QueueFull}
use Rattle.si_plain.specs.declared.modules.ModuleName.TheVariants.{Threading, Interpreters}
use Rattle.si_semantics.specs.Value as value
use Rattle.si_semantics.specs.Value.{Text, Str}
use Rattle.si_semantics.specs.Tree as tree
use Rattle.si_semantics.specs.Tree.{Expr, Stmt}
use Rattle.si_semantics.specs.Parcels as parcel
use Rattle.si_semantics.specs.Parcels.{Leaf}
use Rattle.si_semantics.specs.World as world
use Rattle.si_semantics.specs.World.{Request, Answer, Returned, Raised}
use Rattle.si_semantics.specs.Life.{Told, Action, Stops, IsGone, IsCut, Calls, End, life_of, texts_of}
use Rattle.si_semantics.specs.Worked.Straight.{int, str, arguments, suite, compared, a_text}
use Rattle.si_semantics.specs.Worked.Functions.{prints, called}
use Rattle.si_semantics.specs.Worked.Attributes.{method, interpreters}
use Rattle.si_semantics.specs.Worked.Scripts.{list_of, dict_of, set, item}

-- ---- scripts

-- `q`, `i`, `t`
abbrev pub q : Expr
q = tree.Name (codes "q")

abbrev pub i : Expr
i = tree.Name (codes "i")

abbrev pub t : Expr
t = tree.Name (codes "t")

abbrev pub does : Expr → Stmt
does a = tree.Evaluate a

-- `q = interpreters.create_queue(2)`
abbrev pub makes_queue : Stmt
makes_queue = tree.Assign (tree.only (tree.Named (codes "q"))) (method interpreters (codes "create_queue") (int 2 ∷ []))

-- `i = interpreters.create()`
abbrev pub makes_interpreter : Stmt
makes_interpreter = tree.Assign (tree.only (tree.Named (codes "i"))) (method interpreters (codes "create") [])

-- `t = threading.Thread(target=i.exec, args=('x = 1',))`
abbrev pub makes_thread : Stmt
makes_thread =
    tree.Assign (tree.only (tree.Named (codes "t")))
    (tree.Call (tree.Name (codes "threading")) (Some (codes "Thread"))
    (arguments (tree.Attribute i (codes "exec") ∷ tree.Tuple (arguments (str (codes "x = 1") ∷ [])) ∷ [])) (codes "target" ∷ codes "args" ∷ []))

-- the life of interpreter 3, which is given a text that imports both modules and then these answers
abbrev pub under : List Stmt → List Answer → Told
under body answers = life_of 3 0 (world.Taken (world.Run (Some (record { body = suite (tree.Import Interpreters ∷ tree.Import Threading ∷ body) }))) ∷ answers)

-- the action at which a life stands
abbrev pub stands : Told → Option Action
stands (Stops a s) = Some a
stands (IsGone s) = None
stands (IsCut s) = None

abbrev pub asks : List Stmt → List Answer → Request → Type 0
asks body answers r = stands (under body answers) ≡ Some (Calls r)

abbrev pub fails : List Stmt → List Answer → Kind → Text → Type 0
fails body answers k message = stands (under body answers) ≡ Some (End (Raised k message))

-- what is printed, where the text comes to its end
abbrev pub printed_by : Told → Option (List Text)
printed_by (Stops (End Returned) s) = Some (texts_of (Stops (End Returned) s))
printed_by _ = None

abbrev pub shows : List Stmt → List Answer → Text → Type 0
shows body answers text = printed_by (under body answers) ≡ Some (text ∷ [])

abbrev pub two_made : List Answer
two_made = world.QueueMade 0 ∷ world.Created 1 ∷ []

-- `i.prepare_main(arguments)`, the last of them by these names, after a queue and an interpreter were made
abbrev pub prepares : List Expr → List Text → List Stmt
prepares args names = makes_queue ∷ makes_interpreter ∷ does (tree.Call i (Some (codes "prepare_main")) (arguments args) names) ∷ []

pub record ModuleCases : Type 0 where
  -- ---- queues
  --     q = interpreters.create_queue(2); q.put('a'); q.put_nowait(3)
  pub queue_is_asked_for : asks (makes_queue ∷ []) [] (world.CreateQueue 2)
  pub too_many_queues : fails (makes_queue ∷ []) (world.Limit ∷ []) RuntimeError (codes "too many queues")
  pub put_is_asked : asks (makes_queue ∷ does (method q (codes "put") (a_text ∷ [])) ∷ []) (world.QueueMade 0 ∷ []) (world.Put 0 (Leaf (parcel.Str (codes "a"))))
  pub put_by_name :
      asks (makes_queue ∷ does (tree.Call q (Some (codes "put")) (arguments (int 3 ∷ [])) (codes "obj" ∷ [])) ∷ []) (world.QueueMade 0 ∷ []) (world.Put 0 (Leaf (parcel.Int (pos 3))))
  pub full_queue :
      fails (makes_queue ∷ does (method q (codes "put") (a_text ∷ [])) ∷ does (method q (codes "put_nowait") (int 3 ∷ [])) ∷ [])
      (world.QueueMade 0 ∷ world.Done ∷ world.Full ∷ []) QueueFull (codes "queue is full")
  pub empty_queue : fails (makes_queue ∷ does (method q (codes "get_nowait") []) ∷ []) (world.QueueMade 0 ∷ world.Empty ∷ []) QueueEmpty (codes "queue is empty")
  --     print(q.get(), q.qsize(), q.empty(), q.full(), q.id, q.maxsize)
  pub items_and_sizes :
      shows
      (makes_queue
      ∷ prints
      (method q (codes "get") []
      ∷ method q (codes "qsize") []
      ∷ method q (codes "empty") []
      ∷ method q (codes "full") []
      ∷ tree.Attribute q (codes "id")
      ∷ tree.Attribute q (codes "maxsize")
      ∷ [])
      ∷ [])
      (world.QueueMade 0 ∷ world.Item (Str (codes "a")) ∷ world.Count 2 ∷ world.Count 0 ∷ world.Count 2 ∷ []) (codes "a 2 True True 0 2\n")
  --     q.put(print): refused before anything is asked
  pub no_parcel : fails (makes_queue ∷ does (method q (codes "put") (tree.Name (codes "print") ∷ [])) ∷ []) (world.QueueMade 0 ∷ []) NotShareableError (codes "not shareable")
  --     q.put(), interpreters.create_queue(None)
  pub nothing_put : fails (makes_queue ∷ does (method q (codes "put") []) ∷ []) (world.QueueMade 0 ∷ []) TypeError (codes "wrong arguments")
  pub no_number : fails (does (method interpreters (codes "create_queue") (tree.Constant value.Nothing ∷ [])) ∷ []) [] TypeError (codes "wrong type")
  -- ---- interpreters
  --     print(interpreters.get_current(), interpreters.get_main() == interpreters.get_current())
  pub own_number :
      shows
      (prints
      (method interpreters (codes "get_current") []
      ∷ compared tree.Equal (method interpreters (codes "get_main") []) (method interpreters (codes "get_current") [])
      ∷ [])
      ∷ []) [] (codes "Interpreter(3) False\n")
  --     i = interpreters.create(); print(i, i.id, i.exec, i.is_running())
  pub interpreter_shown :
      shows (makes_interpreter ∷ prints (i ∷ tree.Attribute i (codes "id") ∷ tree.Attribute i (codes "exec") ∷ method i (codes "is_running") [] ∷ []) ∷ [])
      (world.Created 1 ∷ world.Truth true ∷ []) (codes "Interpreter(1) 1 <exec of Interpreter(1)> True\n")
  pub too_many_interpreters : fails (makes_interpreter ∷ []) (world.Limit ∷ []) InterpreterError (codes "too many interpreters")
  --     i.exec('x = 1'): a run is asked for, and then its end
  pub run_is_asked_for : asks (makes_interpreter ∷ does (method i (codes "exec") (str (codes "x = 1") ∷ [])) ∷ []) (world.Created 1 ∷ []) (world.Exec 1 (codes "x = 1"))
  pub end_is_awaited : asks (makes_interpreter ∷ does (method i (codes "exec") (str (codes "x = 1") ∷ [])) ∷ []) (world.Created 1 ∷ world.Started 1 ∷ []) (world.AwaitExec 1)
  pub run_left_by_an_exception :
      fails (makes_interpreter ∷ does (method i (codes "exec") (str (codes "x = 1") ∷ [])) ∷ [])
      (world.Created 1 ∷ world.Started 1 ∷ world.Ended (Raised ValueError (codes "seven")) ∷ []) ExecutionFailed (codes "ValueError: seven")
  pub closed_before :
      fails (makes_interpreter ∷ does (method i (codes "exec") (str (codes "x = 1") ∷ [])) ∷ []) (world.Created 1 ∷ world.NotFound ∷ []) InterpreterNotFoundError (codes "interpreter 1 not found")
  pub runs_already :
      fails (makes_interpreter ∷ does (method i (codes "exec") (str (codes "x = 1") ∷ [])) ∷ []) (world.Created 1 ∷ world.Running ∷ []) InterpreterError (codes "interpreter 1 is running")
  --     interpreters.get_current().close()
  pub closes_itself :
      fails (does (method (method interpreters (codes "get_current") []) (codes "close") []) ∷ []) (world.Current ∷ []) InterpreterError (codes "interpreter is current")
  --     i.prepare_main(x=1, y=q)
  pub names_in_order :
      asks (makes_queue ∷ makes_interpreter ∷ does (tree.Call i (Some (codes "prepare_main")) (arguments (int 1 ∷ q ∷ [])) (codes "x" ∷ codes "y" ∷ [])) ∷ []) two_made
      (world.Prepare 1 ((codes "x", Leaf (parcel.Int (pos 1))) ∷ (codes "y", Leaf (parcel.Queue 0 2)) ∷ []))
  pub one_name_refused :
      fails (makes_queue ∷ makes_interpreter ∷ does (tree.Call i (Some (codes "prepare_main")) (arguments (int 1 ∷ i ∷ [])) (codes "x" ∷ codes "y" ∷ [])) ∷ []) two_made
      NotShareableError (codes "not shareable")
  --     i.prepare_main({'x': 1, 'y': q}, z=2)
  pub names_of_a_dict :
      asks (prepares (dict_of (str (codes "x") ∷ int 1 ∷ str (codes "y") ∷ q ∷ []) ∷ int 2 ∷ []) (codes "z" ∷ [])) two_made
      (world.Prepare 1 ((codes "x", Leaf (parcel.Int (pos 1))) ∷ (codes "y", Leaf (parcel.Queue 0 2)) ∷ (codes "z", Leaf (parcel.Int (pos 2))) ∷ []))
  --     i.prepare_main({'x': 1}, x=2): both stay, and the later is bound last
  pub one_name_twice :
      asks (prepares (dict_of (str (codes "x") ∷ int 1 ∷ []) ∷ int 2 ∷ []) (codes "x" ∷ [])) two_made
      (world.Prepare 1 ((codes "x", Leaf (parcel.Int (pos 1))) ∷ (codes "x", Leaf (parcel.Int (pos 2))) ∷ []))
  --     i.prepare_main({}), i.prepare_main(None, x=1)
  pub no_names : asks (prepares (dict_of [] ∷ []) []) two_made (world.Prepare 1 [])
  pub none_for_a_dict : asks (prepares (tree.Constant value.Nothing ∷ int 1 ∷ []) (codes "x" ∷ [])) two_made (world.Prepare 1 ((codes "x", Leaf (parcel.Int (pos 1))) ∷ []))
  --     i.prepare_main({1: i}), i.prepare_main({'x': i, 1: 2}), i.prepare_main({'x': [1]}): pair by pair, the key first
  pub key_that_is_no_name : fails (prepares (dict_of (int 1 ∷ i ∷ []) ∷ []) []) two_made TypeError (codes "wrong type")
  pub value_before_the_next_key :
      fails (prepares (dict_of (str (codes "x") ∷ i ∷ int 1 ∷ int 2 ∷ []) ∷ []) []) two_made NotShareableError (codes "not shareable")
  pub list_in_a_dict : fails (prepares (dict_of (str (codes "x") ∷ list_of (int 1 ∷ []) ∷ []) ∷ []) []) two_made NotShareableError (codes "not shareable")
  --     i.prepare_main([]), i.prepare_main({}, {})
  pub list_for_a_dict : fails (prepares (list_of [] ∷ []) []) two_made TypeError (codes "wrong type")
  pub two_dicts : fails (prepares (dict_of [] ∷ dict_of [] ∷ []) []) two_made TypeError (codes "wrong arguments")
  --     q.put([1]), interpreters.is_shareable([]), interpreters.is_shareable({}): no parcel yet
  pub list_put : fails (makes_queue ∷ does (method q (codes "put") (list_of (int 1 ∷ []) ∷ [])) ∷ []) (world.QueueMade 0 ∷ []) NotShareableError (codes "not shareable")
  pub not_shareable :
      shows (prints (method interpreters (codes "is_shareable") (list_of [] ∷ []) ∷ method interpreters (codes "is_shareable") (dict_of [] ∷ []) ∷ []) ∷ []) [] (codes "False False\n")
  --     a = interpreters.list_all(); print(a, a[1] == interpreters.get_current())
  pub all_listed :
      shows
      (set (codes "a") (method interpreters (codes "list_all") [])
      ∷ prints (tree.Name (codes "a") ∷ compared tree.Equal (item (tree.Name (codes "a")) (int 1)) (method interpreters (codes "get_current") []) ∷ [])
      ∷ [])
      (world.Ids (0 ∷ 3 ∷ []) ∷ []) (codes "[Interpreter(0), Interpreter(3)] True\n")
  pub list_is_asked_for : asks (does (method interpreters (codes "list_all") []) ∷ []) [] world.ListAll
  pub list_of_some : fails (does (method interpreters (codes "list_all") (int 1 ∷ [])) ∷ []) [] TypeError (codes "wrong arguments")
  -- ---- threads
  --     t.start(); t.start()
  pub thread_is_started : asks (makes_interpreter ∷ makes_thread ∷ does (method t (codes "start") []) ∷ []) (world.Created 1 ∷ []) (world.StartThread 0 1 (codes "x = 1"))
  pub started_once :
      fails (makes_interpreter ∷ makes_thread ∷ does (method t (codes "start") []) ∷ does (method t (codes "start") []) ∷ []) (world.Created 1 ∷ world.Started 4 ∷ [])
      RuntimeError (codes "thread already started")
  --     t.start(); t.join()
  pub joined : asks (makes_interpreter ∷ makes_thread ∷ does (method t (codes "start") []) ∷ does (method t (codes "join") []) ∷ []) (world.Created 1 ∷ world.Started 4 ∷ []) (world.JoinThread 4)
  pub exception_stays_in_its_run :
      printed_by (under (makes_interpreter ∷ makes_thread ∷ does (method t (codes "start") []) ∷ does (method t (codes "join") []) ∷ [])
      (world.Created 1 ∷ world.Started 4 ∷ world.Ended (Raised ValueError []) ∷ [])) ≡ Some []
  pub joined_before_its_start : fails (makes_interpreter ∷ makes_thread ∷ does (method t (codes "join") []) ∷ []) (world.Created 1 ∷ []) RuntimeError (codes "thread not started")
  --     a start that is refused leaves the thread as it was
  pub start_refused :
      asks
      (makes_interpreter
      ∷ makes_thread
      ∷ tree.Try (suite (does (method t (codes "start") []) ∷ [])) (tree.MoreClauses None None (suite (does (method t (codes "start") []) ∷ [])) tree.NoClauses) tree.NoStmts
      ∷ [])
      (world.Created 1 ∷ world.Running ∷ []) (world.StartThread 0 1 (codes "x = 1"))
  --     f = i.exec; f('x = 1')
  pub target_called :
      fails (makes_interpreter ∷ tree.Assign (tree.only (tree.Named (codes "f"))) (tree.Attribute i (codes "exec")) ∷ does (called (codes "f") (str (codes "x = 1") ∷ [])) ∷ []) (world.Created 1 ∷ [])
      TypeError (codes "not callable")
