-- Worked cases of a history, computed from the definitions.
use Rattle.std.specs.Prelude.{◌≡◌, codes, ℕ, pos, List, [], ◌∷◌, ◌++◌, true, false}
use Rattle.si_plain.specs.declared.kind.Kind.TheVariants.{ValueError, KeyError}
use Rattle.si_semantics.specs.Value.{Text}
use Rattle.si_semantics.specs.Parcels.{Tree, Leaf, Nothing, Int, Str, tuple_of}
use Rattle.si_semantics.specs.Life.{Returned, Raised}
use Rattle.si_semantics.specs.Actions as shared
use Rattle.si_semantics.specs.History.{Call}
use Rattle.si_history.specs.History.{call_line, history}

-- a call of interpreter i
abbrev pub call : ℕ → shared.Action → shared.Answer → Call
call i a r = record { by = i; action = a; answer = r }

abbrev pub str : List ℕ → Tree
str s = Leaf (Str s)

-- `3`
abbrev pub three : Tree
three = Leaf (Int (pos 3))

-- `(1, None)`
abbrev pub pair : Tree
pair = tuple_of (Leaf (Int (pos 1)) ∷ Leaf Nothing ∷ [])

-- what one interpreter did with a queue that holds two items
abbrev pub of_a_queue : List Call
of_a_queue =
    call 0 shared.Take (shared.Given (shared.Run 0 (codes "q = create_queue(2)")))
    ∷ call 0 (shared.CreateQueue 2) (shared.QueueMade 0)
    ∷ call 0 (shared.Put 0 (str (codes "a"))) shared.Done
    ∷ call 0 (shared.Put 0 pair) shared.Done
    ∷ call 0 (shared.PutNow 0 three) shared.Full
    ∷ call 0 (shared.Size 0) (shared.Count 2)
    ∷ call 0 (shared.Size 0) (shared.Count 2)
    ∷ call 0 (shared.Get 0) (shared.Item (str (codes "a")))
    ∷ call 0 (shared.Get 0) (shared.Item pair)
    ∷ call 0 (shared.Size 0) (shared.Count 0)
    ∷ call 0 (shared.End Returned) shared.Done
    ∷ []

-- two names, one of which has a quote, with their parcels
abbrev pub two_names : List (Text × Tree)
two_names = (codes "x", three) ∷ (codes "it's", pair) ∷ []

-- the line of a first call, of interpreter 7
abbrev pub first : shared.Action → shared.Answer → Text
first a r = call_line 1 (call 7 a r)

pub record HistoryCases : Type 0 where
  pub no_calls : history [] ≡ []
  -- eleven calls, of which the tenth and the eleventh have two digits
  pub eleven_calls :
      history of_a_queue
      ≡ codes "1 0 take = run 0\n"
      ++ codes "2 0 queue 2 = queue 0\n"
      ++ codes "3 0 put 0 'a' = done\n"
      ++ codes "4 0 put 0 (1, None) = done\n"
      ++ codes "5 0 putnow 0 3 = full\n"
      ++ codes "6 0 size 0 = 2\n"
      ++ codes "7 0 size 0 = 2\n"
      ++ codes "8 0 get 0 = 'a'\n"
      ++ codes "9 0 get 0 = (1, None)\n"
      ++ codes "10 0 size 0 = 0\n"
      ++ codes "11 0 end returned = done\n"
  -- each other action and answer
  pub made : first shared.Create (shared.Created 12) ≡ codes "1 7 create = interpreter 12\n"
  pub none_more : first shared.Create shared.Limit ≡ codes "1 7 create = limit\n"
  pub put_at_once : first (shared.PutNow 3 three) shared.Done ≡ codes "1 7 putnow 3 3 = done\n"
  pub none_there : first (shared.GetNow 3) shared.Empty ≡ codes "1 7 getnow 3 = empty\n"
  pub one_there : first (shared.GetNow 3) (shared.Item three) ≡ codes "1 7 getnow 3 = 3\n"
  pub prepared : first (shared.Prepare 2 two_names) shared.Done ≡ codes "1 7 prepare 2 'x' \"it's\" = done\n"
  pub prepared_with_nothing : first (shared.Prepare 2 []) shared.Running ≡ codes "1 7 prepare 2 = running\n"
  pub started : first (shared.Start 2 (codes "x = 1")) (shared.Started 9) ≡ codes "1 7 start 2 = run 9\n"
  pub not_started : first (shared.Start 2 []) shared.NotFound ≡ codes "1 7 start 2 = notfound\n"
  pub waited : first (shared.Await 9) (shared.Ended Returned) ≡ codes "1 7 await 9 = returned\n"
  pub waited_for_an_exception :
      first (shared.Await 9) (shared.Ended (Raised KeyError (codes "'k'"))) ≡ codes "1 7 await 9 = raised KeyError \"'k'\"\n"
  pub runs : first (shared.IsRunning 2) (shared.Truth true) ≡ codes "1 7 running 2 = True\n"
  pub does_not_run : first (shared.IsRunning 2) (shared.Truth false) ≡ codes "1 7 running 2 = False\n"
  pub closed : first (shared.Close 2) shared.Done ≡ codes "1 7 close 2 = done\n"
  pub closes_itself : first (shared.Close 7) shared.Current ≡ codes "1 7 close 7 = current\n"
  pub closes_the_main_one : first (shared.Close 0) shared.Main ≡ codes "1 7 close 0 = main\n"
  pub listed : first shared.ListAll (shared.Ids (0 ∷ 7 ∷ 12 ∷ [])) ≡ codes "1 7 list = 0 7 12\n"
  pub none_listed : first shared.ListAll (shared.Ids []) ≡ codes "1 7 list = \n"
  pub given_names : first shared.Take (shared.Given (shared.Bind two_names)) ≡ codes "1 7 take = bind 'x' \"it's\"\n"
  pub given_no_names : first shared.Take (shared.Given (shared.Bind [])) ≡ codes "1 7 take = bind\n"
  pub given_the_end : first shared.Take (shared.Given shared.Closing) ≡ codes "1 7 take = closing\n"
  pub left : first (shared.End (Raised ValueError [])) shared.Done ≡ codes "1 7 end raised ValueError '' = done\n"
