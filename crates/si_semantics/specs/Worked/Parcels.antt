-- Worked cases of parcels, computed from the definitions: the texts are what CPython 3.14 prints, but for that of a queue.
use Rattle.std.specs.Prelude.{◌≡◌, codes, ℕ, List, [], ◌∷◌, ◌++◌, pos, negsuc, true, false}
use Rattle.si_plain.specs.declared.kind.Kind.TheVariants.{ValueError}
use Rattle.si_semantics.specs.Parcels.{Tree, Leaf, Nothing, Truth, Int, Str, Bytes, Queue, tuple_of, size_of, levels_of, longest_in, shown}
use Rattle.si_semantics.specs.Life.{Raised}
use Rattle.si_semantics.specs.Actions as action
use Rattle.si_semantics.specs.Actions.{fits}

-- `None`, `1` and a str
abbrev pub none : Tree
none = Leaf Nothing

abbrev pub one : Tree
one = Leaf (Int (pos 1))

abbrev pub str : List ℕ → Tree
str s = Leaf (Str s)

-- `('a', (1, None), b'\x00')`
abbrev pub nested : Tree
nested = tuple_of (str (codes "a") ∷ tuple_of (one ∷ none ∷ []) ∷ Leaf (Bytes (0 ∷ [])) ∷ [])

-- `(((),),)`
abbrev pub empties : Tree
empties = tuple_of (tuple_of (tuple_of [] ∷ []) ∷ [])

pub record ParcelCases : Type 0 where
  pub shown_nothing : shown none ≡ codes "None"
  pub shown_true : shown (Leaf (Truth true)) ≡ codes "True"
  pub shown_false : shown (Leaf (Truth false)) ≡ codes "False"
  pub shown_int : shown (Leaf (Int (negsuc 41))) ≡ codes "-42"
  pub shown_str : shown (str (codes "it's")) ≡ codes "\"it's\""
  pub shown_escapes : shown (str (39 ∷ 34 ∷ 92 ∷ 10 ∷ 127 ∷ 233 ∷ [])) ≡ codes "'\\'\"\\\\\\n\\x7f" ++ 233 ∷ codes "'"
  pub shown_bytes : shown (Leaf (Bytes (97 ∷ 0 ∷ 255 ∷ []))) ≡ codes "b'a\\x00\\xff'"
  pub shown_queue : shown (Leaf (Queue 3 10)) ≡ codes "Queue(3)"
  pub shown_empty : shown (tuple_of []) ≡ codes "()"
  pub shown_single : shown (tuple_of (one ∷ [])) ≡ codes "(1,)"
  pub shown_pair : shown (tuple_of (one ∷ none ∷ [])) ≡ codes "(1, None)"
  pub shown_nested : shown nested ≡ codes "('a', (1, None), b'\\x00')"
  pub shown_empties : shown empties ≡ codes "(((),),)"
  pub size_of_an_atom : size_of one ≡ 1
  pub size_of_the_empty : size_of (tuple_of []) ≡ 1
  pub size_of_nested : size_of nested ≡ 6
  pub levels_of_an_atom : levels_of one ≡ 0
  pub levels_of_the_empty : levels_of (tuple_of []) ≡ 1
  pub levels_of_nested : levels_of nested ≡ 2
  pub levels_of_empties : levels_of empties ≡ 3
  pub longest_in_nested : longest_in (tuple_of (nested ∷ str (codes "abc") ∷ [])) ≡ 3
  pub size_is_counted : fits (action.Count 2) (action.Size 0) ≡ true
  pub put_is_never_full : fits action.Full (action.Put 0 one) ≡ false
  pub put_now_may_be_full : fits action.Full (action.PutNow 0 one) ≡ true
  pub start_is_not_done : fits action.Done (action.Start 1 (codes "1")) ≡ false
  pub main_stays_open : fits action.Main (action.Close 0) ≡ true
  pub await_tells_the_end : fits (action.Ended (Raised ValueError [])) (action.Await 0) ≡ true
  pub take_is_given_a_job : fits (action.Given action.Closing) action.Take ≡ true
