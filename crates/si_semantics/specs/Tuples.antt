-- Tuples: how large they are, and which there are (Python Language Reference 3.14, 3.2.5.1; Standard Library, "Built-in
-- Types": common sequence operations). The limits are this project's own.
use Rattle.std.specs.Prelude.{ℕ, zero, suc, ◌+◌, ℤ, pos, negsuc, max, List, [], ◌∷◌, ◌++◌, Bool, ◌||◌, nat_lt}
use Rattle.si_semantics.specs.Value.{Text, Value, Values, Int, Str, Tuple, NoValues, MoreValues}

-- how many values a value is: an atom 1, a tuple 1 and its items
abbrev mutual
  pub count_of : Value → ℕ
  count_of (Tuple vs) = 1 + counts_of vs
  count_of _ = 1

  pub counts_of : Values → ℕ
  counts_of NoValues = 0
  counts_of (MoreValues v vs) = count_of v + counts_of vs

-- how many levels of tuples: an atom has none, a tuple one more than its deepest item, and so `()` one
abbrev mutual
  pub levels_of : Value → ℕ
  levels_of (Tuple vs) = 1 + deepest_of vs
  levels_of _ = 0

  pub deepest_of : Values → ℕ
  deepest_of NoValues = 0
  deepest_of (MoreValues v vs) = max (levels_of v) (deepest_of vs)

-- the most values and the most levels of a tuple
abbrev pub max_values : ℕ
max_values = 65536

abbrev pub max_levels : ℕ
max_levels = 200

-- a value is past them
abbrev pub is_too_large : Value → Bool
is_too_large v = nat_lt max_values (count_of v) || nat_lt max_levels (levels_of v)

-- the characters of a text, each as a str
abbrev pub characters_in : Text → List Value
characters_in [] = []
characters_in (c ∷ cs) = Str (c ∷ []) ∷ characters_in cs

-- numbers, each as an integer
abbrev pub numbers_in : List ℕ → List Value
numbers_in [] = []
numbers_in (n ∷ ns) = Int (pos n) ∷ numbers_in ns

-- integers, each as a value
abbrev pub integers_in : List ℤ → List Value
integers_in [] = []
integers_in (i ∷ is) = Int i ∷ integers_in is

-- items so many times
abbrev pub copies : ℕ → List Value → List Value
copies zero vs = []
copies (suc n) vs = vs ++ copies n vs

-- items repeated, below 0 as 0
abbrev pub repeated_items : List Value → ℤ → List Value
repeated_items vs (pos n) = copies n vs
repeated_items vs (negsuc n) = []
