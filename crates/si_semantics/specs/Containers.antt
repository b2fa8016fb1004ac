-- What changes lists and dicts, and what is made of them (Python Language Reference 3.14, 6.2.5, 6.2.7, 7.2, 7.2.1 and 7.5;
-- Standard Library, "Built-in Types": mutable sequence types, and "dict"). The messages and the limits are this project's
-- own.
use Rattle.std.specs.Prelude.{ℕ, ◌+◌, ℤ, List, [], ◌∷◌, ◌++◌, length, take, drop, Option, Some, None, Result, Ok, Err, nat_eq, nat_lt, slice_get, slice_set, if◌then◌else◌}
use Rattle.si_plain.specs.declared.kind.Kind.{Kind}
use Rattle.si_plain.specs.declared.kind.Kind.TheVariants.{KeyError, TypeError, ValueError}
use Rattle.si_semantics.specs.Value.{Value, Nothing, Address, Key, Object, Items, Pairs}
use Rattle.si_semantics.specs.Text.{max_length}
use Rattle.si_semantics.specs.Dicts.{key_of, value_at, with_pair, without_key, with_pairs}
use Rattle.si_semantics.specs.Tree as tree
use Rattle.si_semantics.specs.Tree.{BinaryOperator}
use Rattle.si_semantics.specs.World.{World, Ran, Threw}
use Rattle.si_semantics.specs.Operations.{gave, placed, too_long, wrong_type, integer_in, items_from, operate}
use Rattle.si_semantics.specs.Subscription.{item_meant, outside}

-- an object is another from now on, at its address
abbrev pub changed : ℕ → Object → World → World
changed x o w = record w { store = slice_set w.store x o }

-- a change was made, and there is no value
abbrev pub did : ℕ → Object → World → Ran
did x o w = gave Nothing (changed x o w)

-- a key that is not there: it is the exception's argument
abbrev pub no_key : Value → World → Ran
no_key v w = Threw KeyError (Some v) w

-- ---- displays

-- a new dict of pairs
abbrev pub dict_made : Option (List (Key × Value)) → World → Ran
dict_made (Some ps) w = placed (Pairs ps) w
dict_made None w = wrong_type w

-- a new dict of keys and values by turns: a key that comes again has the later value (6.2.7)
abbrev pub dict_of : List Value → World → Ran
dict_of vs w = dict_made (with_pairs [] vs) w

-- ---- `u[v] = z` and `del u[v]`

-- an item of a list is another value
abbrev pub item_set : ℕ → List Value → Option ℕ → Value → World → Ran
item_set x vs (Some k) z w = did x (Items (slice_set vs k z)) w
item_set x vs None z w = outside w

abbrev pub set_in_list : ℕ → List Value → Option ℤ → Value → World → Ran
set_in_list x vs (Some i) z w = item_set x vs (item_meant (length vs) i) z w
set_in_list x vs None z w = wrong_type w

abbrev pub set_in_dict : ℕ → List (Key × Value) → Option Key → Value → World → Ran
set_in_dict x ps (Some k) z w = did x (Pairs (with_pair k z ps)) w
set_in_dict x ps None z w = wrong_type w

abbrev pub set_in_object : ℕ → Option Object → (index z : Value) → World → Ran
set_in_object x (Some (Items vs)) v z w = set_in_list x vs (integer_in v) z w
set_in_object x (Some (Pairs ps)) v z w = set_in_dict x ps (key_of v) z w
set_in_object x _ v z w = wrong_type w

-- `u[v] = z`: of a list the item at an index, of a dict the value of a key (7.2); no other value can be changed so
abbrev pub set_item : (object index : Value) → Value → World → Ran
set_item (Address x) v z w = set_in_object x (slice_get w.store x) v z w
set_item _ v z w = wrong_type w

-- items without the one at a position
abbrev pub without_item : ℕ → List Value → List Value
without_item k vs = take k vs ++ drop (k + 1) vs

abbrev pub item_deleted : ℕ → List Value → Option ℕ → World → Ran
item_deleted x vs (Some k) w = did x (Items (without_item k vs)) w
item_deleted x vs None w = outside w

abbrev pub delete_in_list : ℕ → List Value → Option ℤ → World → Ran
delete_in_list x vs (Some i) w = item_deleted x vs (item_meant (length vs) i) w
delete_in_list x vs None w = wrong_type w

-- a key of a dict is deleted, where it is there
abbrev pub pair_deleted : ℕ → List (Key × Value) → (index : Value) → Key → Option Value → World → Ran
pair_deleted x ps v k (Some u) w = did x (Pairs (without_key k ps)) w
pair_deleted x ps v k None w = no_key v w

abbrev pub delete_in_dict : ℕ → List (Key × Value) → (index : Value) → Option Key → World → Ran
delete_in_dict x ps v (Some k) w = pair_deleted x ps v k (value_at k ps) w
delete_in_dict x ps v None w = wrong_type w

abbrev pub delete_in_object : ℕ → Option Object → (index : Value) → World → Ran
delete_in_object x (Some (Items vs)) v w = delete_in_list x vs (integer_in v) w
delete_in_object x (Some (Pairs ps)) v w = delete_in_dict x ps v (key_of v) w
delete_in_object x _ v w = wrong_type w

-- `del u[v]`: of a list the item at an index, of a dict a key with its value (7.5)
abbrev pub delete_item : (object index : Value) → World → Ran
delete_item (Address x) v w = delete_in_object x (slice_get w.store x) v w
delete_item _ v w = wrong_type w

-- ---- `list += x`

-- items at the end of a list, where it is not too long with them; else it stays as it was
abbrev pub extended : ℕ → List Value → Option (List Value) → World → Ran
extended x vs (Some us) w = if nat_lt max_length (length vs + length us) then too_long w else gave (Address x) (changed x (Items (vs ++ us)) w)
extended x vs None w = wrong_type w

abbrev pub added_to : ℕ → Option Object → Value → World → Ran
added_to x (Some (Items vs)) v w = extended x vs (items_from v w) w
added_to x _ v w = operate tree.Add (Address x) v w

-- the operator of an augmented assignment: `+=` adds the items of whatever can be gone over to a list, in its place; all else
-- is as between two operands (7.2.1; that no other operator changes an object is this project's own)
abbrev pub augment : BinaryOperator → Value → Value → World → Ran
augment tree.Add (Address x) v w = added_to x (slice_get w.store x) v w
augment o u v w = operate o u v w

-- ---- unpacking

-- as many items as are wanted
abbrev pub fit : ℕ → Option (List Value) → Result (List Value) Kind
fit n (Some vs) = if nat_eq (length vs) n then Ok vs else Err ValueError
fit n None = Err TypeError

-- the items of a value, for so many targets (7.2)
abbrev pub unpacked : ℕ → Value → World → Result (List Value) Kind
unpacked n v w = fit n (items_from v w)

-- ---- methods

-- `append`: a value at the end of a list
abbrev pub append : ℕ → Option Object → Value → World → Ran
append x (Some (Items vs)) v w = if nat_lt (length vs) max_length then did x (Items (vs ++ v ∷ [])) w else too_long w
append x _ v w = wrong_type w

-- an item of a list is given and taken away
abbrev pub taken_at : ℕ → List Value → ℕ → Option Value → World → Ran
taken_at x vs k (Some v) w = gave v (changed x (Items (without_item k vs)) w)
taken_at x vs k None w = outside w

abbrev pub item_taken : ℕ → List Value → Option ℕ → World → Ran
item_taken x vs (Some k) w = taken_at x vs k (slice_get vs k) w
item_taken x vs None w = outside w

abbrev pub pop_in_list : ℕ → List Value → Option ℤ → World → Ran
pop_in_list x vs (Some i) w = item_taken x vs (item_meant (length vs) i) w
pop_in_list x vs None w = wrong_type w

-- `pop` of a list: the item at an index, which may be left out and is the last then
abbrev pub pop_item : ℕ → Option Object → Option ℤ → World → Ran
pop_item x (Some (Items vs)) i w = pop_in_list x vs i w
pop_item x _ i w = wrong_type w

-- the value of a key, or another one where it is not there
abbrev pub value_or : Option Value → Value → World → Ran
value_or (Some v) other w = gave v w
value_or None other w = gave other w

abbrev pub get_in_dict : List (Key × Value) → Option Key → (other : Value) → World → Ran
get_in_dict ps (Some k) other w = value_or (value_at k ps) other w
get_in_dict ps None other w = wrong_type w

-- `get` of a dict: the value of a key, or another value
abbrev pub get_value : Option Object → (key other : Value) → World → Ran
get_value (Some (Pairs ps)) v other w = get_in_dict ps (key_of v) other w
get_value _ v other w = wrong_type w

-- a key is taken away, and its value given
abbrev pub pair_taken : ℕ → List (Key × Value) → (index : Value) → Key → Option Value → World → Ran
pair_taken x ps v k (Some u) w = gave u (changed x (Pairs (without_key k ps)) w)
pair_taken x ps v k None w = no_key v w

abbrev pub pop_in_dict : ℕ → List (Key × Value) → (index : Value) → Option Key → World → Ran
pop_in_dict x ps v (Some k) w = pair_taken x ps v k (value_at k ps) w
pop_in_dict x ps v None w = wrong_type w

-- `pop` of a dict: the value of a key, which is taken away
abbrev pub pop_value : ℕ → Option Object → (key : Value) → World → Ran
pop_value x (Some (Pairs ps)) v w = pop_in_dict x ps v (key_of v) w
pop_value x _ v w = wrong_type w
