-- Subscriptions (Python Language Reference 3.14, 6.3.2; Standard Library, "Built-in Types": common sequence operations).
use Rattle.std.specs.Prelude.{codes, ℕ, ◌+◌, ◌-◌, ◌+ℤ◌, ◌*ℤ◌, ℤ, pos, negsuc, List, [], ◌∷◌, length, Option, Some, None, nat_lt, slice_get, if◌then◌else◌}
use Rattle.si_plain.specs.declared.kind.Kind.TheVariants.{IndexError, KeyError}
use Rattle.si_semantics.specs.Value.{Text, Value, Int, Str, Bytes, Range, Tuple, Address, Key, Object, Items, Pairs, items_of}
use Rattle.si_semantics.specs.Dicts.{key_of, value_at}
use Rattle.si_semantics.specs.World.{World, Ran, Threw}
use Rattle.si_semantics.specs.Operations.{gave, refused, wrong_type, integer_in, range_length}

-- which of so many items an index means, counted from 0: the first is 0, and the last is -1 too; an index that means none
-- lies outside
abbrev pub item_meant : ℕ → ℤ → Option ℕ
item_meant n (pos k) = if nat_lt k n then Some k else None
item_meant n (negsuc k) = if nat_lt k n then Some (n - (k + 1)) else None

-- an index that lies outside (the message is this project's own)
abbrev pub outside : World → Ran
outside w = refused IndexError (codes "index out of range") w

-- a character as a str, where there is one
abbrev pub character : Option ℕ → World → Ran
character (Some c) w = gave (Str (c ∷ [])) w
character None w = outside w

-- the character of a str
abbrev pub character_at : Text → Option ℕ → World → Ran
character_at s (Some k) w = character (slice_get s k) w
character_at s None w = outside w

-- the item of a range: so many steps from its start
abbrev pub number_at : (start step : ℤ) → Option ℕ → World → Ran
number_at a c (Some k) w = gave (Int (a +ℤ pos k *ℤ c)) w
number_at a c None w = outside w

-- a byte as an integer, where there is one
abbrev pub byte : Option ℕ → World → Ran
byte (Some b) w = gave (Int (pos b)) w
byte None w = outside w

-- the byte of bytes
abbrev pub byte_at : List ℕ → Option ℕ → World → Ran
byte_at bs (Some k) w = byte (slice_get bs k) w
byte_at bs None w = outside w

-- an item, where there is one
abbrev pub item : Option Value → World → Ran
item (Some v) w = gave v w
item None w = outside w

-- the item of a tuple
abbrev pub item_of : List Value → Option ℕ → World → Ran
item_of vs (Some k) w = item (slice_get vs k) w
item_of vs None w = outside w

-- the item of a value at an index that is an integer: a str has its characters, each as a str of one, bytes have
-- integers, a range has its integers, however many they are, and a tuple has its items
abbrev pub item_at : Value → Option ℤ → World → Ran
item_at (Str s) (Some i) w = character_at s (item_meant (length s) i) w
item_at (Bytes bs) (Some i) w = byte_at bs (item_meant (length bs) i) w
item_at (Tuple vs) (Some i) w = item_of (items_of vs) (item_meant (length (items_of vs)) i) w
item_at (Range a b c) (Some i) w = number_at a c (item_meant (range_length a b c) i) w
item_at _ _ w = wrong_type w

-- the item of a list
abbrev pub item_in_list : List Value → Option ℤ → World → Ran
item_in_list vs (Some i) w = item_of vs (item_meant (length vs) i) w
item_in_list vs None w = wrong_type w

-- the value of a key; a key that is not there is the exception's argument
abbrev pub value_found : (index : Value) → Option Value → World → Ran
value_found v (Some u) w = gave u w
value_found v None w = Threw KeyError (Some v) w

-- the value of what is to be a key of a dict
abbrev pub value_in_dict : List (Key × Value) → (index : Value) → Option Key → World → Ran
value_in_dict ps v (Some k) w = value_found v (value_at k ps) w
value_in_dict ps v None w = wrong_type w

-- of an object: a list has items, a dict values of keys
abbrev pub object_item : Option Object → (index : Value) → World → Ran
object_item (Some (Items vs)) v w = item_in_list vs (integer_in v) w
object_item (Some (Pairs ps)) v w = value_in_dict ps v (key_of v) w
object_item _ v w = wrong_type w

-- `u[v]`: an item at an index, where True and False count as 1 and 0, or the value of a key of a dict
abbrev pub subscript : (object index : Value) → World → Ran
subscript (Address x) v w = object_item (slice_get w.store x) v w
subscript u v w = item_at u (integer_in v) w
