-- Values in the midst of being written.
use Rattle.std.specs.Prelude.{ℕ, zero, suc, List, [], ◌∷◌, length, nat_le, Bool, false}
use Rattle.si_semantics.specs.Value.{Value, Str, Object}
use Rattle.si_semantics.specs.Opened.{Opened}
use Rattle.si_semantics.specs.Text.{max_length, Written, Parts, too_deep, parts_by, repr_of, repr_opened, str_of, str_opened, str_exception}
use Rattle.si_ops.specs.declared.inside.Inside.{Inside, Nothing, Within'}

-- the addresses of the lists and dicts that are being written
abbrev pub addresses_of : Inside → List ℕ
addresses_of Nothing = []
addresses_of (Within' x p outer) = x ∷ addresses_of outer

-- how the parts of a value are written, where tuples and objects are within each other at most so deep
abbrev pub parts_of : ℕ → List Object → Parts
parts_of zero store = too_deep
parts_of (suc n) store = parts_by (repr_of n store)

-- the repr of an opened value, and its str where so many may be within it
abbrev pub repr_within : ℕ → List Object → (inside : List ℕ) → Opened → Written
repr_within n store inside o = repr_opened (parts_of n store) inside o

abbrev pub str_within : ℕ → List Object → Opened → Written
str_within n store o = str_opened (str_exception (repr_of n store []) (str_of n store)) (repr_within (suc n) store [] o) o

-- a value is a str that is no longer than a str may be: it is its own str
abbrev pub is_own_str : Value → Bool
is_own_str (Str s) = nat_le (length s) max_length
is_own_str v = false
