-- The integers that texts write (Python Standard Library 3.14, "Built-in Functions": int). A character stands for its
-- code.
use Rattle.std.specs.Prelude.{ℕ, ◌+◌, ◌-◌, ◌*◌, ◌==◌, ℤ, pos, neg_ℤ, ◌&&◌, ◌||◌, [], ◌∷◌, Bool, true, false, Option, Some, None, option_map, Result, Err, nat_le, if◌then◌else◌}
use Rattle.si_plain.specs.declared.kind.Kind.{Kind}
use Rattle.si_plain.specs.declared.kind.Kind.TheVariants.{ValueError}
use Rattle.si_plain.specs.Integers.{in_range}
use Rattle.si_semantics.specs.Value.{Text}

-- white space: a space, and those from the tab to the carriage return; that of ASCII alone (this project's own)
abbrev pub is_space : ℕ → Bool
is_space c = (c == 32) || (nat_le 9 c && nat_le c 13)

-- a decimal digit; those of ASCII alone (this project's own)
abbrev pub is_digit : ℕ → Bool
is_digit c = nat_le 48 c && nat_le c 57

-- a text without the white space in front
abbrev pub after_space : Text → Text
after_space [] = []
after_space (c ∷ cs) = if is_space c then after_space cs else c ∷ cs

-- a number, if nothing is left
abbrev pub whole : ℕ → Text → Option ℕ
whole n [] = Some n
whole n (c ∷ cs) = None

-- The number that digits write after n. One `_` (95) may stand before a digit; where a digit is due, none may. White
-- space may follow, and nothing else.
abbrev pub digits_after : Bool → ℕ → Text → Option ℕ
digits_after due n [] = if due then None else Some n
digits_after due n (c ∷ cs) =
    if is_digit c then digits_after false (n * 10 + (c - 48)) cs
    else (if due then None
    else (if c == 95 then digits_after true n cs
    else whole n (after_space (c ∷ cs))))

-- at least one digit, after `-` (45), `+` (43) or no sign
abbrev pub signed : Text → Option ℤ
signed [] = None
signed (c ∷ cs) =
    if c == 45 then option_map (λ n. neg_ℤ (pos n)) (digits_after true 0 cs)
    else option_map (λ n. pos n) (digits_after true 0 (if c == 43 then cs else c ∷ cs))

-- an integer that was read, where there is one and it is not past the integers
abbrev pub read : Option ℤ → Result ℤ Kind
read None = Err ValueError
read (Some i) = in_range i

-- the integer that a text writes, with white space before it and after it
abbrev pub read_integer : Text → Result ℤ Kind
read_integer s = read (signed (after_space s))
