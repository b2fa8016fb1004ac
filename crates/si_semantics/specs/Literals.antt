-- The values of literals (Python Language Reference 3.14, 2.5 and 2.6). A character stands for its code.
use Rattle.std.specs.Prelude.{ℕ, zero, suc, ◌+◌, ◌-◌, ◌*◌, ◌==◌, ℤ, pos, ◌&&◌, ◌||◌, not, List, [], ◌∷◌, ◌++◌, length, take, drop, chars, Bool, true, false, Option, Some, None, option_map, option_and_then, nat_lt, nat_le, if◌then◌else◌}
use Rattle.std.specs.List.{list_all}
use Rattle.std.specs.Char.{digit_value}
use Rattle.si_semantics.specs.Value.{Text}

-- ---- integers (2.6.1, "Integer literals")

-- the greatest value of an integer literal (this project's own)
abbrev pub max_int : ℕ
max_int = 9223372036854775807

-- The number that digits of a base write after n. One `_` (95) may stand before a digit; where a digit is due, none
-- may.
abbrev pub digits_after : ℕ → Bool → ℕ → List ℕ → Option ℕ
digits_after base due n [] = if due then None else Some n
digits_after base due n (c ∷ cs) =
    if (c == 95) && not due then digits_after base true n cs
    else (if nat_lt (digit_value c) base then digits_after base false (n * base + digit_value c) cs else None)

-- at least one digit after a prefix, where `_` may stand before the first one too
abbrev pub after_prefix : ℕ → List ℕ → Option ℕ
after_prefix base [] = None
after_prefix base (c ∷ cs) = digits_after base false 0 (c ∷ cs)

-- After a zero: `x`, `o`, `b` in either case and digits of base 16, 8 or 2; or else zeros only, the digits of base 1.
abbrev pub after_zero : List ℕ → Option ℕ
after_zero [] = Some 0
after_zero (c ∷ cs) =
    if (c == 120) || (c == 88) then after_prefix 16 cs
    else (if (c == 111) || (c == 79) then after_prefix 8 cs
    else (if (c == 98) || (c == 66) then after_prefix 2 cs
    else digits_after 1 false 0 (c ∷ cs)))

-- the number that a literal writes: a decimal one has no zero (48) in front
abbrev pub number_of : List ℕ → Option ℕ
number_of [] = None
number_of (c ∷ cs) = if c == 48 then after_zero cs else digits_after 10 true 0 (c ∷ cs)

abbrev pub in_range : Option ℕ → Option ℤ
in_range None = None
in_range (Some n) = if nat_le n max_int then Some (pos n) else None

-- the value of an integer literal
abbrev pub value_of_int : List ℕ → Option ℤ
value_of_int literal = in_range (number_of literal)

-- ---- texts and bytes (2.5, "String and Bytes literals")

abbrev pub is_quote : ℕ → Bool
is_quote b = (b == 39) || (b == 34)

-- `r`, with which a backslash stands for itself (2.5.3, "Raw string literals"), in either case
abbrev pub is_raw : ℕ → Bool
is_raw b = (b == 114) || (b == 82)

-- `b`, which makes a literal one of bytes (2.5.2, "Bytes literals"), in either case
abbrev pub is_of_bytes : ℕ → Bool
is_of_bytes b = (b == 98) || (b == 66)

-- a prefix of one letter: `r`, `u` or `b` in either case
abbrev pub is_prefix : ℕ → Bool
is_prefix b = is_raw b || (is_of_bytes b || ((b == 117) || (b == 85)))

-- a prefix of two letters: `br` or `rb`, each letter in either case
abbrev pub is_double_prefix : ℕ → ℕ → Bool
is_double_prefix b c = (is_of_bytes b && is_raw c) || (is_raw b && is_of_bytes c)

-- how many letters a literal's prefix has
abbrev pub prefix_at : List ℕ → ℕ
prefix_at [] = 0
prefix_at (b ∷ []) = if is_prefix b then 1 else 0
prefix_at (b ∷ (c ∷ bs)) = if is_double_prefix b c then 2 else (if is_prefix b then 1 else 0)

-- a literal without its prefix
abbrev pub unprefixed : List ℕ → List ℕ
unprefixed bs = drop (prefix_at bs) bs

-- how many quotes open a literal without prefix: three in a row always open one in three quotes
abbrev pub quotes_at : List ℕ → ℕ
quotes_at (a ∷ (b ∷ (c ∷ bs))) = if (a == b) && (b == c) then 3 else 1
quotes_at _ = 1

-- a raw literal has `r` in front, or after a `b`
abbrev pub begins_raw : Text → Bool
begins_raw [] = false
begins_raw (c ∷ []) = is_raw c
begins_raw (c ∷ (d ∷ cs)) = is_raw c || (is_of_bytes c && is_raw d)

-- a literal of bytes has `b` in front, or after an `r`
abbrev pub begins_bytes : Text → Bool
begins_bytes [] = false
begins_bytes (c ∷ []) = is_of_bytes c
begins_bytes (c ∷ (d ∷ cs)) = is_of_bytes c || (is_raw c && is_of_bytes d)

-- without its first and its last character
abbrev pub peeled : Text → Text
peeled cs = take (length cs - 2) (drop 1 cs)

-- what stands between the quotes of a literal without prefix
abbrev pub between_quotes : Text → Text
between_quotes cs = if quotes_at cs == 3 then peeled (peeled (peeled cs)) else peeled cs

abbrev pub begins_line_feed : Text → Bool
begins_line_feed [] = false
begins_line_feed (c ∷ cs) = c == 10

-- CR LF (13, 10) and CR are read as LF, in literals too (2.1.2, "Physical lines")
abbrev pub with_line_feeds : Text → Text
with_line_feeds [] = []
with_line_feeds (c ∷ cs) =
    if (c == 13) && begins_line_feed cs then with_line_feeds cs else (if c == 13 then 10 else c) ∷ with_line_feeds cs

-- ---- escapes (2.5.4, "Escape sequences")

-- the escapes of one letter: `\\`, `\'`, `\"`, `\a`, `\b`, `\f`, `\n`, `\r`, `\t`, `\v`
abbrev pub letter_escape : ℕ → Option ℕ
letter_escape c =
    if (c == 92) || ((c == 39) || (c == 34)) then Some c
    else (if c == 97 then Some 7
    else (if c == 98 then Some 8
    else (if c == 102 then Some 12
    else (if c == 110 then Some 10
    else (if c == 114 then Some 13
    else (if c == 116 then Some 9
    else (if c == 118 then Some 11 else None)))))))

-- a character of the value, or none; and how many of the literal's characters write it
abbrev pub Written : Type 0
Written = Text × ℕ

abbrev pub with_one_more : Option (ℕ × ℕ) → Option (ℕ × ℕ)
with_one_more None = None
with_one_more (Some r) = Some (r.0, suc r.1)

-- The number that digits of a base write after n, as many as there are, but at least and at most so many; and how many
-- they are.
abbrev pub digits_within : ℕ → ℕ → ℕ → ℕ → Text → Option (ℕ × ℕ)
digits_within base least zero n cs = Some (n, 0)
digits_within base least (suc most) n [] = if least == 0 then Some (n, 0) else None
digits_within base least (suc most) n (c ∷ cs) =
    if nat_lt (digit_value c) base
    then with_one_more (digits_within base (least - 1) most (n * base + digit_value c) cs)
    else (if least == 0 then Some (n, 0) else None)

-- a character is at most 10FFFF and no surrogate
abbrev pub is_character : ℕ → Bool
is_character n = nat_lt n 55296 || (nat_lt 57343 n && nat_le n 1114111)

-- the character with this number, which is at most so much
abbrev pub numbered : ℕ → Option (ℕ × ℕ) → Option Written
numbered limit None = None
numbered limit (Some (n, count)) = if nat_le n limit && is_character n then Some (n ∷ [], count) else None

-- the letter of an escape is one character more
abbrev pub after_letter : Option Written → Option Written
after_letter None = None
after_letter (Some (c, count)) = Some (c, suc count)

abbrev pub escape_by : Option ℕ → ℕ → Text → Option Written
escape_by (Some d) c cs = Some (d ∷ [], 1)
escape_by None c cs =
    -- a backslash and a line end stand for nothing
    if c == 10 then Some ([], 1)
    -- one to three octal digits, at most 377
    else (if nat_le 48 c && nat_le c 55 then numbered 255 (digits_within 8 1 3 0 (c ∷ cs))
    -- `\x` and two digits, `\u` and four, `\U` and eight
    else (if c == 120 then after_letter (numbered 1114111 (digits_within 16 2 2 0 cs))
    else (if c == 117 then after_letter (numbered 1114111 (digits_within 16 4 4 0 cs))
    else (if c == 85 then after_letter (numbered 1114111 (digits_within 16 8 8 0 cs))
    -- `\N` is refused (this project's own); with any other character a backslash stands for itself
    else (if c == 78 then None else Some (92 ∷ [], 0))))))

-- what begins an escape in texts alone: `N`, `U`, `u`
abbrev pub is_of_texts : ℕ → Bool
is_of_texts c = (c == 78) || ((c == 85) || (c == 117))

-- what stands after a backslash, in bytes or in a text: in bytes `\N`, `\U` and `\u` are no escapes, and the backslash
-- stands for itself
abbrev pub escape : Bool → Text → Option Written
escape bytes [] = Some (92 ∷ [], 0)
escape bytes (c ∷ cs) = if bytes && is_of_texts c then Some (92 ∷ [], 0) else escape_by (letter_escape c) c cs

-- The bytes, or the text, with the escapes read, after so many characters that belong to an escape before.
abbrev pub unescaped : Bool → ℕ → Text → Option Text
unescaped bytes skipped [] = Some []
unescaped bytes zero (c ∷ cs) =
    if c == 92 then option_and_then (λ (e : Written). option_map (λ text. e.0 ++ text) (unescaped bytes e.1 cs)) (escape bytes cs)
    else option_map (λ text. c ∷ text) (unescaped bytes 0 cs)
unescaped bytes (suc skipped) (c ∷ cs) = unescaped bytes skipped cs

-- in a raw literal a backslash stands for itself (2.5.3)
abbrev pub value_of_body : (bytes raw : Bool) → Text → Option Text
value_of_body bytes true cs = Some cs
value_of_body bytes false cs = unescaped bytes 0 cs

-- what a literal writes, of bytes or of a text, by its characters
abbrev pub value_of_literal : (bytes : Bool) → Text → Option Text
value_of_literal bytes cs = value_of_body bytes (begins_raw cs) (with_line_feeds (between_quotes (unprefixed cs)))

-- the value of a str literal, by its bytes
abbrev pub value_of_str : List ℕ → Option Text
value_of_str literal = value_of_literal false (chars literal)

-- the value of a bytes literal, by its bytes, which are ASCII alone (2.5.2, "Bytes literals")
abbrev pub value_of_bytes : List ℕ → Option (List ℕ)
value_of_bytes literal = if list_all (λ b. nat_lt b 128) literal then value_of_literal true (chars literal) else None
