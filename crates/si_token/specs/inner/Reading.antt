-- The word at the front as a function on lists, which the code computes.
use Rattle.std.specs.Prelude.{ℕ, suc, ◌+◌, ◌==◌, ◌&&◌, ◌||◌, List, [], ◌∷◌, Bool, false, Option, Some, None, take, drop, if◌then◌else◌}
use Rattle.std.specs.List.{prefix_len}
use Rattle.si_semantics.specs.Literals.{is_quote, prefix_at, unprefixed, quotes_at}
use Rattle.si_semantics.specs.Words.{Sort, Name, Int, Text, Operator, Spaces, Tabs, Comment, LineEnd, is_digit, begins_name, continues_name, is_space, is_tab, is_hash, is_plain, in_comment, symbols, spelled, is_allowed}

abbrev pub then_read : {A B : Type 0} → Option A → (A → Option B) → Option B
then_read None f = None
then_read (Some x) f = f x

-- what sort of word a byte begins that is no prefix
abbrev pub sort_of_byte : ℕ → Sort
sort_of_byte b =
    if begins_name b then Name
    else (if is_digit b then Int
    else (if is_quote b then Text
    else (if is_space b then Spaces
    else (if is_tab b then Tabs
    else (if is_hash b then Comment
    else (if (b == 10) || (b == 13) then LineEnd
    else Operator))))))

-- a quote stands at the front
abbrev pub begins_quoted : List ℕ → Bool
begins_quoted [] = false
begins_quoted (b ∷ bs) = is_quote b

-- what sort of word stands at the front: a literal where a quote does, after a prefix or without
abbrev pub sort_at : List ℕ → Sort
sort_at [] = Operator
sort_at (b ∷ bs) = if begins_quoted (unprefixed (b ∷ bs)) then Text else sort_of_byte b

abbrev pub add_one : Option ℕ → Option ℕ
add_one None = None
add_one (Some n) = Some (suc n)

-- a length after so many bytes
abbrev pub plus : ℕ → Option ℕ → Option ℕ
plus n None = None
plus n (Some m) = Some (n + m)

-- the length of what follows the open quotes (see `is_body`)
abbrev mutual
  pub body_length : ℕ → ℕ → ℕ → Bool → List ℕ → Option ℕ
  body_length count quote row joins [] = if row == count then Some 0 else None
  body_length count quote row joins (b ∷ bs) =
      if row == count then Some 0
      else (if b == quote then add_one (body_length count quote (row + 1) false bs)
      else (if b == 92 then add_one (escaped_length count quote bs)
      else (if is_plain count b || (joins && (b == 10)) then add_one (body_length count quote 0 false bs) else None)))

  pub escaped_length : ℕ → ℕ → List ℕ → Option ℕ
  escaped_length count quote [] = None
  escaped_length count quote (b ∷ bs) = if b == 0 then None else add_one (body_length count quote 0 (b == 13) bs)

abbrev pub quoted_length : List ℕ → Option ℕ
quoted_length [] = None
quoted_length (quote ∷ bs) =
    if is_quote quote then plus (quotes_at (quote ∷ bs)) (body_length (quotes_at (quote ∷ bs)) quote 0 false (drop (quotes_at (quote ∷ bs)) (quote ∷ bs))) else None

abbrev pub text_length : List ℕ → Option ℕ
text_length bs = plus (prefix_at bs) (quoted_length (unprefixed bs))

abbrev pub some_if : {A : Type 0} → Option A → ℕ → Option ℕ → Option ℕ
some_if None n o = o
some_if (Some x) n o = Some n

-- the length of the longest symbol at the front
abbrev pub symbol_length : List ℕ → Option ℕ
symbol_length [] = None
symbol_length (a ∷ []) = some_if (spelled symbols (a ∷ [])) 1 None
symbol_length (a ∷ (b ∷ [])) = some_if (spelled symbols (a ∷ b ∷ [])) 2 (some_if (spelled symbols (a ∷ [])) 1 None)
symbol_length (a ∷ (b ∷ (c ∷ cs))) =
    some_if (spelled symbols (a ∷ b ∷ c ∷ [])) 3 (some_if (spelled symbols (a ∷ b ∷ [])) 2 (some_if (spelled symbols (a ∷ [])) 1 None))

abbrev pub line_end_length : List ℕ → ℕ
line_end_length [] = 1
line_end_length (a ∷ []) = 1
line_end_length (a ∷ (b ∷ bs)) = if (a == 13) && (b == 10) then 2 else 1

abbrev pub length_of : Sort → List ℕ → Option ℕ
length_of Name bs = Some (prefix_len continues_name bs)
length_of Int bs = Some (prefix_len continues_name bs)
length_of Text bs = text_length bs
length_of Operator bs = symbol_length bs
length_of Spaces bs = Some (prefix_len is_space bs)
length_of Tabs bs = Some (prefix_len is_tab bs)
length_of Comment bs = Some (prefix_len in_comment bs)
length_of LineEnd bs = Some (line_end_length bs)

abbrev pub if_allowed : Sort → List ℕ → ℕ → Option (Sort × ℕ)
if_allowed k bs n = if is_allowed k (take n bs) (drop n bs) then Some (k, n) else None

-- the longest word at the front: its sort and its length
abbrev pub longest_at : List ℕ → Option (Sort × ℕ)
longest_at [] = None
longest_at (b ∷ bs) = then_read (length_of (sort_at (b ∷ bs)) (b ∷ bs)) (λ n. Some (sort_at (b ∷ bs), n))

-- the same, where it may stand there
abbrev pub word_at : List ℕ → Option (Sort × ℕ)
word_at [] = None
word_at (b ∷ bs) = then_read (length_of (sort_at (b ∷ bs)) (b ∷ bs)) (if_allowed (sort_at (b ∷ bs)) (b ∷ bs))
