-- Line ends of a text (Python Language Reference 3.14, 2.1.2 "Physical lines").
use Rattle.std.specs.Prelude.{ℕ, zero, suc, ◌+◌, ◌==◌, ◌&&◌, ◌||◌, not, List, [], ◌∷◌, Bool, false, if◌then◌else◌}

abbrev pub begins_feed : List ℕ → Bool
begins_feed [] = false
begins_feed (b ∷ bs) = b == 10

-- A byte before others is the last of a line end: an LF (10), or a CR (13) that no LF follows. So CR LF is one line end.
abbrev pub ends_line : ℕ → List ℕ → Bool
ends_line b bs = (b == 10) || ((b == 13) && not (begins_feed bs))

-- how many line ends lie in the first so many bytes of a text
abbrev pub ends_before : ℕ → List ℕ → ℕ
ends_before zero bs = 0
ends_before (suc n) [] = 0
ends_before (suc n) (b ∷ bs) = (if ends_line b bs then 1 else 0) + ends_before n bs
