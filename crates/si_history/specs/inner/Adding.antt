-- A text that is written after another, in UTF-8.
use Rattle.std.specs.Prelude.{◌≡◌, ℕ, List, ◌++◌, Bool, encode_utf8_all, nat_lt}
use Rattle.std.specs.List.{list_all}
use Rattle.si_semantics.specs.Value.{Text}

-- the new bytes are the old ones, and then this text
abbrev pub Adds : (old new : List ℕ) → Text → Type 0
Adds old new text = new ≡ old ++ encode_utf8_all text

-- each of these bytes is ASCII
abbrev pub is_ascii : List ℕ → Bool
is_ascii bytes = list_all (λ b. nat_lt b 128) bytes
