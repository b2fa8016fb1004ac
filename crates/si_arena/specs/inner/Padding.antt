-- The bytes of a text in the value itself.
use Rattle.std.specs.Prelude.{◌≡◌, ℕ, ◌+◌, ◌-◌, ◌*◌, List, [], ◌∷◌, ◌++◌, length, take, drop, replicate, IsTrue, bytes_eq}
use Rattle.std.specs.Int.{w32, w64, from_le_bytes}
use Rattle.std.specs.Cmp.Lexicographic.{bytes_decides}
use Rattle.std.proofs.Common.{ap, sym, ◌∙◌}

-- characters in room for eleven: zeros follow them
abbrev pub padded : List ℕ → List ℕ
padded cs = cs ++ replicate (11 - length cs) 0

-- bytes of which equal texts are the first have equal bytes
pub bytes_same : {bs cs : List ℕ} (ts us : List ℕ) → bs ≡ padded ts → cs ≡ padded us → IsTrue (bytes_eq ts us) → bs ≡ cs
bytes_same ts us p q h = p ∙ ap padded ((bytes_decides ts us).0 h) ∙ sym q

-- eleven bytes as one number, the first of them its lowest
abbrev pub number_of : List ℕ → ℕ
number_of bs = from_le_bytes w32 (drop 8 bs ++ 0 ∷ []) * 0x1_0000_0000_0000_0000 + from_le_bytes w64 (take 8 bs)
