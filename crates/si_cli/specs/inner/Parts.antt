-- Parts of a line of the report.
use Rattle.std.specs.Prelude.{ℕ, List, [], ◌∷◌, ◌++◌, codes}

-- what stands after a kind: a message that is not empty, after a colon
abbrev pub after_kind : List ℕ → List ℕ
after_kind [] = []
after_kind (c ∷ cs) = codes ": " ++ c ∷ cs
