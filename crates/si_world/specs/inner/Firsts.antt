-- What is kept of the interpreters of a new world.
use Rattle.std.specs.Prelude.{List, [], ◌∷◌, ⊤}
use Rattle.si_interp.specs.Meaning.{InterpView, Shows}

-- each shows its meaning
abbrev pub AllShow : List InterpView → Type 0
AllShow [] = ⊤
AllShow (v ∷ vs) = Shows v × AllShow vs
