-- A name that is not bound is refused.
use Rattle.std.proofs.Common.{Bool, true, false, None, length, ◌++◌}
use Rattle.std.specs.Prelude.{nat_lt, codes, if◌then◌else◌}
use Rattle.si_semantics.specs.Value.{Text}
use Rattle.si_semantics.specs.Text.{max_length}
use Rattle.si_semantics.specs.World.{World, Ran, Gave, Threw, Asked}
use Rattle.si_semantics.specs.Operations.{found, load_local}

-- an operation that raises
abbrev pub Throws : Ran → Type 0
Throws (Gave v out w) = ⊥
Throws (Threw k o w) = Unit {0}
Throws (Asked r w) = ⊥

throws_if : (b : Bool) (r q : Ran) → Throws r → Throws q → Throws (if b then r else q)
throws_if true r q h k = h
throws_if false r q h k = k

pub throws_unbound : (x : Text) (w : World) → Throws (load_local x None w)
throws_unbound x w = throws_if (nat_lt max_length (length (codes "local " ++ (x ++ codes " is not bound")))) _ _ tt tt

-- nor one that no global and no built-in has
pub throws_undefined : (x : Text) (w : World) → Throws (found x None w)
throws_undefined x w = throws_if (nat_lt max_length (length (codes "name " ++ (x ++ codes " is not defined")))) _ _ tt tt
