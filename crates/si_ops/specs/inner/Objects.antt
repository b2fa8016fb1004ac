-- Objects by themselves.
use Rattle.std.specs.Prelude.{Bool, true, false}
use Rattle.si_semantics.specs.Value.{Object, Exception}

-- an object is an exception
abbrev pub is_exception : Object → Bool
is_exception (Exception k a) = true
is_exception _ = false
