-- What a refusal says.
use Rattle.std.specs.Prelude.{◌≡◌, Option, Some, None, Result, Ok, Err}
use Rattle.si_scope.specs.declared.fault.ScopeFault.{ScopeFault}
use Rattle.si_scope.specs.declared.fault.ScopeFault.TheVariants.{Scope, NoMemory}

-- the fault of a script that is not well scoped
abbrev pub IsScope : ScopeFault → Type 0
IsScope NoMemory = ⊥
IsScope (Scope line) = Unit {0}

-- a scope fault only where nothing comes of it
abbrev pub Fails : {X : Type 0} → ScopeFault → Option X → Type 0
Fails NoMemory comes = Unit {0}
Fails (Scope line) comes = comes ≡ None

-- What is there after a call is what comes of it, unless memory ran out.
abbrev pub Leaves : {X Y : Type 0} → X → Result Y ScopeFault → Option X → Type 0
Leaves x (Ok y) comes = comes ≡ Some x
Leaves x (Err e) comes = Fails e comes

-- What a call returns is what comes of it, unless memory ran out.
abbrev pub Returns : {X : Type 0} → Result X ScopeFault → Option X → Type 0
Returns (Ok x) comes = comes ≡ Some x
Returns (Err e) comes = Fails e comes
