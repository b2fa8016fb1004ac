-- Objects by themselves.
use Rattle.si_plain.specs.declared.kind.Kind.{Kind}
use Rattle.si_plain.specs.declared.kind.Kind.TheVariants.{BaseException}
use Rattle.si_arena.specs.declared.object.Object.{Object}
use Rattle.si_arena.specs.declared.object.Object.TheVariants.{Bare, Made, Caused, Thread, Started}
use Rattle.si_arena.specs.Causes.{kind_of}

-- the kind of an exception; of a thread BaseException
abbrev pub kind_in : Object → Kind
kind_in (Bare kind) = kind
kind_in (Made kind r) = kind
kind_in (Caused cause) = kind_of cause
kind_in (Thread interpreter text) = BaseException
kind_in (Started run) = BaseException
