-- The name of a kind is ASCII.
use Rattle.std.proofs.Common.{◌≡◌, true, refl}
use Rattle.si_plain.specs.declared.kind.Kind.{Kind}
use Rattle.si_plain.specs.Kinds.{name_of}
use Rattle.si_plain.specs.declared.kind.Kind.TheVariants.{BaseException, Exception, ArithmeticError, OverflowError, ZeroDivisionError, AttributeError, LookupError, IndexError, KeyError, NameError, UnboundLocalError, RuntimeError, RecursionError, SyntaxError, TypeError, NotShareableError, ValueError, InterpreterError, InterpreterNotFoundError, ExecutionFailed, QueueEmpty, QueueFull}
use Rattle.si_history.specs.inner.Adding.{is_ascii}

pub name_is_ascii : (k : Kind) → is_ascii (name_of k) ≡ true
unfolding name_of
name_is_ascii BaseException = refl
name_is_ascii Exception = refl
name_is_ascii ArithmeticError = refl
name_is_ascii OverflowError = refl
name_is_ascii ZeroDivisionError = refl
name_is_ascii AttributeError = refl
name_is_ascii LookupError = refl
name_is_ascii IndexError = refl
name_is_ascii KeyError = refl
name_is_ascii NameError = refl
name_is_ascii UnboundLocalError = refl
name_is_ascii RuntimeError = refl
name_is_ascii RecursionError = refl
name_is_ascii SyntaxError = refl
name_is_ascii TypeError = refl
name_is_ascii NotShareableError = refl
name_is_ascii ValueError = refl
name_is_ascii InterpreterError = refl
name_is_ascii InterpreterNotFoundError = refl
name_is_ascii ExecutionFailed = refl
name_is_ascii QueueEmpty = refl
name_is_ascii QueueFull = refl
