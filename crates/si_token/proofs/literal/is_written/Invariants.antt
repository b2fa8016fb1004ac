use Rattle.std.proofs.Common.{◌≡◌, length, IsUtf8}
use Rattle.std.specs.Option.{is_some}
use Rattle.std.specs.Str.{chars}
use Rattle.si_semantics.specs.Literals.{unescaped, value_of_literal}
use Rattle.si_token.specs.inner.Literals.{characters}
use Rattle.si_token.proofs.literal.is_written.Given as goal

abbrev pub invariant-loop-character : goal.invariant-loop-character
invariant-loop-character l = record { utf8 : IsUtf8 l.rest; reads : is_some (unescaped l.bytes l.skipped (characters l.rest)) ≡ is_some (value_of_literal l.bytes (chars l.literal)) }

abbrev pub decreases-loop-character : goal.decreases-loop-character
decreases-loop-character l = length l.rest
