use Rattle.std.proofs.Common.{◌≡◌, length, IsUtf8}
use Rattle.si_semantics.specs.Literals.{value_of_literal}
use Rattle.std.specs.Str.{chars}
use Rattle.si_token.specs.inner.Literals.{characters}
use Rattle.si_parse.specs.inner.Literals.{value_from}
use Rattle.si_parse.proofs.literal.written.Given as goal

abbrev pub invariant-loop-character : goal.invariant-loop-character
invariant-loop-character l = record { utf8 : IsUtf8 l.rest; reads : value_from l.bytes l.text l.raw l.skipped (characters l.rest) ≡ value_of_literal l.bytes (chars l.literal) }

abbrev pub decreases-loop-character : goal.decreases-loop-character
decreases-loop-character l = length l.rest
