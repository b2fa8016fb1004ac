-- the word is none of the names so far
use Rattle.std.proofs.Common.{drop}
use Rattle.si_plain.specs.Characters.{characters_of}
use Rattle.si_methods.specs.Methods.{AreOthers}
use Rattle.si_methods.proofs.method.spelled_so.Given as goal

abbrev pub invariant-loop-name : goal.invariant-loop-name
invariant-loop-name l = AreOthers (characters_of l.word) (drop l.name-index l.names) → AreOthers (characters_of l.word) l.names
