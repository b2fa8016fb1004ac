use Rattle.std.proofs.Common.{◌≡◌, map, drop}
use Rattle.si_semantics.specs.Words.{spelled}
use Rattle.si_token.specs.Views.{entry_of}
use Rattle.si_token.proofs.keywords.among.Given as goal

abbrev pub invariant-loop-spelling : goal.invariant-loop-spelling
invariant-loop-spelling l = spelled (map entry_of l.table) l.word ≡ spelled (map entry_of (drop l.spelling-index l.table)) l.word
