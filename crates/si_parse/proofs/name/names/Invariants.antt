use Rattle.std.proofs.Common.{◌≡◌, ◌-◌, length, map, string_bytes}
use Rattle.si_parse.specs.inner.Lists.{many_by}
use Rattle.si_parse.specs.inner.Names.{next_name_by, no_comma, names_by}
use Rattle.si_parse.specs.inner.Gives.{from}
use Rattle.si_parse.proofs.name.names.Given as goal

abbrev pub invariant-loop-turn : goal.invariant-loop-turn
invariant-loop-turn l =
    many_by next_name_by no_comma (length l.tokens.items - l._turn) (map string_bytes l.names.items) (from l.tokens l.at) ≡ names_by (from l.tokens l.start)
