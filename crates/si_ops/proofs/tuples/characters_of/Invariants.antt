-- the characters so far, and the rest
use Rattle.std.proofs.Common.{◌≡◌, ◌++◌, drop}
use Rattle.si_semantics.specs.Tuples.{characters_in}
use Rattle.si_arena.specs.Memory.{all_of, AllLie}
use Rattle.si_arena.specs.Texts.{text_of}
use Rattle.si_ops.proofs.tuples.characters_of.Given as goal

abbrev pub invariant-loop-i : goal.invariant-loop-i
invariant-loop-i l = record {
  all : all_of l.arena l.all.items ++ characters_in (drop l.i (text_of l.arena.texts l.text)) ≡ characters_in (text_of l.arena.texts l.text);
  lie : AllLie l.arena l.all.items;
}
