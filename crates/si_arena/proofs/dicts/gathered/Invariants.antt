-- the pairs so far, and the operands that are left
use Rattle.std.proofs.Common.{◌*◌, drop}
use Rattle.si_arena.specs.inner.Words.{words_of, Grown}
use Rattle.si_arena.specs.inner.Keys.{KeysAgree}
use Rattle.si_arena.specs.Memory.{Memory, all_of, AllLie}
use Rattle.si_arena.proofs.Gathering.{Making}
use Rattle.si_arena.proofs.dicts.gathered.Given as goal

abbrev pub invariant-loop-i : goal.invariant-loop-i
invariant-loop-i l = record {
  grown : Grown l.texts l.initial.words l.words;
  made : (m : Memory) → KeysAgree m l.texts l.operands → AllLie m l.operands → Making m (words_of l.texts l.words) l.operands (drop (2 * l.i) (all_of m l.operands)) l.dict;
}
