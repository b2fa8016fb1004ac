-- the copies so far stand after what was there
use Rattle.std.proofs.Common.{◌≡◌, ◌++◌}
use Rattle.si_semantics.specs.Operations.{times}
use Rattle.si_arena.specs.Texts.{row_of, with_row, text_of}
use Rattle.si_arena.proofs.texts.Texts.push_copies.Given as goal

abbrev pub invariant-loop-i : goal.invariant-loop-i
invariant-loop-i l = l.self ≡ with_row l.width (row_of l.width l.fn.self ++ times l.i (text_of l.fn.self l.text)) l.fn.self
