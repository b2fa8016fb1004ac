use Rattle.std.proofs.Common.{arith}
use Rattle.std.specs.Cmp.Lexicographic.{same_text}
use Rattle.si_token.proofs.Spellings.{found_at, passed_at, texts_differ}
use Rattle.si_token.proofs.keywords.among.Goals as goal

pub returns-then-are_same : goal.returns-then-are_same
returns-then-are_same c = found_at c.args.table.now c.loop-spelling.spelling-index _ c.args.word.now (omega arith) c.loop-spelling.invariant (same_text _ _ c.if-are_same.ensures)

pub loop-spelling-preserved : goal.loop-spelling-preserved
loop-spelling-preserved c = passed_at c.args.table.now c.loop-spelling.spelling-index _ c.args.word.now (omega arith) c.loop-spelling.invariant (texts_differ _ _ c.if-are_same.ensures)
