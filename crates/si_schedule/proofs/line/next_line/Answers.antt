use Rattle.std.proofs.Common.{arith}
use Rattle.std.proofs.lemmas.Str.Pattern.{split_parts}
use Rattle.si_schedule.proofs.Numbers.{line_cases}
use Rattle.si_schedule.proofs.line.next_line.Goals as goal

pub returns : goal.returns
returns c = line_cases c.args.text.now c.split_once.result (split_parts 10 c.args.text.now c.split_once.result c.split_once.ensures.cases (omega arith))
