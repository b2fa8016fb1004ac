use Rattle.std.proofs.Common.{◌∙◌, sym, arith}
use Rattle.std.proofs.lemmas.Fmt.{decimal_injective}
use Rattle.si_schedule.proofs.reading.caller_in.Goals as goal

pub returns-else-number-from-clause-none : goal.returns-else-number-from-clause-none
returns-else-number-from-clause-none c = λ i lt e.
    let big = c.if-number-from.false in
    let b = c.in-Some.ensures.small in
    let k = decimal_injective i c.in-Some.number (omega arith) b (sym e ∙ c.in-Some.ensures.some) in
    omega arith
