use Rattle.std.proofs.Common.{rules, ◌≡◌, ◌≤◌, ◌∙◌, sym, arith, ℕ}
use Rattle.std.specs.Fmt.{decimal}
use Rattle.std.proofs.lemmas.List.{append_cancel_left}
use Rattle.std.proofs.lemmas.Fmt.{decimal_injective}
use Rattle.si_schedule.proofs.Lines.{interpreters_word}
use Rattle.si_schedule.proofs.reading.interpreters_in.Goals as goal

pub returns-in-None-clause-none : goal.returns-in-None-clause-none
returns-in-None-clause-none c = λ w l m e. c.in-None.ensures.none w (omega arith) e

pub returns-else-contains-clause-none : goal.returns-else-contains-clause-none
returns-else-contains-clause-none c = λ w l m e.
    let k : w ≡ c.in-Some.number = decimal_injective w c.in-Some.number (omega arith) c.in-Some.ensures.small (append_cancel_left {A = ℕ} interpreters_word (decimal w) (decimal c.in-Some.number) (sym e ∙ c.in-Some.ensures.some)) in
    let z : 1 ≤ c.in-Some.number → c.in-Some.number ≤ 64 → ⊥ = search rules in
    z (omega arith) (omega arith)
