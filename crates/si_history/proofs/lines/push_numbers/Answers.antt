use Rattle.std.proofs.Common.{◌++◌, codes, string_bytes, List, ℕ, subst}
use Rattle.std.specs.Fmt.{decimal}
use Rattle.std.proofs.lemmas.Result.{on_ok_weaker}
use Rattle.si_history.specs.inner.Adding.{Adds}
use Rattle.si_history.proofs.Adds.{adds_both}
use Rattle.si_history.proofs.lines.push_numbers.Goals as goal

pub returns : goal.returns
returns c =
    let old : List ℕ = string_bytes c.args.out.now in
    let number : List ℕ = string_bytes c.push_number.new.out in
    let space : List ℕ = string_bytes c.push_word.new.out in
    let by : List ℕ = string_bytes c.push_number-2.new.out in
    let new : List ℕ = string_bytes c.push_word-2.new.out in
    let asked : Adds space by (decimal c.args.by) = subst (λ n. Adds space by (decimal n)) c.from.ensures c.in_ok-push_number-2.ensures in
    let first : Adds old space (decimal c.args.number ++ codes " ") = adds_both old number space (decimal c.args.number) (codes " ") c.in_ok-push_number.ensures c.in_ok-push_word.ensures in
    let both : Adds old by (decimal c.args.number ++ codes " " ++ decimal c.args.by) = adds_both old space by (decimal c.args.number ++ codes " ") (decimal c.args.by) first asked in
    on_ok_weaker c.push_word-2.result (adds_both old by new (decimal c.args.number ++ codes " " ++ decimal c.args.by) (codes " ") both) c.push_word-2.ensures
