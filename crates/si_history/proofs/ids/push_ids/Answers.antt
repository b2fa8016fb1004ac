use Rattle.std.proofs.Common.{◌≡◌, ◌++◌, ◌-◌, ℕ, suc, ◌≤◌, List, [], ◌∷◌, OnOk, length, take, drop, get_or, string_bytes, ap, subst, arith}
use Rattle.std.specs.Fmt.{decimal}
use Rattle.std.proofs.lemmas.List.{take_all}
use Rattle.std.proofs.lemmas.Result.{on_ok_weaker}
use Rattle.si_history.specs.History.{ids_text, further_ids}
use Rattle.si_history.specs.inner.Adding.{Adds}
use Rattle.si_history.proofs.Adds.{adds_both}
use Rattle.si_history.proofs.ids.push_ids.Goals as goal

-- the first number, and the others
split : (xs : List ℕ) → 1 ≤ length xs → decimal (get_or xs 0 0) ++ further_ids (take (length xs - 1) (drop 1 xs)) ≡ ids_text xs
split [] l = absurd (omega arith)
split (x ∷ xs) l = ap (λ ys. decimal x ++ further_ids ys) (take_all (suc (length xs) - 1) xs (omega arith))

pub returns-in_ok-push_number-in-len1-up : goal.returns-in_ok-push_number-in-len1-up
returns-in_ok-push_number-in-len1-up c =
    let xs : List ℕ = c.args.ids.now in
    let others : List ℕ = take (length xs - 1) (drop 1 xs) in
    let old : List ℕ = string_bytes c.args.out.now in
    let number : List ℕ = string_bytes c.push_number.new.out in
    let new : List ℕ = string_bytes c.push_further_ids.new.out in
    let first : Adds old number (decimal (get_or xs 0 0)) = subst (λ n. Adds old number (decimal n)) c.from.ensures c.in_ok-push_number-in-len1-up.ensures in
    let all = on_ok_weaker c.push_further_ids.result (adds_both old number new (decimal (get_or xs 0 0)) (further_ids others) first) c.push_further_ids.ensures in
    subst (λ text. OnOk c.push_further_ids.result (Adds old new text)) (split xs (omega arith)) all
