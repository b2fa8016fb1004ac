use Rattle.std.proofs.Common.{◌≡◌, ◌++◌, ℕ, List, OnOk, string_bytes, sym, subst, rules}
use Rattle.si_history.proofs.Adds.{own_bytes}
use Rattle.si_history.proofs.pieces.push_word.Goals as goal

pub returns : goal.returns
returns c =
    let P : List ℕ → Type 0 = λ bs. OnOk c.push_str.result (string_bytes c.push_str.new.self ≡ string_bytes c.args.out.now ++ bs) in
    subst P (sym (own_bytes c.args.word.now c.requires)) (search rules)
