use Rattle.std.proofs.Common.{◌≡◌, ◌++◌, ℕ, List, OnOk, IsAscii, string_bytes, sym, subst, rules}
use Rattle.std.specs.Fmt.{decimal}
use Rattle.std.proofs.lemmas.Fmt.{IsAscii-decimal}
use Rattle.std.proofs.lemmas.Str.Ascii.{encodes-IsAscii}
use Rattle.si_history.proofs.pieces.push_number.Goals as goal

pub returns : goal.returns
returns c =
    let P : List ℕ → Type 0 = λ bs. OnOk c.write.result (string_bytes c.write.new.self ≡ string_bytes c.args.out.now ++ bs) in
    let ascii : IsAscii (decimal c.args.number) = search (rules, IsAscii-decimal) in
    subst P (sym (encodes-IsAscii (decimal c.args.number) ascii)) (search rules)
