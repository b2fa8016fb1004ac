use Rattle.std.proofs.Common.{◌≡◌, ◌++◌, ℕ, List, OnOk, IsAscii, string_bytes, sym, subst, rules}
use Rattle.std.specs.Fmt.{signed_decimal}
use Rattle.std.proofs.lemmas.Fmt.{IsAscii-signed}
use Rattle.std.proofs.lemmas.Str.Ascii.{encodes-IsAscii}
use Rattle.si_parcel.proofs.atom.show_int.Goals as goal

pub returns : goal.returns
returns c =
    let P : List ℕ → Type 0 = λ bs. OnOk c.write.result (string_bytes c.write.new.self ≡ string_bytes c.args.out.now ++ bs) in
    let ascii : IsAscii (signed_decimal c.args.n) = search (rules, IsAscii-signed) in
    subst P (sym (encodes-IsAscii (signed_decimal c.args.n) ascii)) (search rules)
