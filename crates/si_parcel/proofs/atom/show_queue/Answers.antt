use Rattle.std.proofs.Common.{◌≡◌, ◌++◌, ℕ, List, OnOk, codes, string_bytes, sym, subst, arith}
use Rattle.std.specs.Fmt.{decimal}
use Rattle.std.proofs.lemmas.Grind.{common_steps}
use Rattle.si_parcel.proofs.Texts.{three}
use Rattle.si_parcel.proofs.atom.show_queue.Goals as goal

pub returns : goal.returns
returns c =
    let P : List ℕ → Type 0 = λ bs. OnOk c.push_str-2.result (string_bytes c.push_str-2.new.self ≡ string_bytes c.args.out.now ++ bs) in
    subst P (sym (three (codes "Queue(") (decimal c.args.id) (codes ")"))) (grind (arith, common_steps))
