use Rattle.std.proofs.Common.{◌++◌, codes, string_bytes, List, ℕ, subst}
use Rattle.std.specs.Fmt.{decimal}
use Rattle.std.proofs.lemmas.Result.{on_ok_weaker}
use Rattle.si_semantics.specs.Parcels.{shown}
use Rattle.si_history.specs.inner.Adding.{Adds}
use Rattle.si_history.proofs.Adds.{adds_both}
use Rattle.si_history.proofs.action.push_put.Goals as goal

pub returns : goal.returns
returns c =
    let old : List ℕ = string_bytes c.args.out.now in
    let number : List ℕ = string_bytes c.push_numbered.new.out in
    let space : List ℕ = string_bytes c.push_word.new.out in
    let asked : List ℕ = c.args.word.now ++ decimal c.args.queue in
    let numbered : Adds old number asked = subst (λ n. Adds old number (c.args.word.now ++ decimal n)) c.from.ensures c.in_ok-push_numbered.ensures in
    let before : Adds old space (asked ++ codes " ") = adds_both old number space asked (codes " ") numbered c.in_ok-push_word.ensures in
    on_ok_weaker c.push_parcel.result (adds_both old space (string_bytes c.push_parcel.new.out) (asked ++ codes " ") (shown c.args.parcel.now) before) c.push_parcel.ensures
