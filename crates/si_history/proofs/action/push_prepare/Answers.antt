use Rattle.std.proofs.Common.{◌++◌, codes, string_bytes, List, ℕ, subst, OnOk}
use Rattle.std.specs.Fmt.{decimal}
use Rattle.std.proofs.lemmas.Result.{on_ok_weaker}
use Rattle.si_history.specs.History.{names_text}
use Rattle.si_history.specs.inner.Adding.{Adds}
use Rattle.si_history.proofs.Adds.{adds_both}
use Rattle.si_history.proofs.action.push_prepare.Goals as goal

pub returns : goal.returns
returns c =
    let old : List ℕ = string_bytes c.args.out.now in
    let number : List ℕ = string_bytes c.push_numbered.new.out in
    let new : List ℕ = string_bytes c.push_names.new.out in
    let asked : List ℕ = codes "prepare " ++ decimal c.args.id in
    let numbered : Adds old number asked = subst (λ n. Adds old number (codes "prepare " ++ decimal n)) c.from.ensures c.in_ok-push_numbered.ensures in
    let names : OnOk c.push_names.result (Adds number new (names_text c.args.binds.now)) = subst (λ bs. OnOk c.push_names.result (Adds number new (names_text bs))) c.as_slice.ensures c.push_names.ensures in
    on_ok_weaker c.push_names.result (adds_both old number new asked (names_text c.args.binds.now) numbered) names
