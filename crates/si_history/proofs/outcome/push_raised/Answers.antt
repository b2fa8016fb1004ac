use Rattle.std.proofs.Common.{◌++◌, codes, string_bytes, List, ℕ, ap, ◌∙◌, subst}
use Rattle.std.proofs.lemmas.Result.{on_ok_weaker}
use Rattle.si_plain.specs.Kinds.{name_of}
use Rattle.si_plain.specs.Repr.{repr_of}
use Rattle.si_history.specs.inner.Adding.{Adds, is_ascii}
use Rattle.si_history.proofs.Adds.{adds_both}
use Rattle.si_history.proofs.KindNames.{name_is_ascii}
use Rattle.si_history.proofs.outcome.push_raised.Goals as goal

pub push_word-requires-2 : goal.push_word-requires-2
push_word-requires-2 c = ap is_ascii c.name.ensures ∙ name_is_ascii c.args.kind

pub returns : goal.returns
returns c =
    let old : List ℕ = string_bytes c.args.out.now in
    let word : List ℕ = string_bytes c.push_word.new.out in
    let kind : List ℕ = string_bytes c.push_word-2.new.out in
    let space : List ℕ = string_bytes c.push_word-3.new.out in
    let name : List ℕ = name_of c.args.kind in
    let named : Adds word kind name = subst (Adds word kind) c.name.ensures c.in_ok-push_word-2.ensures in
    let raised : Adds old kind (codes "raised " ++ name) = adds_both old word kind (codes "raised ") name c.in_ok-push_word.ensures named in
    let before : Adds old space (codes "raised " ++ name ++ codes " ") = adds_both old kind space (codes "raised " ++ name) (codes " ") raised c.in_ok-push_word-3.ensures in
    on_ok_weaker c.push_quoted.result (adds_both old space (string_bytes c.push_quoted.new.out) (codes "raised " ++ name ++ codes " ") (repr_of c.args.message.now) before) c.push_quoted.ensures
