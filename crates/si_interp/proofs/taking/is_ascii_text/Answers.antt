use Rattle.std.proofs.Common.{◌≡◌, ◌∙◌, ap, nat_lt, rules, tests}
use Rattle.std.specs.List.{list_all}
use Rattle.std.specs.Str.{chars}
use Rattle.std.proofs.lemmas.Iterator.{YieldsList-from_chars}
use Rattle.std.proofs.lemmas.Iterator.Search.{all_from_yields_List}
use Rattle.si_interp.proofs.taking.is_ascii_text.Goals as goal

pub returns : goal.returns
returns c =
    let small : c.all.result ≡ list_all (λ n. nat_lt n 128) (chars c.as_str.result.now) =
    all_from_yields_List (λ n. nat_lt n 128) _ _ c.all.result c.all.ensures.ran (YieldsList-from_chars c.as_str.result.now c.as_str.utf8 cc) (λ x b q k. search (rules, tests)) in
    small ∙ ap (list_all (λ n. nat_lt n 128)) c.as_str.ensures.characters
