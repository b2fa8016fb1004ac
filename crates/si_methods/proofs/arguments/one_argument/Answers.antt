use Rattle.std.proofs.Common.{[], ◌∷◌, sym, ap, ap₂, subst, ◌∙◌}
use Rattle.si_plain.specs.Characters.{characters_of}
use Rattle.si_semantics.specs.Attributes.{one_argument}
use Rattle.si_arena.specs.Memory.{value_of, all_of, AllLie}
use Rattle.si_methods.proofs.Passed.{one_of, swapped, named_one, misnamed_one}
use Rattle.si_methods.proofs.arguments.one_argument.Goals as goal

pub returns-then-is_spelled : goal.returns-then-is_spelled
returns-then-is_spelled c = λ m h.
    let x = characters_of c.args.word.now in
    let vs = one_of c.args.arguments.now c.argument-item.result c.in-len1.len_at_least c.in-len1.len_below ∙ ap (λ r. r ∷ []) (sym c.argument-item.is) in
    let ns = one_of c.args.names.now c.name-item.result c.in-len1-names.len_at_least c.in-len1-names.len_below ∙ ap (λ r. r ∷ []) (sym c.name-item.is) in (
      (subst (AllLie m) vs h).0,
      λ does w.
          ap₂ (λ xs ys. one_argument x (all_of m xs) ys does w) vs ns
          ∙ named_one x c.name-item.result (value_of m c.argument-item.result) does w (swapped c.name-item.result x _ (sym c.is_spelled.ensures ∙ c.if-is_spelled.true)),
      vs,
    )

pub returns-else-is_spelled : goal.returns-else-is_spelled
returns-else-is_spelled c = λ m does w.
    let x = characters_of c.args.word.now in
    let vs = one_of c.args.arguments.now c.argument-item.result c.in-len1.len_at_least c.in-len1.len_below ∙ ap (λ r. r ∷ []) (sym c.argument-item.is) in
    let ns = one_of c.args.names.now c.name-item.result c.in-len1-names.len_at_least c.in-len1-names.len_below ∙ ap (λ r. r ∷ []) (sym c.name-item.is) in
    ap₂ (λ xs ys. one_argument x (all_of m xs) ys does w) vs ns
    ∙ misnamed_one x c.name-item.result (value_of m c.argument-item.result) does w (swapped c.name-item.result x _ (sym c.is_spelled.ensures ∙ c.if-is_spelled.false))
