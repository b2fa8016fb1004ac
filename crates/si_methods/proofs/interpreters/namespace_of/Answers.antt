use Rattle.std.proofs.Common.{List, [], ◌∷◌, sym, subst, ap, ◌∙◌}
use Rattle.si_arena.specs.declared.value.Ref.{Ref}
use Rattle.si_arena.specs.Memory.{all_of}
use Rattle.si_methods.specs.Passing.{IsNamespace}
use Rattle.si_methods.proofs.Passed.{one_of}
use Rattle.si_methods.proofs.interpreters.namespace_of.Goals as goal

pub returns-in-len1 : goal.returns-in-len1
returns-in-len1 c =
    let m = c.args.arena.now in
    let one = one_of c.args.positional.now c.namespace-item.result c.in-len1.len_at_least c.in-len1.len_below ∙ ap (λ r. r ∷ []) (sym c.namespace-item.is) in
    let P : List Ref → Type 0 = λ rs. IsNamespace (all_of m rs) m c.dict_in.result in
    subst P (sym one) c.dict_in.ensures
