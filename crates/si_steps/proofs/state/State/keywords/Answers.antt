use Rattle.std.proofs.Common.{◌≡◌, List, [], arith, get_or, sym, ap, subst, ◌∙◌}
use Rattle.std.specs.Prelude.{IfOk}
use Rattle.std.proofs.lemmas.List.{get_or_read}
use Rattle.si_slots.specs.declared.literal.Literal.{Literal}
use Rattle.si_slots.specs.declared.literal.Literal.TheVariants.{Str}
use Rattle.si_slots.specs.Literals.{keywords_in, literal_at}
use Rattle.si_steps.proofs.state.State.keywords.Goals as goal

pub returns-in-Keywords : goal.returns-in-Keywords
returns-in-Keywords c =
    let ls = c.args.self.now.table.literals in
    let k = c.args.place in
    let l = c.index-literals-place.result in
    let at : l ≡ literal_at ls k = get_or_read ls k l (omega (arith, c.requires)) (c.index-literals-place.is ∙ ap (λ (xs : List Literal). get_or xs k l) c.literals.ensures) (Str []) in
    let same = c.as_slice.ensures ∙ ap keywords_in (sym c.in-Keywords.is ∙ at) in
    subst (λ x. IfOk c.texts_of.result (λ names. names.items ≡ x)) same c.texts_of.ensures
