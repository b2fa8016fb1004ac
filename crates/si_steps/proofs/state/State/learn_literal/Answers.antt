use Rattle.std.proofs.Common.{◌≡◌, Some, get_or, ap, subst, ◌∙◌}
use Rattle.std.specs.Prelude.{List, slice_get}
use Rattle.si_arena.specs.Memory.{IsNamed}
use Rattle.si_slots.specs.declared.literal.Literal.{Literal}
use Rattle.si_steps.proofs.Begun.{literal_known, slice_there}
use Rattle.si_steps.proofs.state.State.learn_literal.Goals as goal

pub returns-clause-ok : goal.returns-clause-ok
returns-clause-ok c = λ w h.
    let s = c.args.self.now in
    let k = c.args.place in
    let l = c.index-literals-place.result in
    let there = slice_there s.table.literals k l l c.requires.there (c.index-literals-place.is ∙ ap (λ (ls : List Literal). get_or ls k l) c.literals.ensures) in
    literal_known s.own s.table s.arena c.add_name.new.self c.place_literal.new.arena s.literals.items c.push-2.new.self.items s.names.items c.push.new.self.items s.globals.items s.built_ins.items s.methods.items w l
    c.in_ok-value.value c.in_ok-number.number h
    (subst (λ i. slice_get s.table.literals i ≡ Some l) c.requires.first there)
    (subst (λ x. IsNamed x s.arena c.add_name.new.self c.in_ok-number.number) c.name.ensures c.in_ok-number.ensures.ok)
    c.in_ok-value.ensures c.in_ok-push-2.ensures.items c.in_ok-push.ensures.items
