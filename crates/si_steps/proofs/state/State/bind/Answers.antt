use Rattle.std.proofs.Common.{◌≡◌, ◌<◌, ◌≤◌, arith, length, ap, sym, subst}
use Rattle.si_arena.specs.Memory.{value_of, Lies}
use Rattle.si_slots.specs.Contents.{Contents}
use Rattle.si_slots.specs.Views.{text_at}
use Rattle.si_steps.specs.declared.state.State.{State}
use Rattle.si_steps.specs.Moments.{ground_of}
use Rattle.si_steps.proofs.Begun.{all_known, lent_known}
use Rattle.si_steps.proofs.Bound.{slot_bound}
use Rattle.si_steps.proofs.Sources.{as_many}
use Rattle.si_steps.proofs.state.State.bind.Goals as goal

pub index_mut-requires : goal.index_mut-requires
index_mut-requires c = omega (arith, c.in_ok-slot.ensures.within, c.in_ok-learn_slots.ensures.all, ap (λ (s : State). length s.table.names) c.learn_slots.ensures.same)

pub returns-clause-ok : goal.returns-clause-ok
returns-clause-ok c = λ w h.
    let old = c.args.self.now in
    let table = c.slot_of.new.self in
    let new = c.learn_slots.new.self in
    let slot = c.in_ok-slot.slot in
    let r = c.args.value in
    let same = c.learn_slots.ensures.same in
    let grown = c.slot_of.ensures.extends in
    let known = c.in_ok-learn_slots.ensures.ok w (lent_known old old.table table w h grown.literals grown.names) in
    let many : length table.literals ≤ length old.literals.items = omega (arith, as_many (ground_of old) h.sound, ap (λ (t : Contents). length t.literals) c.in_ok-slot.ensures.ok) in
    let literals = subst (λ (s : State). length s.table.literals ≤ length s.literals.items) (sym same) many in
    slot_bound (ground_of new) w slot r c.args.name.now (value_of old.arena r) c.facts.ensures.distinct
    (subst (λ (s : State). slot < length s.table.names) (sym same) c.in_ok-slot.ensures.within)
    (subst (λ (s : State). text_at s.table.names slot ≡ c.args.name.now) (sym same) c.in_ok-slot.ensures.text)
    (subst (λ (s : State). Lies s.arena r) (sym same) c.requires)
    (ap (λ (s : State). value_of s.arena r) same)
    (all_known new w known literals c.in_ok-learn_slots.ensures.all)
