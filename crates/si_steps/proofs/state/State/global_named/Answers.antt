use Rattle.std.proofs.Common.{◌≡◌, ◌≤◌, ◌<◌, ◌∙◌, Bool, true, false, length, drop, ap, sym, subst, add-one, arith}
use Rattle.si_semantics.specs.Text.{same_text}
use Rattle.si_semantics.specs.World.{first_world}
use Rattle.si_arena.specs.Memory.{bound_of, Holds}
use Rattle.si_arena.proofs.Compared.{same_bytes}
use Rattle.si_steps.specs.Moments.{global_of}
use Rattle.si_steps.proofs.Globals.{hold_at}
use Rattle.si_steps.proofs.Shown.{global_past, global_here, global_first}
use Rattle.si_steps.proofs.state.State.global_named.Goals as goal
use Rattle.si_steps.proofs.state.State.global_named.Goals.{After-eq}

-- whether the slot has the name
same : (c : After-eq) (b : Bool) → c.eq.result ≡ b → same_text c.in-Some.found.now c.args.name.now ≡ b
same c b e = sym (same_bytes c.in-Some.found.now c.args.name.now) ∙ sym c.eq.ensures ∙ e

pub loop-slot-preserved : goal.loop-slot-preserved
loop-slot-preserved c =
    let s = c.args.self.now in
    let k = c.loop-slot.slot in
    let y = c.args.name.now in
    c.loop-slot.invariant
    ∙ global_past s.arena s.table.names s.globals.items k c.in-Some.found.now y c.requires.slots c.in-Some.ensures (same (goal.at.loop-slot-preserved c).After-eq false c.if-eq.false)
    ∙ ap (λ j. global_of s.arena (drop j s.table.names) (drop j s.globals.items) y) (sym (add-one k))

pub returns-then-eq-clause-value : goal.returns-then-eq-clause-value
returns-then-eq-clause-value c =
    let s = c.args.self.now in
    let k = c.loop-slot.slot in
    let r = c.index.result.now in
    c.bound.ensures.value s.arena ∙ ap (bound_of s.arena) c.index.ensures
    ∙ sym (c.loop-slot.invariant ∙ global_here s.arena s.table.names s.globals.items k c.in-Some.found.now c.args.name.now r c.requires.slots c.in-Some.ensures (same (goal.at.returns-then-eq-clause-value c).After-eq true c.if-eq.true))

pub returns-then-eq-clause-lies : goal.returns-then-eq-clause-lies
returns-then-eq-clause-lies c =
    let s = c.args.self.now in
    let less : c.loop-slot.slot < length s.globals.items = omega (arith, c.loop-slot-test.true, c.slots-slot-end.ensures.slots, c.requires.slots) in
    c.bound.ensures.lies s.arena (subst (Holds s.arena) (sym c.index.ensures) (hold_at s.arena s.globals.items c.loop-slot.slot c.index.result.now c.requires.globals less))

pub returns-clause-value : goal.returns-clause-value
returns-clause-value c =
    let s = c.args.self.now in
    let k = c.loop-slot.slot in
    let all : length s.table.names ≤ k = omega (arith, c.loop-slot-test.false, c.slots-slot-end.ensures.slots) in
    c.bound-2.ensures.value s.arena ∙ c.first_global.ensures.value s.arena 0 ∙ ap ((first_world 0).globals) (c.as_str.ensures.characters ∙ c.in_ok-text.ensures)
    ∙ sym (c.loop-slot.invariant ∙ global_first s.arena s.table.names (drop k s.globals.items) k c.args.name.now all)

pub returns-clause-lies : goal.returns-clause-lies
returns-clause-lies c = let m = c.args.self.now.arena in c.bound-2.ensures.lies m (c.first_global.ensures.holds m)
