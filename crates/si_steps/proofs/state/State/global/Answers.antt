use Rattle.std.proofs.Common.{◌<◌, length, sym, ap, subst, ◌∙◌, arith}
use Rattle.si_semantics.specs.Operations.{built_in, or_else}
use Rattle.si_arena.specs.Memory.{bound_of, Holds}
use Rattle.si_slots.specs.Views.{text_at}
use Rattle.si_steps.proofs.Globals.{as_many_built_in, built_in_at, global_at, hold_at}
use Rattle.si_steps.proofs.state.State.global.Goals as goal

pub index-requires-in-None : goal.index-requires-in-None
index-requires-in-None c =
    let s = c.args.self.now in
    omega (arith, c.requires.there, as_many_built_in s.arena s.table.names s.built_ins.items c.requires.sound.built_ins, s.built_ins.ok.0)

pub returns-in-Some-clause-value : goal.returns-in-Some-clause-value
returns-in-Some-clause-value c =
    let s = c.args.self.now in
    let r = c.index.result.now in
    let x = text_at s.table.names c.args.slot in
    let b = global_at s.arena s.table.names s.globals.items c.args.slot r c.facts.ensures.distinct c.requires.sound.slots c.requires.there ∙ ap (bound_of s.arena) (sym c.index.ensures) ∙ sym (c.in-Some.ensures.value s.arena) in
    sym (ap (λ o. or_else o (built_in x)) b)

pub returns-in-Some-clause-lies : goal.returns-in-Some-clause-lies
returns-in-Some-clause-lies c =
    let s = c.args.self.now in
    let less : c.args.slot < length s.globals.items = omega (arith, c.requires.there, c.requires.sound.slots) in
    c.in-Some.ensures.lies s.arena (subst (Holds s.arena) (sym c.index.ensures) (hold_at s.arena s.globals.items c.args.slot c.index.result.now c.requires.sound.globals less))

pub returns-in-None-clause-value : goal.returns-in-None-clause-value
returns-in-None-clause-value c =
    let s = c.args.self.now in
    let r = c.index.result.now in
    let q = c.index-in-None.result.now in
    let x = text_at s.table.names c.args.slot in
    let b = global_at s.arena s.table.names s.globals.items c.args.slot r c.facts.ensures.distinct c.requires.sound.slots c.requires.there ∙ ap (bound_of s.arena) (sym c.index.ensures) ∙ sym (c.in-None.ensures.value s.arena) in
    c.bound-in-None.ensures.value s.arena ∙ ap (bound_of s.arena) c.index-in-None.ensures
    ∙ (built_in_at s.arena s.table.names s.built_ins.items c.args.slot q c.requires.sound.built_ins c.requires.there).1
    ∙ sym (ap (λ o. or_else o (built_in x)) b)

pub returns-in-None-clause-lies : goal.returns-in-None-clause-lies
returns-in-None-clause-lies c =
    let s = c.args.self.now in
    c.bound-in-None.ensures.lies s.arena
    (subst (Holds s.arena) (sym c.index-in-None.ensures) (built_in_at s.arena s.table.names s.built_ins.items c.args.slot c.index-in-None.result.now c.requires.sound.built_ins c.requires.there).0)
