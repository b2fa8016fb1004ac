use Rattle.std.proofs.Common.{◌∙◌, ap, sym, subst}
use Rattle.si_arena.specs.inner.Words.{words_of}
use Rattle.si_arena.specs.inner.Keys.{HeldMeans}
use Rattle.si_arena.specs.Memory.{held_of, HeldLies}
use Rattle.si_arena.proofs.Changed.{there_is, held_view, arena_changed, changed_is, extend_change}
use Rattle.si_arena.proofs.arena.Arena.extend.Goals as goal

pub invariant_of-self-2 : goal.invariant_of-self-2
invariant_of-self-2 c =
    let i = c.self.inside in
    let x = c.args.address in
    let m = c.args.self.now in
    let us = words_of i.texts i.words in
    let v = held_view m _ _ _ _ _ _ _ c.self.view_is c.self.invariant x _ (there_is m x _ c.requires.list) c.index_mut.ensures.value in
    let q = extend_change m us x _ c.requires.list v.is v.lies c.args.items.now c.requires.items in
    arena_changed m i.texts i.names.items i.ranges.items i.tuples.items i.tuples.tuples i.objects.items i.words c.self.view_is c.self.invariant x _ (subst (HeldLies m) (sym c.in_ok-extend.ensures.ok) q.lies) (subst (HeldMeans m us) (sym c.in_ok-extend.ensures.ok) q.means)

pub returns-clause-ok : goal.returns-clause-ok
returns-clause-ok c =
    let i = c.self.inside in
    let x = c.args.address in
    let m = c.args.self.now in
    let us = words_of i.texts i.words in
    let v = held_view m _ _ _ _ _ _ _ c.self.view_is c.self.invariant x _ (there_is m x _ c.requires.list) c.index_mut.ensures.value in
    let q = extend_change m us x _ c.requires.list v.is v.lies c.args.items.now c.requires.items in
    changed_is m i.texts i.names.items i.ranges.items i.tuples.items i.tuples.tuples i.objects.items c.self.view_is x _ _ (ap (held_of m) c.in_ok-extend.ensures.ok ∙ q.is)
