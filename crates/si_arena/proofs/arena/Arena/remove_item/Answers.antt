use Rattle.std.proofs.Common.{◌∙◌, ap, sym, subst, Some}
use Rattle.si_semantics.specs.Value as pure
use Rattle.si_semantics.specs.Containers as containers
use Rattle.si_arena.specs.inner.Words.{words_of}
use Rattle.si_arena.specs.inner.Keys.{HeldMeans}
use Rattle.si_arena.specs.Memory.{value_of, held_of, HeldLies, list_at}
use Rattle.si_arena.proofs.Lying.{lies-extends}
use Rattle.si_arena.proofs.Changed.{there_is, held_view, arena_changed, changed_is, remove_change, item_is, item_lies, value-changed, extends_changed}
use Rattle.si_arena.proofs.arena.Arena.remove_item.Goals as goal

pub invariant_of-self : goal.invariant_of-self
invariant_of-self c =
    let i = c.self.inside in
    let x = c.args.address in
    let m = c.args.self.now in
    let us = words_of i.texts i.words in
    let v = held_view m _ _ _ _ _ _ _ c.self.view_is c.self.invariant x _ (there_is m x _ c.requires.list) c.index_mut.ensures.value in
    let q = remove_change m us x _ c.requires.list v.is v.lies c.args.at in
    arena_changed m i.texts i.names.items i.ranges.items i.tuples.items i.tuples.tuples i.objects.items i.words c.self.view_is c.self.invariant x _ (subst (HeldLies m) (sym c.remove_item.ensures.rest) q.lies) (subst (HeldMeans m us) (sym c.remove_item.ensures.rest) q.means)

pub returns-clause-rest : goal.returns-clause-rest
returns-clause-rest c =
    let i = c.self.inside in
    let x = c.args.address in
    let m = c.args.self.now in
    let us = words_of i.texts i.words in
    let v = held_view m _ _ _ _ _ _ _ c.self.view_is c.self.invariant x _ (there_is m x _ c.requires.list) c.index_mut.ensures.value in
    let q = remove_change m us x _ c.requires.list v.is v.lies c.args.at in
    changed_is m i.texts i.names.items i.ranges.items i.tuples.items i.tuples.tuples i.objects.items c.self.view_is x _ _ (ap (held_of m) c.remove_item.ensures.rest ∙ q.is)

pub returns-clause-item : goal.returns-clause-item
returns-clause-item c =
    let i = c.self.inside in
    let x = c.args.address in
    let m = c.args.self.now in
    let us = words_of i.texts i.words in
    let v = held_view m _ _ _ _ _ _ _ c.self.view_is c.self.invariant x _ (there_is m x _ c.requires.list) c.index_mut.ensures.value in
    let q = remove_change m us x _ c.requires.list v.is v.lies c.args.at in
    let e = changed_is m i.texts i.names.items i.ranges.items i.tuples.items i.tuples.tuples i.objects.items c.self.view_is x _ _ (ap (held_of m) c.remove_item.ensures.rest ∙ q.is) in
    item_is m us x _ c.requires.list v.is v.lies c.args.at c.remove_item.result c.remove_item.ensures.item
    ∙ ap (λ u. Some u) (sym (ap (λ n. value_of n c.remove_item.result) e ∙ value-changed m x (pure.Items (containers.without_item c.args.at (list_at m x))) c.remove_item.result))

pub returns-clause-lies : goal.returns-clause-lies
returns-clause-lies c =
    let i = c.self.inside in
    let x = c.args.address in
    let m = c.args.self.now in
    let us = words_of i.texts i.words in
    let v = held_view m _ _ _ _ _ _ _ c.self.view_is c.self.invariant x _ (there_is m x _ c.requires.list) c.index_mut.ensures.value in
    let q = remove_change m us x _ c.requires.list v.is v.lies c.args.at in
    let e = changed_is m i.texts i.names.items i.ranges.items i.tuples.items i.tuples.tuples i.objects.items c.self.view_is x _ _ (ap (held_of m) c.remove_item.ensures.rest ∙ q.is) in
    lies-extends c.remove_item.result (extends_changed x (pure.Items (containers.without_item c.args.at (list_at m x))) e) (item_lies m us x _ c.requires.list v.is v.lies c.args.at c.remove_item.result c.remove_item.ensures.item)
