use Rattle.std.proofs.Common.{◌∙◌, ap, sym, subst}
use Rattle.si_arena.specs.declared.dict.Pair.{Pair}
use Rattle.si_arena.specs.inner.Words.{words_of}
use Rattle.si_arena.specs.inner.Keys.{HeldMeans, MeansBy, key_in}
use Rattle.si_arena.specs.Memory.{value_of, held_of, HeldLies}
use Rattle.si_arena.proofs.Growing.{arena_worded}
use Rattle.si_arena.proofs.Changed.{there_is, held_view, arena_changed, changed_is, set_pair_change}
use Rattle.si_arena.proofs.Gathering.{key_agrees, meant_by, has_atom}
use Rattle.si_arena.proofs.arena.Arena.set_pair.Goals as goal

pub invariant_of-self-in_err-set_pair-in-Some : goal.invariant_of-self-in_err-set_pair-in-Some
invariant_of-self-in_err-set_pair-in-Some c =
    let i = c.self.inside in
    let x = c.args.address in
    let m = c.args.self.now in
    let ws = c.atom_for.new.words in
    let us = words_of i.texts ws in
    let t = c.in_ok-atom.ensures.ok in
    let h = arena_worded i.texts i.names.items i.ranges.items i.tuples.items i.tuples.tuples i.objects.items i.words ws c.self.invariant t.grown in
    let v = held_view m _ _ _ _ _ _ _ c.self.view_is h x _ (there_is m x _ c.requires.dict) c.index_mut.ensures.value in
    arena_changed m i.texts i.names.items i.ranges.items i.tuples.items i.tuples.tuples i.objects.items ws c.self.view_is h x _ (subst (HeldLies m) (sym c.in_err-set_pair-in-Some.ensures.err) v.lies) (subst (HeldMeans m us) (sym c.in_err-set_pair-in-Some.ensures.err) v.means)

pub invariant_of-self-in-Some : goal.invariant_of-self-in-Some
invariant_of-self-in-Some c =
    let i = c.self.inside in
    let x = c.args.address in
    let m = c.args.self.now in
    let ws = c.atom_for.new.words in
    let us = words_of i.texts ws in
    let t = c.in_ok-atom.ensures.ok in
    let h = arena_worded i.texts i.names.items i.ranges.items i.tuples.items i.tuples.tuples i.objects.items i.words ws c.self.invariant t.grown in
    let v = held_view m _ _ _ _ _ _ _ c.self.view_is h x _ (there_is m x _ c.requires.dict) c.index_mut.ensures.value in
    let a = key_agrees m _ _ _ _ _ _ _ c.self.view_is c.self.invariant c.args.key c.requires.key in
    let b = meant_by us (value_of m c.args.key) (key_in i.texts c.args.key) c.in-Some.atom a.0 (subst (MeansBy us (key_in i.texts c.args.key)) c.in-Some.is t.means) in
    let p : Pair = record { key = c.args.key; value = c.args.value } in
    let q = set_pair_change m h.words.are x _ c.requires.dict v.is v.lies v.means c.in-Some.atom p b.1 (record { key = c.requires.key; is_key = c.requires.is_key; value = c.requires.value }) in
    arena_changed m i.texts i.names.items i.ranges.items i.tuples.items i.tuples.tuples i.objects.items ws c.self.view_is h x _ (subst (HeldLies m) (sym c.in_ok-set_pair-in-Some.ensures.ok) q.lies) (subst (HeldMeans m us) (sym c.in_ok-set_pair-in-Some.ensures.ok) q.means)

pub unreachable-requires : goal.unreachable-requires
unreachable-requires c =
    let i = c.self.inside in
    let m = c.args.self.now in
    let us = words_of i.texts c.atom_for.new.words in
    let t = c.in_ok-atom.ensures.ok in
    let a = key_agrees m _ _ _ _ _ _ _ c.self.view_is c.self.invariant c.args.key c.requires.key in
    has_atom us (value_of m c.args.key) (key_in i.texts c.args.key) c.requires.is_key a.0 (subst (MeansBy us (key_in i.texts c.args.key)) c.in-None.is t.means)

pub returns-clause-ok : goal.returns-clause-ok
returns-clause-ok c =
    let i = c.self.inside in
    let x = c.args.address in
    let m = c.args.self.now in
    let ws = c.atom_for.new.words in
    let us = words_of i.texts ws in
    let t = c.in_ok-atom.ensures.ok in
    let h = arena_worded i.texts i.names.items i.ranges.items i.tuples.items i.tuples.tuples i.objects.items i.words ws c.self.invariant t.grown in
    let v = held_view m _ _ _ _ _ _ _ c.self.view_is h x _ (there_is m x _ c.requires.dict) c.index_mut.ensures.value in
    let a = key_agrees m _ _ _ _ _ _ _ c.self.view_is c.self.invariant c.args.key c.requires.key in
    let b = meant_by us (value_of m c.args.key) (key_in i.texts c.args.key) c.in-Some.atom a.0 (subst (MeansBy us (key_in i.texts c.args.key)) c.in-Some.is t.means) in
    let p : Pair = record { key = c.args.key; value = c.args.value } in
    let q = set_pair_change m h.words.are x _ c.requires.dict v.is v.lies v.means c.in-Some.atom p b.1 (record { key = c.requires.key; is_key = c.requires.is_key; value = c.requires.value }) in
    changed_is m i.texts i.names.items i.ranges.items i.tuples.items i.tuples.tuples i.objects.items c.self.view_is x _ _ (ap (held_of m) c.in_ok-set_pair-in-Some.ensures.ok ∙ q.is)
