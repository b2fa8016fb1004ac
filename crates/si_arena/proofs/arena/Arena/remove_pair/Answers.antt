use Rattle.std.proofs.Common.{◌≡◌, ◌∙◌, ap, sym, subst, get_or, option_map}
use Rattle.si_semantics.specs.Value as pure
use Rattle.si_semantics.specs.Dicts.{without_key}
use Rattle.si_arena.specs.declared.dict.Pair.{Pair}
use Rattle.si_arena.specs.declared.held.Held.TheVariants as held
use Rattle.si_arena.specs.inner.Words.{words_of}
use Rattle.si_arena.specs.inner.Keys.{HeldMeans, found, key_in}
use Rattle.si_arena.specs.inner.Changes.{entries_in}
use Rattle.si_arena.specs.Memory.{value_of, key_meant, held_of, HeldLies, dict_at, with_object}
use Rattle.si_arena.proofs.Changed.{there_is, held_view, held_there, arena_changed, changed_is, remove_pair_change, pair_found, pair_strange, rest_strange, with_same, option-changed, option_lies, extends_changed}
use Rattle.si_arena.proofs.Gathering.{key_agrees, finds_by, strange_meant, found_by_lies, pairs_lie}
use Rattle.si_arena.proofs.arena.Arena.remove_pair.Goals as goal

pub invariant_of-self : goal.invariant_of-self
invariant_of-self c =
    let i = c.self.inside in
    let x = c.args.address in
    let m = c.args.self.now in
    let us = words_of i.texts i.words in
    let v = held_view m _ _ _ _ _ _ _ c.self.view_is c.self.invariant x _ (there_is m x _ c.requires.dict) c.index_mut.ensures.value in
    let a = key_agrees m _ _ _ _ _ _ _ c.self.view_is c.self.invariant c.args.key c.requires.key in
    let k = key_meant (value_of m c.args.key) in
    let f = c.in-Some.ensures in
    let meant = finds_by us (value_of m c.args.key) (key_in i.texts c.args.key) c.in-Some.atom a.0 f in
    let q = remove_pair_change m c.self.invariant.words.are x _ c.requires.dict v.is v.lies v.means c.in-Some.atom k meant in
    arena_changed m i.texts i.names.items i.ranges.items i.tuples.items i.tuples.tuples i.objects.items i.words c.self.view_is c.self.invariant x _ (subst (HeldLies m) (sym c.remove_pair.ensures.rest) q.lies) (subst (HeldMeans m us) (sym c.remove_pair.ensures.rest) q.means)

pub returns-in-Some-clause-value : goal.returns-in-Some-clause-value
returns-in-Some-clause-value c =
    let i = c.self.inside in
    let x = c.args.address in
    let m = c.args.self.now in
    let us = words_of i.texts i.words in
    let v = held_view m _ _ _ _ _ _ _ c.self.view_is c.self.invariant x _ (there_is m x _ c.requires.dict) c.index_mut.ensures.value in
    let a = key_agrees m _ _ _ _ _ _ _ c.self.view_is c.self.invariant c.args.key c.requires.key in
    let k = key_meant (value_of m c.args.key) in
    let f = c.in-Some.ensures in
    let meant = finds_by us (value_of m c.args.key) (key_in i.texts c.args.key) c.in-Some.atom a.0 f in
    let q = remove_pair_change m c.self.invariant.words.are x _ c.requires.dict v.is v.lies v.means c.in-Some.atom k meant in
    let es = entries_in c.index_mut.result.now in
    let r : c.value_in.result ≡ found c.in-Some.atom es = c.value_in.ensures ∙ ap (option_map (λ (p : Pair). p.value)) c.remove_pair.ensures.pair in
    let p = pure.Pairs (without_key k (dict_at m x)) in
    let e = changed_is m i.texts i.names.items i.ranges.items i.tuples.items i.tuples.tuples i.objects.items c.self.view_is x _ _ (ap (held_of m) c.remove_pair.ensures.rest ∙ q.is) in
    ap (λ n. option_map (value_of n) c.value_in.result) e ∙ option-changed m x p c.value_in.result
    ∙ ap (option_map (value_of m)) r ∙ pair_found m c.self.invariant.words.are x _ c.requires.dict v.is v.lies v.means c.in-Some.atom k meant

pub returns-in-Some-clause-lies : goal.returns-in-Some-clause-lies
returns-in-Some-clause-lies c =
    let i = c.self.inside in
    let x = c.args.address in
    let m = c.args.self.now in
    let us = words_of i.texts i.words in
    let v = held_view m _ _ _ _ _ _ _ c.self.view_is c.self.invariant x _ (there_is m x _ c.requires.dict) c.index_mut.ensures.value in
    let a = key_agrees m _ _ _ _ _ _ _ c.self.view_is c.self.invariant c.args.key c.requires.key in
    let k = key_meant (value_of m c.args.key) in
    let f = c.in-Some.ensures in
    let meant = finds_by us (value_of m c.args.key) (key_in i.texts c.args.key) c.in-Some.atom a.0 f in
    let q = remove_pair_change m c.self.invariant.words.are x _ c.requires.dict v.is v.lies v.means c.in-Some.atom k meant in
    let es = entries_in c.index_mut.result.now in
    let r : c.value_in.result ≡ found c.in-Some.atom es = c.value_in.ensures ∙ ap (option_map (λ (p : Pair). p.value)) c.remove_pair.ensures.pair in
    let p = pure.Pairs (without_key k (dict_at m x)) in
    let e = changed_is m i.texts i.names.items i.ranges.items i.tuples.items i.tuples.tuples i.objects.items c.self.view_is x _ _ (ap (held_of m) c.remove_pair.ensures.rest ∙ q.is) in
    option_lies c.value_in.result (extends_changed x p e) (found_by_lies m c.in-Some.atom es (pairs_lie m c.index_mut.result.now v.lies) c.value_in.result r)

pub returns-in-Some-clause-rest : goal.returns-in-Some-clause-rest
returns-in-Some-clause-rest c =
    let i = c.self.inside in
    let x = c.args.address in
    let m = c.args.self.now in
    let us = words_of i.texts i.words in
    let v = held_view m _ _ _ _ _ _ _ c.self.view_is c.self.invariant x _ (there_is m x _ c.requires.dict) c.index_mut.ensures.value in
    let a = key_agrees m _ _ _ _ _ _ _ c.self.view_is c.self.invariant c.args.key c.requires.key in
    let k = key_meant (value_of m c.args.key) in
    let f = c.in-Some.ensures in
    let meant = finds_by us (value_of m c.args.key) (key_in i.texts c.args.key) c.in-Some.atom a.0 f in
    let q = remove_pair_change m c.self.invariant.words.are x _ c.requires.dict v.is v.lies v.means c.in-Some.atom k meant in
    changed_is m i.texts i.names.items i.ranges.items i.tuples.items i.tuples.tuples i.objects.items c.self.view_is x _ _ (ap (held_of m) c.remove_pair.ensures.rest ∙ q.is)

pub returns-in-None-clause-value : goal.returns-in-None-clause-value
returns-in-None-clause-value c =
    let i = c.self.inside in
    let x = c.args.address in
    let m = c.args.self.now in
    let us = words_of i.texts i.words in
    let o = get_or i.objects.items x (held.Started 0) in
    let v = held_there m _ _ _ _ _ _ _ c.self.view_is c.self.invariant x (there_is m x _ c.requires.dict) in
    let a = key_agrees m _ _ _ _ _ _ _ c.self.view_is c.self.invariant c.args.key c.requires.key in
    let k = key_meant (value_of m c.args.key) in
    let f = c.in-None.ensures in
    let strange = strange_meant us (value_of m c.args.key) (key_in i.texts c.args.key) c.requires.is_key a.0 f in
    sym (pair_strange m c.self.invariant.words.are x o c.requires.dict v.is v.lies v.means k strange)

pub returns-in-None-clause-rest : goal.returns-in-None-clause-rest
returns-in-None-clause-rest c =
    let i = c.self.inside in
    let x = c.args.address in
    let m = c.args.self.now in
    let us = words_of i.texts i.words in
    let o = get_or i.objects.items x (held.Started 0) in
    let v = held_there m _ _ _ _ _ _ _ c.self.view_is c.self.invariant x (there_is m x _ c.requires.dict) in
    let a = key_agrees m _ _ _ _ _ _ _ c.self.view_is c.self.invariant c.args.key c.requires.key in
    let k = key_meant (value_of m c.args.key) in
    let f = c.in-None.ensures in
    let strange = strange_meant us (value_of m c.args.key) (key_in i.texts c.args.key) c.requires.is_key a.0 f in
    with_same m x (pure.Pairs (dict_at m x)) c.requires.dict
    ∙ ap (λ ps. with_object x (pure.Pairs ps) m) (sym (rest_strange m c.self.invariant.words.are x o c.requires.dict v.is v.lies v.means k strange))
