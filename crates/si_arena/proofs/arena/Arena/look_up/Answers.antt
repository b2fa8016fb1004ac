use Rattle.std.proofs.Common.{◌≡◌, ◌∙◌, ap, ap₂, sym, get_or, option_map}
use Rattle.si_arena.specs.declared.dict.Pair.{Pair}
use Rattle.si_arena.specs.declared.held.Held.TheVariants as held
use Rattle.si_arena.specs.inner.Words.{words_of}
use Rattle.si_arena.specs.inner.Keys.{found, key_in}
use Rattle.si_arena.specs.inner.Changes.{entries_in}
use Rattle.si_arena.specs.Memory.{value_of, value_by, Lies}
use Rattle.si_arena.proofs.Changed.{held_view, held_there}
use Rattle.si_arena.proofs.Gathering.{key_agrees, dict_entries, entries_mean, pairs_lie, found_by, strange_by, found_by_lies, looked_at, if_looked_at}
use Rattle.si_arena.proofs.arena.Arena.look_up.Goals as goal

pub returns-in-Some-clause-value : goal.returns-in-Some-clause-value
returns-in-Some-clause-value c =
    let i = c.self.inside in
    let x = c.args.address in
    let m = c.args.self.now in
    let us = words_of i.texts i.words in
    let v = held_view m _ _ _ _ _ _ _ c.self.view_is c.self.invariant x _ c.requires.address c.index.ensures in
    let a = key_agrees m _ _ _ _ _ _ _ c.self.view_is c.self.invariant c.args.key.now c.requires.key in
    let f = c.in-Some.ensures in
    let es = entries_in c.index.result.now in
    let r = c.value_at.ensures ∙ ap (option_map (λ (p : Pair). p.value)) c.get.ensures in
    looked_at _ (value_of m) c.value_at.result
    ∙ ap (option_map (value_of m)) r
    ∙ found_by m c.self.invariant.words.are (key_in i.texts c.args.key.now) c.in-Some.atom es f (entries_mean m us c.index.result.now v.means)
    ∙ ap₂ value_by (sym a.0) (sym (dict_entries m x c.index.result.now v.is))

pub returns-in-Some-clause-lies : goal.returns-in-Some-clause-lies
returns-in-Some-clause-lies c =
    let i = c.self.inside in
    let x = c.args.address in
    let m = c.args.self.now in
    let us = words_of i.texts i.words in
    let v = held_view m _ _ _ _ _ _ _ c.self.view_is c.self.invariant x _ c.requires.address c.index.ensures in
    let es = entries_in c.index.result.now in
    let r = c.value_at.ensures ∙ ap (option_map (λ (p : Pair). p.value)) c.get.ensures in
    if_looked_at (Lies m) _ c.value_at.result (found_by_lies m c.in-Some.atom es (pairs_lie m c.index.result.now v.lies) _ r)

pub returns-in-None : goal.returns-in-None
returns-in-None c =
    let i = c.self.inside in
    let x = c.args.address in
    let m = c.args.self.now in
    let us = words_of i.texts i.words in
    let o = get_or i.objects.items x (held.Started 0) in
    let v = held_there m _ _ _ _ _ _ _ c.self.view_is c.self.invariant x c.requires.address in
    let a = key_agrees m _ _ _ _ _ _ _ c.self.view_is c.self.invariant c.args.key.now c.requires.key in
    let f = c.in-None.ensures in record {
      value = strange_by m us (key_in i.texts c.args.key.now) (entries_in o) f (entries_mean m us o v.means) ∙ ap₂ value_by (sym a.0) (sym (dict_entries m x o v.is));
      lies = tt;
    }
