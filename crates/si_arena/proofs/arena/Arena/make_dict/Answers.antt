use Rattle.std.proofs.Common.{◌≡◌, ◌++◌, ◌∷◌, [], Some, None, length, refl, sym, subst, arith}
use Rattle.si_semantics.specs.Value as pure
use Rattle.si_semantics.specs.Dicts.{with_pairs}
use Rattle.si_arena.specs.declared.held.Held.TheVariants as held
use Rattle.si_arena.specs.declared.value.Ref.TheVariants as value
use Rattle.si_arena.specs.inner.Keys.{GathersDict}
use Rattle.si_arena.specs.Memory.{all_of, pairs_of, MakesDict}
use Rattle.si_arena.specs.Arenas.{memory_of, IsArena}
use Rattle.si_arena.proofs.Growing.{arena_worded}
use Rattle.si_arena.proofs.Changed.{arena_made, object_made}
use Rattle.si_arena.proofs.Gathering.{keys_agree}
use Rattle.si_arena.proofs.arena.Arena.make_dict.Goals as goal

pub gathered-requires-clause-operands : goal.gathered-requires-clause-operands
gathered-requires-clause-operands c = (keys_agree c.args.self.now _ _ _ _ _ _ _ c.self.view_is c.self.invariant c.args.operands.now c.requires).1

pub invariant_of-self : goal.invariant_of-self
invariant_of-self c =
    let i = c.self.inside in
    arena_worded i.texts i.names.items i.ranges.items i.tuples.items i.tuples.tuples i.objects.items i.words c.gathered.new.words c.self.invariant c.in_err-dict.ensures.err

pub invariant_of-self-in_err-push-in-Some : goal.invariant_of-self-in_err-push-in-Some
invariant_of-self-in_err-push-in-Some c =
    let i = c.self.inside in
    let m = c.args.self.now in
    let ws = c.gathered.new.words in
    let ops = c.args.operands.now in
    let told = c.in_ok-dict.ensures.ok in
    let s = subst (GathersDict i.texts ops i.words ws) c.in-Some.is told in
    let h = arena_worded i.texts i.names.items i.ranges.items i.tuples.items i.tuples.tuples i.objects.items i.words ws c.self.invariant s.0 in
    subst (λ os. IsArena i.texts i.names.items i.ranges.items i.tuples.items i.tuples.tuples os ws) (sym c.in_err-push-in-Some.ensures.items) h

pub invariant_of-self-in-Some : goal.invariant_of-self-in-Some
invariant_of-self-in-Some c =
    let i = c.self.inside in
    let m = c.args.self.now in
    let ws = c.gathered.new.words in
    let ops = c.args.operands.now in
    let told = c.in_ok-dict.ensures.ok in
    let s = subst (GathersDict i.texts ops i.words ws) c.in-Some.is told in
    let h = arena_worded i.texts i.names.items i.ranges.items i.tuples.items i.tuples.tuples i.objects.items i.words ws c.self.invariant s.0 in
    let a = keys_agree m _ _ _ _ _ _ _ c.self.view_is c.self.invariant ops c.requires in
    let d = s.1 m a.0 c.requires in
    subst (λ os. IsArena i.texts i.names.items i.ranges.items i.tuples.items i.tuples.tuples os ws) (sym c.in_ok-push-in-Some.ensures.items)
    (arena_made m i.texts i.names.items i.ranges.items i.tuples.items i.tuples.tuples i.objects.items ws c.self.view_is h (held.Dict c.in-Some.dict) d.lie d.mean)

pub invariant_of-self-in-None : goal.invariant_of-self-in-None
invariant_of-self-in-None c =
    let i = c.self.inside in
    let m = c.args.self.now in
    let ws = c.gathered.new.words in
    let ops = c.args.operands.now in
    let told = c.in_ok-dict.ensures.ok in
    let s = subst (GathersDict i.texts ops i.words ws) c.in-None.is told in
    arena_worded i.texts i.names.items i.ranges.items i.tuples.items i.tuples.tuples i.objects.items i.words ws c.self.invariant s.0

pub returns-in_ok-push-in-Some-clause-ok : goal.returns-in_ok-push-in-Some-clause-ok
returns-in_ok-push-in-Some-clause-ok c =
    let i = c.self.inside in
    let m = c.args.self.now in
    let ws = c.gathered.new.words in
    let ops = c.args.operands.now in
    let told = c.in_ok-dict.ensures.ok in
    let s = subst (GathersDict i.texts ops i.words ws) c.in-Some.is told in
    let h = arena_worded i.texts i.names.items i.ranges.items i.tuples.items i.tuples.tuples i.objects.items i.words ws c.self.invariant s.0 in
    let a = keys_agree m _ _ _ _ _ _ _ c.self.view_is c.self.invariant ops c.requires in
    let d = s.1 m a.0 c.requires in
    let n = c.len-address.result in
    let l : n ≡ length i.objects.items = (let b : n ≡ i.objects.len = c.len-address.ensures in let k = i.objects.ok in omega (arith, b, k)) in
    let made = object_made m i.texts i.names.items i.ranges.items i.tuples.items i.tuples.tuples i.objects.items c.self.view_is (held.Dict c.in-Some.dict) (pure.Pairs (pairs_of m c.in-Some.dict)) refl n l in
    subst (λ os. MakesDict (with_pairs [] (all_of m ops)) m (memory_of i.texts i.names.items i.ranges.items i.tuples.items i.tuples.tuples os) (Some (value.Object n))) (sym c.in_ok-push-in-Some.ensures.items)
    (subst (λ ps. MakesDict ps m (memory_of i.texts i.names.items i.ranges.items i.tuples.items i.tuples.tuples (i.objects.items ++ held.Dict c.in-Some.dict ∷ [])) (Some (value.Object n))) (sym d.pairs) made)

pub returns-in-None-clause-ok : goal.returns-in-None-clause-ok
returns-in-None-clause-ok c =
    let i = c.self.inside in
    let m = c.args.self.now in
    let ws = c.gathered.new.words in
    let ops = c.args.operands.now in
    let told = c.in_ok-dict.ensures.ok in
    let s = subst (GathersDict i.texts ops i.words ws) c.in-None.is told in
    let a = keys_agree m _ _ _ _ _ _ _ c.self.view_is c.self.invariant ops c.requires in
    subst (λ ps. MakesDict ps m (memory_of i.texts i.names.items i.ranges.items i.tuples.items i.tuples.tuples i.objects.items) None) (sym (s.1 m a.0 c.requires)) c.self.view_is
