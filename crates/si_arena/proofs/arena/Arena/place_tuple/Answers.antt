use Rattle.std.proofs.Common.{◌≡◌, sym, subst, arith}
use Rattle.std.proofs.lemmas.List.{length-map}
use Rattle.si_semantics.specs.Value.{tuple_of}
use Rattle.si_semantics.specs.Tuples.{count_of, levels_of}
use Rattle.si_arena.specs.Memory.{value_of, all_of, AllLie}
use Rattle.si_arena.proofs.Sizes.{few_values, counted}
use Rattle.si_arena.proofs.Growing.{tuple_kept, tuple_placed}
use Rattle.si_arena.proofs.arena.Arena.place_tuple.Goals as goal

pub push-requires : goal.push-requires
push-requires c =
    let vs = all_of c.args.self.now c.args.items.now in
    let few = few_values (tuple_of vs) c.in-Some.ensures.0 in
    let more = counted vs in
    let same = length-map c.args.items.now (value_of c.args.self.now) in
    omega (arith, few, more, same)

pub invariant_of-self-2 : goal.invariant_of-self-2
invariant_of-self-2 c =
    let m = c.args.self.now in
    let xs = c.args.items.now in
    let own = c.self.view_is in
    let lie = subst (λ n. AllLie n xs) (sym own) c.requires in
    let values = subst (λ n. c.in-Some.size.values ≡ count_of (tuple_of (all_of n xs))) (sym own) c.in-Some.ensures.1 in
    let levels = subst (λ n. c.in-Some.size.levels ≡ levels_of (tuple_of (all_of n xs))) (sym own) c.in-Some.ensures.2 in
    let p = c.in_ok-place.ensures.ok in
    rw (p.items, p.tuples) (tuple_kept _ _ _ _ _ _ _ c.self.invariant xs c.in-Some.size lie values levels)

pub returns-clause-tuple : goal.returns-clause-tuple
returns-clause-tuple c =
    let m = c.args.self.now in
    let xs = c.args.items.now in
    let own = c.self.view_is in
    let lie = subst (λ n. AllLie n xs) (sym own) c.requires in
    let values = subst (λ n. c.in-Some.size.values ≡ count_of (tuple_of (all_of n xs))) (sym own) c.in-Some.ensures.1 in
    let levels = subst (λ n. c.in-Some.size.levels ≡ levels_of (tuple_of (all_of n xs))) (sym own) c.in-Some.ensures.2 in
    let p = c.in_ok-place.ensures.ok in
    (c.in-Some.ensures.0, rw (p.items, p.tuples, ← c.self.view_is) (tuple_placed _ _ _ _ _ _ _ c.self.invariant xs c.in-Some.size lie values levels c.in_ok-place.place p.place))
