use Rattle.std.proofs.Common.{◌<◌, length}
use Rattle.si_arena.proofs.Growing.{tuple_view}
use Rattle.si_arena.proofs.arena.Arena.view.Goals as goal

pub items-requires-clause-place : goal.items-requires-clause-place
items-requires-clause-place c =
    let lt : c.in-Tuple.place < length c.args.self.now.tuples = rw c.in-Tuple.is at c.requires in
    let t = tuple_view c.args.self.now _ _ _ _ _ _ _ c.self.view_is c.self.invariant c.in-Tuple.place lt in
    t.there

pub items-requires-clause-within : goal.items-requires-clause-within
items-requires-clause-within c =
    let lt : c.in-Tuple.place < length c.args.self.now.tuples = rw c.in-Tuple.is at c.requires in
    let t = tuple_view c.args.self.now _ _ _ _ _ _ _ c.self.view_is c.self.invariant c.in-Tuple.place lt in
    t.within

pub returns-in-Tuple-clause-value : goal.returns-in-Tuple-clause-value
returns-in-Tuple-clause-value c =
    let lt : c.in-Tuple.place < length c.args.self.now.tuples = rw c.in-Tuple.is at c.requires in
    let t = tuple_view c.args.self.now _ _ _ _ _ _ _ c.self.view_is c.self.invariant c.in-Tuple.place lt in
    rw (c.items.ensures, c.in-Tuple.is) t.is

pub returns-in-Tuple-clause-parts : goal.returns-in-Tuple-clause-parts
returns-in-Tuple-clause-parts c =
    let lt : c.in-Tuple.place < length c.args.self.now.tuples = rw c.in-Tuple.is at c.requires in
    let t = tuple_view c.args.self.now _ _ _ _ _ _ _ c.self.view_is c.self.invariant c.in-Tuple.place lt in
    rw c.items.ensures t.lie
