use Rattle.si_arena.proofs.Growing.{tuple_view}
use Rattle.si_arena.proofs.arena.Arena.tuple.Goals as goal

pub items-requires-clause-place : goal.items-requires-clause-place
items-requires-clause-place c =
    let t = tuple_view c.args.self.now _ _ _ _ _ _ _ c.self.view_is c.self.invariant c.args.place c.requires in
    t.there

pub items-requires-clause-within : goal.items-requires-clause-within
items-requires-clause-within c =
    let t = tuple_view c.args.self.now _ _ _ _ _ _ _ c.self.view_is c.self.invariant c.args.place c.requires in
    t.within

pub returns-clause-tuple : goal.returns-clause-tuple
returns-clause-tuple c =
    let t = tuple_view c.args.self.now _ _ _ _ _ _ _ c.self.view_is c.self.invariant c.args.place c.requires in
    rw c.items.ensures t.is

pub returns-clause-lie : goal.returns-clause-lie
returns-clause-lie c =
    let t = tuple_view c.args.self.now _ _ _ _ _ _ _ c.self.view_is c.self.invariant c.args.place c.requires in
    rw c.items.ensures t.lie
