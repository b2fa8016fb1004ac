use Rattle.std.proofs.Common.{◌<◌, length, ap, sym}
use Rattle.si_arena.proofs.Growing.{tuple_view}
use Rattle.si_arena.proofs.Sizes.{small}
use Rattle.si_arena.specs.Memory.{Memory}
use Rattle.si_arena.proofs.arena.Arena.size.Goals as goal

pub size-requires : goal.size-requires
size-requires c =
    let lt : c.in-Tuple.place < length c.args.self.now.tuples = rw c.in-Tuple.is at c.requires in
    let t = tuple_view c.args.self.now _ _ _ _ _ _ _ c.self.view_is c.self.invariant c.in-Tuple.place lt in
    t.there

pub returns-in-Tuple-clause-values : goal.returns-in-Tuple-clause-values
returns-in-Tuple-clause-values c =
    let lt : c.in-Tuple.place < length c.args.self.now.tuples = rw c.in-Tuple.is at c.requires in
    let t = tuple_view c.args.self.now _ _ _ _ _ _ _ c.self.view_is c.self.invariant c.in-Tuple.place lt in
    rw (c.size.ensures, c.in-Tuple.is) t.values

pub returns-in-Tuple-clause-levels : goal.returns-in-Tuple-clause-levels
returns-in-Tuple-clause-levels c =
    let lt : c.in-Tuple.place < length c.args.self.now.tuples = rw c.in-Tuple.is at c.requires in
    let t = tuple_view c.args.self.now _ _ _ _ _ _ _ c.self.view_is c.self.invariant c.in-Tuple.place lt in
    rw (c.size.ensures, c.in-Tuple.is) t.levels

pub returns-in_default : goal.returns-in_default
returns-in_default c =
    let s = small c.args.self.now c.self.inside.ranges.items c.args.value (ap (λ (m : Memory). m.ranges) (sym c.self.view_is)) c.in_default.not-Tuple in record {
      values = s.0;
      levels = s.1;
    }
