use Rattle.std.proofs.Common.{ap, sym}
use Rattle.si_arena.specs.Memory.{Memory}
use Rattle.si_arena.proofs.Holding.{tuple_held, none_held}
use Rattle.si_arena.proofs.arena.Arena.held_items.Goals as goal

pub returns-in-Tuple-clause-items : goal.returns-in-Tuple-clause-items
returns-in-Tuple-clause-items c = rw c.in-Tuple.is (tuple_held c.args.self.now.store _ _ c.tuple.ensures.tuple)

pub returns-in_default : goal.returns-in_default
returns-in_default c = record {
  items = none_held c.args.self.now c.self.inside.ranges.items c.args.value.now (ap (λ (m : Memory). m.ranges) (sym c.self.view_is)) c.in_default.not-Tuple c.in_default.not-Object;
  lie = tt;
}
