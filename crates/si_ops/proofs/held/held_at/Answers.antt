use Rattle.std.proofs.Common.{refl}
use Rattle.si_arena.specs.Memory.{all_of}
use Rattle.si_ops.proofs.Holding.{list_there}
use Rattle.si_ops.proofs.held.held_at.Goals as goal

pub returns-in-Some : goal.returns-in-Some
returns-in-Some c =
    let m = c.args.arena.now in
    (refl, c.requires, list_there m c.args.address (all_of m c.in-Some.field-0.now) c.in-Some.ensures.some.0)
