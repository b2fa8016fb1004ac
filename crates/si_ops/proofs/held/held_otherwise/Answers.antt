use Rattle.std.proofs.Common.{refl, sym, subst}
use Rattle.si_arena.specs.Memory.{all_of, pairs_of}
use Rattle.si_ops.specs.inner.Held.{IsPlainObject}
use Rattle.si_ops.proofs.Equal.{plain_object}
use Rattle.si_ops.proofs.Holding.{list_there, dict_there}
use Rattle.si_ops.proofs.held.held_otherwise.Goals as goal

pub returns-in-List : goal.returns-in-List
returns-in-List c =
    let m = c.args.arena.now in
    (refl, c.requires, list_there m c.args.address (all_of m c.in-List.field-0.now) c.in-List.ensures.object)

pub returns-in-Dict : goal.returns-in-Dict
returns-in-Dict c =
    let m = c.args.arena.now in
    (refl, c.requires, dict_there m c.args.address (pairs_of m c.in-Dict.field-0.now) c.in-Dict.ensures.object)

pub returns-in-Plain : goal.returns-in-Plain
returns-in-Plain c =
    let m = c.args.arena.now in
    subst IsPlainObject (sym c.in-Plain.ensures.object) (plain_object m c.in-Plain.field-0)
