use Rattle.std.proofs.Common.{[], subst}
use Rattle.si_semantics.specs.Value as pure
use Rattle.si_semantics.specs.Operations as operations
use Rattle.si_arena.specs.Memory.{all_of}
use Rattle.si_semantics.specs.Dicts.{with_pairs}
use Rattle.si_arena.specs.Memory.{MakesDict}
use Rattle.si_ops.proofs.Changing.{dict_makes, dict_wrong}
use Rattle.si_ops.proofs.lists.make_dict.Goals as goal

pub returns-in-Ok-Some : goal.returns-in-Ok-Some
returns-in-Ok-Some c =
    let m = c.args.arena.now in
    let ps = with_pairs [] (all_of m c.args.items.now) in
    dict_makes ps m c.make_dict.new.self c.in-Ok-Some.dict (subst (MakesDict ps m c.make_dict.new.self) c.in-Ok-Some.field-0-is c.in-Ok-Some.ensures.ok)

pub returns-in-Ok-None : goal.returns-in-Ok-None
returns-in-Ok-None c =
    let m = c.args.arena.now in
    let ps = with_pairs [] (all_of m c.args.items.now) in
    dict_wrong ps m c.make_dict.new.self (subst (MakesDict ps m c.make_dict.new.self) c.in-Ok-None.field-0-is c.in-Ok-None.ensures.ok)
