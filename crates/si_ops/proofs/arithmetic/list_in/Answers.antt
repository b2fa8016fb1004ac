use Rattle.si_arena.specs.Memory.{value_of, dict_at}
use Rattle.si_ops.proofs.RunningLists.{plain_no_list, dict_no_list}
use Rattle.si_ops.proofs.arithmetic.list_in.Goals as goal

pub returns-in-Dict : goal.returns-in-Dict
returns-in-Dict c =
    let m = c.args.arena.now in
    let h = c.in-Dict.ensures in
    dict_no_list m.store (value_of m c.args.value) c.in-Dict.field-0 (dict_at m c.in-Dict.field-0) h.0 h.2

pub returns-in-Other : goal.returns-in-Other
returns-in-Other c = let m = c.args.arena.now in plain_no_list m.store (value_of m c.args.value) c.in-Other.ensures
