use Rattle.std.proofs.Common.{◌≡◌, slice_get, Some}
use Rattle.si_arena.proofs.Keyed.{pair_lies-at}
use Rattle.si_arena.proofs.dict.Dict.pair.Goals as goal

pub returns-clause-lies : goal.returns-clause-lies
returns-clause-lies c = λ m h.
    let e = c.in-Some.ensures.entry in
    let d = c.deref.ensures in
    let w = c.self.view_is in
    let f : slice_get c.args.self.now c.args.at ≡ Some (c.in-Some.field-0-0.now, c.in-Some.pair.now) = cc in
    pair_lies-at m c.args.self.now c.args.at (c.in-Some.field-0-0.now, c.in-Some.pair.now) h f
