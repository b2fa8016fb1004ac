use Rattle.std.proofs.Common.{◌∙◌, Some, ap, sym}
use Rattle.si_arena.proofs.Changed.{held_view}
use Rattle.si_arena.proofs.arena.Arena.object.Goals as goal

pub returns-clause-object : goal.returns-clause-object
returns-clause-object c =
    let v = held_view c.args.self.now _ _ _ _ _ _ _ c.self.view_is c.self.invariant c.args.address _ c.requires c.index.ensures in
    v.is ∙ ap (λ o. Some o) (sym (c.contents.ensures.is c.args.self.now))

pub returns-clause-lies : goal.returns-clause-lies
returns-clause-lies c =
    let v = held_view c.args.self.now _ _ _ _ _ _ _ c.self.view_is c.self.invariant c.args.address _ c.requires c.index.ensures in
    c.contents.ensures.lies c.args.self.now v.lies
