use Rattle.std.proofs.Common.{◌∙◌, Some, ap, sym, subst}
use Rattle.si_arena.specs.Memory.{HeldLies, held_of}
use Rattle.si_arena.proofs.Changed.{held_view, only_list}
use Rattle.si_arena.proofs.arena.Arena.list.Goals as goal

pub returns-in-List-clause-some : goal.returns-in-List-clause-some
returns-in-List-clause-some c =
    let m = c.args.self.now in
    let v = held_view m _ _ _ _ _ _ _ c.self.view_is c.self.invariant c.args.address _ c.requires c.index.ensures in
    rw c.as_slice.ensures (v.is ∙ ap (λ o. Some (held_of m o)) c.in-List.is, subst (HeldLies m) c.in-List.is v.lies)

pub returns-in_default : goal.returns-in_default
returns-in_default c =
    let m = c.args.self.now in
    let v = held_view m _ _ _ _ _ _ _ c.self.view_is c.self.invariant c.args.address _ c.requires c.index.ensures in record {
      some = tt;
      none = λ vs e. only_list m _ vs c.in_default.not-List (sym v.is ∙ e);
    }
