use Rattle.std.proofs.Common.{◌++◌, ◌∙◌, ap, sym, map-id}
use Rattle.std.proofs.lemmas.Iterator.{YieldsList-from_chars}
use Rattle.std.proofs.lemmas.Iterator.Consumers.{YieldsList-end}
use Rattle.si_arena.proofs.texts.widened.Goals as goal

pub returns-clause-ok : goal.returns-clause-ok
returns-clause-ok c =
    let t = YieldsList-end (YieldsList-from_chars c.args.text.now c.utf8.text cc) c.loop-c.yielded _ c.loop-c.yielded_by _ _ c.in-None.is c.next.ensures.steps in
    c.loop-c.invariant ∙ ap (λ xs. xs ++ c.loop-c.yielded) c.reserve.ensures.items ∙ ap (λ xs. c.args.wide.now.items ++ xs) (sym (map-id c.loop-c.yielded) ∙ t.0)
