use Rattle.std.proofs.Common.{Some, sym, ap, ◌∙◌}
use Rattle.si_semantics.specs.Attributes.{texts_in}
use Rattle.si_arena.specs.Memory.{all_of}
use Rattle.si_methods.proofs.Joined.{items_back}
use Rattle.si_methods.proofs.joining.pieces_of.Goals as goal

pub returns-in-Tuple : goal.returns-in-Tuple
returns-in-Tuple c =
    ((λ w e. ap (λ v. texts_in v w) (sym c.in-Tuple.ensures.value) ∙ ap (λ vs. Some vs) (items_back (all_of c.args.arena.now c.in-Tuple.items.now))), c.in-Tuple.ensures.parts)
