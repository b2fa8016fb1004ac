use Rattle.std.proofs.Common.{length, sym, ap, ◌∙◌}
use Rattle.si_arena.specs.Texts.{characters_in}
use Rattle.si_methods.specs.Joining.{values_in}
use Rattle.si_methods.proofs.Joined.{characters_count}
use Rattle.si_methods.proofs.joining.count_of.Goals as goal

pub returns-in-Characters : goal.returns-in-Characters
returns-in-Characters c = λ m.
    c.length_of.ensures ∙ sym (characters_count (characters_in c.in-Characters.characters)) ∙ ap (λ p. length (values_in m p)) (sym c.in-Characters.is)
