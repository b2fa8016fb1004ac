use Rattle.std.proofs.Common.{List, ℕ, pos, ◌++◌, ap, subst, ◌∙◌}
use Rattle.std.specs.Prelude.{codes}
use Rattle.si_plain.specs.declared.kind.Kind.TheVariants.{InterpreterNotFoundError}
use Rattle.si_semantics.specs.Text.{decimal}
use Rattle.si_methods.specs.Replying.{MakesException}
use Rattle.si_methods.proofs.Words.{not_found_word}
use Rattle.si_methods.proofs.messages.not_found.Goals as goal

pub returns : goal.returns
returns c =
    let P : List ℕ → Type 0 = λ t. MakesException InterpreterNotFoundError t c.args.arena.now c.exception.new.arena c.exception.result in
    subst P (c.in_ok-message.ensures ∙ ap (λ e. codes "interpreter " ++ (decimal (pos c.args.id) ++ e)) not_found_word) c.exception.ensures
