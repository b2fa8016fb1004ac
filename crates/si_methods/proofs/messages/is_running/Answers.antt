use Rattle.std.proofs.Common.{List, ℕ, pos, ◌++◌, ap, subst, ◌∙◌}
use Rattle.std.specs.Prelude.{codes}
use Rattle.si_plain.specs.declared.kind.Kind.TheVariants.{InterpreterError}
use Rattle.si_semantics.specs.Text.{decimal}
use Rattle.si_methods.specs.Replying.{MakesException}
use Rattle.si_methods.proofs.Words.{running_word}
use Rattle.si_methods.proofs.messages.is_running.Goals as goal

pub returns : goal.returns
returns c =
    let P : List ℕ → Type 0 = λ t. MakesException InterpreterError t c.args.arena.now c.exception.new.arena c.exception.result in
    subst P (c.in_ok-message.ensures ∙ ap (λ e. codes "interpreter " ++ (decimal (pos c.args.id) ++ e)) running_word) c.exception.ensures
