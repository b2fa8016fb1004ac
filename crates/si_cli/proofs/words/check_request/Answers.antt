use Rattle.std.proofs.Common.{◌≡◌, ◌∙◌, List, ap, ap₂, codes, refl, sym, true}
use Rattle.clap.specs.Simple.{argument_words}
use Rattle.clap.specs.Walk.{nothing_held}
use Rattle.clap.specs.Words.{Text, app_of, built, fault_of, first_of, found_of, is_simple, is_simple_and_free, matches_of}
use Rattle.clap.proofs.OnLiterals.{clap_on_literals}
use Rattle.clap.proofs.WalkLemmas.{first_value-rows}
use Rattle.si_cli.specs.Words.{check, texts}
use Rattle.si_cli.proofs.Answered.{help_told, memory_alone}
use Rattle.si_cli.proofs.OneFault.{IsOne, one_fault}
use Rattle.si_cli.proofs.words.check_request.Goals as goal

is_simple_check : is_simple check ≡ true
unfolding clap_on_literals
is_simple_check = refl

is_free_check : is_simple_and_free check ≡ true
unfolding clap_on_literals
is_free_check = refl

one_fault_of_check : (words : List Text) → IsOne (fault_of check words)
unfolding clap_on_literals
one_fault_of_check words = one_fault (built check).top nothing_held (argument_words check words) refl

pub returns-in-Ok-clause-said : goal.returns-in-Ok-clause-said
returns-in-Ok-clause-said c =
    let command_is : app_of c.in_ok-command.command ≡ check = c.in_ok-command.ensures in
    let found = c.in-Ok.ensures.matches (ap is_simple command_is ∙ is_simple_check) in
    c.get_str.ensures ∙ first_value-rows (found_of c.in-Ok.matches) (codes "SCRIPT")
    ∙ ap (first_of (codes "SCRIPT")) (found.0 ∙ ap₂ matches_of command_is refl)

pub returns-in-Ok-clause-only : goal.returns-in-Ok-clause-only
returns-in-Ok-clause-only c =
    let command_is : app_of c.in_ok-command.command ≡ check = c.in_ok-command.ensures in
    sym (ap₂ fault_of command_is refl) ∙ c.in-Ok.ensures.kinds (ap is_simple_and_free command_is ∙ is_free_check)

pub returns-in-Err-clause-taken : goal.returns-in-Err-clause-taken
returns-in-Err-clause-taken c = λ taken.
    let command_is : app_of c.in_ok-command.command ≡ check = c.in_ok-command.ensures in
    let faults = fault_of (app_of c.in_ok-command.command) (texts c.args.words.now) in
    c.words_fault.ensures.memory
    (memory_alone faults _ c.in-Err.error (ap₂ fault_of command_is refl) taken (c.in-Err.ensures.kinds (ap is_simple_and_free command_is ∙ is_free_check)))

pub returns-in-Err-clause-help : goal.returns-in-Err-clause-help
returns-in-Err-clause-help c =
    let command_is : app_of c.in_ok-command.command ≡ check = c.in_ok-command.ensures in
    let words = texts c.args.words.now in
    help_told (fault_of (app_of c.in_ok-command.command) words) (fault_of check words) c.in-Err.error c.words_fault.result
    (ap₂ fault_of command_is refl) (one_fault_of_check words) (c.in-Err.ensures.kinds (ap is_simple_and_free command_is ∙ is_free_check))
    c.words_fault.ensures.memory c.words_fault.ensures.help
