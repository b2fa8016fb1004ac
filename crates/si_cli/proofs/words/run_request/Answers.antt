use Rattle.std.proofs.Common.{◌≡◌, ◌∙◌, List, ℕ, Option, Bor, ap, ap₂, codes, option_map, refl, subst, sym, true}
use Rattle.std.specs.List.{list_any}
use Rattle.clap.specs.Kinds.{Kinds}
use Rattle.clap.specs.Simple.{argument_words}
use Rattle.clap.specs.Walk.{nothing_held}
use Rattle.clap.specs.Words.{Text, app_of, built, fault_of, first_of, found_of, is_simple, is_simple_and_free, matches_of}
use Rattle.clap.proofs.OnLiterals.{clap_on_literals}
use Rattle.clap.proofs.WalkLemmas.{first_value-rows}
use Rattle.si_plain.specs.Ranges.{Numbers}
use Rattle.si_cli.specs.Words.{Allows, AllowsInterpreters, AllowsTurns, IsReadFrom, IsRunFrom, TellsHelp, is_help, name_of, run, serial, texts}
use Rattle.si_cli.specs.inner.Commands.{runs, runs_name}
use Rattle.si_cli.specs.declared.words.Mover.{Mover}
use Rattle.si_cli.specs.declared.words.Mover.TheVariants as mover
use Rattle.si_cli.specs.inner.Requests.{run_in}
use Rattle.si_cli.proofs.Answered.{help_told, memory_alone}
use Rattle.si_cli.proofs.OneFault.{IsOne, one_fault}
use Rattle.si_cli.proofs.words.run_request.Goals as goal

is_simple_run : (m : Mover) → is_simple (runs m) ≡ true
unfolding clap_on_literals
is_simple_run mover.Turns = refl
is_simple_run mover.Threads = refl

is_free_run : (m : Mover) → is_simple_and_free (runs m) ≡ true
unfolding clap_on_literals
is_free_run mover.Turns = refl
is_free_run mover.Threads = refl

one_fault_of_run : (m : Mover) (words : List Text) → IsOne (fault_of (runs m) words)
unfolding clap_on_literals
one_fault_of_run mover.Turns words = one_fault (built serial).top nothing_held (argument_words serial words) refl
one_fault_of_run mover.Threads words = one_fault (built run).top nothing_held (argument_words run words) refl

-- limits that the values of the two options allow are allowed by the same values
allowed : (i j s t : Option Text) (limits : Numbers) → i ≡ j → s ≡ t → Allows i s limits → Allows j t limits
allowed i j s t limits e f h = (subst (λ (v : Option Text). AllowsInterpreters v limits.interpreters) e h.0, subst (λ (v : Option Text). AllowsTurns v limits.turns) f h.1)

-- the name of the request
named : (m : Mover) (script : Option (Bor (List ℕ))) (limits : Numbers) (saved : Option (Bor (List ℕ))) → name_of (run_in m script limits saved) ≡ runs_name m
named mover.Turns script limits saved = refl
named mover.Threads script limits saved = refl

-- what the words say
said : (m : Mover) (words : List Text) (script : Option (Bor (List ℕ))) (limits : Numbers) (saved : Option (Bor (List ℕ)))
    → IsRunFrom (runs m) words (option_map (λ p. p.now) script) limits (option_map (λ p. p.now) saved) → IsReadFrom words (run_in m script limits saved)
said mover.Turns words script limits saved h = h
said mover.Threads words script limits saved h = h

pub returns-in-Ok-limits_of-clause-name : goal.returns-in-Ok-limits_of-clause-name
returns-in-Ok-limits_of-clause-name c = ap name_of c.run_of.ensures ∙ named c.args.mover _ _ _

pub returns-in-Ok-limits_of-clause-said : goal.returns-in-Ok-limits_of-clause-said
returns-in-Ok-limits_of-clause-said c =
    let command_is : app_of c.in_ok-command.command ≡ runs c.args.mover = c.in_ok-command.ensures in
    let found = c.in-Ok.ensures.matches (ap is_simple command_is ∙ is_simple_run c.args.mover) in
    let rows = found_of c.in-Ok.matches in
    let script_is = c.get_str-script.ensures ∙ first_value-rows rows (codes "SCRIPT") ∙ ap (first_of (codes "SCRIPT")) (found.0 ∙ ap₂ matches_of command_is refl) in
    let interpreters_are = c.get_str-interpreters.ensures ∙ first_value-rows rows (codes "interpreters") ∙ ap (first_of (codes "interpreters")) (found.0 ∙ ap₂ matches_of command_is refl) in
    let turns_are = c.get_str-turns.ensures ∙ first_value-rows rows (codes "turns") ∙ ap (first_of (codes "turns")) (found.0 ∙ ap₂ matches_of command_is refl) in
    let saved_is = c.get_str-saved.ensures ∙ first_value-rows rows (codes "record") ∙ ap (first_of (codes "record")) (found.0 ∙ ap₂ matches_of command_is refl) in
    subst (IsReadFrom (texts c.args.words.now)) (sym c.run_of.ensures)
    (said c.args.mover (texts c.args.words.now) _ _ _ (script_is, allowed _ _ _ _ c.in-Ok-limits_of.limits interpreters_are turns_are c.in-Ok-limits_of.ensures.some, saved_is))

pub returns-in-Ok-limits_of-clause-only : goal.returns-in-Ok-limits_of-clause-only
returns-in-Ok-limits_of-clause-only c =
    let command_is : app_of c.in_ok-command.command ≡ runs c.args.mover = c.in_ok-command.ensures in
    let found = c.in-Ok.ensures.matches (ap is_simple command_is ∙ is_simple_run c.args.mover) in
    let rows = found_of c.in-Ok.matches in
    let interpreters_are = c.get_str-interpreters.ensures ∙ first_value-rows rows (codes "interpreters") ∙ ap (first_of (codes "interpreters")) (found.0 ∙ ap₂ matches_of command_is refl) in
    let turns_are = c.get_str-turns.ensures ∙ first_value-rows rows (codes "turns") ∙ ap (first_of (codes "turns")) (found.0 ∙ ap₂ matches_of command_is refl) in (
      sym (ap₂ fault_of command_is refl) ∙ c.in-Ok.ensures.kinds (ap is_simple_and_free command_is ∙ is_free_run c.args.mover),
      (c.in-Ok-limits_of.limits, allowed _ _ _ _ c.in-Ok-limits_of.limits interpreters_are turns_are c.in-Ok-limits_of.ensures.some),
    )

pub returns-in-Ok-clause-taken : goal.returns-in-Ok-clause-taken
returns-in-Ok-clause-taken c = λ read.
    let command_is : app_of c.in_ok-command.command ≡ runs c.args.mover = c.in_ok-command.ensures in
    let found = c.in-Ok.ensures.matches (ap is_simple command_is ∙ is_simple_run c.args.mover) in
    let rows = found_of c.in-Ok.matches in
    let interpreters_are = c.get_str-interpreters.ensures ∙ first_value-rows rows (codes "interpreters") ∙ ap (first_of (codes "interpreters")) (found.0 ∙ ap₂ matches_of command_is refl) in
    let turns_are = c.get_str-turns.ensures ∙ first_value-rows rows (codes "turns") ∙ ap (first_of (codes "turns")) (found.0 ∙ ap₂ matches_of command_is refl) in
    absurd (c.in-Err-limits_of.ensures.none read.1.0 (allowed _ _ _ _ read.1.0 (sym interpreters_are) (sym turns_are) read.1.1))

pub returns-in-Ok-clause-help : goal.returns-in-Ok-clause-help
returns-in-Ok-clause-help c =
    let command_is : app_of c.in_ok-command.command ≡ runs c.args.mover = c.in_ok-command.ensures in
    let none = sym (ap₂ fault_of command_is refl) ∙ c.in-Ok.ensures.kinds (ap is_simple_and_free command_is ∙ is_free_run c.args.mover) in
    subst (λ (faults : Kinds). TellsHelp (list_any is_help faults) c.in-Err-limits_of.fault) (sym none) c.in-Err-limits_of.ensures.help

pub returns-clause-taken : goal.returns-clause-taken
returns-clause-taken c = λ read.
    let command_is : app_of c.in_ok-command.command ≡ runs c.args.mover = c.in_ok-command.ensures in
    let faults = fault_of (app_of c.in_ok-command.command) (texts c.args.words.now) in
    c.words_fault.ensures.memory
    (memory_alone faults _ c.in-Err.error (ap₂ fault_of command_is refl) read.0 (c.in-Err.ensures.kinds (ap is_simple_and_free command_is ∙ is_free_run c.args.mover)))

pub returns-clause-help : goal.returns-clause-help
returns-clause-help c =
    let command_is : app_of c.in_ok-command.command ≡ runs c.args.mover = c.in_ok-command.ensures in
    let words = texts c.args.words.now in
    help_told (fault_of (app_of c.in_ok-command.command) words) (fault_of (runs c.args.mover) words) c.in-Err.error c.words_fault.result
    (ap₂ fault_of command_is refl) (one_fault_of_run c.args.mover words) (c.in-Err.ensures.kinds (ap is_simple_and_free command_is ∙ is_free_run c.args.mover))
    c.words_fault.ensures.memory c.words_fault.ensures.help
