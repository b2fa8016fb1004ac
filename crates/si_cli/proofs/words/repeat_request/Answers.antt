use Rattle.std.proofs.Common.{◌≡◌, ◌∙◌, List, ℕ, Option, Some, None, Bor, ap, ap₂, codes, option_map, refl, subst, sym, true}
use Rattle.std.specs.List.{list_any}
use Rattle.clap.specs.Kinds.{Kinds}
use Rattle.clap.specs.Simple.{argument_words}
use Rattle.clap.specs.Walk.{nothing_held}
use Rattle.clap.specs.Words.{Text, app_of, built, fault_of, first_of, found_of, is_simple, is_simple_and_free, matches_of}
use Rattle.clap.proofs.OnLiterals.{clap_on_literals}
use Rattle.clap.proofs.WalkLemmas.{first_value-rows}
use Rattle.si_plain.specs.Ranges.{Numbers}
use Rattle.si_cli.specs.Words.{Allows, AllowsTurns, IsReadFrom, IsRepeatFrom, TellsHelp, history, is_help, name_of, replay, texts}
use Rattle.si_cli.specs.inner.Commands.{repeats, repeats_name}
use Rattle.si_cli.specs.declared.words.Told.{Told}
use Rattle.si_cli.specs.declared.words.Told.TheVariants as told
use Rattle.si_cli.specs.inner.Requests.{repeat_in}
use Rattle.si_cli.proofs.Answered.{help_told, memory_alone}
use Rattle.si_cli.proofs.OneFault.{IsOne, one_fault}
use Rattle.si_cli.proofs.words.repeat_request.Goals as goal

is_simple_repeat : (t : Told) → is_simple (repeats t) ≡ true
unfolding clap_on_literals
is_simple_repeat told.Report = refl
is_simple_repeat told.History = refl

is_free_repeat : (t : Told) → is_simple_and_free (repeats t) ≡ true
unfolding clap_on_literals
is_free_repeat told.Report = refl
is_free_repeat told.History = refl

one_fault_of_repeat : (t : Told) (words : List Text) → IsOne (fault_of (repeats t) words)
unfolding clap_on_literals
one_fault_of_repeat told.Report words = one_fault (built replay).top nothing_held (argument_words replay words) refl
one_fault_of_repeat told.History words = one_fault (built history).top nothing_held (argument_words history words) refl

-- limits that the value of the option allows are allowed by the same value
allowed : (s t : Option Text) (limits : Numbers) → s ≡ t → Allows None s limits → Allows None t limits
allowed s t limits f h = (h.0, subst (λ (v : Option Text). AllowsTurns v limits.turns) f h.1)

-- the name of the request
named : (t : Told) (script : Option (Bor (List ℕ))) (schedule : Bor (List ℕ)) (limits : Numbers) → name_of (repeat_in t script schedule limits) ≡ repeats_name t
named told.Report script schedule limits = refl
named told.History script schedule limits = refl

-- what the words say
said : (t : Told) (words : List Text) (script : Option (Bor (List ℕ))) (schedule : Bor (List ℕ)) (limits : Numbers)
    → IsRepeatFrom (repeats t) words (option_map (λ p. p.now) script) (Some schedule.now) limits → IsReadFrom words (repeat_in t script schedule limits)
said told.Report words script schedule limits h = h
said told.History words script schedule limits h = h

pub returns-in-Ok-limits_of-clause-name : goal.returns-in-Ok-limits_of-clause-name
returns-in-Ok-limits_of-clause-name c = ap name_of c.repeat_of.ensures ∙ named c.args.told _ _ _

pub returns-in-Ok-limits_of-clause-said : goal.returns-in-Ok-limits_of-clause-said
returns-in-Ok-limits_of-clause-said c =
    let command_is : app_of c.in_ok-command.command ≡ repeats c.args.told = c.in_ok-command.ensures in
    let found = c.in-Ok.ensures.matches (ap is_simple command_is ∙ is_simple_repeat c.args.told) in
    let rows = found_of c.in-Ok.matches in
    let script_is = c.get_str-script.ensures ∙ first_value-rows rows (codes "SCRIPT") ∙ ap (first_of (codes "SCRIPT")) (found.0 ∙ ap₂ matches_of command_is refl) in
    let turns_are = c.get_str-turns.ensures ∙ first_value-rows rows (codes "turns") ∙ ap (first_of (codes "turns")) (found.0 ∙ ap₂ matches_of command_is refl) in
    let plan_is = ap (option_map (λ (p : Bor (List ℕ)). p.now)) (sym c.in-Some.is) ∙ c.get_str.ensures ∙ first_value-rows rows (codes "schedule") ∙ ap (first_of (codes "schedule")) (found.0 ∙ ap₂ matches_of command_is refl) in
    subst (IsReadFrom (texts c.args.words.now)) (sym c.repeat_of.ensures)
    (said c.args.told (texts c.args.words.now) _ _ _ (script_is, plan_is, allowed _ _ c.in-Ok-limits_of.limits turns_are c.in-Ok-limits_of.ensures.some))

pub returns-in-Ok-limits_of-clause-only : goal.returns-in-Ok-limits_of-clause-only
returns-in-Ok-limits_of-clause-only c =
    let command_is : app_of c.in_ok-command.command ≡ repeats c.args.told = c.in_ok-command.ensures in
    let found = c.in-Ok.ensures.matches (ap is_simple command_is ∙ is_simple_repeat c.args.told) in
    let rows = found_of c.in-Ok.matches in
    let turns_are = c.get_str-turns.ensures ∙ first_value-rows rows (codes "turns") ∙ ap (first_of (codes "turns")) (found.0 ∙ ap₂ matches_of command_is refl) in
    let plan_is = ap (option_map (λ (p : Bor (List ℕ)). p.now)) (sym c.in-Some.is) ∙ c.get_str.ensures ∙ first_value-rows rows (codes "schedule") ∙ ap (first_of (codes "schedule")) (found.0 ∙ ap₂ matches_of command_is refl) in (
      sym (ap₂ fault_of command_is refl) ∙ c.in-Ok.ensures.kinds (ap is_simple_and_free command_is ∙ is_free_repeat c.args.told),
      (c.in-Some.schedule.now, sym plan_is),
      (c.in-Ok-limits_of.limits, allowed _ _ c.in-Ok-limits_of.limits turns_are c.in-Ok-limits_of.ensures.some),
    )

pub returns-in_default-clause-taken : goal.returns-in_default-clause-taken
returns-in_default-clause-taken c = λ read.
    let command_is : app_of c.in_ok-command.command ≡ repeats c.args.told = c.in_ok-command.ensures in
    let found = c.in-Ok.ensures.matches (ap is_simple command_is ∙ is_simple_repeat c.args.told) in
    let rows = found_of c.in-Ok.matches in
    let plan_is = c.get_str.ensures ∙ first_value-rows rows (codes "schedule") ∙ ap (first_of (codes "schedule")) (found.0 ∙ ap₂ matches_of command_is refl) in
    let none : None ≡ Some read.1.0 = ap (option_map (λ (p : Bor (List ℕ)). p.now)) (sym c.in_default.is) ∙ plan_is ∙ read.1.1 in
    absurd cc

pub returns-in_default-clause-help : goal.returns-in_default-clause-help
returns-in_default-clause-help c =
    let command_is : app_of c.in_ok-command.command ≡ repeats c.args.told = c.in_ok-command.ensures in
    let none = sym (ap₂ fault_of command_is refl) ∙ c.in-Ok.ensures.kinds (ap is_simple_and_free command_is ∙ is_free_repeat c.args.told) in
    subst (λ (faults : Kinds). TellsHelp (list_any is_help faults) c.no_schedule.result) (sym none) c.no_schedule.ensures

pub returns-in-Ok-clause-taken : goal.returns-in-Ok-clause-taken
returns-in-Ok-clause-taken c = λ read.
    let command_is : app_of c.in_ok-command.command ≡ repeats c.args.told = c.in_ok-command.ensures in
    let found = c.in-Ok.ensures.matches (ap is_simple command_is ∙ is_simple_repeat c.args.told) in
    let rows = found_of c.in-Ok.matches in
    let turns_are = c.get_str-turns.ensures ∙ first_value-rows rows (codes "turns") ∙ ap (first_of (codes "turns")) (found.0 ∙ ap₂ matches_of command_is refl) in
    absurd (c.in-Err-limits_of.ensures.none read.2.0 (allowed _ _ read.2.0 (sym turns_are) read.2.1))

pub returns-in-Ok-clause-help : goal.returns-in-Ok-clause-help
returns-in-Ok-clause-help c =
    let command_is : app_of c.in_ok-command.command ≡ repeats c.args.told = c.in_ok-command.ensures in
    let none = sym (ap₂ fault_of command_is refl) ∙ c.in-Ok.ensures.kinds (ap is_simple_and_free command_is ∙ is_free_repeat c.args.told) in
    subst (λ (faults : Kinds). TellsHelp (list_any is_help faults) c.in-Err-limits_of.fault) (sym none) c.in-Err-limits_of.ensures.help

pub returns-clause-taken : goal.returns-clause-taken
returns-clause-taken c = λ read.
    let command_is : app_of c.in_ok-command.command ≡ repeats c.args.told = c.in_ok-command.ensures in
    let faults = fault_of (app_of c.in_ok-command.command) (texts c.args.words.now) in
    c.words_fault.ensures.memory
    (memory_alone faults _ c.in-Err.error (ap₂ fault_of command_is refl) read.0 (c.in-Err.ensures.kinds (ap is_simple_and_free command_is ∙ is_free_repeat c.args.told)))

pub returns-clause-help : goal.returns-clause-help
returns-clause-help c =
    let command_is : app_of c.in_ok-command.command ≡ repeats c.args.told = c.in_ok-command.ensures in
    let words = texts c.args.words.now in
    help_told (fault_of (app_of c.in_ok-command.command) words) (fault_of (repeats c.args.told) words) c.in-Err.error c.words_fault.result
    (ap₂ fault_of command_is refl) (one_fault_of_repeat c.args.told words) (c.in-Err.ensures.kinds (ap is_simple_and_free command_is ∙ is_free_repeat c.args.told))
    c.words_fault.ensures.memory c.words_fault.ensures.help
