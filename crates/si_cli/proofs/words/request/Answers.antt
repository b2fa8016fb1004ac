use Rattle.std.proofs.Common.{◌≡◌, codes, sym, subst}
use Rattle.std.proofs.lemmas.Slice.Eq.{bytes_eq-Decides}
use Rattle.si_cli.specs.Words.{TellsHelp, asks_help, texts}
use Rattle.si_cli.specs.declared.words.WordsFault.{WordsFault}
use Rattle.si_cli.proofs.SecondWord.{check_refused, check_taken, check_tells, differs, flag_tells, help_tells, is_said, named, none_takes, other_tells, repeat_refused, repeat_taken, repeat_tells, run_refused, run_taken, run_tells, second_word}
use Rattle.si_cli.specs.declared.words.Mover.TheVariants as mover
use Rattle.si_cli.specs.declared.words.Told.TheVariants as told
use Rattle.si_cli.proofs.words.request.Goals as goal
use Rattle.si_cli.proofs.words.request.Goals.{in-help, in_default-name, in_default-name+in-text}

pub returns-then-eq-clause-said : goal.returns-then-eq-clause-said
returns-then-eq-clause-said c =
    let words = c.args.words.now in
    let found = c.in-Some.ensures.lookup.3 in
    let word = c.in-Some.name.now in
    let same : word.now ≡ codes "serial" = (bytes_eq-Decides word.now (codes "serial")).0 (sym c.if-eq.ensures) in
    is_said words (codes "serial") c.run_request.result (named words word (codes "serial") found.0 found.1 same) c.run_request.ensures.name c.run_request.ensures.said

pub returns-then-eq-clause-only : goal.returns-then-eq-clause-only
returns-then-eq-clause-only c =
    let words = c.args.words.now in
    let found = c.in-Some.ensures.lookup.3 in
    let word = c.in-Some.name.now in
    let same : word.now ≡ codes "serial" = (bytes_eq-Decides word.now (codes "serial")).0 (sym c.if-eq.ensures) in
    run_taken mover.Turns words c.run_request.result (named words word (codes "serial") found.0 found.1 same) c.run_request.ensures.only

pub returns-then-eq-clause-help : goal.returns-then-eq-clause-help
returns-then-eq-clause-help c =
    let words = c.args.words.now in
    let found = c.in-Some.ensures.lookup.3 in
    let word = c.in-Some.name.now in
    let same : word.now ≡ codes "serial" = (bytes_eq-Decides word.now (codes "serial")).0 (sym c.if-eq.ensures) in
    run_tells mover.Turns words c.run_request.result (named words word (codes "serial") found.0 found.1 same) c.run_request.ensures.help

pub returns-then-eq-2-clause-said : goal.returns-then-eq-2-clause-said
returns-then-eq-2-clause-said c =
    let words = c.args.words.now in
    let found = c.in-Some.ensures.lookup.3 in
    let word = c.in-Some.name.now in
    let same : word.now ≡ codes "run" = (bytes_eq-Decides word.now (codes "run")).0 (sym c.if-eq-2.ensures) in
    is_said words (codes "run") c.run_request-then-eq-2.result (named words word (codes "run") found.0 found.1 same) c.run_request-then-eq-2.ensures.name c.run_request-then-eq-2.ensures.said

pub returns-then-eq-2-clause-only : goal.returns-then-eq-2-clause-only
returns-then-eq-2-clause-only c =
    let words = c.args.words.now in
    let found = c.in-Some.ensures.lookup.3 in
    let word = c.in-Some.name.now in
    let same : word.now ≡ codes "run" = (bytes_eq-Decides word.now (codes "run")).0 (sym c.if-eq-2.ensures) in
    run_taken mover.Threads words c.run_request-then-eq-2.result (named words word (codes "run") found.0 found.1 same) c.run_request-then-eq-2.ensures.only

pub returns-then-eq-2-clause-help : goal.returns-then-eq-2-clause-help
returns-then-eq-2-clause-help c =
    let words = c.args.words.now in
    let found = c.in-Some.ensures.lookup.3 in
    let word = c.in-Some.name.now in
    let same : word.now ≡ codes "run" = (bytes_eq-Decides word.now (codes "run")).0 (sym c.if-eq-2.ensures) in
    run_tells mover.Threads words c.run_request-then-eq-2.result (named words word (codes "run") found.0 found.1 same) c.run_request-then-eq-2.ensures.help

pub returns-then-eq-clause-taken : goal.returns-then-eq-clause-taken
returns-then-eq-clause-taken c =
    let words = c.args.words.now in
    let found = c.in-Some.ensures.lookup.3 in
    let word = c.in-Some.name.now in
    let same : word.now ≡ codes "serial" = (bytes_eq-Decides word.now (codes "serial")).0 (sym c.if-eq.ensures) in
    run_refused mover.Turns words c.run_request.result (named words word (codes "serial") found.0 found.1 same) c.run_request.ensures.taken

pub returns-then-eq-2-clause-taken : goal.returns-then-eq-2-clause-taken
returns-then-eq-2-clause-taken c =
    let words = c.args.words.now in
    let found = c.in-Some.ensures.lookup.3 in
    let word = c.in-Some.name.now in
    let same : word.now ≡ codes "run" = (bytes_eq-Decides word.now (codes "run")).0 (sym c.if-eq-2.ensures) in
    run_refused mover.Threads words c.run_request-then-eq-2.result (named words word (codes "run") found.0 found.1 same) c.run_request-then-eq-2.ensures.taken

pub returns-then-eq-3-clause-said : goal.returns-then-eq-3-clause-said
returns-then-eq-3-clause-said c =
    let words = c.args.words.now in
    let found = c.in-Some.ensures.lookup.3 in
    let word = c.in-Some.name.now in
    let same : word.now ≡ codes "check" = (bytes_eq-Decides word.now (codes "check")).0 (sym c.if-eq-3.ensures) in
    is_said words (codes "check") c.check_request.result (named words word (codes "check") found.0 found.1 same) c.check_request.ensures.name c.check_request.ensures.said

pub returns-then-eq-3-clause-only : goal.returns-then-eq-3-clause-only
returns-then-eq-3-clause-only c =
    let words = c.args.words.now in
    let found = c.in-Some.ensures.lookup.3 in
    let word = c.in-Some.name.now in
    let same : word.now ≡ codes "check" = (bytes_eq-Decides word.now (codes "check")).0 (sym c.if-eq-3.ensures) in
    check_taken words c.check_request.result (named words word (codes "check") found.0 found.1 same) c.check_request.ensures.only

pub returns-then-eq-3-clause-help : goal.returns-then-eq-3-clause-help
returns-then-eq-3-clause-help c =
    let words = c.args.words.now in
    let found = c.in-Some.ensures.lookup.3 in
    let word = c.in-Some.name.now in
    let same : word.now ≡ codes "check" = (bytes_eq-Decides word.now (codes "check")).0 (sym c.if-eq-3.ensures) in
    check_tells words c.check_request.result (named words word (codes "check") found.0 found.1 same) c.check_request.ensures.help

pub returns-then-eq-3-clause-taken : goal.returns-then-eq-3-clause-taken
returns-then-eq-3-clause-taken c =
    let words = c.args.words.now in
    let found = c.in-Some.ensures.lookup.3 in
    let word = c.in-Some.name.now in
    let same : word.now ≡ codes "check" = (bytes_eq-Decides word.now (codes "check")).0 (sym c.if-eq-3.ensures) in
    check_refused words c.check_request.result (named words word (codes "check") found.0 found.1 same) c.check_request.ensures.taken

pub returns-then-eq-4-clause-said : goal.returns-then-eq-4-clause-said
returns-then-eq-4-clause-said c =
    let words = c.args.words.now in
    let found = c.in-Some.ensures.lookup.3 in
    let word = c.in-Some.name.now in
    let same : word.now ≡ codes "replay" = (bytes_eq-Decides word.now (codes "replay")).0 (sym c.if-eq-4.ensures) in
    is_said words (codes "replay") c.repeat_request.result (named words word (codes "replay") found.0 found.1 same) c.repeat_request.ensures.name c.repeat_request.ensures.said

pub returns-then-eq-4-clause-only : goal.returns-then-eq-4-clause-only
returns-then-eq-4-clause-only c =
    let words = c.args.words.now in
    let found = c.in-Some.ensures.lookup.3 in
    let word = c.in-Some.name.now in
    let same : word.now ≡ codes "replay" = (bytes_eq-Decides word.now (codes "replay")).0 (sym c.if-eq-4.ensures) in
    repeat_taken told.Report words c.repeat_request.result (named words word (codes "replay") found.0 found.1 same) c.repeat_request.ensures.only

pub returns-then-eq-4-clause-help : goal.returns-then-eq-4-clause-help
returns-then-eq-4-clause-help c =
    let words = c.args.words.now in
    let found = c.in-Some.ensures.lookup.3 in
    let word = c.in-Some.name.now in
    let same : word.now ≡ codes "replay" = (bytes_eq-Decides word.now (codes "replay")).0 (sym c.if-eq-4.ensures) in
    repeat_tells told.Report words c.repeat_request.result (named words word (codes "replay") found.0 found.1 same) c.repeat_request.ensures.help

pub returns-then-eq-5-clause-said : goal.returns-then-eq-5-clause-said
returns-then-eq-5-clause-said c =
    let words = c.args.words.now in
    let found = c.in-Some.ensures.lookup.3 in
    let word = c.in-Some.name.now in
    let same : word.now ≡ codes "history" = (bytes_eq-Decides word.now (codes "history")).0 (sym c.if-eq-5.ensures) in
    is_said words (codes "history") c.repeat_request-then-eq-5.result (named words word (codes "history") found.0 found.1 same) c.repeat_request-then-eq-5.ensures.name c.repeat_request-then-eq-5.ensures.said

pub returns-then-eq-5-clause-only : goal.returns-then-eq-5-clause-only
returns-then-eq-5-clause-only c =
    let words = c.args.words.now in
    let found = c.in-Some.ensures.lookup.3 in
    let word = c.in-Some.name.now in
    let same : word.now ≡ codes "history" = (bytes_eq-Decides word.now (codes "history")).0 (sym c.if-eq-5.ensures) in
    repeat_taken told.History words c.repeat_request-then-eq-5.result (named words word (codes "history") found.0 found.1 same) c.repeat_request-then-eq-5.ensures.only

pub returns-then-eq-5-clause-help : goal.returns-then-eq-5-clause-help
returns-then-eq-5-clause-help c =
    let words = c.args.words.now in
    let found = c.in-Some.ensures.lookup.3 in
    let word = c.in-Some.name.now in
    let same : word.now ≡ codes "history" = (bytes_eq-Decides word.now (codes "history")).0 (sym c.if-eq-5.ensures) in
    repeat_tells told.History words c.repeat_request-then-eq-5.result (named words word (codes "history") found.0 found.1 same) c.repeat_request-then-eq-5.ensures.help

pub returns-then-eq-4-clause-taken : goal.returns-then-eq-4-clause-taken
returns-then-eq-4-clause-taken c =
    let words = c.args.words.now in
    let found = c.in-Some.ensures.lookup.3 in
    let word = c.in-Some.name.now in
    let same : word.now ≡ codes "replay" = (bytes_eq-Decides word.now (codes "replay")).0 (sym c.if-eq-4.ensures) in
    repeat_refused told.Report words c.repeat_request.result (named words word (codes "replay") found.0 found.1 same) c.repeat_request.ensures.taken

pub returns-then-eq-5-clause-taken : goal.returns-then-eq-5-clause-taken
returns-then-eq-5-clause-taken c =
    let words = c.args.words.now in
    let found = c.in-Some.ensures.lookup.3 in
    let word = c.in-Some.name.now in
    let same : word.now ≡ codes "history" = (bytes_eq-Decides word.now (codes "history")).0 (sym c.if-eq-5.ensures) in
    repeat_refused told.History words c.repeat_request-then-eq-5.result (named words word (codes "history") found.0 found.1 same) c.repeat_request-then-eq-5.ensures.taken

pub returns-clause-taken : goal.returns-clause-taken
returns-clause-taken c = λ taken.
    let words = c.args.words.now in
    let found = c.in-Some.ensures.lookup.3 in
    let word = c.in-Some.name.now in
    let not_serial : word.now ≡ codes "serial" → ⊥ = differs word.now (codes "serial") c.if-eq.ensures in
    let not_run : word.now ≡ codes "run" → ⊥ = differs word.now (codes "run") c.if-eq-2.ensures in
    let not_check : word.now ≡ codes "check" → ⊥ = differs word.now (codes "check") c.if-eq-3.ensures in
    let not_replay : word.now ≡ codes "replay" → ⊥ = differs word.now (codes "replay") c.if-eq-4.ensures in
    let not_history : word.now ≡ codes "history" → ⊥ = differs word.now (codes "history") c.if-eq-5.ensures in
    absurd (none_takes (texts words) word.now (second_word words word found.0 found.1) not_serial not_run not_check not_replay not_history taken)

pub returns-clause-help : goal.returns-clause-help
returns-clause-help c =
    let words = c.args.words.now in
    let found = c.in-Some.ensures.lookup.3 in
    let word = c.in-Some.name.now in
    let second = second_word words word found.0 found.1 in
    let not_serial : word.now ≡ codes "serial" → ⊥ = differs word.now (codes "serial") c.if-eq.ensures in
    let not_run : word.now ≡ codes "run" → ⊥ = differs word.now (codes "run") c.if-eq-2.ensures in
    let not_check : word.now ≡ codes "check" → ⊥ = differs word.now (codes "check") c.if-eq-3.ensures in
    let not_replay : word.now ≡ codes "replay" → ⊥ = differs word.now (codes "replay") c.if-eq-4.ensures in
    let not_history : word.now ≡ codes "history" → ⊥ = differs word.now (codes "history") c.if-eq-5.ensures in
    let P : WordsFault → Type 0 = TellsHelp (asks_help (texts words)) in
    elim c.match-name.branch [
      | in-help w ↦ subst P (sym w.result-is) (help_tells (texts words) word.now w.help_of.result second w.in-help.is w.help_of.ensures)
      | in_default-name w ↦ subst P (sym w.result-is) (other_tells (texts words) word.now w.no_command.result second
          w.in_default-name.not-text w.in_default-name.not-text-2 w.in_default-name.not-text-3 w.in_default-name.not-text-4 w.in_default-name.not-help not_serial not_run not_check not_replay not_history w.no_command.ensures)
      | in_default-name+in-text w ↦ subst P (sym w.result-is) (flag_tells (texts words) word.now w.told_by.result second w.in-text.is w.told_by.ensures)
    ]
