-- The commands of the program, and what their words say by clap's definition of a simple command (this project's own).
use Rattle.std.specs.Prelude.{◌≡◌, ◌⊎◌, ◌||◌, ◌&&◌, ℕ, Bool, true, false, map, List, [], Option, Some, None, bytes_eq, codes, drop, slice_get, option_map}
use Rattle.std.specs.List.{list_any}
use Rattle.std.specs.Borrow.{Bor}
use Rattle.std.specs.Str.Parse.{IsNumeral, digits_value, without_leading_plus}
use Rattle.clap.specs.Words.{App, Rule, Text, fault_of, new_app, new_rule, with_rule, first_of, matches_of}
use Rattle.clap.specs.declared.builder.action.ArgAction.TheVariants.{Set}
use Rattle.clap.specs.declared.error.kind.ErrorKind.{ErrorKind}
use Rattle.clap.specs.declared.error.kind.ErrorKind.TheVariants.{DisplayHelp, DisplayVersion}
use Rattle.si_plain.specs.Ranges.{Numbers, is_interpreter_count, is_turn_count}
use Rattle.si_cli.specs.declared.asked.Request.{Request}
use Rattle.si_cli.specs.declared.asked.Request.TheVariants.{Serial, Run, Check, Replay, History}
use Rattle.si_cli.specs.declared.words.WordsFault.{WordsFault}
use Rattle.si_cli.specs.declared.words.WordsFault.TheVariants.{Words, NoMemory}

-- the bytes of each word
abbrev pub texts : List (Bor (List ℕ)) → List Text
texts words = map (λ w. w.now) words

-- the path of a script, which may be left out
abbrev pub script : Rule
script = record (new_rule (codes "SCRIPT")) { action = Some Set }

-- the option `--interpreters N`, which may be left out
abbrev pub interpreters : Rule
interpreters = record (new_rule (codes "interpreters")) { long = Some (codes "interpreters"); value_names = 1; action = Some Set }

-- the option `--turns N`, which may be left out
abbrev pub turns : Rule
turns = record (new_rule (codes "turns")) { long = Some (codes "turns"); value_names = 1; action = Some Set }

-- the option `--record PATH`, which may be left out
abbrev pub saving : Rule
saving = record (new_rule (codes "record")) { long = Some (codes "record"); value_names = 1; action = Some Set }

-- the option `--schedule PATH`
abbrev pub planning : Rule
planning = record (new_rule (codes "schedule")) { long = Some (codes "schedule"); value_names = 1; action = Some Set }

-- the command `serial [SCRIPT] [--interpreters N] [--turns N] [--record PATH]`
abbrev pub serial : App
serial = with_rule (with_rule (with_rule (with_rule (new_app (codes "serial")) script) interpreters) turns) saving

-- the command `run [SCRIPT] [--interpreters N] [--turns N] [--record PATH]`
abbrev pub run : App
run = with_rule (with_rule (with_rule (with_rule (new_app (codes "run")) script) interpreters) turns) saving

-- the command `check [SCRIPT]`
abbrev pub check : App
check = with_rule (new_app (codes "check")) script

-- the command `replay [SCRIPT] --schedule PATH [--turns N]`
abbrev pub replay : App
replay = with_rule (with_rule (with_rule (new_app (codes "replay")) script) planning) turns

-- the command `history [SCRIPT] --schedule PATH [--turns N]`
abbrev pub history : App
history = with_rule (with_rule (with_rule (new_app (codes "history")) script) planning) turns

-- the name of the command that is asked for
abbrev pub name_of : Request → Text
name_of (Serial path limits at) = codes "serial"
name_of (Run path limits at) = codes "run"
name_of (Check path) = codes "check"
name_of (Replay path plan limits) = codes "replay"
name_of (History path plan limits) = codes "history"

-- the second word is the name of this command
abbrev pub Names : List Text → Text → Type 0
Names words name = slice_get words 1 ≡ Some name

-- the path of the script among the words of a command, the first being its name
abbrev pub path_among : App → List Text → Option Text
path_among command words = first_of (codes "SCRIPT") (matches_of command words)

-- the path of a request's script
abbrev pub path_of : Request → Option Text
path_of (Serial path limits at) = option_map (λ p. p.now) path
path_of (Run path limits at) = option_map (λ p. p.now) path
path_of (Check path) = option_map (λ p. p.now) path
path_of (Replay path plan limits) = option_map (λ p. p.now) path
path_of (History path plan limits) = option_map (λ p. p.now) path

-- the path of the schedule that a request reads
abbrev pub schedule_of : Request → Option Text
schedule_of (Serial path limits at) = None
schedule_of (Run path limits at) = None
schedule_of (Check path) = None
schedule_of (Replay path plan limits) = Some plan.now
schedule_of (History path plan limits) = Some plan.now

-- the path at which a request saves its schedule
abbrev pub saved_of : Request → Option Text
saved_of (Serial path limits at) = option_map (λ p. p.now) at
saved_of (Run path limits at) = option_map (λ p. p.now) at
saved_of (Check path) = None
saved_of (Replay path plan limits) = None
saved_of (History path plan limits) = None

-- the value of `--interpreters` among the words of a command
abbrev pub interpreters_among : App → List Text → Option Text
interpreters_among command words = first_of (codes "interpreters") (matches_of command words)

-- the value of `--turns` among the words of a command
abbrev pub turns_among : App → List Text → Option Text
turns_among command words = first_of (codes "turns") (matches_of command words)

-- the value of `--record` among the words of a command
abbrev pub saved_among : App → List Text → Option Text
saved_among command words = first_of (codes "record") (matches_of command words)

-- the value of `--schedule` among the words of a command
abbrev pub schedule_among : App → List Text → Option Text
schedule_among command words = first_of (codes "schedule") (matches_of command words)

-- a text writes a number as Rust's `parse` reads a whole number: decimal digits after an optional plus
abbrev pub Writes : Text → ℕ → Type 0
Writes text n = IsNumeral 10 (without_leading_plus text) × (digits_value 10 (without_leading_plus text) ≡ n)

-- the value of `--interpreters` allows so many interpreters: those that it writes, from 1 to 64; else 8
abbrev pub AllowsInterpreters : Option Text → ℕ → Type 0
AllowsInterpreters None n = n ≡ 8
AllowsInterpreters (Some text) n = Writes text n × (is_interpreter_count n ≡ true)

-- the value of `--turns` allows so many turns: those that it writes, from 1 to 1,099,511,627,776; else 1,000,000
abbrev pub AllowsTurns : Option Text → ℕ → Type 0
AllowsTurns None n = n ≡ 1000000
AllowsTurns (Some text) n = Writes text n × (is_turn_count n ≡ true)

-- the values of the two options allow these limits
abbrev pub Allows : (interpreters turns : Option Text) → Numbers → Type 0
Allows i t limits = AllowsInterpreters i limits.interpreters × AllowsTurns t limits.turns

-- a script's path, limits and the path of a saved schedule are what the words of a command that runs a script say
abbrev pub IsRunFrom : App → List Text → (path : Option Text) → Numbers → (at : Option Text) → Type 0
IsRunFrom command words path limits at = (path ≡ path_among command words)
    × Allows (interpreters_among command words) (turns_among command words) limits
    × (at ≡ saved_among command words)

-- a script's path, a schedule's and limits are what the words of a command that makes a run again say
abbrev pub IsRepeatFrom : App → List Text → (path plan : Option Text) → Numbers → Type 0
IsRepeatFrom command words path plan limits = (path ≡ path_among command words) × (plan ≡ schedule_among command words)
    × Allows None (turns_among command words) limits

-- a request is what the words from the command's name on say
abbrev pub IsReadFrom : List Text → Request → Type 0
IsReadFrom words (Serial path limits at) = IsRunFrom serial words (path_of (Serial path limits at)) limits (saved_of (Serial path limits at))
IsReadFrom words (Run path limits at) = IsRunFrom run words (path_of (Run path limits at)) limits (saved_of (Run path limits at))
IsReadFrom words (Check path) = path_of (Check path) ≡ path_among check words
IsReadFrom words (Replay path plan limits) = IsRepeatFrom replay words (path_of (Replay path plan limits)) (Some plan.now) limits
IsReadFrom words (History path plan limits) = IsRepeatFrom history words (path_of (History path plan limits)) (Some plan.now) limits

-- a request is what the words say: the second names its command, which reads the words from there on
abbrev pub IsSaidBy : List Text → Request → Type 0
IsSaidBy words request = Names words (name_of request) × IsReadFrom (drop 1 words) request

-- a command takes the words from its name on: clap's definition finds no fault in them
abbrev pub Takes : App → List Text → Type 0
Takes command words = fault_of command words ≡ []

-- a command that runs a script takes the words from its name on, and they allow limits
abbrev pub AreRun : App → List Text → Type 0
AreRun command words = Takes command words × ((limits : Numbers) × Allows (interpreters_among command words) (turns_among command words) limits)

-- a command that makes a run again takes the words from its name on, they name a schedule, and they allow limits
abbrev pub AreRepeat : App → List Text → Type 0
AreRepeat command words = Takes command words × ((plan : Text) × (schedule_among command words ≡ Some plan))
    × ((limits : Numbers) × Allows None (turns_among command words) limits)

-- the words name a command that takes the words from its name on, with numbers within their limits
abbrev pub AreTaken : List Text → Type 0
AreTaken words =
    Names words (codes "serial") × AreRun serial (drop 1 words)
    ⊎ (Names words (codes "run") × AreRun run (drop 1 words)
    ⊎ (Names words (codes "check") × Takes check (drop 1 words)
    ⊎ (Names words (codes "replay") × AreRepeat replay (drop 1 words)
    ⊎ Names words (codes "history") × AreRepeat history (drop 1 words))))

-- what clap finds asks for help, or for a version, which no command here has
abbrev pub is_help : ErrorKind → Bool
is_help DisplayHelp = true
is_help DisplayVersion = true
is_help kind = false

-- the words from a command's name on ask for its help, by clap's definition
abbrev pub helps : App → List Text → Bool
helps command words = list_any is_help (fault_of command words)

-- a word, where there is one, is this
abbrev pub is_word : Option Text → Text → Bool
is_word None text = false
is_word (Some word) text = bytes_eq word text

-- what help is asked of: the program where nothing is named, or `help` itself, or a command
abbrev pub is_topic : Option Text → Bool
is_topic None = true
is_topic (Some word) =
    bytes_eq word (codes "serial") || (bytes_eq word (codes "run") || (bytes_eq word (codes "check")
    || (bytes_eq word (codes "replay") || (bytes_eq word (codes "history") || bytes_eq word (codes "help")))))

-- the words ask for help or for the version: the second is `-h`, `--help`, `-V` or `--version`, or `help` with nothing, `help`
-- or a command after it, or names a command whose help the words from there on ask for
abbrev pub asks_help : List Text → Bool
asks_help words =
    let second = slice_get words 1 in
    is_word second (codes "-h") || (is_word second (codes "--help") || (is_word second (codes "-V") || (is_word second (codes "--version")
    || ((is_word second (codes "help") && is_topic (slice_get words 2))
    || ((is_word second (codes "serial") && helps serial (drop 1 words))
    || ((is_word second (codes "run") && helps run (drop 1 words))
    || ((is_word second (codes "check") && helps check (drop 1 words))
    || ((is_word second (codes "replay") && helps replay (drop 1 words))
    || (is_word second (codes "history") && helps history (drop 1 words))))))))))

-- a fault tells help, or the version, just where that is asked for; one of memory tells nothing
abbrev pub TellsHelp : Bool → WordsFault → Type 0
TellsHelp asked (Words help text) = help ≡ asked
TellsHelp asked NoMemory = Unit {0}
