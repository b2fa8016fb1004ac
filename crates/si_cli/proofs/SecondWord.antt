-- The second of the words, and those from it on.
use Rattle.std.proofs.Common.{◌≡◌, ◌⊎◌, ◌∙◌, ◌<◌, ◌-◌, ◌||◌, ◌&&◌, Bool, true, false, List, ℕ, Option, Some, Result, Ok, Err, IfErr, IfOk, Bor, ap, inl, inr, refl, subst, sym, bytes_eq, codes, length, drop, take, get_or, option_map, slice_get}
use Rattle.std.proofs.lemmas.Option.{slice_get-map, slice_get-get_or}
use Rattle.std.proofs.lemmas.List.{drop-map, take_rest}
use Rattle.std.proofs.lemmas.Slice.Eq.{bytes_eq-Decides}
use Rattle.si_cli.specs.declared.asked.Request.{Request}
use Rattle.si_cli.specs.declared.words.WordsFault.{WordsFault}
use Rattle.si_cli.specs.declared.words.WordsFault.TheVariants.{NoMemory}
use Rattle.si_cli.specs.Words.{AreRepeat, AreRun, AreTaken, IsReadFrom, IsSaidBy, Names, Takes, TellsHelp, asks_help, check, helps, history, is_topic, is_word, name_of, replay, run, serial, texts}
use Rattle.si_cli.specs.inner.Commands.{repeats, repeats_name, runs, runs_name}
use Rattle.si_cli.specs.declared.words.Mover.{Mover}
use Rattle.si_cli.specs.declared.words.Mover.TheVariants as mover
use Rattle.si_cli.specs.declared.words.Told.{Told}
use Rattle.si_cli.specs.declared.words.Told.TheVariants as told

-- the bytes of the second word, which is there
pub second_word : (words : List (Bor (List ℕ))) (word : Bor (List ℕ)) → 1 < length words → ((d : Bor (List ℕ)) → word ≡ get_or words 1 d) → slice_get (texts words) 1 ≡ Some word.now
second_word words word there is =
    slice_get-map (λ w. w.now) words 1
    ∙ ap (option_map (λ w. w.now)) (slice_get-get_or words 1 word there ∙ ap Some (sym (is word)))

-- the bytes of the words from the second on
pub from_second : (words : List (Bor (List ℕ))) → texts (take (length words - 1) (drop 1 words)) ≡ drop 1 (texts words)
from_second words = ap texts (take_rest words 1) ∙ sym (drop-map (λ w. w.now) 1 words)

-- the second word, which is there, is a name
pub named : (words : List (Bor (List ℕ))) (word : Bor (List ℕ)) (name : List ℕ) → 1 < length words → ((d : Bor (List ℕ)) → word ≡ get_or words 1 d) → word.now ≡ name → Names (texts words) name
named words word name there is same = second_word words word there is ∙ ap Some same

-- what the words from the second on say is what the words say, where the second is the command's name
pub is_said : (words : List (Bor (List ℕ))) (name : List ℕ) (r : Result Request WordsFault) → Names (texts words) name → IfOk r (λ request. name_of request ≡ name) → IfOk r (IsReadFrom (texts (take (length words - 1) (drop 1 words)))) → IfOk r (IsSaidBy (texts words))
is_said words name (Ok request) second is read =
    (second ∙ ap Some (sym is), subst (λ (ws : List (List ℕ)). IsReadFrom ws request) (from_second words) read)
is_said words name (Err fault) second is read = tt

-- the words that a command takes from the second on are taken, where that is its name
pub run_taken : (m : Mover) (words : List (Bor (List ℕ))) (r : Result Request WordsFault) → Names (texts words) (runs_name m) → IfOk r (λ _. AreRun (runs m) (texts (take (length words - 1) (drop 1 words)))) → IfOk r (λ _. AreTaken (texts words))
run_taken mover.Turns words (Ok request) second read = inl (second, subst (AreRun serial) (from_second words) read)
run_taken mover.Threads words (Ok request) second read = inr (inl (second, subst (AreRun run) (from_second words) read))
run_taken m words (Err fault) second read = tt

pub check_taken : (words : List (Bor (List ℕ))) (r : Result Request WordsFault) → Names (texts words) (codes "check") → IfOk r (λ _. Takes check (texts (take (length words - 1) (drop 1 words)))) → IfOk r (λ _. AreTaken (texts words))
check_taken words (Ok request) second read = inr (inr (inl (second, subst (Takes check) (from_second words) read)))
check_taken words (Err fault) second read = tt

pub repeat_taken : (t : Told) (words : List (Bor (List ℕ))) (r : Result Request WordsFault) → Names (texts words) (repeats_name t) → IfOk r (λ _. AreRepeat (repeats t) (texts (take (length words - 1) (drop 1 words)))) → IfOk r (λ _. AreTaken (texts words))
repeat_taken told.Report words (Ok request) second read = inr (inr (inr (inl (second, subst (AreRepeat replay) (from_second words) read))))
repeat_taken told.History words (Ok request) second read = inr (inr (inr (inr (second, subst (AreRepeat history) (from_second words) read))))
repeat_taken t words (Err fault) second read = tt

some_is : {a b : List ℕ} → Some a ≡ Some b → a ≡ b
some_is e = cc

-- texts that a test tells apart differ
pub differs : (word name : List ℕ) → false ≡ bytes_eq word name → word ≡ name → ⊥
differs word name apart same =
    let both : false ≡ true = apart ∙ (bytes_eq-Decides word name).1 same in
    cc

-- words that name a command are taken only where it takes them
repeat_alone : (t : Told) (words : List (List ℕ)) → Names words (repeats_name t) → AreTaken words → AreRepeat (repeats t) (drop 1 words)
repeat_alone told.Report words second (inl taken) = absurd (differs (codes "replay") (codes "serial") refl (some_is (sym second ∙ taken.0)))
repeat_alone told.Report words second (inr (inl taken)) = absurd (differs (codes "replay") (codes "run") refl (some_is (sym second ∙ taken.0)))
repeat_alone told.Report words second (inr (inr (inl taken))) = absurd (differs (codes "replay") (codes "check") refl (some_is (sym second ∙ taken.0)))
repeat_alone told.Report words second (inr (inr (inr (inl taken)))) = taken.1
repeat_alone told.Report words second (inr (inr (inr (inr taken)))) = absurd (differs (codes "replay") (codes "history") refl (some_is (sym second ∙ taken.0)))
repeat_alone told.History words second (inl taken) = absurd (differs (codes "history") (codes "serial") refl (some_is (sym second ∙ taken.0)))
repeat_alone told.History words second (inr (inl taken)) = absurd (differs (codes "history") (codes "run") refl (some_is (sym second ∙ taken.0)))
repeat_alone told.History words second (inr (inr (inl taken))) = absurd (differs (codes "history") (codes "check") refl (some_is (sym second ∙ taken.0)))
repeat_alone told.History words second (inr (inr (inr (inl taken)))) = absurd (differs (codes "history") (codes "replay") refl (some_is (sym second ∙ taken.0)))
repeat_alone told.History words second (inr (inr (inr (inr taken)))) = taken.1

run_alone : (m : Mover) (words : List (List ℕ)) → Names words (runs_name m) → AreTaken words → AreRun (runs m) (drop 1 words)
run_alone mover.Turns words second (inl taken) = taken.1
run_alone mover.Turns words second (inr (inl taken)) = absurd (differs (codes "serial") (codes "run") refl (some_is (sym second ∙ taken.0)))
run_alone mover.Turns words second (inr (inr (inl taken))) = absurd (differs (codes "serial") (codes "check") refl (some_is (sym second ∙ taken.0)))
run_alone mover.Turns words second (inr (inr (inr (inl taken)))) = absurd (differs (codes "serial") (codes "replay") refl (some_is (sym second ∙ taken.0)))
run_alone mover.Turns words second (inr (inr (inr (inr taken)))) = absurd (differs (codes "serial") (codes "history") refl (some_is (sym second ∙ taken.0)))
run_alone mover.Threads words second (inl taken) = absurd (differs (codes "run") (codes "serial") refl (some_is (sym second ∙ taken.0)))
run_alone mover.Threads words second (inr (inl taken)) = taken.1
run_alone mover.Threads words second (inr (inr (inl taken))) = absurd (differs (codes "run") (codes "check") refl (some_is (sym second ∙ taken.0)))
run_alone mover.Threads words second (inr (inr (inr (inl taken)))) = absurd (differs (codes "run") (codes "replay") refl (some_is (sym second ∙ taken.0)))
run_alone mover.Threads words second (inr (inr (inr (inr taken)))) = absurd (differs (codes "run") (codes "history") refl (some_is (sym second ∙ taken.0)))

pub run_refused : (m : Mover) (words : List (Bor (List ℕ))) (r : Result Request WordsFault) → Names (texts words) (runs_name m)
    → IfErr r (λ fault. AreRun (runs m) (texts (take (length words - 1) (drop 1 words))) → fault ≡ NoMemory) → IfErr r (λ fault. AreTaken (texts words) → fault ≡ NoMemory)
run_refused m words (Ok request) second only = tt
run_refused m words (Err fault) second only = λ taken. only (subst (AreRun (runs m)) (sym (from_second words)) (run_alone m (texts words) second taken))

pub repeat_refused : (t : Told) (words : List (Bor (List ℕ))) (r : Result Request WordsFault) → Names (texts words) (repeats_name t)
    → IfErr r (λ fault. AreRepeat (repeats t) (texts (take (length words - 1) (drop 1 words))) → fault ≡ NoMemory) → IfErr r (λ fault. AreTaken (texts words) → fault ≡ NoMemory)
repeat_refused t words (Ok request) second only = tt
repeat_refused t words (Err fault) second only = λ taken. only (subst (AreRepeat (repeats t)) (sym (from_second words)) (repeat_alone t (texts words) second taken))

check_alone : (words : List (List ℕ)) → Names words (codes "check") → AreTaken words → Takes check (drop 1 words)
check_alone words second (inl taken) = absurd (differs (codes "check") (codes "serial") refl (some_is (sym second ∙ taken.0)))
check_alone words second (inr (inl taken)) = absurd (differs (codes "check") (codes "run") refl (some_is (sym second ∙ taken.0)))
check_alone words second (inr (inr (inl taken))) = taken.1
check_alone words second (inr (inr (inr (inl taken)))) = absurd (differs (codes "check") (codes "replay") refl (some_is (sym second ∙ taken.0)))
check_alone words second (inr (inr (inr (inr taken)))) = absurd (differs (codes "check") (codes "history") refl (some_is (sym second ∙ taken.0)))

pub check_refused : (words : List (Bor (List ℕ))) (r : Result Request WordsFault) → Names (texts words) (codes "check")
    → IfErr r (λ fault. Takes check (texts (take (length words - 1) (drop 1 words))) → fault ≡ NoMemory) → IfErr r (λ fault. AreTaken (texts words) → fault ≡ NoMemory)
check_refused words (Ok request) second only = tt
check_refused words (Err fault) second only = λ taken. only (subst (Takes check) (sym (from_second words)) (check_alone (texts words) second taken))

-- a text is not another
is_not : (word name : List ℕ) → (word ≡ name → ⊥) → bytes_eq word name ≡ false
is_not word name other = by_test (bytes_eq word name) refl where
  by_test : (t : Bool) → bytes_eq word name ≡ t → t ≡ false
  by_test true same = absurd (other ((bytes_eq-Decides word name).0 same))
  by_test false same = refl

-- words whose second names no command are not taken
pub none_takes :
    (words : List (List ℕ)) (word : List ℕ) → slice_get words 1 ≡ Some word
    → (word ≡ codes "serial" → ⊥) → (word ≡ codes "run" → ⊥) → (word ≡ codes "check" → ⊥) → (word ≡ codes "replay" → ⊥) → (word ≡ codes "history" → ⊥) → AreTaken words → ⊥
none_takes words word second not_serial not_run not_check not_replay not_history (inl taken) = not_serial (some_is (sym second ∙ taken.0))
none_takes words word second not_serial not_run not_check not_replay not_history (inr (inl taken)) = not_run (some_is (sym second ∙ taken.0))
none_takes words word second not_serial not_run not_check not_replay not_history (inr (inr (inl taken))) = not_check (some_is (sym second ∙ taken.0))
none_takes words word second not_serial not_run not_check not_replay not_history (inr (inr (inr (inl taken)))) = not_replay (some_is (sym second ∙ taken.0))
none_takes words word second not_serial not_run not_check not_replay not_history (inr (inr (inr (inr taken)))) = not_history (some_is (sym second ∙ taken.0))

-- whether words with this second word ask for help
abbrev asks : List (List ℕ) → Option (List ℕ) → Bool
asks words second =
    is_word second (codes "-h") || (is_word second (codes "--help") || (is_word second (codes "-V") || (is_word second (codes "--version")
    || ((is_word second (codes "help") && is_topic (slice_get words 2))
    || ((is_word second (codes "serial") && helps serial (drop 1 words))
    || ((is_word second (codes "run") && helps run (drop 1 words))
    || ((is_word second (codes "check") && helps check (drop 1 words))
    || ((is_word second (codes "replay") && helps replay (drop 1 words))
    || (is_word second (codes "history") && helps history (drop 1 words))))))))))

or_none : (b : Bool) → b ≡ b || false
or_none true = refl
or_none false = refl

-- a command tells help where the words from its name on ask for it
pub run_tells : (m : Mover) (words : List (Bor (List ℕ))) (r : Result Request WordsFault) → Names (texts words) (runs_name m) → IfErr r (TellsHelp (helps (runs m) (texts (take (length words - 1) (drop 1 words))))) → IfErr r (TellsHelp (asks_help (texts words)))
run_tells m words (Ok request) second told = tt
run_tells mover.Turns words (Err fault) second told =
    let from : TellsHelp (helps serial (drop 1 (texts words))) fault = subst (λ (ws : List (List ℕ)). TellsHelp (helps serial ws) fault) (from_second words) told in
    let here : TellsHelp (asks (texts words) (Some (codes "serial"))) fault = subst (λ (b : Bool). TellsHelp b fault) (or_none (helps serial (drop 1 (texts words)))) from in
    subst (λ (name : Option (List ℕ)). TellsHelp (asks (texts words) name) fault) (sym second) here
run_tells mover.Threads words (Err fault) second told =
    let from : TellsHelp (helps run (drop 1 (texts words))) fault = subst (λ (ws : List (List ℕ)). TellsHelp (helps run ws) fault) (from_second words) told in
    let here : TellsHelp (asks (texts words) (Some (codes "run"))) fault = subst (λ (b : Bool). TellsHelp b fault) (or_none (helps run (drop 1 (texts words)))) from in
    subst (λ (name : Option (List ℕ)). TellsHelp (asks (texts words) name) fault) (sym second) here

pub check_tells : (words : List (Bor (List ℕ))) (r : Result Request WordsFault) → Names (texts words) (codes "check") → IfErr r (TellsHelp (helps check (texts (take (length words - 1) (drop 1 words))))) → IfErr r (TellsHelp (asks_help (texts words)))
check_tells words (Ok request) second told = tt
check_tells words (Err fault) second told =
    let from : TellsHelp (helps check (drop 1 (texts words))) fault = subst (λ (ws : List (List ℕ)). TellsHelp (helps check ws) fault) (from_second words) told in
    let here : TellsHelp (asks (texts words) (Some (codes "check"))) fault = subst (λ (b : Bool). TellsHelp b fault) (or_none (helps check (drop 1 (texts words)))) from in
    subst (λ (name : Option (List ℕ)). TellsHelp (asks (texts words) name) fault) (sym second) here

pub repeat_tells : (t : Told) (words : List (Bor (List ℕ))) (r : Result Request WordsFault) → Names (texts words) (repeats_name t) → IfErr r (TellsHelp (helps (repeats t) (texts (take (length words - 1) (drop 1 words))))) → IfErr r (TellsHelp (asks_help (texts words)))
repeat_tells t words (Ok request) second told = tt
repeat_tells told.Report words (Err fault) second told =
    let from : TellsHelp (helps replay (drop 1 (texts words))) fault = subst (λ (ws : List (List ℕ)). TellsHelp (helps replay ws) fault) (from_second words) told in
    let here : TellsHelp (asks (texts words) (Some (codes "replay"))) fault = subst (λ (b : Bool). TellsHelp b fault) (or_none (helps replay (drop 1 (texts words)))) from in
    subst (λ (name : Option (List ℕ)). TellsHelp (asks (texts words) name) fault) (sym second) here
repeat_tells told.History words (Err fault) second told =
    let from : TellsHelp (asks (texts words) (Some (codes "history"))) fault = subst (λ (ws : List (List ℕ)). TellsHelp (helps history ws) fault) (from_second words) told in
    subst (λ (name : Option (List ℕ)). TellsHelp (asks (texts words) name) fault) (sym second) from

-- `help` tells help of its topic
pub help_tells : (words : List (List ℕ)) (word : List ℕ) (fault : WordsFault) → slice_get words 1 ≡ Some word → word ≡ codes "help" → TellsHelp (is_topic (slice_get words 2)) fault → TellsHelp (asks_help words) fault
help_tells words word fault second is told =
    let here : TellsHelp (asks words (Some (codes "help"))) fault = subst (λ (b : Bool). TellsHelp b fault) (or_none (is_topic (slice_get words 2))) told in
    subst (λ (name : Option (List ℕ)). TellsHelp (asks words name) fault) (sym (second ∙ ap Some is)) here

-- a flag of help, or of the version, tells it
pub flag_tells : (words : List (List ℕ)) (word : List ℕ) (fault : WordsFault) → slice_get words 1 ≡ Some word
    → (word ≡ codes "-h") ⊎ ((word ≡ codes "--help") ⊎ ((word ≡ codes "-V") ⊎ (word ≡ codes "--version"))) → TellsHelp true fault → TellsHelp (asks_help words) fault
flag_tells words word fault second (inl is) told = subst (λ (name : Option (List ℕ)). TellsHelp (asks words name) fault) (sym (second ∙ ap Some is)) told
flag_tells words word fault second (inr (inl is)) told = subst (λ (name : Option (List ℕ)). TellsHelp (asks words name) fault) (sym (second ∙ ap Some is)) told
flag_tells words word fault second (inr (inr (inl is))) told = subst (λ (name : Option (List ℕ)). TellsHelp (asks words name) fault) (sym (second ∙ ap Some is)) told
flag_tells words word fault second (inr (inr (inr is))) told = subst (λ (name : Option (List ℕ)). TellsHelp (asks words name) fault) (sym (second ∙ ap Some is)) told

-- no other word does
pub other_tells :
    (words : List (List ℕ)) (word : List ℕ) (fault : WordsFault) → slice_get words 1 ≡ Some word
    → (word ≡ codes "-h" → ⊥) → (word ≡ codes "--help" → ⊥) → (word ≡ codes "-V" → ⊥) → (word ≡ codes "--version" → ⊥)
    → (word ≡ codes "help" → ⊥) → (word ≡ codes "serial" → ⊥) → (word ≡ codes "run" → ⊥) → (word ≡ codes "check" → ⊥)
    → (word ≡ codes "replay" → ⊥) → (word ≡ codes "history" → ⊥) → TellsHelp false fault → TellsHelp (asks_help words) fault
other_tells words word fault second f g h i j k l m n o told =
    subst (λ (name : Option (List ℕ)). TellsHelp (asks words name) fault) (sym second)
    (rw (is_not word _ f, is_not word _ g, is_not word _ h, is_not word _ i, is_not word _ j, is_not word _ k, is_not word _ l, is_not word _ m, is_not word _ n, is_not word _ o) told)
