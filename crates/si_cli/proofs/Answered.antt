-- What clap's fault comes to, where the words have at most one kind of fault.
use Rattle.std.proofs.Common.{◌≡◌, ◌∙◌, ◌||◌, Bool, true, false, [], ◌∷◌, inl, inr, refl, subst, sym}
use Rattle.std.specs.List.{list_any}
use Rattle.clap.specs.Kinds.{HasKind, IsAmong, Kinds}
use Rattle.clap.specs.Words.{kind_of}
use Rattle.clap.specs.declared.error.Error.{Error}
use Rattle.clap.specs.declared.error.kind.ErrorKind.{ErrorKind}
use Rattle.clap.specs.declared.error.kind.ErrorKind.TheVariants.{OutOfMemory}
use Rattle.si_cli.specs.Words.{TellsHelp, is_help}
use Rattle.si_cli.specs.declared.words.WordsFault.{WordsFault}
use Rattle.si_cli.specs.declared.words.WordsFault.TheVariants.{NoMemory}
use Rattle.si_cli.proofs.OneFault.{IsOne}

-- words without a fault fail for memory alone
pub memory_alone : (kinds faults : Kinds) (e : Error) → kinds ≡ faults → faults ≡ [] → HasKind kinds e → kind_of e ≡ OutOfMemory
memory_alone kinds faults e same none (inl h) = h
memory_alone kinds faults e same none (inr h) = absurd (subst (IsAmong (kind_of e)) (same ∙ none) h)

-- the one kind there is tells whether help is asked for
one_kind : (kinds : Kinds) (k : ErrorKind) → IsOne kinds → IsAmong k kinds → is_help k ≡ list_any is_help kinds
one_kind [] k one h = absurd h
one_kind (x ∷ []) k one (inl e) = subst (λ (y : ErrorKind). is_help k ≡ is_help y || false) e (or_none (is_help k)) where
  or_none : (b : Bool) → b ≡ b || false
  or_none true = refl
  or_none false = refl
one_kind (x ∷ []) k one (inr h) = absurd h
one_kind (x ∷ y ∷ ks) k one h = absurd one

-- a fault with clap's kind tells help where the words ask for it
pub help_told :
    (kinds faults : Kinds) (e : Error) (fault : WordsFault)
    → kinds ≡ faults → IsOne faults → HasKind kinds e → (kind_of e ≡ OutOfMemory → fault ≡ NoMemory) → TellsHelp (is_help (kind_of e)) fault
    → TellsHelp (list_any is_help faults) fault
help_told kinds faults e fault same one (inl h) memory told = subst (λ (f : WordsFault). TellsHelp (list_any is_help faults) f) (sym (memory h)) tt
help_told kinds faults e fault same one (inr h) memory told =
    subst (λ (b : Bool). TellsHelp b fault) (one_kind faults (kind_of e) one (subst (IsAmong (kind_of e)) same h)) told
