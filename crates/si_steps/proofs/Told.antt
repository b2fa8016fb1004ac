-- How a run ended, as it is told.
use Rattle.std.proofs.Common.{codes, ◌≡◌, ℕ, List, [], ◌++◌, length, Some, Result, Ok, Err, encode_utf8_all, refl, sym, ap, ◌∙◌}
use Rattle.std.specs.String.{string_bytes}
use Rattle.std.specs.Prelude.{slice_get}
use Rattle.std.specs.Str.{chars}
use Rattle.std.specs.declared.string.String.{String}
use Rattle.si_plain.specs.declared.kind.Kind.{Kind}
use Rattle.si_plain.specs.Characters.{characters_of}
use Rattle.si_semantics.specs.Value as pure
use Rattle.si_semantics.specs.Value.{Text, Address}
use Rattle.si_semantics.specs.Text.{message_of, str_in}
use Rattle.si_semantics.specs.Life as life
use Rattle.si_slots.specs.Machine.{Course, Ending}
use Rattle.si_arena.specs.declared.cause.Cause.{Cause}
use Rattle.si_arena.specs.declared.cause.Cause.TheVariants.{Arithmetic, TooLong, WrongType, NotCallable, WrongArguments, TooDeep, NoneActive, Outside, NotDefined, NotBound, NoAttribute, Refused, SizeChanged}
use Rattle.si_arena.specs.declared.cause.Fault.{Fault}
use Rattle.si_arena.specs.declared.cause.Fault.TheVariants.{Raises, NoMemory}
use Rattle.si_arena.specs.declared.object.Object.{Object}
use Rattle.si_arena.specs.declared.object.Object.TheVariants.{Bare, Made, Caused, Thread, Started}
use Rattle.si_arena.specs.Memory.{Memory, object_of}
use Rattle.si_arena.specs.Objects.{kind_in}
use Rattle.si_ops.specs.Writing.{Appends, IsUnwritten}
use Rattle.si_ops.proofs.Ends.{text_at}
use Rattle.si_steps.specs.declared.state.State.{State}
use Rattle.si_steps.specs.declared.step.Exit.TheVariants.{Raised}
use Rattle.si_steps.specs.Moments.{outcome_of}
use Rattle.si_steps.specs.Machines.{HasEnded}

-- a message that was written
pub written_message : {Z : Type 0} (p : Result Text Kind) (old new : String Z) (bytes : List ℕ) (t : Text) → string_bytes old ≡ [] → p ≡ Ok t → string_bytes new ≡ string_bytes old ++ encode_utf8_all t → bytes ≡ string_bytes new → characters_of bytes ≡ message_of p
written_message p old new bytes t none e added is = ap characters_of is ∙ text_at old new t 0 (ap length (sym none)) added ∙ ap message_of (sym e)

failed_characters : characters_of (codes "<exception str() failed>") ≡ codes "<exception str() failed>"
unfolding chars
failed_characters = refl

-- and the one in place of one that can't be written
unwritten_message : (p : Result Text Kind) (cause : Cause) → IsUnwritten p cause → characters_of (codes "<exception str() failed>") ≡ message_of p
unwritten_message p (Arithmetic kind) h = absurd h
unwritten_message p TooLong h = failed_characters ∙ ap message_of (sym h)
unwritten_message p WrongType h = absurd h
unwritten_message p NotCallable h = absurd h
unwritten_message p WrongArguments h = absurd h
unwritten_message p TooDeep h = failed_characters ∙ ap message_of (sym h)
unwritten_message p NoneActive h = absurd h
unwritten_message p Outside h = absurd h
unwritten_message p (NotDefined name) h = absurd h
unwritten_message p (NotBound name) h = absurd h
unwritten_message p (NoAttribute name) h = absurd h
unwritten_message p (Refused refusal) h = absurd h
unwritten_message p SizeChanged h = absurd h

nothing_raised : (cause : Cause) → NoMemory ≡ Raises cause → ⊥
nothing_raised cause e = cc

pub refused_message : {Z : Type 0} (U : Type 0) (p : Result Text Kind) (longest : List ℕ) (old new : String Z) (fault : Fault) (cause : Cause) → Appends {Z = Z} {U = U} p longest old new (Err fault) → fault ≡ Raises cause →
    characters_of (codes "<exception str() failed>") ≡ message_of p
refused_message U p longest old new (Raises k) cause h is = unwritten_message p k h.0
refused_message U p longest old new NoMemory cause h is = absurd (nothing_raised cause is)

pub same_kind : (m : Memory) (o : Object) → life.kind_of (Some (object_of m o)) ≡ kind_in o
same_kind m (Bare kind) = refl
same_kind m (Made kind r) = refl
same_kind m (Caused cause) = refl
same_kind m (Thread interpreter text) = refl
same_kind m (Started run) = refl

-- the exception that left a run
pub told_raised : (c : Course) (s : State) (x : ℕ) (kind : Kind) (text : Text) → HasEnded c s → s.outcome ≡ Raised x → kind ≡ life.kind_of (slice_get s.arena.store x) →
    text ≡ message_of (str_in s.arena.store (Address x)) → c.place ≡ Ending (life.Raised kind text)
told_raised c s x kind text h is k t =
    h.place
    ∙ ap (λ e. Ending (outcome_of e c.world)) is
    ∙ ap (λ (st : List pure.Object). Ending (life.Raised (life.kind_of (slice_get st x)) (message_of (str_in st (Address x))))) h.world.store
    ∙ ap (λ z. Ending (life.Raised z (message_of (str_in s.arena.store (Address x))))) (sym k)
    ∙ ap (λ z. Ending (life.Raised kind z)) (sym t)
