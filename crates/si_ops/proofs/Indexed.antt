-- The characters of a text by their indices.
use Rattle.std.proofs.Common.{◌≡◌, ℕ, List, ◌∷◌, [], ◌<◌, length, get_or, Some, refl, ap, ◌∙◌}
use Rattle.std.proofs.lemmas.Option.{slice_get-get_or}
use Rattle.si_semantics.specs.Value as pure
use Rattle.si_semantics.specs.World.{World}
use Rattle.si_semantics.specs.Operations.{gave}
use Rattle.si_semantics.specs.Subscription.{character, character_at}
use Rattle.si_arena.specs.declared.value.Ref.{Ref}
use Rattle.si_arena.specs.declared.value.Ref.TheVariants as value
use Rattle.si_arena.specs.Memory.{Memory, value_of}
use Rattle.si_arena.specs.Texts.{text_of, IsText}

-- what a text denotes
pub text_is : (m : Memory) (r : Ref) → IsText r → value_of m r ≡ pure.Str (text_of m.texts r)
text_is m value.Unbound h = absurd h
text_is m value.None h = absurd h
text_is m (value.Truth at b) h = absurd h
text_is m (value.Int n) h = absurd h
text_is m (value.Short s) h = refl
text_is m (value.Narrow n i) h = refl
text_is m (value.Wide n i) h = refl
text_is m (value.ShortBytes s) h = absurd h
text_is m (value.Bytes n i) h = absurd h
text_is m (value.BuiltIn at b) h = absurd h
text_is m (value.Function n x) h = absurd h
text_is m (value.Range p) h = absurd h
text_is m (value.Tuple p) h = absurd h
text_is m (value.Kind at k) h = absurd h
text_is m (value.Module at mo) h = absurd h
text_is m (value.Queue qu qm) h = absurd h
text_is m (value.Interpreter it) h = absurd h
text_is m (value.Exec it) h = absurd h
text_is m (value.Object x) h = absurd h

-- the characters that are shown are those that it denotes
pub shown_text : (m : Memory) (r : Ref) (s : List ℕ) → IsText r → pure.Str s ≡ value_of m r → s ≡ text_of m.texts r
shown_text m r s h e = let same : pure.Str s ≡ pure.Str (text_of m.texts r) = e ∙ text_is m r h in cc

-- the character at a place that is there
pub character_there : (s : List ℕ) (k d : ℕ) (w : World) → k < length s → character_at s (Some k) w ≡ gave (pure.Str (get_or s k d ∷ [])) w
character_there s k d w h = ap (λ o. character o w) (slice_get-get_or s k d h)
