-- What is not of a kind goes as what is of a wrong kind.
use Rattle.std.proofs.Common.{◌≡◌, ℕ, true, false, List, [], ◌∷◌, Option, Some, refl, ap, ◌∙◌}
use Rattle.std.specs.Prelude.{slice_get}
use Rattle.si_semantics.specs.Value as pure
use Rattle.si_semantics.specs.World as world
use Rattle.si_semantics.specs.World.{World}
use Rattle.si_semantics.specs.Parcels.{Tree}
use Rattle.si_semantics.specs.Operations.{wrong_type}
use Rattle.si_semantics.specs.Attributes.{asks_queue, asks_interpreter, puts, executes_in, executes, prepares_in, starts_at, joins_at, thread_of, appends, pops, gets_value, pops_value, encodes, joins_texts, prepare, prepare_from}
use Rattle.si_arena.specs.declared.object.Object.{Object}
use Rattle.si_arena.specs.declared.object.Object.TheVariants as plain
use Rattle.si_arena.specs.declared.contents.Contents.{Contents}
use Rattle.si_arena.specs.declared.contents.Contents.TheVariants.{Plain}
use Rattle.si_arena.specs.Memory.{Memory, object_of, contents_of}
use Rattle.si_methods.specs.Shown.{IsNoStr, IsNoQueue, IsNoInterpreter, IsNoExec, IsNoAddress, is_nothing}

pub no_queue : (v : pure.Value) (request : ℕ → ℕ → world.Request) (w : World) → IsNoQueue v → asks_queue request v w ≡ wrong_type w
no_queue (pure.Queue q m) request w h = absurd h
no_queue _ request w h = refl

pub puts_no_queue : (v u : pure.Value) (request : ℕ → Tree → world.Request) (w : World) → IsNoQueue v → puts request v u w ≡ wrong_type w
puts_no_queue (pure.Queue q m) u request w h = absurd h
puts_no_queue _ u request w h = refl

pub no_interpreter : (v : pure.Value) (request : ℕ → world.Request) (w : World) → IsNoInterpreter v → asks_interpreter request v w ≡ wrong_type w
no_interpreter (pure.Interpreter i) request w h = absurd h
no_interpreter _ request w h = refl

pub executes_nowhere : (v u : pure.Value) (w : World) → IsNoInterpreter v → executes_in v u w ≡ wrong_type w
executes_nowhere (pure.Interpreter i) u w h = absurd h
executes_nowhere _ u w h = refl

pub executes_nothing : (i : ℕ) (u : pure.Value) (w : World) → IsNoStr u → executes i u w ≡ wrong_type w
executes_nothing i (pure.Str t) w h = absurd h
executes_nothing i _ w h = refl

pub starts_nothing : (v : pure.Value) (w : World) → IsNoAddress v → starts_at v w ≡ wrong_type w
starts_nothing (pure.Address x) w h = absurd h
starts_nothing _ w h = refl

pub joins_nothing : (v : pure.Value) (w : World) → IsNoAddress v → joins_at v w ≡ wrong_type w
joins_nothing (pure.Address x) w h = absurd h
joins_nothing _ w h = refl

pub threads_nothing : (v u : pure.Value) (w : World) → IsNoExec v → thread_of v u w ≡ wrong_type w
threads_nothing (pure.Exec i) u w h = absurd h
threads_nothing _ u w h = refl

pub prepares_nowhere : (v : pure.Value) (vs : List pure.Value) (names : List pure.Text) (w : World) → IsNoInterpreter v → prepares_in v vs names w ≡ wrong_type w
prepares_nowhere (pure.Interpreter i) vs names w h = absurd h
prepares_nowhere _ vs names w h = refl

pub appends_nothing : (v u : pure.Value) (w : World) → IsNoAddress v → appends v u w ≡ wrong_type w
appends_nothing (pure.Address x) u w h = absurd h
appends_nothing _ u w h = refl

pub pops_nothing : (v : pure.Value) (vs : List pure.Value) (names : List pure.Text) (w : World) → IsNoAddress v → pops v vs names w ≡ wrong_type w
pops_nothing (pure.Address x) vs names w h = absurd h
pops_nothing _ vs names w h = refl

pub gets_nothing : (v : pure.Value) (vs : List pure.Value) (names : List pure.Text) (w : World) → IsNoAddress v → gets_value v vs names w ≡ wrong_type w
gets_nothing (pure.Address x) vs names w h = absurd h
gets_nothing _ vs names w h = refl

pub pops_no_value : (v u : pure.Value) (w : World) → IsNoAddress v → pops_value v u w ≡ wrong_type w
pops_no_value (pure.Address x) u w h = absurd h
pops_no_value _ u w h = refl

pub encodes_nothing : (v : pure.Value) (w : World) → IsNoStr v → encodes v w ≡ wrong_type w
encodes_nothing (pure.Str t) w h = absurd h
encodes_nothing _ w h = refl

pub joins_no_text : (v : pure.Value) (o : Option (List pure.Value)) (w : World) → IsNoStr v → joins_texts v o w ≡ wrong_type w
joins_no_text (pure.Str t) o w h = absurd h
joins_no_text _ o w h = refl

-- ---- what stands for a namespace

no_pairs : (i : ℕ) (o : Object) (m : Memory) (named : List (pure.Text × pure.Value)) (w : World) → prepare_from i (Some (object_of m o)) named w ≡ wrong_type w
no_pairs i (plain.Bare k) m named w = refl
no_pairs i (plain.Made k r) m named w = refl
no_pairs i (plain.Caused cause) m named w = refl
no_pairs i (plain.Thread j r) m named w = refl
no_pairs i (plain.Started r) m named w = refl

pub no_pairs_at : (i x : ℕ) (held : Contents) (o : Object) (m : Memory) (named : List (pure.Text × pure.Value)) (w : World) → w.store ≡ m.store → slice_get m.store x ≡ Some (contents_of m held) → held ≡ Plain o → prepare i (pure.Address x ∷ []) named w ≡ wrong_type w
no_pairs_at i x held o m named w e f g =
    ap (λ s. prepare_from i (slice_get s x) named w) e ∙ ap (λ p. prepare_from i p named w) f ∙ ap (λ h. prepare_from i (Some (contents_of m h)) named w) g ∙ no_pairs i o m named w

pub no_namespace : (i : ℕ) (v : pure.Value) (named : List (pure.Text × pure.Value)) (w : World) → is_nothing v ≡ false → IsNoAddress v → prepare i (v ∷ []) named w ≡ wrong_type w
no_namespace i pure.Nothing named w e h = absurd cc
no_namespace i (pure.Address x) named w e h = absurd h
no_namespace i _ named w e h = refl

pub nothing_is : (v : pure.Value) → is_nothing v ≡ true → v ≡ pure.Nothing
nothing_is pure.Nothing e = refl
nothing_is (pure.Truth b) e = absurd cc
nothing_is (pure.Int n) e = absurd cc
nothing_is (pure.Str s) e = absurd cc
nothing_is (pure.Bytes bs) e = absurd cc
nothing_is (pure.Provided f) e = absurd cc
nothing_is (pure.Function x n) e = absurd cc
nothing_is (pure.Range a b c) e = absurd cc
nothing_is (pure.Tuple vs) e = absurd cc
nothing_is (pure.Class k) e = absurd cc
nothing_is (pure.Module m) e = absurd cc
nothing_is (pure.Queue q m) e = absurd cc
nothing_is (pure.Interpreter i) e = absurd cc
nothing_is (pure.Exec i) e = absurd cc
nothing_is (pure.Address x) e = absurd cc
