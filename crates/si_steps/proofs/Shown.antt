-- What is shown of globals.
use Rattle.std.proofs.Common.{◌≡◌, ℕ, zero, suc, ◌≤◌, ◌++◌, List, [], ◌∷◌, length, drop, get_or, true, false, Some, None, Result, Ok, Err, encode_utf8_all, arith, refl, sym, ap, ◌∙◌}
use Rattle.std.specs.Prelude.{slice_get, option_map, if◌then◌else◌}
use Rattle.std.specs.String.{string_bytes}
use Rattle.std.specs.declared.string.String.{String}
use Rattle.si_plain.specs.declared.kind.Kind.{Kind}
use Rattle.si_plain.specs.Characters.{characters_of}
use Rattle.si_semantics.specs.Value.{Text}
use Rattle.si_semantics.specs.Text.{repr_in, same_text}
use Rattle.si_semantics.specs.World.{World, first_world}
use Rattle.si_arena.specs.declared.value.Ref.{Ref}
use Rattle.si_arena.specs.Memory.{Memory, bound_of, value_of}
use Rattle.si_ops.proofs.Ends.{text_at}
use Rattle.si_steps.specs.Moments.{Ground, IsWorld, global_of}
use Rattle.si_steps.specs.declared.showing.NotShown.{NotShown}
use Rattle.si_steps.specs.declared.showing.NotShown.TheVariants.{Raises, NoMemory}
use Rattle.si_steps.specs.Shown.{IsShown, ShowsGlobal, shown_in}

-- ---- a name and its slot

-- a slot of another name is passed over
pub global_past : (m : Memory) (names : List Text) (cells : List Ref) (k : ℕ) (x y : Text) → length cells ≡ length names → Some x ≡ slice_get names k → same_text x y ≡ false →
    global_of m (drop k names) (drop k cells) y ≡ global_of m (drop (suc k) names) (drop (suc k) cells) y
global_past m [] cells k x y e at other = cc
global_past m (z ∷ names) [] k x y e at other = absurd (omega (arith, e))
global_past m (z ∷ names) (r ∷ cells) zero x y e at other =
    let is : x ≡ z = cc in
    ap (λ b. if b then bound_of m r else global_of m names cells y) (ap (λ t. same_text t y) (sym is) ∙ other)
global_past m (z ∷ names) (r ∷ cells) (suc k) x y e at other =
    let long : length cells ≡ length names = omega (arith, e) in
    global_past m names cells k x y long at other

-- at the slot of a name lies what is bound to it
pub global_here : (m : Memory) (names : List Text) (cells : List Ref) (k : ℕ) (x y : Text) (d : Ref) → length cells ≡ length names → Some x ≡ slice_get names k → same_text x y ≡ true →
    global_of m (drop k names) (drop k cells) y ≡ bound_of m (get_or cells k d)
global_here m [] cells k x y d e at this = cc
global_here m (z ∷ names) [] k x y d e at this = absurd (omega (arith, e))
global_here m (z ∷ names) (r ∷ cells) zero x y d e at this =
    let is : x ≡ z = cc in
    ap (λ b. if b then bound_of m r else global_of m names cells y) (ap (λ t. same_text t y) (sym is) ∙ this)
global_here m (z ∷ names) (r ∷ cells) (suc k) x y d e at this =
    let long : length cells ≡ length names = omega (arith, e) in
    global_here m names cells k x y d long at this

-- past all slots each name is as at first
pub global_first : (m : Memory) (names : List Text) (cells : List Ref) (k : ℕ) (y : Text) → length names ≤ k → global_of m (drop k names) cells y ≡ (first_world 0).globals y
global_first m [] cells zero y h = refl
global_first m [] cells (suc k) y h = refl
global_first m (x ∷ names) cells zero y h = absurd (omega (arith, h))
global_first m (x ∷ names) cells (suc k) y h = let within : length names ≤ k = omega (arith, h) in global_first m names cells k y within

-- ---- its value and the text of that

-- a name to which nothing is bound
pub shown_unbound : (g : Ground) (w : World) (x : Text) → None ≡ global_of g.arena g.table.names g.globals x → IsWorld g w → shown_in w x ≡ None
shown_unbound g w x found h = ap (option_map (repr_in w.store)) (h.globals x ∙ sym found)

-- a name to which a value is bound, whose repr goes so
pub shown_bound : (g : Ground) (w : World) (x : Text) (r : Ref) (p : Result Text Kind) → Some (value_of g.arena r) ≡ global_of g.arena g.table.names g.globals x → repr_in g.arena.store (value_of g.arena r) ≡ p → IsWorld g w →
    shown_in w x ≡ Some p
shown_bound g w x r p found is h =
    ap (option_map (repr_in w.store)) (h.globals x ∙ sym found) ∙ ap (λ store. Some (repr_in store (value_of g.arena r))) h.store ∙ ap Some is

-- and why its value isn't shown
pub shown_not : (g : Ground) (w : World) (x : Text) (r : Ref) (e : NotShown) → Some (value_of g.arena r) ≡ global_of g.arena g.table.names g.globals x → IsShown (repr_in g.arena.store (value_of g.arena r)) (Err e) → IsWorld g w →
    ShowsGlobal (shown_in w x) (Err e)
shown_not g w x r (Raises k) found is h = shown_bound g w x r (Err k) found is h
shown_not g w x r NoMemory found is h = tt

-- a text that was written
pub written_text : {Z : Type 0} (p : Result Text Kind) (old new : String Z) (bytes : List ℕ) (t : Text) → string_bytes old ≡ [] → p ≡ Ok t → string_bytes new ≡ string_bytes old ++ encode_utf8_all t → bytes ≡ string_bytes new →
    p ≡ Ok (characters_of bytes)
written_text p old new bytes t none e added is = e ∙ ap Ok (sym (ap characters_of is ∙ text_at old new t 0 (ap length (sym none)) added))
