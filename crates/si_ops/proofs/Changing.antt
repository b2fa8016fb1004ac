-- Objects that are made and changed, by what the definitions say of a world.
use Rattle.std.proofs.Common.{◌≡◌, ℕ, zero, suc, ◌+◌, ◌<◌, ◌≤◌, List, [], ◌∷◌, ◌++◌, length, Bool, true, false, cond, Option, Some, None, Result, Ok, Err, refl, sym, ap, subst, ◌∙◌, arith, length-append, ◌*◌, zero-mul, mul-zero}
use Rattle.std.specs.Prelude.{slice_set, nat_lt, ℤ, pos, negsuc, int_le}
use Rattle.std.proofs.lemmas.Bool.Decides.{nat_tests}
use Rattle.si_semantics.specs.Tuples.{copies}
use Rattle.si_ops.proofs.Gathered.{copies_empty}
use Rattle.si_semantics.specs.Value as pure
use Rattle.si_semantics.specs.Text.{max_length}
use Rattle.si_semantics.specs.World.{World, Ran}
use Rattle.si_semantics.specs.Operations.{gave, placed, too_long, wrong_type, list_within, list_repeated}
use Rattle.si_semantics.specs.Subscription.{outside}
use Rattle.si_semantics.specs.Containers.{changed, dict_made}
use Rattle.si_arena.specs.declared.value.Ref.{Ref}
use Rattle.si_arena.specs.declared.value.Ref.TheVariants as ref
use Rattle.si_arena.specs.declared.cause.Cause.{Cause}
use Rattle.si_arena.specs.declared.cause.Cause.TheVariants.{TooLong, WrongType, Outside}
use Rattle.si_arena.specs.declared.cause.Fault.{Fault}
use Rattle.si_arena.specs.declared.cause.Fault.TheVariants.{Raises, NoMemory}
use Rattle.si_arena.specs.Memory.{Memory, Lies, Extends, IsMade, MakesDict, with_object}
use Rattle.si_arena.proofs.Lying.{lasts_same, extends_made}
use Rattle.si_ops.specs.Runs.{Throws, Runs, Tells}
use Rattle.si_ops.specs.Calls.{GivesAnew, Makes}
use Rattle.si_ops.specs.declared.lack.Lack.{Lack}
use Rattle.si_ops.specs.declared.lack.Lack.TheVariants as lack
use Rattle.si_ops.specs.Changes.{Changes, Deletes, Takes, TakesItem}

-- ---- an operation that goes as another

pub throws_as : (f g : World → Ran) (m : Memory) (cause : Cause) → ((w : World) → w.store ≡ m.store → f w ≡ g w) → Throws g m cause → Throws f m cause
throws_as f g m cause same h = ((λ w e. same w e ∙ h.0 w e), h.1)

pub makes_as : (f g : World → Ran) (old new : Memory) (r : Result Ref Fault) → ((w : World) → w.store ≡ old.store → f w ≡ g w) → Makes g old new r → Makes f old new r
makes_as f g old new (Ok r) same h = ((λ w e. same w e ∙ h.0 w e), h.1, h.2)
makes_as f g old new (Err (Raises cause)) same h = (throws_as f g old cause same h.0, h.1)
makes_as f g old new (Err NoMemory) same h = h

pub runs_as : (f g : World → Ran) (old new : Memory) (r : Result Ref Fault) → ((w : World) → w.store ≡ old.store → f w ≡ g w) → Runs g old new r → Runs f old new r
runs_as f g old new (Ok r) same h = ((λ w e. same w e ∙ h.0 w e), h.1, h.2, h.3)
runs_as f g old new (Err (Raises cause)) same h = (throws_as f g old cause same h.0, h.1)
runs_as f g old new (Err NoMemory) same h = h

pub tells_as : (f g : World → Ran) (m : Memory) (r : Result Ref Cause) → ((w : World) → w.store ≡ m.store → f w ≡ g w) → Tells g m r → Tells f m r
tells_as f g m (Ok r) same h = ((λ w e. same w e ∙ h.0 w e), h.1)
tells_as f g m (Err cause) same h = throws_as f g m cause same h

pub changes_as : (f g : World → Ran) (old new : Memory) (r : Result (Unit {0}) Fault) → ((w : World) → w.store ≡ old.store → f w ≡ g w) → Changes g old new r → Changes f old new r
changes_as f g old new (Ok r) same h = ((λ w e. same w e ∙ h.0 w e), h.1)
changes_as f g old new (Err (Raises cause)) same h = (throws_as f g old cause same h.0, h.1)
changes_as f g old new (Err NoMemory) same h = h

pub deletes_as : (f g : World → Ran) (v : pure.Value) (old new : Memory) (r : Result (Unit {0}) Lack) → ((w : World) → w.store ≡ old.store → f w ≡ g w) → Deletes g v old new r → Deletes f v old new r
deletes_as f g v old new (Ok r) same h = ((λ w e. same w e ∙ h.0 w e), h.1)
deletes_as f g v old new (Err (lack.Raises cause)) same h = (throws_as f g old cause same h.0, h.1)
deletes_as f g v old new (Err lack.NoKey) same h = ((λ w e. same w e ∙ h.0 w e), h.1)

pub takes_as : (f g : World → Ran) (v : pure.Value) (old new : Memory) (r : Result Ref Lack) → ((w : World) → w.store ≡ old.store → f w ≡ g w) → Takes g v old new r → Takes f v old new r
takes_as f g v old new (Ok r) same h = ((λ w e. same w e ∙ h.0 w e), h.1, h.2)
takes_as f g v old new (Err (lack.Raises cause)) same h = (throws_as f g old cause same h.0, h.1)
takes_as f g v old new (Err lack.NoKey) same h = ((λ w e. same w e ∙ h.0 w e), h.1)

pub takes_item_as : (f g : World → Ran) (old new : Memory) (r : Result Ref Cause) → ((w : World) → w.store ≡ old.store → f w ≡ g w) → TakesItem g old new r → TakesItem f old new r
takes_item_as f g old new (Ok r) same h = ((λ w e. same w e ∙ h.0 w e), h.1, h.2)
takes_item_as f g old new (Err cause) same h = (throws_as f g old cause same h.0, h.1)

-- ---- why it raises

pub throws_long : (f : World → Ran) (m : Memory) → ((w : World) → w.store ≡ m.store → f w ≡ too_long w) → Throws f m TooLong
throws_long f m g = (g, tt)

pub throws_wrong : (f : World → Ran) (m : Memory) → ((w : World) → w.store ≡ m.store → f w ≡ wrong_type w) → Throws f m WrongType
throws_wrong f m g = (g, tt)

pub throws_outside : (f : World → Ran) (m : Memory) → ((w : World) → w.store ≡ m.store → f w ≡ outside w) → Throws f m Outside
throws_outside f m g = (g, tt)

-- ---- an object is made

pub made_makes : (f : World → Ran) (o : pure.Object) (old new : Memory) (r : Ref) → ((w : World) → w.store ≡ old.store → f w ≡ placed o w) → IsMade o old new r → Makes f old new (Ok r)
made_makes f o old new r same h =
    let x = length old.store in
    let P : Ref → Type 0 = λ q. Makes f old new (Ok q) in
    let Q : Memory → Type 0 = λ n. GivesAnew f old n (pure.Address x) × Lies n (ref.Object x) in
    let there : x < length (old.store ++ o ∷ []) = omega (arith, length-append old.store (o ∷ [])) in
    let given = subst Q (sym h.memory) ((λ w e. same w e ∙ ap (λ s. gave (pure.Address (length s)) (record w { store = s ++ o ∷ [] })) e), there) in
    subst P (sym h.address) (given.0, given.1, extends_made h)

-- a new list, where it is not too long
pub list_fits : (vs : List pure.Value) (w : World) → nat_lt max_length (length vs) ≡ false → list_within vs w ≡ placed (pure.Items vs) w
list_fits vs w h = ap (λ b. cond b (too_long w) (placed (pure.Items vs) w)) h

pub list_over : (vs : List pure.Value) (w : World) → nat_lt max_length (length vs) ≡ true → list_within vs w ≡ too_long w
list_over vs w h = ap (λ b. cond b (too_long w) (placed (pure.Items vs) w)) h

-- ---- an object is changed

length_set : {A : Type 0} (xs : List A) (x : ℕ) (a : A) → length (slice_set xs x a) ≡ length xs
length_set [] x a = refl
length_set (y ∷ xs) zero a = refl
length_set (y ∷ xs) (suc x) a = ap suc (length_set xs x a)

pub extends_changed : (old new : Memory) (x : ℕ) (o : pure.Object) → new ≡ with_object x o old → Extends old new
extends_changed old new x o e =
    let same = lasts_same old in
    let l : length old.store ≤ length (slice_set old.store x o) = omega (arith, length_set old.store x o) in
    subst (Extends old) (sym e) (record { lasts = record { texts = same.texts; names = same.names; ranges = same.ranges; tuples = same.tuples }; objects = l })

pub changed_gives : (f : World → Ran) (x : ℕ) (o : pure.Object) (v : pure.Value) (old new : Memory) → ((w : World) → w.store ≡ old.store → f w ≡ gave v (changed x o w)) → new ≡ with_object x o old → GivesAnew f old new v
changed_gives f x o v old new same e =
    subst (λ n. GivesAnew f old n v) (sym e) (λ w h. same w h ∙ ap (λ s. gave v (record w { store = slice_set s x o })) h)

-- ---- lists that are made

pub list_made : (f : World → Ran) (us vs : List pure.Value) (old new : Memory) (r : Ref) → ((w : World) → w.store ≡ old.store → f w ≡ list_within vs w) → nat_lt max_length (length vs) ≡ false → us ≡ vs → IsMade (pure.Items us) old new r → Makes f old new (Ok r)
list_made f us vs old new r same short e h =
    made_makes f (pure.Items us) old new r (λ w g. same w g ∙ list_fits vs w short ∙ ap (λ xs. placed (pure.Items xs) w) (sym e)) h

pub list_thrown : (f : World → Ran) (vs : List pure.Value) (m : Memory) → ((w : World) → w.store ≡ m.store → f w ≡ list_within vs w) → nat_lt max_length (length vs) ≡ true → Makes f m m (Err (Raises TooLong))
list_thrown f vs m same long = (throws_long f m (λ w e. same w e ∙ list_over vs w long), refl)

-- items so many times in a new list
pub times_over : (vs : List pure.Value) (n : ℕ) (w : World) → nat_lt max_length (n * length vs) ≡ true → list_repeated vs (pos n) w ≡ too_long w
times_over vs n w h =
    let P : Bool → Type 0 = λ b. ◌≡◌ {A = Ran} (elim b [ true ↦ too_long w | false ↦ placed (pure.Items (copies n vs)) w ]) (too_long w) in
    subst P (sym h) refl

pub times_fits : (vs : List pure.Value) (n : ℕ) (w : World) → nat_lt max_length (n * length vs) ≡ false → list_repeated vs (pos n) w ≡ placed (pure.Items (copies n vs)) w
times_fits vs n w h =
    let P : Bool → Type 0 = λ b. ◌≡◌ {A = Ran} (elim b [ true ↦ too_long w | false ↦ placed (pure.Items (copies n vs)) w ]) (placed (pure.Items (copies n vs)) w) in
    subst P (sym h) refl

pub times_none : (vs : List pure.Value) (i : ℤ) (w : World) → int_le i (pos 0) ≡ true → list_repeated vs i w ≡ placed (pure.Items []) w
times_none vs (negsuc k) w h = refl
times_none vs (pos zero) w h = times_fits vs 0 w (ap (nat_lt max_length) (zero-mul (length vs)))
times_none vs (pos (suc n)) w h = absurd (above n h)
  where
    above : (n : ℕ) → int_le (pos (suc n)) (pos 0) ≡ true → ⊥
    above n h = grind (arith, nat_tests)

pub times_empty : (vs : List pure.Value) (n : ℕ) (w : World) → vs ≡ [] → list_repeated vs (pos n) w ≡ placed (pure.Items []) w
times_empty vs n w e =
    let none : n * length vs ≡ 0 = ap (λ xs. n * length xs) e ∙ mul-zero n in
    times_fits vs n w (ap (nat_lt max_length) none) ∙ ap (λ xs. placed (pure.Items (copies n xs)) w) e ∙ ap (λ xs. placed (pure.Items xs) w) (copies_empty n)

-- ---- dicts that are made

pub dict_makes : (o : Option (List (pure.Key × pure.Value))) (old new : Memory) (r : Ref) → MakesDict o old new (Some r) → Makes (λ w. dict_made o w) old new (Ok r)
dict_makes (Some ps) old new r h = made_makes (λ w. placed (pure.Pairs ps) w) (pure.Pairs ps) old new r (λ w e. refl) h
dict_makes None old new r h = absurd h

pub dict_wrong : (o : Option (List (pure.Key × pure.Value))) (old new : Memory) → MakesDict o old new None → Makes (λ w. dict_made o w) old new (Err (Raises WrongType))
dict_wrong (Some ps) old new h = absurd h
dict_wrong None old new h = (((λ w e. refl), tt), h)
