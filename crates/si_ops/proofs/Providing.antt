-- The built-ins that give a value.
use Rattle.std.proofs.Common.{◌≡◌, ℕ, zero, suc, ◌+◌, ◌<◌, ◌≤◌, ℤ, pos, negsuc, Bool, true, false, cond, List, [], ◌∷◌, length, drop, get_or, Option, Some, None, Result, Ok, Err, IsOk, refl, sym, ap, subst, ◌∙◌, arith, add-one, drop-cons}
use Rattle.si_plain.specs.declared.kind.Kind.{Kind}
use Rattle.si_semantics.specs.Value as pure
use Rattle.si_semantics.specs.Tree as tree
use Rattle.si_semantics.specs.World.{World, Ran}
use Rattle.si_semantics.specs.Literals.{is_character}
use Rattle.si_semantics.specs.Operations.{gave, refused, truth, is_less, compare, least, greatest, character_of}
use Rattle.si_arena.specs.declared.value.Ref.{Ref}
use Rattle.si_arena.specs.declared.cause.Cause.{Cause}
use Rattle.si_arena.specs.declared.cause.Fault.{Fault}
use Rattle.si_arena.specs.declared.cause.Fault.TheVariants.{Raises, NoMemory}
use Rattle.si_arena.specs.Short.{FitsShort}
use Rattle.si_arena.specs.Memory.{Memory, value_of, all_of, PlacesText}
use Rattle.si_ops.specs.Runs.{Gives, Throws, Tells, Runs}
use Rattle.si_ops.specs.Operands.{IsTold}
use Rattle.si_ops.specs.Calls.{IsByte}

-- ---- characters

pub told_ok : (r : Result Ref Fault) → IsOk r → IsTold r
told_ok (Ok r) h = tt
told_ok (Err (Raises cause)) h = tt
told_ok (Err NoMemory) h = absurd (let no : false ≡ true = h in cc)

pub byte_fits : (c : ℕ) → c < 256 → FitsShort (c ∷ [])
byte_fits c h = (omega arith, by)
  where
    by : (i : ℕ) → i < 1 → get_or (c ∷ []) i 0 < 256
    by zero l = h
    by (suc i) l = absurd (omega arith)

-- the text of one character is placed
pub text_runs : (f : World → Ran) (c : ℕ) (old new : Memory) (r : Result Ref Fault) → ((w : World) → f w ≡ gave (pure.Str (c ∷ [])) w) → PlacesText (c ∷ []) old new r → Runs f old new r
text_runs f c old new (Ok r) is h = ((λ w e. is w ∙ ap (λ v. gave v w) (sym h.1.denotes)), h.1.lies, h.1.extends, h.1.store)
text_runs f c old new (Err (Raises cause)) is h = absurd (omega (arith, h.0))
text_runs f c old new (Err NoMemory) is h = h

-- what a byte is the number of is below 256
pub byte_told : (o : Option ℤ) (c : ℕ) (w : World) → character_of o w ≡ gave (pure.Str (c ∷ [])) w → IsByte o → c < 256
byte_told None c w e h = cc
byte_told (Some (negsuc n)) c w e h = cc
byte_told (Some (pos n)) c w e h = by (is_character n) refl
  where
    by : (b : Bool) → is_character n ≡ b → c < 256
    by true f = let g : gave (pure.Str (n ∷ [])) w ≡ gave (pure.Str (c ∷ [])) w = rw f at e in let same : n ≡ c = cc in omega (arith, same, h)
    by false f = let g = rw f at e in cc

-- ---- the least and the greatest

module _ (u v : pure.Value) (vs : List pure.Value) (w : World) where
  pub least_next : (b : Bool) → compare tree.Less v u w ≡ gave (pure.Truth b) w → least u (v ∷ vs) w ≡ least (cond b v u) vs w
  least_next b h = by (is_less v u w) refl
    where
      by : (r : Result Bool Kind) → is_less v u w ≡ r → least u (v ∷ vs) w ≡ least (cond b v u) vs w
      by (Err k) e = let g : truth (Err k) w ≡ gave (pure.Truth b) w = ap (λ r. truth r w) (sym e) ∙ h in cc
      by (Ok true) e = let g : gave (pure.Truth true) w ≡ gave (pure.Truth b) w = ap (λ r. truth r w) (sym e) ∙ h in let same : true ≡ b = cc in rw (e, least) (ap (λ d. least (cond d v u) vs w) same)
      by (Ok false) e = let g : gave (pure.Truth false) w ≡ gave (pure.Truth b) w = ap (λ r. truth r w) (sym e) ∙ h in let same : false ≡ b = cc in rw (e, least) (ap (λ d. least (cond d v u) vs w) same)

  pub least_refused : (k : Kind) (t : pure.Text) → compare tree.Less v u w ≡ refused k t w → least u (v ∷ vs) w ≡ refused k t w
  least_refused k t h = by (is_less v u w) refl
    where
      by : (r : Result Bool Kind) → is_less v u w ≡ r → least u (v ∷ vs) w ≡ refused k t w
      by (Err j) e = rw (e, least) (ap (λ r. truth r w) (sym e) ∙ h)
      by (Ok true) e = let g : gave (pure.Truth true) w ≡ refused k t w = ap (λ r. truth r w) (sym e) ∙ h in cc
      by (Ok false) e = let g : gave (pure.Truth false) w ≡ refused k t w = ap (λ r. truth r w) (sym e) ∙ h in cc

  pub greatest_next : (b : Bool) → compare tree.Greater v u w ≡ gave (pure.Truth b) w → greatest u (v ∷ vs) w ≡ greatest (cond b v u) vs w
  greatest_next b h = by (is_less u v w) refl
    where
      by : (r : Result Bool Kind) → is_less u v w ≡ r → greatest u (v ∷ vs) w ≡ greatest (cond b v u) vs w
      by (Err k) e = let g : truth (Err k) w ≡ gave (pure.Truth b) w = ap (λ r. truth r w) (sym e) ∙ h in cc
      by (Ok true) e = let g : gave (pure.Truth true) w ≡ gave (pure.Truth b) w = ap (λ r. truth r w) (sym e) ∙ h in let same : true ≡ b = cc in rw (e, greatest) (ap (λ d. greatest (cond d v u) vs w) same)
      by (Ok false) e = let g : gave (pure.Truth false) w ≡ gave (pure.Truth b) w = ap (λ r. truth r w) (sym e) ∙ h in let same : false ≡ b = cc in rw (e, greatest) (ap (λ d. greatest (cond d v u) vs w) same)

  pub greatest_refused : (k : Kind) (t : pure.Text) → compare tree.Greater v u w ≡ refused k t w → greatest u (v ∷ vs) w ≡ refused k t w
  greatest_refused k t h = by (is_less u v w) refl
    where
      by : (r : Result Bool Kind) → is_less u v w ≡ r → greatest u (v ∷ vs) w ≡ refused k t w
      by (Err j) e = rw (e, greatest) (ap (λ r. truth r w) (sym e) ∙ h)
      by (Ok true) e = let g : gave (pure.Truth true) w ≡ refused k t w = ap (λ r. truth r w) (sym e) ∙ h in cc
      by (Ok false) e = let g : gave (pure.Truth false) w ≡ refused k t w = ap (λ r. truth r w) (sym e) ∙ h in cc

-- the values from an index on
pub values_after : (m : Memory) (rs : List Ref) (i : ℕ) (r : Ref) → i < length rs → r ≡ get_or rs i r → all_of m (drop i rs) ≡ value_of m r ∷ all_of m (drop (i + 1) rs)
values_after m rs i r h e =
    ap (all_of m) (drop-cons rs i r h)
    ∙ ap (λ x. value_of m x ∷ all_of m (drop (suc i) rs)) (sym e)
    ∙ ap (λ k. value_of m r ∷ all_of m (drop k rs)) (sym (add-one i))

chosen : (m : Memory) (b : Bool) (x u : Ref) → cond b (value_of m x) (value_of m u) ≡ value_of m (cond b x u)
chosen m true x u = refl
chosen m false x u = refl

-- one more of them, for the least
pub least_step : (m : Memory) (rs : List Ref) (i : ℕ) (u x new : Ref) (b : Bool) → i < length rs → x ≡ get_or rs i x → Gives (λ w. compare tree.Less (value_of m x) (value_of m u) w) m (pure.Truth b) → new ≡ cond b x u → (w : World) → w.store ≡ m.store → least (value_of m u) (all_of m (drop i rs)) w ≡ least (value_of m new) (all_of m (drop (i + 1) rs)) w
least_step m rs i u x new b l e h n w g =
    let vs = all_of m (drop (i + 1) rs) in
    ap (λ xs. least (value_of m u) xs w) (values_after m rs i x l e)
    ∙ least_next (value_of m u) (value_of m x) vs w b (h w g)
    ∙ ap (λ v. least v vs w) (chosen m b x u ∙ ap (value_of m) (sym n))

pub least_throws : (m : Memory) (rs : List Ref) (i : ℕ) (u x : Ref) (cause : Cause) (f : World → Ran) → i < length rs → x ≡ get_or rs i x → ((w : World) → w.store ≡ m.store → f w ≡ least (value_of m u) (all_of m (drop i rs)) w) → Throws (λ w. compare tree.Less (value_of m x) (value_of m u) w) m cause → Throws f m cause
least_throws m rs i u x cause f l e is h =
    ((λ w g. is w g ∙ ap (λ xs. least (value_of m u) xs w) (values_after m rs i x l e) ∙ least_refused (value_of m u) (value_of m x) (all_of m (drop (i + 1) rs)) w _ _ (h.0 w g)), h.1)

-- one more of them, for the greatest
pub greatest_step : (m : Memory) (rs : List Ref) (i : ℕ) (u x new : Ref) (b : Bool) → i < length rs → x ≡ get_or rs i x → Gives (λ w. compare tree.Greater (value_of m x) (value_of m u) w) m (pure.Truth b) → new ≡ cond b x u → (w : World) → w.store ≡ m.store → greatest (value_of m u) (all_of m (drop i rs)) w ≡ greatest (value_of m new) (all_of m (drop (i + 1) rs)) w
greatest_step m rs i u x new b l e h n w g =
    let vs = all_of m (drop (i + 1) rs) in
    ap (λ xs. greatest (value_of m u) xs w) (values_after m rs i x l e)
    ∙ greatest_next (value_of m u) (value_of m x) vs w b (h w g)
    ∙ ap (λ v. greatest v vs w) (chosen m b x u ∙ ap (value_of m) (sym n))

pub greatest_throws : (m : Memory) (rs : List Ref) (i : ℕ) (u x : Ref) (cause : Cause) (f : World → Ran) → i < length rs → x ≡ get_or rs i x → ((w : World) → w.store ≡ m.store → f w ≡ greatest (value_of m u) (all_of m (drop i rs)) w) → Throws (λ w. compare tree.Greater (value_of m x) (value_of m u) w) m cause → Throws f m cause
greatest_throws m rs i u x cause f l e is h =
    ((λ w g. is w g ∙ ap (λ xs. greatest (value_of m u) xs w) (values_after m rs i x l e) ∙ greatest_refused (value_of m u) (value_of m x) (all_of m (drop (i + 1) rs)) w _ _ (h.0 w g)), h.1)

-- two arguments or more
pub of_two : (m : Memory) (f : pure.Value → List pure.Value → World → Ran) (g : List pure.Value → World → Ran) (rs others : List Ref) (first : Ref) (r : Result Ref Cause) → ((u v : pure.Value) (vs : List pure.Value) → g (u ∷ v ∷ vs) ≡ f u (v ∷ vs)) → 2 ≤ length rs → first ≡ get_or rs 0 first → others ≡ drop 1 rs → Tells (f (value_of m first) (all_of m others)) m r → Tells (g (all_of m rs)) m r
of_two m f g [] others first r is l e d h = absurd (omega (arith, l))
of_two m f g (a ∷ []) others first r is l e d h = absurd (omega (arith, l))
of_two m f g (a ∷ b ∷ bs) others first r is l e d h =
    let P : (World → Ran) → Type 0 = λ k. Tells k m r in
    subst P (ap (λ x. f (value_of m x) (all_of m others)) e ∙ ap (λ xs. f (value_of m a) (all_of m xs)) d ∙ sym (is (value_of m a) (value_of m b) (all_of m bs))) h
