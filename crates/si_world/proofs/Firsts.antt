-- The interpreters of a new world.
use Rattle.std.proofs.Common.{◌≡◌, ℕ, zero, suc, ◌+◌, ◌≤◌, List, [], ◌∷◌, ◌++◌, length, refl, ap, sym, ◌∙◌, subst, arith, slice_get, Some}
use Rattle.si_semantics.specs.Shared.{first_state}
use Rattle.si_semantics.specs.History.{Call, state_after}
use Rattle.si_hub.specs.HubCode.{Past}
use Rattle.si_hub.specs.Hubs.{IsTold}
use Rattle.si_interp.specs.Meaning.{InterpView, Shows}
use Rattle.si_world.specs.Legal.{calls_of, exchanges}
use Rattle.si_world.specs.Worlds.{world, created, first_view, first_views, IsMember, IsWorld}
use Rattle.si_world.specs.inner.Firsts.{AllShow}

-- one more
pub views_more : (i n : ℕ) → first_views i (n + 1) ≡ first_views i n ++ first_view (i + n) ∷ []
views_more i zero = let e : i ≡ i + 0 = omega arith in ap (λ (k : ℕ). first_view k ∷ []) e
views_more i (suc n) =
    let e : (i + 1) + n ≡ i + suc n = omega arith in
    let s : suc n + 1 ≡ suc (n + 1) = omega arith in
    ap (first_views i) s ∙ ap (λ (vs : List InterpView). first_view i ∷ vs) (views_more (i + 1) n ∙ ap (λ (k : ℕ). first_views (i + 1) n ++ first_view k ∷ []) e)

pub show_more : (vs : List InterpView) (v : InterpView) → AllShow vs → Shows v → AllShow (vs ++ v ∷ [])
show_more [] v h s = (s, tt)
show_more (x ∷ vs) v h s = (h.0, show_more vs v h.1 s)

pub views_count : (i n : ℕ) → length (first_views i n) ≡ n
views_count i zero = refl
views_count i (suc n) = ap suc (views_count (i + 1) n)

view_at : (i n k : ℕ) (v : InterpView) → slice_get (first_views i n) k ≡ Some v → v ≡ first_view (i + k)
view_at i zero k v e = cc
view_at i (suc n) zero v e = let s : first_view i ≡ v = cc in let k : i ≡ i + 0 = omega arith in sym s ∙ ap first_view k
view_at i (suc n) (suc k) v e = let m : (i + 1) + k ≡ i + suc k = omega arith in view_at (i + 1) n k v e ∙ ap first_view m

shows_at : (vs : List InterpView) (k : ℕ) (v : InterpView) → AllShow vs → slice_get vs k ≡ Some v → Shows v
shows_at [] k v h e = cc
shows_at (x ∷ vs) zero v h e = let s : x ≡ v = cc in subst Shows s h.0
shows_at (x ∷ vs) (suc k) v h e = shows_at vs k v h.1 e

member_first : (p : Past) (i : ℕ) (v : InterpView) → p.journal ≡ [] → v ≡ first_view (0 + i) → Shows v → IsMember p i v
member_first p i v j e s = record {
  id = ap (λ (x : InterpView). x.id) e ∙ (let n : 0 + i ≡ i = omega arith in n);
  shows = s;
  log = ap (calls_of i) j ∙ ap (λ (x : InterpView). exchanges x.log) (sym e);
  taken = ap (λ (x : InterpView). x.taken) e;
  locals = let k = ap (λ (x : InterpView). x.locals) e in omega arith;
}

pub world_first : (p : Past) (vs : List InterpView) → IsTold p → created p ≡ 1 → created p ≤ p.limits.interpreters → p.journal ≡ [] → vs ≡ first_views 0 p.limits.interpreters → AllShow vs
    → IsWorld (world p vs)
world_first p vs t one few j e s = record {
  told = t;
  count = ap (λ (us : List InterpView). length us) e ∙ views_count 0 p.limits.interpreters;
  some = omega arith;
  few = few;
  each = λ i v at. member_first p i v j (view_at 0 p.limits.interpreters i v (ap (λ (us : List InterpView). slice_get us i) (sym e) ∙ at)) (shows_at vs i v s at);
  others = λ i past. ap (calls_of i) j;
}

-- before any call interpreter 0 was created
pub created_first : (p : Past) → p.journal ≡ [] → created p ≡ 1
unfolding state_after
created_first p j = ap (λ (cs : List Call). length (state_after p.limits.interpreters (first_state p.script) cs).interpreters) j
