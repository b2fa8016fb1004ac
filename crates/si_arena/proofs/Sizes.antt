-- How large a tuple is, item by item.
use Rattle.std.proofs.Common.{◌≡◌, ◌≢◌, ℕ, ◌+◌, ◌<◌, ◌≤◌, zero, suc, max, Bool, true, false, List, [], ◌∷◌, map, length, drop, get_or, refl, ap, sym, subst, ◌∙◌, arith, add-one, drop-cons}
use Rattle.std.specs.Prelude.{◌||◌, nat_lt}
use Rattle.std.proofs.lemmas.List.{get_or-map, length-map}
use Rattle.std.proofs.lemmas.Bool.{lt-ltb, le-ltb, ltb-false}
use Rattle.std.proofs.Math.Bool.{or-true}
use Rattle.si_semantics.specs.Value as pure
use Rattle.si_semantics.specs.Value.{values_of}
use Rattle.si_semantics.specs.Tuples.{count_of, counts_of, levels_of, deepest_of, is_too_large}
use Rattle.si_arena.specs.declared.value.Ref.{Ref}
use Rattle.si_arena.specs.declared.value.Ref.TheVariants as value
use Rattle.si_arena.specs.declared.object.Steps.{Steps}
use Rattle.si_arena.specs.Memory.{Memory, value_of, all_of, range_of, Lies, AllLie}

pub left_step : (m : Memory) (xs : List Ref) (i : ℕ) (r d : Ref) → r ≡ get_or xs i d → i < length xs → drop i (all_of m xs) ≡ value_of m r ∷ drop (i + 1) (all_of m xs)
left_step m xs i r d e h =
    let a : length (all_of m xs) ≡ length xs = length-map xs (value_of m) in
    let p : i < length (all_of m xs) = omega (arith, a) in
    rw (e, add-one, drop-cons (all_of m xs) i pure.Nothing, get_or-map (value_of m) xs i d pure.Nothing h) refl

pub counts_step : (m : Memory) (xs : List Ref) (i : ℕ) (r d : Ref) → r ≡ get_or xs i d → i < length xs → counts_of (values_of (drop i (all_of m xs))) ≡ count_of (value_of m r) + counts_of (values_of (drop (i + 1) (all_of m xs)))
counts_step m xs i r d e h = ap (λ vs. counts_of (values_of vs)) (left_step m xs i r d e h)

pub deepest_step : (m : Memory) (xs : List Ref) (i : ℕ) (r d : Ref) → r ≡ get_or xs i d → i < length xs → deepest_of (values_of (drop i (all_of m xs))) ≡ max (levels_of (value_of m r)) (deepest_of (values_of (drop (i + 1) (all_of m xs))))
deepest_step m xs i r d e h = ap (λ vs. deepest_of (values_of vs)) (left_step m xs i r d e h)

lies_there : (m : Memory) (xs : List Ref) (i : ℕ) (d : Ref) → i < length xs → AllLie m xs → Lies m (get_or xs i d)
lies_there m [] i d lt h = absurd (omega arith)
lies_there m (x ∷ xs) zero d lt h = h.0
lies_there m (x ∷ xs) (suc i) d lt h = lies_there m xs i d (omega arith) h.1

pub lies_at : (m : Memory) (xs : List Ref) (i : ℕ) (r d : Ref) → r ≡ get_or xs i d → i < length xs → AllLie m xs → Lies m r
lies_at m xs i r d e lt h = subst (Lies m) (sym e) (lies_there m xs i d lt h)

-- ---- what is no tuple

range_one : (ss : List Steps) (p : ℕ) → (1 ≡ count_of (get_or (map range_of ss) p pure.Nothing)) × (0 ≡ levels_of (get_or (map range_of ss) p pure.Nothing))
range_one [] p = (refl, refl)
range_one (s ∷ ss) zero = (refl, refl)
range_one (s ∷ ss) (suc p) = range_one ss p

pub small : (m : Memory) (ss : List Steps) (r : Ref) → m.ranges ≡ map range_of ss → ((p : ℕ) → r ≢ value.Tuple p) → (1 ≡ count_of (value_of m r)) × (0 ≡ levels_of (value_of m r))
small m ss value.Unbound e h = (refl, refl)
small m ss value.None e h = (refl, refl)
small m ss (value.Truth at b) e h = (refl, refl)
small m ss (value.Int n) e h = (refl, refl)
small m ss (value.Short s) e h = (refl, refl)
small m ss (value.Narrow n i) e h = (refl, refl)
small m ss (value.Wide n i) e h = (refl, refl)
small m ss (value.ShortBytes s) e h = (refl, refl)
small m ss (value.Bytes n i) e h = (refl, refl)
small m ss (value.BuiltIn at b) e h = (refl, refl)
small m ss (value.Function n x) e h = (refl, refl)
small m ss (value.Range p) e h =
    let r = range_one ss p in
    let same : get_or (map range_of ss) p pure.Nothing ≡ get_or m.ranges p pure.Nothing = ap (λ xs. get_or xs p pure.Nothing) (sym e) in
    (r.0 ∙ ap count_of same, r.1 ∙ ap levels_of same)
small m ss (value.Tuple p) e h = absurd (h p refl)
small m ss (value.Kind at k) e h = (refl, refl)
small m ss (value.Module at mo) e h = (refl, refl)
small m ss (value.Queue qu qm) e h = (refl, refl)
small m ss (value.Interpreter it) e h = (refl, refl)
small m ss (value.Exec it) e h = (refl, refl)
small m ss (value.Object x) e h = (refl, refl)

-- ---- the limits

pub many_values : (v : pure.Value) → 65536 < count_of v → is_too_large v ≡ true
many_values v h = ap (λ b. b || nat_lt 200 (levels_of v)) (lt-ltb 65536 (count_of v) h)

pub many_levels : (v : pure.Value) → 200 < levels_of v → is_too_large v ≡ true
many_levels v h = ap (λ b. nat_lt 65536 (count_of v) || b) (lt-ltb 200 (levels_of v) h) ∙ or-true (nat_lt 65536 (count_of v))

pub small_enough : (v : pure.Value) → count_of v ≤ 65536 → levels_of v ≤ 200 → is_too_large v ≡ false
small_enough v h k = ap (λ b. b || nat_lt 200 (levels_of v)) (le-ltb 65536 (count_of v) h) ∙ le-ltb 200 (levels_of v) k

positive : (v : pure.Value) → 1 ≤ count_of v
positive pure.Nothing = omega arith
positive (pure.Truth b) = omega arith
positive (pure.Int i) = omega arith
positive (pure.Str s) = omega arith
positive (pure.Bytes bs) = omega arith
positive (pure.Provided b) = omega arith
positive (pure.Function f k) = omega arith
positive (pure.Range a b c) = omega arith
positive (pure.Tuple vs) = omega arith
positive (pure.Class k) = omega arith
positive (pure.Module mo) = omega arith
positive (pure.Queue qu qm) = omega arith
positive (pure.Interpreter it) = omega arith
positive (pure.Exec it) = omega arith
positive (pure.Address x) = omega arith

neither : (a b : Bool) → (a || b) ≡ false → a ≡ false
neither true b e = e
neither false b e = refl

pub few_values : (v : pure.Value) → is_too_large v ≡ false → count_of v ≤ 65536
few_values v e = ltb-false 65536 (count_of v) (neither (nat_lt 65536 (count_of v)) (nat_lt 200 (levels_of v)) e)

-- a tuple is more values than its items
pub counted : (vs : List pure.Value) → length vs ≤ counts_of (values_of vs)
counted [] = omega arith
counted (v ∷ vs) = omega (arith, counted vs, positive v)
