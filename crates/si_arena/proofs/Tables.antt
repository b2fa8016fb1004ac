-- The table of tuples: it grows at its end, and what it denotes stays as it was.
use Rattle.std.proofs.Common.{◌≡◌, ℕ, zero, suc, ◌+◌, ◌<◌, ◌≤◌, List, [], ◌∷◌, ◌++◌, take, drop, length, get_or, ap, ap₂, refl, sym, subst, ◌∙◌, arith, append-nil, append_assoc, length-append, length-drop}
use Rattle.std.proofs.lemmas.List.{take-append-le, drop-append-le, get_or_append_left, get_or_push, length_push}
use Rattle.si_semantics.specs.Value as pure
use Rattle.si_arena.specs.declared.value.Ref.{Ref}
use Rattle.si_arena.specs.declared.value.Ref.TheVariants as value
use Rattle.si_arena.specs.declared.tuples.Tuple.{Tuple}
use Rattle.si_arena.specs.Texts.{Grows}
use Rattle.si_arena.specs.Memory.{Memory, value_of, all_of, AllLie, Lasts}
use Rattle.si_arena.specs.Tuples.{items_at, tuple_at, with_tuples, table, TupleLies, TuplesLie}
use Rattle.si_semantics.specs.Tuples.{count_of, levels_of}
use Rattle.si_arena.proofs.Rows.{grows_none}
use Rattle.si_arena.proofs.Lying.{all-lasts, all_lie-extends}

-- what values denote does not depend on the objects
pub value-bare : (s : List pure.Object) (m : Memory) (r : Ref) → value_of (record m { store = s }) r ≡ value_of m r
value-bare s m value.Unbound = refl
value-bare s m value.None = refl
value-bare s m (value.Truth at b) = refl
value-bare s m (value.Int n) = refl
value-bare s m (value.Short t) = refl
value-bare s m (value.Narrow n i) = refl
value-bare s m (value.Wide n i) = refl
value-bare s m (value.ShortBytes t) = refl
value-bare s m (value.Bytes n i) = refl
value-bare s m (value.BuiltIn at b) = refl
value-bare s m (value.Function n x) = refl
value-bare s m (value.Range p) = refl
value-bare s m (value.Tuple p) = refl
value-bare s m (value.Kind at k) = refl
value-bare s m (value.Module at mo) = refl
value-bare s m (value.Queue qu qm) = refl
value-bare s m (value.Interpreter it) = refl
value-bare s m (value.Exec it) = refl
value-bare s m (value.Object x) = refl

pub all-bare : (s : List pure.Object) (m : Memory) (rs : List Ref) → all_of (record m { store = s }) rs ≡ all_of m rs
all-bare s m [] = refl
all-bare s m (r ∷ rs) = ap₂ (λ v vs. v ∷ vs) (value-bare s m r) (all-bare s m rs)

-- the items of a tuple are the same in a row that has grown
pub items-grow : (items wide : List Ref) (t : Tuple) → ((more : List Ref) × (wide ≡ items ++ more)) → t.start + t.length ≤ length items → items_at wide t ≡ items_at items t
items-grow items wide t row h =
    ap (λ xs. items_at xs t) row.1
    ∙ ap (take t.length) (drop-append-le t.start items row.0 (omega arith))
    ∙ take-append-le t.length (drop t.start items) row.0 (omega (arith, length-drop t.start items))

-- ---- by other grounds, which go on

-- texts, names and ranges go on
pub record Grounded (old new : Memory) : Type 0 where
  pub texts : Grows old.texts new.texts
  pub names : (more : List pure.Text) × (new.names ≡ old.names ++ more)
  pub ranges : (more : List pure.Value) × (new.ranges ≡ old.ranges ++ more)

lasts_with : (vs : List pure.Value) (s z : List pure.Object) (old new : Memory) → Grounded old new → Lasts (record (with_tuples vs old) { store = s }) (record (with_tuples vs new) { store = z })
lasts_with vs s z old new g = record { texts = g.texts; names = g.names; ranges = g.ranges; tuples = ([], sym (append-nil vs)) }

module _ (s z : List pure.Object) {old new : Memory} (g : Grounded old new) (fewer : length s ≤ length z) (items wide : List Ref) (row : (more : List Ref) × (wide ≡ items ++ more)) where
  tuple-lasts : (vs : List pure.Value) (t : Tuple) → TupleLies s (with_tuples vs old) items t → tuple_at (with_tuples vs new) wide t ≡ tuple_at (with_tuples vs old) items t
  tuple-lasts vs t h =
      ap pure.tuple_of
      (ap (all_of (with_tuples vs new)) (items-grow items wide t row h.within)
      ∙ sym (all-bare z (with_tuples vs new) (items_at items t))
      ∙ all-lasts (items_at items t) (lasts_with vs s z old new g) h.lie
      ∙ all-bare s (with_tuples vs old) (items_at items t))

  tuple_lies-lasts : (vs : List pure.Value) (t : Tuple) → TupleLies s (with_tuples vs old) items t → TupleLies z (with_tuples vs new) wide t
  tuple_lies-lasts vs t h = record {
    within = omega (arith, h.within, ap length row.1, length-append items row.0);
    lie = subst (AllLie (record (with_tuples vs new) { store = z })) (sym (items-grow items wide t row h.within)) (all_lie-extends (items_at items t) (record { lasts = lasts_with vs s z old new g; objects = fewer }) h.lie);
    values = h.values ∙ ap count_of (sym (tuple-lasts vs t h));
    levels = h.levels ∙ ap levels_of (sym (tuple-lasts vs t h));
  }

  -- each tuple denotes what it did
  pub table-lasts : (vs : List pure.Value) (ts : List Tuple) → TuplesLie s old items vs ts → table new wide vs ts ≡ table old items vs ts
  table-lasts vs [] h = refl
  table-lasts vs (t ∷ ts) h =
      ap (λ v. table new wide (vs ++ v ∷ []) ts) (tuple-lasts vs t h.0) ∙ table-lasts (vs ++ tuple_at (with_tuples vs old) items t ∷ []) ts h.1

  -- and lies where it did
  pub tuples_lie-last : (vs : List pure.Value) (ts : List Tuple) → TuplesLie s old items vs ts → TuplesLie z new wide vs ts
  tuples_lie-last vs [] h = tt
  tuples_lie-last vs (t ∷ ts) h = (
    tuple_lies-lasts vs t h.0,
    subst (λ v. TuplesLie z new wide (vs ++ v ∷ []) ts) (sym (tuple-lasts vs t h.0)) (tuples_lie-last (vs ++ tuple_at (with_tuples vs old) items t ∷ []) ts h.1),
  )

-- ---- a tuple more

pub table_push : (m : Memory) (items : List Ref) (vs : List pure.Value) (ts : List Tuple) (t : Tuple) → table m items vs (ts ++ t ∷ []) ≡ table m items vs ts ++ tuple_at (with_tuples (table m items vs ts) m) items t ∷ []
table_push m items vs [] t = refl
table_push m items vs (u ∷ ts) t = table_push m items (vs ++ tuple_at (with_tuples vs m) items u ∷ []) ts t

pub tuples_lie-push : (s : List pure.Object) (m : Memory) (items : List Ref) (vs : List pure.Value) (ts : List Tuple) (t : Tuple) → TuplesLie s m items vs ts → TupleLies s (with_tuples (table m items vs ts) m) items t → TuplesLie s m items vs (ts ++ t ∷ [])
tuples_lie-push s m items vs [] t h k = (k, tt)
tuples_lie-push s m items vs (u ∷ ts) t h k = (h.0, tuples_lie-push s m items (vs ++ tuple_at (with_tuples vs m) items u ∷ []) ts t h.1 k)

pub length-table : (m : Memory) (items : List Ref) (vs : List pure.Value) (ts : List Tuple) → length (table m items vs ts) ≡ length vs + length ts
length-table m items vs [] = omega arith
length-table m items vs (t ∷ ts) =
    let v = tuple_at (with_tuples vs m) items t in
    omega (arith, length-table m items (vs ++ v ∷ []) ts, length_push vs v)

-- ---- a tuple by its place

table_from : (m : Memory) (items : List Ref) (vs : List pure.Value) (ts : List Tuple) → (more : List pure.Value) × (table m items vs ts ≡ vs ++ more)
table_from m items vs [] = ([], sym (append-nil vs))
table_from m items vs (t ∷ ts) =
    let v = tuple_at (with_tuples vs m) items t in
    let r = table_from m items (vs ++ v ∷ []) ts in
    (v ∷ r.0, r.1 ∙ append_assoc vs (v ∷ []) r.0)

-- what is known of a tuple in an arena of these tuples
pub record Shown (s : List pure.Object) (m : Memory) (items : List Ref) (v : pure.Value) (t : Tuple) : Type 0 where
  pub within : t.start + t.length ≤ length items
  pub lie : AllLie (record m { store = s }) (items_at items t)
  pub is : v ≡ tuple_at m items t
  pub values : t.size.values ≡ count_of v
  pub levels : t.size.levels ≡ levels_of v

shown_first : (s : List pure.Object) (m : Memory) (items : List Ref) (vs more : List pure.Value) (t : Tuple) (all : List pure.Value) → all ≡ vs ++ more → TupleLies s (with_tuples vs m) items t → Shown s (with_tuples all m) items (tuple_at (with_tuples vs m) items t) t
shown_first s m items vs more t all e h =
    let to : Lasts (record (with_tuples vs m) { store = s }) (record (with_tuples all m) { store = s }) = record {
      texts = grows_none m.texts;
      names = ([], sym (append-nil m.names));
      ranges = ([], sym (append-nil m.ranges));
      tuples = (more, e);
    } in
    let same : tuple_at (with_tuples all m) items t ≡ tuple_at (with_tuples vs m) items t =
    ap pure.tuple_of
    (sym (all-bare s (with_tuples all m) (items_at items t))
    ∙ all-lasts (items_at items t) to h.lie
    ∙ all-bare s (with_tuples vs m) (items_at items t)) in record {
      within = h.within;
      lie = all_lie-extends (items_at items t) (record { lasts = to; objects = omega arith }) h.lie;
      is = sym same;
      values = h.values;
      levels = h.levels;
    }

pub table_at : (s : List pure.Object) (m : Memory) (items : List Ref) (vs : List pure.Value) (ts : List Tuple) (x : ℕ) (t : Tuple) → TuplesLie s m items vs ts → x < length ts → t ≡ get_or ts x t → Shown s (with_tuples (table m items vs ts) m) items (get_or (table m items vs ts) (length vs + x) pure.Nothing) t
table_at s m items vs [] x t h lt e = absurd (omega arith)
table_at s m items vs (u ∷ ts) zero t h lt e =
    let v = tuple_at (with_tuples vs m) items u in
    let all = table m items (vs ++ v ∷ []) ts in
    let r = table_from m items (vs ++ v ∷ []) ts in
    let here : get_or all (length vs + 0) pure.Nothing ≡ v =
    ap (λ xs. get_or xs (length vs + 0) pure.Nothing) r.1
    ∙ get_or_append_left (vs ++ v ∷ []) r.0 pure.Nothing (length vs + 0) (omega (arith, length_push vs v))
    ∙ get_or_push vs v pure.Nothing (length vs + 0) (omega arith) in
    subst (λ w. Shown s (with_tuples all m) items w t) (sym here)
    (subst (λ q. Shown s (with_tuples all m) items (tuple_at (with_tuples vs m) items u) q) (sym e)
    (shown_first s m items vs (v ∷ r.0) u all (r.1 ∙ append_assoc vs (v ∷ []) r.0) h.0))
table_at s m items vs (u ∷ ts) (suc x) t h lt e =
    let v = tuple_at (with_tuples vs m) items u in
    let all = table m items (vs ++ v ∷ []) ts in
    let k : length (vs ++ v ∷ []) + x ≡ length vs + suc x = omega (arith, length_push vs v) in
    subst (λ n. Shown s (with_tuples all m) items (get_or all n pure.Nothing) t) k (table_at s m items (vs ++ v ∷ []) ts x t h.1 (omega arith) e)

-- what is there does not depend on what stands for what is not
pub default_same : (ts : List Tuple) (x : ℕ) (a b : Tuple) → x < length ts → get_or ts x a ≡ get_or ts x b
default_same [] x a b lt = absurd (omega arith)
default_same (t ∷ ts) zero a b lt = refl
default_same (t ∷ ts) (suc x) a b lt = default_same ts x a b (omega arith)
