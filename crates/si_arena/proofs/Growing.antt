-- What each call does to what an arena is made of.
use Rattle.std.proofs.Common.{◌≡◌, ℕ, ◌+◌, take, zero, suc, ◌+◌, ◌<◌, ◌≤◌, List, [], ◌∷◌, ◌++◌, map, length, get_or, Result, Ok, Err, ap, refl, sym, subst, ◌∙◌, arith, append-nil}
use Rattle.std.specs.Prelude.{slice_set}
use Rattle.std.proofs.lemmas.List.{map_push, length_push, get_or_push, length-map, take_all, drop_at, length-append}
use Rattle.si_semantics.specs.Value as pure
use Rattle.si_arena.specs.declared.value.Ref.{Ref}
use Rattle.si_arena.specs.declared.value.Ref.TheVariants as value
use Rattle.si_arena.specs.declared.object.Steps.{Steps}
use Rattle.si_arena.specs.declared.held.Held.{Held}
use Rattle.si_arena.specs.declared.tuples.Tuple.{Tuple}
use Rattle.si_arena.specs.declared.cause.Fault.{Fault}
use Rattle.si_arena.specs.declared.cause.Fault.TheVariants.{Raises, NoMemory}
use Rattle.si_arena.specs.Texts.{Rows, text_of, IsText, IsNarrow, TextLies, Grows, Adds}
use Rattle.si_arena.specs.Bytes.{text_of_bytes, bytes_of_text}
use Rattle.si_arena.specs.Memory.{Memory, value_of, all_of, range_of, held_of, Lies, AllLie, HeldLies, ObjectsLie, Lasts, Extends, Placed, PlacesText, PlacesBytes, IsNamed}
use Rattle.si_arena.specs.declared.tuples.Size.{Size}
use Rattle.si_semantics.specs.Tuples.{count_of, levels_of}
use Rattle.si_arena.specs.Tuples.{items_at, tuple_at, tuple_in, with_tuples, table, TupleLies, TuplesLie}
use Rattle.si_arena.specs.Arenas.{base_of, grounds_of, memory_of, IsArena}
use Rattle.si_arena.specs.inner.Words.{Words, words_of, Grown}
use Rattle.si_arena.specs.inner.Keys.{HeldMeans, KeysMean}
use Rattle.si_arena.proofs.Rows.{grows_none}
use Rattle.si_arena.proofs.Wording.{words-grow, words_lie-grow, keys-last, keys-push, keys-set, keys-grown, held_means-last}
use Rattle.si_arena.proofs.Lying.{extends_more, all-lasts, all_lie-extends, objects-lasts, objects_lie-extends, held_lies-extends}
use Rattle.si_arena.proofs.Tables.{Grounded, Shown, all-bare, table-lasts, tuples_lie-last, tuples_lie-push, table_push, table_at, length-table, default_same}

-- ---- an arena goes on

-- what does not change goes on, and the objects are as they were
pub record Goes (old new : Memory) (os : List Held) : Type 0 where
  pub extends : Extends old new
  pub store : new.store ≡ old.store
  pub lie : ObjectsLie new os

module _ (rows more_rows : Rows) (names more_names : List pure.Text) (ranges more_ranges : List Steps) (items wide : List Ref) (ts more_ts : List Tuple) (os : List Held) where
  -- by other grounds
  pub goes : Lasts (memory_of rows names ranges items ts os) (memory_of more_rows more_names more_ranges wide more_ts os) → ObjectsLie (memory_of rows names ranges items ts os) os → Goes (memory_of rows names ranges items ts os) (memory_of more_rows more_names more_ranges wide more_ts os) os
  goes l h =
      let m = memory_of rows names ranges items ts os in
      let g = grounds_of more_rows more_names more_ranges wide more_ts in
      let own = grounds_of rows names ranges items ts in
      let to : Lasts m g = record { texts = l.texts; names = l.names; ranges = l.ranges; tuples = l.tuples } in
      let back : Lasts m own = record { texts = grows_none rows; names = ([], sym (append-nil names)); ranges = ([], sym (append-nil (map range_of ranges))); tuples = ([], sym (append-nil own.tuples)) } in
      let same : map (held_of g) os ≡ map (held_of own) os = objects-lasts os to h ∙ sym (objects-lasts os back h) in
      let e : Extends m (memory_of more_rows more_names more_ranges wide more_ts os) = record { lasts = l; objects = omega (arith, ap length same) } in
      record { extends = e; store = same; lie = objects_lie-extends os e h }

-- texts, names, ranges and the row of items go on, with the same tuples
pub record Kept (old new : Memory) (os : List Held) : Type 0 where
  pub goes : Goes old new os
  pub tuples : new.tuples ≡ old.tuples

module _ (rows more_rows : Rows) (names more_names : List pure.Text) (ranges more_ranges : List Steps) (items wide : List Ref) (ts : List Tuple) (os : List Held) (ws : Words) (g : Grounded (base_of rows names ranges) (base_of more_rows more_names more_ranges)) (row : (more : List Ref) × (wide ≡ items ++ more)) (h : IsArena rows names ranges items ts os ws) where
  pub keeps : Kept (memory_of rows names ranges items ts os) (memory_of more_rows more_names more_ranges wide ts os) os
  keeps =
      let s = map (held_of (grounds_of rows names ranges items ts)) os in
      let same : table (base_of more_rows more_names more_ranges) wide [] ts ≡ table (base_of rows names ranges) items [] ts = table-lasts s s g (omega arith) items wide row [] ts h.tuples in
      let l : Lasts (memory_of rows names ranges items ts os) (memory_of more_rows more_names more_ranges wide ts os) = record {
        texts = g.texts;
        names = g.names;
        ranges = g.ranges;
        tuples = ([], same ∙ sym (append-nil (table (base_of rows names ranges) items [] ts)));
      } in
      record { goes = goes rows more_rows names more_names ranges more_ranges items wide ts ts os l h.objects; tuples = same }

  pub arena_kept : IsArena more_rows more_names more_ranges wide ts os ws
  arena_kept =
      let k = keeps in record {
        tuples = tuples_lie-last (memory_of rows names ranges items ts os).store (memory_of more_rows more_names more_ranges wide ts os).store g (omega (arith, ap length k.goes.store)) items wide row [] ts h.tuples;
        objects = k.goes.lie;
        words = words_lie-grow rows more_rows ws g.texts h.words;
        keys = subst (λ us. KeysMean (memory_of more_rows more_names more_ranges wide ts os) us os) (sym (words-grow rows more_rows ws.texts g.texts h.words.lie))
            (keys-last (words_of rows ws) os k.goes.extends.lasts h.objects h.keys);
      }

-- the row of items stays as it is
same_row : (items : List Ref) → (more : List Ref) × (items ≡ items ++ more)
same_row items = ([], sym (append-nil items))

-- ---- texts

texts_last : (rows more : Rows) (names : List pure.Text) (ranges : List Steps) → Grows rows more → Grounded (base_of rows names ranges) (base_of more names ranges)
texts_last rows more names ranges g = record { texts = g; names = ([], sym (append-nil names)); ranges = ([], sym (append-nil (map range_of ranges))) }

str_is : (m : Memory) (t : List ℕ) (r : Ref) → IsText r → text_of m.texts r ≡ t → value_of m r ≡ pure.Str t
str_is m t value.Unbound i e = absurd i
str_is m t value.None i e = absurd i
str_is m t (value.Truth at b) i e = absurd i
str_is m t (value.Int n) i e = absurd i
str_is m t (value.Short s) i e = ap pure.Str e
str_is m t (value.Narrow n k) i e = ap pure.Str e
str_is m t (value.Wide n k) i e = ap pure.Str e
str_is m t (value.ShortBytes s) i e = absurd i
str_is m t (value.Bytes n k) i e = absurd i
str_is m t (value.BuiltIn at b) i e = absurd i
str_is m t (value.Function n x) i e = absurd i
str_is m t (value.Range p) i e = absurd i
str_is m t (value.Tuple p) i e = absurd i
str_is m t (value.Kind at k) i e = absurd i
str_is m t (value.Module at mo) i e = absurd i
str_is m t (value.Queue qu qm) i e = absurd i
str_is m t (value.Interpreter it) i e = absurd i
str_is m t (value.Exec it) i e = absurd i
str_is m t (value.Object x) i e = absurd i

str_lies : (m : Memory) (r : Ref) → IsText r → TextLies m.texts r → Lies m r
str_lies m value.Unbound i h = absurd i
str_lies m value.None i h = absurd i
str_lies m (value.Truth at b) i h = absurd i
str_lies m (value.Int n) i h = absurd i
str_lies m (value.Short s) i h = h
str_lies m (value.Narrow n k) i h = h
str_lies m (value.Wide n k) i h = h
str_lies m (value.ShortBytes s) i h = absurd i
str_lies m (value.Bytes n k) i h = absurd i
str_lies m (value.BuiltIn at b) i h = absurd i
str_lies m (value.Function n x) i h = absurd i
str_lies m (value.Range p) i h = absurd i
str_lies m (value.Tuple p) i h = absurd i
str_lies m (value.Kind at k) i h = absurd i
str_lies m (value.Module at mo) i h = absurd i
str_lies m (value.Queue qu qm) i h = absurd i
str_lies m (value.Interpreter it) i h = absurd i
str_lies m (value.Exec it) i h = absurd i
str_lies m (value.Object x) i h = absurd i

module _ (t : List ℕ) (rows more : Rows) (names : List pure.Text) (ranges : List Steps) (items : List Ref) (ts : List Tuple) (os : List Held) (ws : Words) where
  pub text_kept : (r : Result Ref Fault) → Adds t rows more r → IsArena rows names ranges items ts os ws → IsArena more names ranges items ts os ws
  text_kept (Ok r) a h = arena_kept rows more names names ranges ranges items items ts os ws (texts_last rows more names ranges a.1.grown) (same_row items) h
  text_kept (Err (Raises c)) a h = subst (λ xs. IsArena xs names ranges items ts os ws) (sym a.2) h
  text_kept (Err NoMemory) a h = subst (λ xs. IsArena xs names ranges items ts os ws) (sym a) h

  pub text_placed : (r : Result Ref Fault) → Adds t rows more r → IsArena rows names ranges items ts os ws → PlacesText t (memory_of rows names ranges items ts os) (memory_of more names ranges items ts os) r
  text_placed (Ok r) a h =
      let g = keeps rows more names names ranges ranges items items ts os ws (texts_last rows more names ranges a.1.grown) (same_row items) h in
      let m = memory_of more names ranges items ts os in
      (a.0, record { denotes = str_is m t r a.1.text a.1.is; lies = str_lies m r a.1.text a.1.lies; extends = g.goes.extends; store = g.goes.store })
  text_placed (Err (Raises c)) a h = (a.0, a.1, ap (λ xs. memory_of xs names ranges items ts os) a.2)
  text_placed (Err NoMemory) a h = ap (λ xs. memory_of xs names ranges items ts os) a

-- ---- bytes

bytes_are : (m : Memory) (t : List ℕ) (r : Ref) → IsText r → IsNarrow r → text_of m.texts r ≡ t → value_of m (bytes_of_text r) ≡ pure.Bytes t
bytes_are m t (value.Short s) i n e = ap pure.Bytes e
bytes_are m t (value.Narrow c k) i n e = ap pure.Bytes e
bytes_are m t (value.Wide c k) i n e = absurd n
bytes_are m t value.Unbound i n e = absurd i
bytes_are m t value.None i n e = absurd i
bytes_are m t (value.Truth at b) i n e = absurd i
bytes_are m t (value.Int z) i n e = absurd i
bytes_are m t (value.ShortBytes s) i n e = absurd i
bytes_are m t (value.Bytes c k) i n e = absurd i
bytes_are m t (value.BuiltIn at b) i n e = absurd i
bytes_are m t (value.Function z x) i n e = absurd i
bytes_are m t (value.Range p) i n e = absurd i
bytes_are m t (value.Tuple p) i n e = absurd i
bytes_are m t (value.Kind at k) i n e = absurd i
bytes_are m t (value.Module at mo) i n e = absurd i
bytes_are m t (value.Queue qu qm) i n e = absurd i
bytes_are m t (value.Interpreter it) i n e = absurd i
bytes_are m t (value.Exec it) i n e = absurd i
bytes_are m t (value.Object x) i n e = absurd i

bytes_lie : (m : Memory) (r : Ref) → IsText r → IsNarrow r → TextLies m.texts r → Lies m (bytes_of_text r)
bytes_lie m (value.Short s) i n h = h
bytes_lie m (value.Narrow c k) i n h = h
bytes_lie m (value.Wide c k) i n h = absurd n
bytes_lie m value.Unbound i n h = absurd i
bytes_lie m value.None i n h = absurd i
bytes_lie m (value.Truth at b) i n h = absurd i
bytes_lie m (value.Int z) i n h = absurd i
bytes_lie m (value.ShortBytes s) i n h = absurd i
bytes_lie m (value.Bytes c k) i n h = absurd i
bytes_lie m (value.BuiltIn at b) i n h = absurd i
bytes_lie m (value.Function z x) i n h = absurd i
bytes_lie m (value.Range p) i n h = absurd i
bytes_lie m (value.Tuple p) i n h = absurd i
bytes_lie m (value.Kind at k) i n h = absurd i
bytes_lie m (value.Module at mo) i n h = absurd i
bytes_lie m (value.Queue qu qm) i n h = absurd i
bytes_lie m (value.Interpreter it) i n h = absurd i
bytes_lie m (value.Exec it) i n h = absurd i
bytes_lie m (value.Object x) i n h = absurd i

module _ (t : List ℕ) (rows more : Rows) (names : List pure.Text) (ranges : List Steps) (items : List Ref) (ts : List Tuple) (os : List Held) (ws : Words) where
  pub bytes_placed : (r : Ref) → Adds t rows more (Ok r) → IsNarrow r → IsArena rows names ranges items ts os ws
      → PlacesBytes t (memory_of rows names ranges items ts os) (memory_of more names ranges items ts os) (Ok (bytes_of_text r))
  bytes_placed r a n h =
      let g = keeps rows more names names ranges ranges items items ts os ws (texts_last rows more names ranges a.1.grown) (same_row items) h in
      let m = memory_of more names ranges items ts os in
      (a.0, record { denotes = bytes_are m t r a.1.text n a.1.is; lies = bytes_lie m r a.1.text n a.1.lies; extends = g.goes.extends; store = g.goes.store })

  pub bytes_refused : (e : Fault) → Adds t rows more (Err e) → PlacesBytes t (memory_of rows names ranges items ts os) (memory_of more names ranges items ts os) (Err e)
  bytes_refused (Raises c) a = (a.0, a.1, ap (λ xs. memory_of xs names ranges items ts os) a.2)
  bytes_refused NoMemory a = ap (λ xs. memory_of xs names ranges items ts os) a

-- bytes lie where the text does that lies as they do
pub bytes_text_lies : (m : Memory) (r : Ref) → Lies m r → TextLies m.texts (text_of_bytes r)
bytes_text_lies m (value.ShortBytes s) h = tt
bytes_text_lies m (value.Bytes c k) h = h
bytes_text_lies m value.Unbound h = tt
bytes_text_lies m value.None h = tt
bytes_text_lies m (value.Truth at b) h = tt
bytes_text_lies m (value.Int z) h = tt
bytes_text_lies m (value.Short s) h = tt
bytes_text_lies m (value.Narrow c k) h = tt
bytes_text_lies m (value.Wide c k) h = tt
bytes_text_lies m (value.BuiltIn at b) h = tt
bytes_text_lies m (value.Function z x) h = tt
bytes_text_lies m (value.Range p) h = tt
bytes_text_lies m (value.Tuple p) h = tt
bytes_text_lies m (value.Kind at k) h = tt
bytes_text_lies m (value.Module at mo) h = tt
bytes_text_lies m (value.Queue qu qm) h = tt
bytes_text_lies m (value.Interpreter it) h = tt
bytes_text_lies m (value.Exec it) h = tt
bytes_text_lies m (value.Object x) h = tt

pub bytes_text_narrow : (r : Ref) → IsNarrow (text_of_bytes r)
bytes_text_narrow (value.ShortBytes s) = tt
bytes_text_narrow (value.Bytes c k) = tt
bytes_text_narrow value.Unbound = tt
bytes_text_narrow value.None = tt
bytes_text_narrow (value.Truth at b) = tt
bytes_text_narrow (value.Int z) = tt
bytes_text_narrow (value.Short s) = tt
bytes_text_narrow (value.Narrow c k) = tt
bytes_text_narrow (value.Wide c k) = tt
bytes_text_narrow (value.BuiltIn at b) = tt
bytes_text_narrow (value.Function z x) = tt
bytes_text_narrow (value.Range p) = tt
bytes_text_narrow (value.Tuple p) = tt
bytes_text_narrow (value.Kind at k) = tt
bytes_text_narrow (value.Module at mo) = tt
bytes_text_narrow (value.Queue qu qm) = tt
bytes_text_narrow (value.Interpreter it) = tt
bytes_text_narrow (value.Exec it) = tt
bytes_text_narrow (value.Object x) = tt

-- ---- ranges and names

module _ (rows : Rows) (names : List pure.Text) (ranges : List Steps) (items : List Ref) (ts : List Tuple) (os : List Held) (ws : Words) (h : IsArena rows names ranges items ts os ws) where
  ranges_last : (s : Steps) → Grounded (base_of rows names ranges) (base_of rows names (ranges ++ s ∷ []))
  ranges_last s = record { texts = grows_none rows; names = ([], sym (append-nil names)); ranges = (range_of s ∷ [], map_push range_of ranges s) }

  pub range_kept : (s : Steps) → IsArena rows names (ranges ++ s ∷ []) items ts os ws
  range_kept s = arena_kept rows rows names names ranges (ranges ++ s ∷ []) items items ts os ws (ranges_last s) (same_row items) h

  pub range_placed : (s : Steps) (n : ℕ) → n ≡ length ranges → Placed (memory_of rows names ranges items ts os) (range_of s) (value.Range n) (memory_of rows names (ranges ++ s ∷ []) items ts os)
  range_placed s n e =
      let g = keeps rows rows names names ranges (ranges ++ s ∷ []) items items ts os ws (ranges_last s) (same_row items) h in
      let l : length (map range_of ranges) ≡ n = length-map ranges range_of ∙ sym e in
      let m : map range_of (ranges ++ s ∷ []) ≡ map range_of ranges ++ range_of s ∷ [] = map_push range_of ranges s in record {
        denotes = ap (λ xs. get_or xs n pure.Nothing) m ∙ get_or_push (map range_of ranges) (range_of s) pure.Nothing n l;
        lies = omega (arith, ap length m, length_push (map range_of ranges) (range_of s), l);
        extends = g.goes.extends;
        store = g.goes.store;
      }

  names_last : (x : pure.Text) → Grounded (base_of rows names ranges) (base_of rows (names ++ x ∷ []) ranges)
  names_last x = record { texts = grows_none rows; names = (x ∷ [], refl); ranges = ([], sym (append-nil (map range_of ranges))) }

  pub name_kept : (x : pure.Text) → IsArena rows (names ++ x ∷ []) ranges items ts os ws
  name_kept x = arena_kept rows rows names (names ++ x ∷ []) ranges ranges items items ts os ws (names_last x) (same_row items) h

  pub name_added : (x : pure.Text) (n : ℕ) → n ≡ length names → IsNamed x (memory_of rows names ranges items ts os) (memory_of rows (names ++ x ∷ []) ranges items ts os) n
  name_added x n e =
      let g = keeps rows rows names (names ++ x ∷ []) ranges ranges items items ts os ws (names_last x) (same_row items) h in
      let b = base_of rows (names ++ x ∷ []) ranges in record {
        number = e;
        memory = ap (λ s. record b { tuples = table b items [] ts; store = s }) g.goes.store ∙ ap (λ vs. record b { tuples = vs; store = map (held_of (grounds_of rows names ranges items ts)) os }) g.tuples;
      }

-- ---- objects

objects_push : (m : Memory) (os : List Held) (o : Held) → ObjectsLie m os → HeldLies m o → ObjectsLie m (os ++ o ∷ [])
objects_push m [] o h k = (k, tt)
objects_push m (q ∷ os) o h k = (h.0, objects_push m os o h.1 k)

grounded_same : (rows : Rows) (names : List pure.Text) (ranges : List Steps) → Grounded (base_of rows names ranges) (base_of rows names ranges)
grounded_same rows names ranges = record { texts = grows_none rows; names = ([], sym (append-nil names)); ranges = ([], sym (append-nil (map range_of ranges))) }

pub object_kept : (rows : Rows) (names : List pure.Text) (ranges : List Steps) (items : List Ref) (ts : List Tuple) (os : List Held) (ws : Words) (o : Held) → IsArena rows names ranges items ts os ws → HeldLies (memory_of rows names ranges items ts os) o → HeldMeans (memory_of rows names ranges items ts os) (words_of rows ws) o
    → IsArena rows names ranges items ts (os ++ o ∷ []) ws
object_kept rows names ranges items ts os ws o h k means =
    let m = memory_of rows names ranges items ts (os ++ o ∷ []) in
    let g = grounds_of rows names ranges items ts in
    let f = held_of g in
    let longer : length (map f os) ≤ length (map f (os ++ o ∷ [])) = omega (arith, length-map os f, length-map (os ++ o ∷ []) f, length_push os o) in
    let e : Extends (memory_of rows names ranges items ts os) m = record {
      lasts = record { texts = grows_none rows; names = ([], sym (append-nil names)); ranges = ([], sym (append-nil (map range_of ranges))); tuples = ([], sym (append-nil g.tuples)) };
      objects = longer;
    } in record {
      tuples = tuples_lie-last (map f os) (map f (os ++ o ∷ [])) (grounded_same rows names ranges) longer items items (same_row items) [] ts h.tuples;
      objects = objects_push m os o (objects_lie-extends os e h.objects) (held_lies-extends o e k);
      words = h.words;
      keys = keys-push m (words_of rows ws) os o (keys-last (words_of rows ws) os e.lasts h.objects h.keys) (held_means-last (words_of rows ws) o e.lasts k means);
    }

objects_set : (m : Memory) (os : List Held) (x : ℕ) (o : Held) → ObjectsLie m os → HeldLies m o → ObjectsLie m (slice_set os x o)
objects_set m [] x o h k = h
objects_set m (q ∷ os) zero o h k = (k, h.1)
objects_set m (q ∷ os) (suc x) o h k = (h.0, objects_set m os x o h.1 k)

pub length_set : {A : Type 0} (xs : List A) (x : ℕ) (a : A) → length (slice_set xs x a) ≡ length xs
length_set [] x a = refl
length_set (b ∷ xs) zero a = refl
length_set (b ∷ xs) (suc x) a = ap suc (length_set xs x a)

pub object_changed : (rows : Rows) (names : List pure.Text) (ranges : List Steps) (items : List Ref) (ts : List Tuple) (os : List Held) (ws : Words) (x : ℕ) (o : Held) → IsArena rows names ranges items ts os ws → HeldLies (memory_of rows names ranges items ts os) o → HeldMeans (memory_of rows names ranges items ts os) (words_of rows ws) o
    → IsArena rows names ranges items ts (slice_set os x o) ws
object_changed rows names ranges items ts os ws x o h k means =
    let m = memory_of rows names ranges items ts (slice_set os x o) in
    let g = grounds_of rows names ranges items ts in
    let f = held_of g in
    let longer : length (map f os) ≤ length (map f (slice_set os x o)) = omega (arith, length-map os f, length-map (slice_set os x o) f, length_set os x o) in
    let e : Extends (memory_of rows names ranges items ts os) m = record {
      lasts = record { texts = grows_none rows; names = ([], sym (append-nil names)); ranges = ([], sym (append-nil (map range_of ranges))); tuples = ([], sym (append-nil g.tuples)) };
      objects = longer;
    } in record {
      tuples = tuples_lie-last (map f os) (map f (slice_set os x o)) (grounded_same rows names ranges) longer items items (same_row items) [] ts h.tuples;
      objects = objects_set m os x o (objects_lie-extends os e h.objects) (held_lies-extends o e k);
      words = h.words;
      keys = keys-set m (words_of rows ws) os x o (keys-last (words_of rows ws) os e.lasts h.objects h.keys) (held_means-last (words_of rows ws) o e.lasts k means);
    }

-- more words
pub arena_worded : (rows : Rows) (names : List pure.Text) (ranges : List Steps) (items : List Ref) (ts : List Tuple) (os : List Held) (ws more : Words) → IsArena rows names ranges items ts os ws → Grown rows ws more → IsArena rows names ranges items ts os more
arena_worded rows names ranges items ts os ws more h g = record {
  tuples = h.tuples;
  objects = h.objects;
  words = g.lie;
  keys = keys-grown (memory_of rows names ranges items ts os) rows ws more os g h.keys;
}

-- the object at an address
pub object_at : (m : Memory) (os : List Held) (x : ℕ) (o : Held) → ObjectsLie m os → x < length os → o ≡ get_or os x o → HeldLies m o
object_at m [] x o h lt e = absurd (omega arith)
object_at m (q ∷ os) zero o h lt e = subst (HeldLies m) (sym e) h.0
object_at m (q ∷ os) (suc x) o h lt e = object_at m os x o h.1 (omega arith) e

-- ---- tuples

module _ (rows : Rows) (names : List pure.Text) (ranges : List Steps) (items : List Ref) (ts : List Tuple) (os : List Held) (ws : Words) (h : IsArena rows names ranges items ts os ws) where
  -- a tuple by its place
  pub tuple_shown : (x : ℕ) → x < length (grounds_of rows names ranges items ts).tuples → Shown (memory_of rows names ranges items ts os).store (memory_of rows names ranges items ts os) items (get_or (grounds_of rows names ranges items ts).tuples x pure.Nothing) (tuple_in (record { items = items; tuples = ts }) x)
  tuple_shown x lt =
      let b = base_of rows names ranges in
      let m = memory_of rows names ranges items ts os in
      let all = table b items [] ts in
      let few : length all ≡ length ts = length-table b items [] ts ∙ omega arith in
      let t = tuple_in (record { items = items; tuples = ts }) x in
      let there : t ≡ get_or ts x t = default_same ts x (tuple_in (record { items = []; tuples = [] }) 0) t (omega (arith, few, lt)) in
      let z : 0 + x ≡ x = omega arith in
      let s = subst (λ n. Shown m.store (with_tuples all b) items (get_or all n pure.Nothing) t) z (table_at m.store b items [] ts x t h.tuples (omega (arith, few, lt)) there) in record {
        within = s.within;
        lie = s.lie;
        is = s.is ∙ ap pure.tuple_of (sym (all-bare m.store (with_tuples all b) (items_at items t)));
        values = s.values;
        levels = s.levels;
      }

  -- a tuple more
  module _ (xs : List Ref) (size : Size) (lie : AllLie (memory_of rows names ranges items ts os) xs) (values : size.values ≡ count_of (pure.tuple_of (all_of (memory_of rows names ranges items ts os) xs))) (levels : size.levels ≡ levels_of (pure.tuple_of (all_of (memory_of rows names ranges items ts os) xs))) where
    row_more : (more : List Ref) × (items ++ xs ≡ items ++ more)
    row_more = (xs, refl)

    abbrev pushed : Tuple
    pushed = record { start = length items; length = length xs; size = size }

    own_items : items_at (items ++ xs) pushed ≡ xs
    own_items = ap (take (length xs)) (drop_at items xs (length items) refl) ∙ take_all (length xs) xs (omega arith)

    mid : Kept (memory_of rows names ranges items ts os) (memory_of rows names ranges (items ++ xs) ts os) os
    mid = keeps rows rows names names ranges ranges items (items ++ xs) ts os ws (grounded_same rows names ranges) row_more h

    mid_arena : IsArena rows names ranges (items ++ xs) ts os ws
    mid_arena = arena_kept rows rows names names ranges ranges items (items ++ xs) ts os ws (grounded_same rows names ranges) row_more h

    denoted : tuple_at (grounds_of rows names ranges (items ++ xs) ts) (items ++ xs) pushed ≡ pure.tuple_of (all_of (memory_of rows names ranges items ts os) xs)
    denoted =
        let m = memory_of rows names ranges (items ++ xs) ts os in
        let g = grounds_of rows names ranges (items ++ xs) ts in
        ap pure.tuple_of (ap (all_of g) own_items ∙ sym (all-bare m.store g xs) ∙ all-lasts xs mid.goes.extends.lasts lie)

    pushed_lies : TupleLies (memory_of rows names ranges (items ++ xs) ts os).store (grounds_of rows names ranges (items ++ xs) ts) (items ++ xs) pushed
    pushed_lies = record {
      within = omega (arith, length-append items xs);
      lie = subst (AllLie (memory_of rows names ranges (items ++ xs) ts os)) (sym own_items) (all_lie-extends xs mid.goes.extends lie);
      values = values ∙ ap count_of (sym denoted);
      levels = levels ∙ ap levels_of (sym denoted);
    }

    new_tuples : table (base_of rows names ranges) (items ++ xs) [] (ts ++ pushed ∷ []) ≡ table (base_of rows names ranges) (items ++ xs) [] ts ++ tuple_at (grounds_of rows names ranges (items ++ xs) ts) (items ++ xs) pushed ∷ []
    new_tuples = table_push (base_of rows names ranges) (items ++ xs) [] ts pushed

    after : Goes (memory_of rows names ranges (items ++ xs) ts os) (memory_of rows names ranges (items ++ xs) (ts ++ pushed ∷ []) os) os
    after =
        let v = tuple_at (grounds_of rows names ranges (items ++ xs) ts) (items ++ xs) pushed in
        let l : Lasts (memory_of rows names ranges (items ++ xs) ts os) (memory_of rows names ranges (items ++ xs) (ts ++ pushed ∷ []) os) = record {
          texts = grows_none rows;
          names = ([], sym (append-nil names));
          ranges = ([], sym (append-nil (map range_of ranges)));
          tuples = (v ∷ [], new_tuples);
        } in
        goes rows rows names names ranges ranges (items ++ xs) (items ++ xs) ts (ts ++ pushed ∷ []) os l mid_arena.objects

    pub tuple_kept : IsArena rows names ranges (items ++ xs) (ts ++ record { start = length items; length = length xs; size = size } ∷ []) os ws
    tuple_kept = record {
      tuples = subst (λ s. TuplesLie s (base_of rows names ranges) (items ++ xs) [] (ts ++ pushed ∷ [])) (sym after.store)
          (tuples_lie-push (memory_of rows names ranges (items ++ xs) ts os).store (base_of rows names ranges) (items ++ xs) [] ts pushed mid_arena.tuples pushed_lies);
      objects = after.lie;
      words = h.words;
      keys = keys-last (words_of rows ws) os after.extends.lasts mid_arena.objects mid_arena.keys;
    }

    pub tuple_placed : (place : ℕ) → place ≡ length ts → Placed (memory_of rows names ranges items ts os) (pure.tuple_of (all_of (memory_of rows names ranges items ts os) xs)) (value.Tuple place) (memory_of rows names ranges (items ++ xs) (ts ++ record { start = length items; length = length xs; size = size } ∷ []) os)
    tuple_placed place e =
        let b = base_of rows names ranges in
        let all = table b (items ++ xs) [] ts in
        let v = tuple_at (grounds_of rows names ranges (items ++ xs) ts) (items ++ xs) pushed in
        let few : length all ≡ place = length-table b (items ++ xs) [] ts ∙ omega (arith, e) in record {
          denotes = ap (λ vs. get_or vs place pure.Nothing) new_tuples ∙ get_or_push all v pure.Nothing place few ∙ denoted;
          lies = omega (arith, ap length new_tuples, length_push all v, few);
          extends = extends_more mid.goes.extends after.extends;
          store = after.store ∙ mid.goes.store;
        }

-- what is known of the tuple at a place
pub record TupleAt (m : Memory) (items : List Ref) (ts : List Tuple) (x : ℕ) : Type 0 where
  pub there : x < length ts
  pub within : (tuple_in (record { items = items; tuples = ts }) x).start + (tuple_in (record { items = items; tuples = ts }) x).length ≤ length items
  pub lie : AllLie m (items_at items (tuple_in (record { items = items; tuples = ts }) x))
  pub is : pure.tuple_of (all_of m (items_at items (tuple_in (record { items = items; tuples = ts }) x))) ≡ get_or m.tuples x pure.Nothing
  pub values : (tuple_in (record { items = items; tuples = ts }) x).size.values ≡ count_of (get_or m.tuples x pure.Nothing)
  pub levels : (tuple_in (record { items = items; tuples = ts }) x).size.levels ≡ levels_of (get_or m.tuples x pure.Nothing)

tuple_here : (rows : Rows) (names : List pure.Text) (ranges : List Steps) (items : List Ref) (ts : List Tuple) (os : List Held) (ws : Words) → IsArena rows names ranges items ts os ws → (x : ℕ) → x < length (memory_of rows names ranges items ts os).tuples → TupleAt (memory_of rows names ranges items ts os) items ts x
tuple_here rows names ranges items ts os ws h x lt =
    let s = tuple_shown rows names ranges items ts os ws h x lt in record {
      there = omega (arith, lt, length-table (base_of rows names ranges) items [] ts);
      within = s.within;
      lie = s.lie;
      is = sym s.is;
      values = s.values;
      levels = s.levels;
    }

pub tuple_view : (m : Memory) (rows : Rows) (names : List pure.Text) (ranges : List Steps) (items : List Ref) (ts : List Tuple) (os : List Held) (ws : Words) → memory_of rows names ranges items ts os ≡ m → IsArena rows names ranges items ts os ws → (x : ℕ) → x < length m.tuples → TupleAt m items ts x
tuple_view m rows names ranges items ts os ws e h x lt = subst (λ n. x < length n.tuples → TupleAt n items ts x) e (tuple_here rows names ranges items ts os ws h x) lt
