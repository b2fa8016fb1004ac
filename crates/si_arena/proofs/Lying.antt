-- What lies in an arena goes on lying in it, and denotes the same, after anything is placed or made: the laws that the
-- crates above cite.
use Rattle.std.proofs.Common.{◌≡◌, ℕ, ◌<◌, ◌≤◌, List, [], ◌∷◌, ◌++◌, map, length, get_or, Some, ap, ap₂, refl, sym, subst, ◌∙◌, arith, append-nil, append_assoc, length-append}
use Rattle.std.proofs.lemmas.List.{get_or_append_left}
use Rattle.si_semantics.specs.Value as pure
use Rattle.si_arena.specs.declared.value.Ref.{Ref}
use Rattle.si_arena.specs.declared.value.Ref.TheVariants as value
use Rattle.si_arena.specs.declared.cause.Cause.{Cause}
use Rattle.si_arena.specs.declared.cause.Cause.TheVariants as cause
use Rattle.si_arena.specs.declared.object.Object.{Object}
use Rattle.si_arena.specs.declared.object.Object.TheVariants.{Bare, Made, Caused, Thread, Started}
use Rattle.si_arena.specs.declared.atom.Atom.{Atom}
use Rattle.si_arena.specs.declared.dict.Pair.{Pair}
use Rattle.si_arena.specs.declared.held.Held.{Held}
use Rattle.si_arena.specs.declared.held.Held.TheVariants as held
use Rattle.si_arena.specs.Causes.{kind_of, message_of, not_defined, not_bound, no_attribute, name_at, CauseLies}
use Rattle.si_arena.specs.Memory.{Holds, bound_of, Memory, value_of, all_of, object_of, Lies, AllLie, ObjectLies, key_meant, IsKey, pair_of, pairs_of, PairLies, PairsLie, held_of, HeldLies, ObjectsLie, Lasts, Extends, IsMade, IsNamed}
use Rattle.si_arena.specs.Texts.{IsText, TextLies}
use Rattle.si_arena.proofs.Rows.{text-grows, text_lies-grows, grows_none}

-- ---- an arena goes on

pub lasts_same : (m : Memory) → Lasts m m
lasts_same m = record { texts = grows_none m.texts; names = ([], sym (append-nil m.names)); ranges = ([], sym (append-nil m.ranges)); tuples = ([], sym (append-nil m.tuples)) }

pub extends_same : (m : Memory) → Extends m m
extends_same m = record { lasts = lasts_same m; objects = omega arith }

more_more : {A : Type 0} (a b c : List A) → ((x : List A) × (b ≡ a ++ x)) → ((y : List A) × (c ≡ b ++ y)) → (z : List A) × (c ≡ a ++ z)
more_more a b c p q = (p.0 ++ q.0, q.1 ∙ ap (λ xs. xs ++ q.0) p.1 ∙ append_assoc a p.0 q.0)

pub extends_more : {a b c : Memory} → Extends a b → Extends b c → Extends a c
extends_more {a = a} {b = b} {c = c} p q = record {
  lasts = record {
    texts = record {
      narrow = more_more a.texts.narrow b.texts.narrow c.texts.narrow p.lasts.texts.narrow q.lasts.texts.narrow;
      wide = more_more a.texts.wide b.texts.wide c.texts.wide p.lasts.texts.wide q.lasts.texts.wide;
    };
    names = more_more a.names b.names c.names p.lasts.names q.lasts.names;
    ranges = more_more a.ranges b.ranges c.ranges p.lasts.ranges q.lasts.ranges;
    tuples = more_more a.tuples b.tuples c.tuples p.lasts.tuples q.lasts.tuples;
  };
  objects = omega (arith, p.objects, q.objects);
}

-- ---- values

-- a value denotes what it did
pub value-lasts : {old new : Memory} (r : Ref) → Lasts old new → Lies old r → value_of new r ≡ value_of old r
value-lasts value.Unbound e h = absurd h
value-lasts value.None e h = refl
value-lasts (value.Truth at b) e h = refl
value-lasts (value.Int n) e h = refl
value-lasts (value.Short s) e h = refl
value-lasts {old = old} {new = new} (value.Narrow n i) e h = ap pure.Str (text-grows old.texts new.texts (value.Narrow n i) e.texts h)
value-lasts {old = old} {new = new} (value.Wide n i) e h = ap pure.Str (text-grows old.texts new.texts (value.Wide n i) e.texts h)
value-lasts (value.ShortBytes s) e h = refl
value-lasts {old = old} {new = new} (value.Bytes n i) e h = ap pure.Bytes (text-grows old.texts new.texts (value.Narrow n i) e.texts h)
value-lasts (value.BuiltIn at b) e h = refl
value-lasts {old = old} {new = new} (value.Function n x) e h =
    ap (λ t. pure.Function t n) (ap (λ xs. get_or xs x []) e.names.1 ∙ get_or_append_left old.names e.names.0 [] x h)
value-lasts {old = old} {new = new} (value.Range p) e h = ap (λ xs. get_or xs p pure.Nothing) e.ranges.1 ∙ get_or_append_left old.ranges e.ranges.0 pure.Nothing p h
value-lasts {old = old} {new = new} (value.Tuple p) e h = ap (λ xs. get_or xs p pure.Nothing) e.tuples.1 ∙ get_or_append_left old.tuples e.tuples.0 pure.Nothing p h
value-lasts (value.Kind at k) e h = refl
value-lasts (value.Module at mo) e h = refl
value-lasts (value.Queue qu qm) e h = refl
value-lasts (value.Interpreter it) e h = refl
value-lasts (value.Exec it) e h = refl
value-lasts (value.Object x) e h = refl

-- a value lies where it did
pub lies-extends : {old new : Memory} (r : Ref) → Extends old new → Lies old r → Lies new r
lies-extends value.Unbound e h = h
lies-extends value.None e h = h
lies-extends (value.Truth at b) e h = h
lies-extends (value.Int n) e h = h
lies-extends (value.Short s) e h = h
lies-extends {old = old} {new = new} (value.Narrow n i) e h = text_lies-grows old.texts new.texts (value.Narrow n i) e.lasts.texts h
lies-extends {old = old} {new = new} (value.Wide n i) e h = text_lies-grows old.texts new.texts (value.Wide n i) e.lasts.texts h
lies-extends (value.ShortBytes s) e h = h
lies-extends {old = old} {new = new} (value.Bytes n i) e h = text_lies-grows old.texts new.texts (value.Narrow n i) e.lasts.texts h
lies-extends (value.BuiltIn at b) e h = h
lies-extends {old = old} {new = new} (value.Function n x) e h = omega (arith, h, ap length e.lasts.names.1, length-append old.names e.lasts.names.0)
lies-extends {old = old} {new = new} (value.Range p) e h = omega (arith, h, ap length e.lasts.ranges.1, length-append old.ranges e.lasts.ranges.0)
lies-extends {old = old} {new = new} (value.Tuple p) e h = omega (arith, h, ap length e.lasts.tuples.1, length-append old.tuples e.lasts.tuples.0)
lies-extends (value.Kind at k) e h = h
lies-extends (value.Module at mo) e h = h
lies-extends (value.Queue qu qm) e h = h
lies-extends (value.Interpreter it) e h = h
lies-extends (value.Exec it) e h = h
lies-extends {old = old} {new = new} (value.Object x) e h = omega (arith, h, e.objects)

-- what is at a name is what it was
pub bound-lasts : {old new : Memory} (r : Ref) → Lasts old new → Holds old r → bound_of new r ≡ bound_of old r
bound-lasts value.Unbound e h = refl
bound-lasts value.None e h = refl
bound-lasts (value.Truth at b) e h = refl
bound-lasts (value.Int n) e h = refl
bound-lasts (value.Short s) e h = refl
bound-lasts (value.Narrow n i) e h = ap (λ v. Some v) (value-lasts (value.Narrow n i) e h)
bound-lasts (value.Wide n i) e h = ap (λ v. Some v) (value-lasts (value.Wide n i) e h)
bound-lasts (value.ShortBytes s) e h = refl
bound-lasts (value.Bytes n i) e h = ap (λ v. Some v) (value-lasts (value.Bytes n i) e h)
bound-lasts (value.BuiltIn at b) e h = refl
bound-lasts (value.Function n x) e h = ap (λ v. Some v) (value-lasts (value.Function n x) e h)
bound-lasts (value.Range p) e h = ap (λ v. Some v) (value-lasts (value.Range p) e h)
bound-lasts (value.Tuple p) e h = ap (λ v. Some v) (value-lasts (value.Tuple p) e h)
bound-lasts (value.Kind at k) e h = refl
bound-lasts (value.Module at mo) e h = refl
bound-lasts (value.Queue qu qm) e h = refl
bound-lasts (value.Interpreter it) e h = refl
bound-lasts (value.Exec it) e h = refl
bound-lasts (value.Object x) e h = refl

pub holds-extends : {old new : Memory} (r : Ref) → Extends old new → Holds old r → Holds new r
holds-extends value.Unbound e h = h
holds-extends value.None e h = h
holds-extends (value.Truth at b) e h = h
holds-extends (value.Int n) e h = h
holds-extends (value.Short s) e h = h
holds-extends (value.Narrow n i) e h = lies-extends (value.Narrow n i) e h
holds-extends (value.Wide n i) e h = lies-extends (value.Wide n i) e h
holds-extends (value.ShortBytes s) e h = h
holds-extends (value.Bytes n i) e h = lies-extends (value.Bytes n i) e h
holds-extends (value.BuiltIn at b) e h = h
holds-extends (value.Function n x) e h = lies-extends (value.Function n x) e h
holds-extends (value.Range p) e h = lies-extends (value.Range p) e h
holds-extends (value.Tuple p) e h = lies-extends (value.Tuple p) e h
holds-extends (value.Kind at k) e h = h
holds-extends (value.Module at mo) e h = h
holds-extends (value.Queue qu qm) e h = h
holds-extends (value.Interpreter it) e h = h
holds-extends (value.Exec it) e h = h
holds-extends (value.Object x) e h = lies-extends (value.Object x) e h

-- values denote what they did, and lie where they did
pub all-lasts : {old new : Memory} (rs : List Ref) → Lasts old new → AllLie old rs → all_of new rs ≡ all_of old rs
all-lasts [] e h = refl
all-lasts (r ∷ rs) e h = ap₂ (λ v vs. v ∷ vs) (value-lasts r e h.0) (all-lasts rs e h.1)

pub all_lie-extends : {old new : Memory} (rs : List Ref) → Extends old new → AllLie old rs → AllLie new rs
all_lie-extends [] e h = h
all_lie-extends (r ∷ rs) e h = (lies-extends r e h.0, all_lie-extends rs e h.1)

-- ---- objects

-- a str lies where its characters do
pub text_lies : (m : Memory) (r : Ref) → Lies m r → IsText r → TextLies m.texts r
text_lies m value.Unbound h i = absurd i
text_lies m value.None h i = absurd i
text_lies m (value.Truth at b) h i = absurd i
text_lies m (value.Int n) h i = absurd i
text_lies m (value.Short s) h i = tt
text_lies m (value.Narrow n k) h i = h
text_lies m (value.Wide n k) h i = h
text_lies m (value.ShortBytes s) h i = absurd i
text_lies m (value.Bytes n k) h i = absurd i
text_lies m (value.BuiltIn at b) h i = absurd i
text_lies m (value.Function n x) h i = absurd i
text_lies m (value.Range p) h i = absurd i
text_lies m (value.Tuple p) h i = absurd i
text_lies m (value.Kind at k) h i = absurd i
text_lies m (value.Module at mo) h i = absurd i
text_lies m (value.Queue qu qm) h i = absurd i
text_lies m (value.Interpreter it) h i = absurd i
text_lies m (value.Exec it) h i = absurd i
text_lies m (value.Object x) h i = absurd i

cause_name : (old more : List pure.Text) (n : ℕ) → n < length old → name_at (old ++ more) n ≡ name_at old n
cause_name old more n h = get_or_append_left old more [] n h

cause-lasts : (old more : List pure.Text) (c : Cause) → CauseLies old c → message_of (old ++ more) c ≡ message_of old c
cause-lasts old more (cause.Arithmetic k) h = refl
cause-lasts old more cause.TooLong h = refl
cause-lasts old more cause.WrongType h = refl
cause-lasts old more cause.NotCallable h = refl
cause-lasts old more cause.WrongArguments h = refl
cause-lasts old more cause.TooDeep h = refl
cause-lasts old more cause.NoneActive h = refl
cause-lasts old more cause.Outside h = refl
cause-lasts old more (cause.NotDefined n) h = ap not_defined (cause_name old more n h)
cause-lasts old more (cause.NotBound n) h = ap not_bound (cause_name old more n h)
cause-lasts old more (cause.NoAttribute n) h = ap no_attribute (cause_name old more n h)
cause-lasts old more cause.SizeChanged h = refl
cause-lasts old more (cause.Refused r) h = refl

cause_lies-more : (old new : List pure.Text) (c : Cause) → length old ≤ length new → CauseLies old c → CauseLies new c
cause_lies-more old new (cause.Arithmetic k) l h = h
cause_lies-more old new cause.TooLong l h = h
cause_lies-more old new cause.WrongType l h = h
cause_lies-more old new cause.NotCallable l h = h
cause_lies-more old new cause.WrongArguments l h = h
cause_lies-more old new cause.TooDeep l h = h
cause_lies-more old new cause.NoneActive l h = h
cause_lies-more old new cause.Outside l h = h
cause_lies-more old new (cause.NotDefined n) l h = omega (arith, l, h)
cause_lies-more old new (cause.NotBound n) l h = omega (arith, l, h)
cause_lies-more old new (cause.NoAttribute n) l h = omega (arith, l, h)
cause_lies-more old new cause.SizeChanged l h = h
cause_lies-more old new (cause.Refused r) l h = h

-- an object is what it was
pub object-lasts : {old new : Memory} (o : Object) → Lasts old new → ObjectLies old o → object_of new o ≡ object_of old o
object-lasts (Bare k) e h = refl
object-lasts (Made k r) e h = ap (λ v. pure.Exception k (Some v)) (value-lasts r e h)
object-lasts {old = old} {new = new} (Thread i r) e h = ap (λ t. pure.Thread i t) (text-grows old.texts new.texts r e.texts (text_lies old r h.0 h.1))
object-lasts (Started r) e h = refl
object-lasts {old = old} {new = new} (Caused c) e h =
    ap (λ t. pure.Exception (kind_of c) (Some (pure.Str t))) (ap (λ xs. message_of xs c) e.names.1 ∙ cause-lasts old.names e.names.0 c h)

pub object_lies-extends : {old new : Memory} (o : Object) → Extends old new → ObjectLies old o → ObjectLies new o
object_lies-extends (Bare k) e h = h
object_lies-extends (Made k r) e h = lies-extends r e h
object_lies-extends (Thread i r) e h = (lies-extends r e h.0, h.1)
object_lies-extends (Started r) e h = h
object_lies-extends {old = old} {new = new} (Caused c) e h =
    cause_lies-more old.names new.names c (omega (arith, ap length e.lasts.names.1, length-append old.names e.lasts.names.0)) h

-- a key with its value is what it was
pub pair-lasts : {old new : Memory} (p : Pair) → Lasts old new → PairLies old p → pair_of new p ≡ pair_of old p
pair-lasts p e h = ap₂ (λ k v. (key_meant k, v)) (value-lasts p.key e h.key) (value-lasts p.value e h.value)

pub pair_lies-extends : {old new : Memory} (p : Pair) → Extends old new → PairLies old p → PairLies new p
pair_lies-extends p e h = record { key = lies-extends p.key e h.key; is_key = subst IsKey (sym (value-lasts p.key e.lasts h.key)) h.is_key; value = lies-extends p.value e h.value }

pub pairs-lasts : {old new : Memory} (es : List (Atom × Pair)) → Lasts old new → PairsLie old es → pairs_of new es ≡ pairs_of old es
pairs-lasts [] e h = refl
pairs-lasts (x ∷ es) e h = ap₂ (λ p ps. p ∷ ps) (pair-lasts x.1 e h.0) (pairs-lasts es e h.1)

pub pairs_lie-extends : {old new : Memory} (es : List (Atom × Pair)) → Extends old new → PairsLie old es → PairsLie new es
pairs_lie-extends [] e h = h
pairs_lie-extends (x ∷ es) e h = (pair_lies-extends x.1 e h.0, pairs_lie-extends es e h.1)

-- what lies at an address is what it was
pub held-lasts : {old new : Memory} (o : Held) → Lasts old new → HeldLies old o → held_of new o ≡ held_of old o
held-lasts (held.Bare k) e h = refl
held-lasts (held.Made k r) e h = object-lasts (Made k r) e h
held-lasts (held.Caused c) e h = object-lasts (Caused c) e h
held-lasts (held.Thread i r) e h = object-lasts (Thread i r) e h
held-lasts (held.Started r) e h = refl
held-lasts (held.List rs) e h = ap pure.Items (all-lasts rs e h)
held-lasts (held.Dict es) e h = ap pure.Pairs (pairs-lasts es e h)

pub held_lies-extends : {old new : Memory} (o : Held) → Extends old new → HeldLies old o → HeldLies new o
held_lies-extends (held.Bare k) e h = h
held_lies-extends (held.Made k r) e h = object_lies-extends (Made k r) e h
held_lies-extends (held.Caused c) e h = object_lies-extends (Caused c) e h
held_lies-extends (held.Thread i r) e h = object_lies-extends (Thread i r) e h
held_lies-extends (held.Started r) e h = h
held_lies-extends (held.List rs) e h = all_lie-extends rs e h
held_lies-extends (held.Dict es) e h = pairs_lie-extends es e h

pub objects-lasts : {old new : Memory} (os : List Held) → Lasts old new → ObjectsLie old os → map (held_of new) os ≡ map (held_of old) os
objects-lasts [] e h = refl
objects-lasts (o ∷ os) e h = ap₂ (λ x xs. x ∷ xs) (held-lasts o e h.0) (objects-lasts os e h.1)

pub objects_lie-extends : {old new : Memory} (os : List Held) → Extends old new → ObjectsLie old os → ObjectsLie new os
objects_lie-extends [] e h = h
objects_lie-extends (o ∷ os) e h = (held_lies-extends o e h.0, objects_lie-extends os e h.1)

-- ---- what calls do

-- a name more
pub extends_named : {old new : Memory} {x : pure.Text} {n : ℕ} → IsNamed x old new n → Extends old new
extends_named {old = old} {new = new} {x = x} p = record {
  lasts = record {
    texts = record {
      narrow = ([], ap (λ (m : Memory). m.texts.narrow) p.memory ∙ sym (append-nil old.texts.narrow));
      wide = ([], ap (λ (m : Memory). m.texts.wide) p.memory ∙ sym (append-nil old.texts.wide));
    };
    names = (x ∷ [], ap (λ (m : Memory). m.names) p.memory);
    ranges = ([], ap (λ (m : Memory). m.ranges) p.memory ∙ sym (append-nil old.ranges));
    tuples = ([], ap (λ (m : Memory). m.tuples) p.memory ∙ sym (append-nil old.tuples));
  };
  objects = omega (arith, ap (λ (m : Memory). length m.store) p.memory);
}

-- an object more
pub extends_made : {old new : Memory} {o : pure.Object} {r : Ref} → IsMade o old new r → Extends old new
extends_made {old = old} {new = new} {o = o} p = record {
  lasts = record {
    texts = record {
      narrow = ([], ap (λ (m : Memory). m.texts.narrow) p.memory ∙ sym (append-nil old.texts.narrow));
      wide = ([], ap (λ (m : Memory). m.texts.wide) p.memory ∙ sym (append-nil old.texts.wide));
    };
    names = ([], ap (λ (m : Memory). m.names) p.memory ∙ sym (append-nil old.names));
    ranges = ([], ap (λ (m : Memory). m.ranges) p.memory ∙ sym (append-nil old.ranges));
    tuples = ([], ap (λ (m : Memory). m.tuples) p.memory ∙ sym (append-nil old.tuples));
  };
  objects = omega (arith, ap (λ (m : Memory). length m.store) p.memory, length-append old.store (o ∷ []));
}
