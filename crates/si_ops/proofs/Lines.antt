-- Lines that `print` writes, value by value.
use Rattle.std.proofs.Common.{◌≡◌, ℕ, zero, suc, ◌+◌, ◌<◌, List, [], ◌∷◌, ◌++◌, length, take, drop, get_or, map, encode_utf8_all, Result, Ok, Err, cond, Bool, true, false, refl, sym, ap, ap₂, subst, ◌∙◌, arith, append_assoc, append-nil, drop-cons}
use Rattle.std.specs.Prelude.{nat_lt}
use Rattle.std.specs.declared.string.String.{String}
use Rattle.std.specs.String.{string_bytes}
use Rattle.std.proofs.lemmas.List.{take_more, take-append-drop, map-append}
use Rattle.std.proofs.lemmas.Str.{encodes-append}
use Rattle.si_plain.specs.declared.kind.Kind.{Kind}
use Rattle.si_plain.specs.declared.kind.Kind.TheVariants.{OverflowError, RecursionError}
use Rattle.si_semantics.specs.Value.{Text, Value, Object}
use Rattle.si_semantics.specs.Text.{Written, Whole, Broken, str_in, str_of, written, max_nested, max_length, line_of, line_after}
use Rattle.si_arena.specs.declared.value.Ref.{Ref}
use Rattle.si_arena.specs.declared.cause.Cause.{Cause}
use Rattle.si_arena.specs.declared.cause.Cause.TheVariants.{Arithmetic, TooLong, WrongType, NotCallable, WrongArguments, TooDeep, NoneActive, Outside, SizeChanged, NotDefined, NotBound, NoAttribute, Refused}
use Rattle.si_arena.specs.declared.cause.Fault.{Fault}
use Rattle.si_arena.specs.declared.cause.Fault.TheVariants.{Raises, NoMemory}
use Rattle.si_arena.specs.Memory.{Memory, value_of, all_of, Lies, AllLie}
use Rattle.si_ops.specs.Writing.{Adds, Lacks, Begins, Writes, IsUnwritten, spelled, spaced_in, spaced_bytes, line_bytes}
use Rattle.si_ops.proofs.Adding.{adds_more, adds_as, lacks_as, lacks_first, lacks_next}

-- ---- what lies

pub lies_at : (m : Memory) (rs : List Ref) (i : ℕ) (d : Ref) → AllLie m rs → i < length rs → Lies m (get_or rs i d)
lies_at m [] i d h l = absurd (omega arith)
lies_at m (r ∷ rs) zero d h l = h.0
lies_at m (r ∷ rs) (suc i) d h l = lies_at m rs i d h.1 (omega arith)

-- ---- texts and the next ones

-- a text was written and added
pub record Went {Z : Type 0} (p : Result Text Kind) (old new : String Z) : Type 0 where
  pub text : Text
  pub is : p ≡ Ok text
  pub added : Adds (encode_utf8_all text) old new

pub went_from : {Z : Type 0} (U : Type 0) (p : Result Text Kind) (longest : List ℕ) (old new : String Z) (u : U) → Writes {U = U} p longest old new (Ok u) → Went p old new
went_from U p longest old new u w = record { text = w.0; is = w.1; added = w.2 }

-- a text and the next one, where both can be written; the first that can't decides
abbrev joined : (p q : Result Text Kind) → Result Text Kind
joined (Err k) q = Err k
joined (Ok s) (Err k) = Err k
joined (Ok s) (Ok t) = Ok (s ++ t)

-- a text with a space before it, and what is after
abbrev spaced_by : (r p : Result Text Kind) → Result Text Kind
spaced_by r p = elim r [ Err k ↦ Err k | Ok t ↦ elim p [ Err k ↦ Err k | Ok rest ↦ Ok (32 ∷ (t ++ rest)) ] ]

went_both : {Z : Type 0} {p q : Result Text Kind} {s t u : String Z} → Went p s t → Went q t u → Went (joined p q) s u
went_both p q = record {
  text = p.text ++ q.text;
  is = ap₂ joined p.is q.is;
  added = adds_as (sym (encodes-append p.text q.text)) (adds_more p.added q.added);
}

-- why a text can't be written is why another can't
carried : (r q : Result Text Kind) (cause : Cause) → ((k : Kind) → r ≡ Err k → q ≡ Err k) → IsUnwritten r cause → IsUnwritten q cause
carried r q TooDeep f h = f _ h
carried r q TooLong f h = f _ h
carried r q (Arithmetic k) f h = h
carried r q WrongType f h = h
carried r q NotCallable f h = h
carried r q WrongArguments f h = h
carried r q NoneActive f h = h
carried r q Outside f h = h
carried r q SizeChanged f h = h
carried r q (NotDefined s) f h = h
carried r q (NotBound s) f h = h
carried r q (NoAttribute s) f h = h
carried r q (Refused s) f h = h

second_fails : (p q : Result Text Kind) (k : Kind) (t : Text) → p ≡ Ok t → q ≡ Err k → joined p q ≡ Err k
second_fails p q k t e f = ap₂ joined e f

joined_by : (r p q : Result Text Kind) → spaced_by r (joined p q) ≡ joined (spaced_by r p) q
joined_by (Err k) p q = refl
joined_by (Ok t) (Err k) q = refl
joined_by (Ok t) (Ok s) (Err k) = refl
joined_by (Ok t) (Ok s) (Ok u) = ap (λ x. Ok (32 ∷ x)) (sym (append_assoc t s u))

none_before : (q : Result Text Kind) → q ≡ joined (Ok []) q
none_before (Err k) = refl
none_before (Ok s) = refl

-- values, and others after them
spaced_joined : (store : List Object) (vs ws : List Value) → spaced_in store (vs ++ ws) ≡ joined (spaced_in store vs) (spaced_in store ws)
spaced_joined store [] ws = none_before (spaced_in store ws)
spaced_joined store (v ∷ vs) ws =
    ap (spaced_by (str_in store v)) (spaced_joined store vs ws) ∙ joined_by (str_in store v) (spaced_in store vs) (spaced_in store ws)

bytes_joined : (store : List Object) (vs ws : List Value) → spaced_bytes store (vs ++ ws) ≡ spaced_bytes store vs ++ spaced_bytes store ws
bytes_joined store [] ws = refl
bytes_joined store (v ∷ vs) ws =
    let b = spelled (str_of max_nested store v) in
    ap (λ x. 32 ∷ (b ++ x)) (bytes_joined store vs ws) ∙ ap (λ x. 32 ∷ x) (sym (append_assoc b (spaced_bytes store vs) (spaced_bytes store ws)))

-- ---- the bytes of what is written

written_bytes : (w : Written) (t : Text) → written w ≡ Ok t → encode_utf8_all t ≡ spelled w
written_bytes (Whole s) t e = by (nat_lt max_length (length s)) e
  where
    by : (b : Bool) → ◌≡◌ {A = Result Text Kind} (cond b (Err OverflowError) (Ok s)) (Ok t) → encode_utf8_all t ≡ encode_utf8_all s
    by true e = cc
    by false e = let same : s ≡ t = cc in ap encode_utf8_all (sym same)
written_bytes (Broken s) t e = by (nat_lt max_length (length s)) e
  where
    by : (b : Bool) → ◌≡◌ {A = Result Text Kind} (cond b (Err OverflowError) (Err RecursionError)) (Ok t) → encode_utf8_all t ≡ encode_utf8_all s
    by true e = cc
    by false e = cc

-- a space in UTF-8 is one byte, and so is a newline
space_bytes : (t : Text) → encode_utf8_all (32 ∷ t) ≡ 32 ∷ encode_utf8_all t
unfolding lib.Utf8.encode
space_bytes t = refl

newline_bytes : encode_utf8_all (10 ∷ []) ≡ 10 ∷ []
unfolding lib.Utf8.encode
newline_bytes = refl

spaced_next : (store : List Object) (v : Value) (vs : List Value) (t u : Text) (q : Result Text Kind) → ((rest : Text) → spaced_in store vs ≡ Ok rest → encode_utf8_all rest ≡ spaced_bytes store vs) → str_in store v ≡ Ok u → spaced_in store vs ≡ q → ◌≡◌ {A = Result Text Kind} (elim q [ Err k ↦ Err k | Ok rest ↦ Ok (32 ∷ (u ++ rest)) ]) (Ok t) → encode_utf8_all t ≡ spaced_bytes store (v ∷ vs)
spaced_next store v vs t u (Err k) after h g f = cc
spaced_next store v vs t u (Ok rest) after h g f =
    let same : 32 ∷ (u ++ rest) ≡ t = cc in
    ap encode_utf8_all (sym same) ∙ space_bytes (u ++ rest)
    ∙ ap (λ x. 32 ∷ x) (encodes-append u rest ∙ ap₂ (λ x y. x ++ y) (written_bytes (str_of max_nested store v) u h) (after rest g))

spaced_first : (store : List Object) (v : Value) (vs : List Value) (t : Text) (r : Result Text Kind) → ((rest : Text) → spaced_in store vs ≡ Ok rest → encode_utf8_all rest ≡ spaced_bytes store vs) → str_in store v ≡ r → ◌≡◌ {A = Result Text Kind} (elim r [ Err k ↦ Err k | Ok u ↦ elim (spaced_in store vs) [ Err k ↦ Err k | Ok rest ↦ Ok (32 ∷ (u ++ rest)) ] ]) (Ok t) → encode_utf8_all t ≡ spaced_bytes store (v ∷ vs)
spaced_first store v vs t (Err k) after h f = cc
spaced_first store v vs t (Ok u) after h f = spaced_next store v vs t u (spaced_in store vs) after h refl f

spaced_texts : (store : List Object) (vs : List Value) (t : Text) → spaced_in store vs ≡ Ok t → encode_utf8_all t ≡ spaced_bytes store vs
spaced_texts store [] t e = let none : [] ≡ t = cc in ap encode_utf8_all (sym none)
spaced_texts store (v ∷ vs) t e = spaced_first store v vs t (str_in store v) (λ rest g. spaced_texts store vs rest g) refl e

begins_next : {Z : Type 0} {a : List ℕ} {s t : String Z} (u : String Z) → Adds a s t → Begins t u → Begins s u
begins_next {a = a} {s = s} u p b = (a ++ b.0, b.1 ∙ ap (λ x. x ++ b.0) p.bytes ∙ append_assoc (string_bytes s) a b.0)

-- ---- the next value

-- values up to one, that one, and those after
pub all_parts : (m : Memory) (rs : List Ref) (i : ℕ) (r : Ref) → i < length rs → r ≡ get_or rs i r → all_of m rs ≡ all_of m (take i rs) ++ value_of m r ∷ all_of m (drop (suc i) rs)
all_parts m rs i r l e =
    ap (map (value_of m)) (sym (take-append-drop i rs)) ∙ map-append (value_of m) (take i rs) (drop i rs)
    ∙ ap (λ x. map (value_of m) (take i rs) ++ map (value_of m) x) (drop-cons rs i r l ∙ ap (λ x. x ∷ drop (suc i) rs) (sym e))

pub one_more : (m : Memory) (rs : List Ref) (i : ℕ) (r : Ref) → i < length rs → r ≡ get_or rs i r → all_of m (take (i + 1) rs) ≡ all_of m (take i rs) ++ value_of m r ∷ []
one_more m rs i r l e =
    ap (map (value_of m)) (take_more rs i r l) ∙ map-append (value_of m) (take i rs) (get_or rs i r ∷ []) ∙ ap (λ x. map (value_of m) (take i rs) ++ value_of m x ∷ []) (sym e)

-- it is written
pub next_goes : {Z : Type 0} (store : List Object) (vs : List Value) (v : Value) (more : List Value) {s t u w : String Z} → more ≡ vs ++ v ∷ [] → Went (spaced_in store vs) s t → Adds (32 ∷ []) t u → Went (str_in store v) u w → Went (spaced_in store more) s w
next_goes store vs v more {s = s} {t = t} {w = w} e h p q =
    let one : Went (spaced_in store (v ∷ [])) t w = record {
      text = 32 ∷ (q.text ++ []);
      is = ap (λ r. spaced_by r (Ok [])) q.is;
      added = adds_as (sym (space_bytes (q.text ++ []) ∙ ap (λ x. 32 ∷ encode_utf8_all x) (append-nil q.text))) (adds_more p q.added);
    } in
    subst (λ r. Went r s w) (sym (ap (spaced_in store) e ∙ spaced_joined store vs (v ∷ []))) (went_both h one)

-- the first that can't be written decides
next_fails : (store : List Object) (vs : List Value) (v : Value) (ws all : List Value) (front : Text) (cause : Cause) → all ≡ vs ++ v ∷ ws → spaced_in store vs ≡ Ok front → IsUnwritten (str_in store v) cause → IsUnwritten (spaced_in store all) cause
next_fails store vs v ws all front cause e f q =
    carried (str_in store v) (spaced_in store all) cause
    (λ k g. ap (spaced_in store) e ∙ spaced_joined store vs (v ∷ ws)
    ∙ second_fails (spaced_in store vs) (spaced_in store (v ∷ ws)) k front f (ap (λ r. spaced_by r (spaced_in store ws)) g)) q

bytes_parts : (store : List Object) (vs : List Value) (v : Value) (ws all : List Value) (front : Text) → all ≡ vs ++ v ∷ ws → spaced_in store vs ≡ Ok front → encode_utf8_all front ++ (32 ∷ (spelled (str_of max_nested store v) ++ spaced_bytes store ws)) ≡ spaced_bytes store all
bytes_parts store vs v ws all front e f =
    let rest = 32 ∷ (spelled (str_of max_nested store v) ++ spaced_bytes store ws) in
    ap (λ x. x ++ rest) (spaced_texts store vs front f) ∙ sym (bytes_joined store vs (v ∷ ws)) ∙ ap (spaced_bytes store) (sym e)

-- there is no room for the space
pub space_lacks : {Z : Type 0} (store : List Object) (vs : List Value) (v : Value) (ws all : List Value) {s t u : String Z} → all ≡ vs ++ v ∷ ws → Went (spaced_in store vs) s t → Lacks (32 ∷ []) t u → Lacks (spaced_bytes store all) s u
space_lacks store vs v ws all e h p =
    lacks_as (bytes_parts store vs v ws all h.text e h.is) (lacks_next h.added (lacks_first (spelled (str_of max_nested store v) ++ spaced_bytes store ws) p))

-- there is no room for it
next_lacks : {Z : Type 0} (store : List Object) (vs : List Value) (v : Value) (ws all : List Value) {s t u w : String Z} → all ≡ vs ++ v ∷ ws → Went (spaced_in store vs) s t → Adds (32 ∷ []) t u → Lacks (spelled (str_of max_nested store v)) u w → Lacks (spaced_bytes store all) s w
next_lacks store vs v ws all e h p q =
    lacks_as (bytes_parts store vs v ws all h.text e h.is) (lacks_next h.added (lacks_next p (lacks_first (spaced_bytes store ws) q)))

-- it can't be written, or there is no room for it
pub next_refused : {Z : Type 0} (U : Type 0) (store : List Object) (vs : List Value) (v : Value) (ws all : List Value) (s t u w : String Z) (f : Fault) → all ≡ vs ++ v ∷ ws → Went (spaced_in store vs) s t → Adds (32 ∷ []) t u → Writes {U = U} (str_in store v) (spelled (str_of max_nested store v)) u w (Err f) → Writes {U = U} (spaced_in store all) (spaced_bytes store all) s w (Err f)
next_refused U store vs v ws all s t u w (Raises cause) e h p q = (next_fails store vs v ws all h.text cause e h.is q.0, begins_next w (adds_more h.added p) q.1)
next_refused U store vs v ws all s t u w NoMemory e h p q = next_lacks store vs v ws all e h p q

-- ---- the line

-- a text, then the others and a newline
abbrev ended : Result Text Kind → Result Text Kind
ended p = joined p (Ok (10 ∷ []))

after_step : (t : Text) (r : Result Text Kind) (go : Text → Result Text Kind) (p : Result Text Kind) → ((u : Text) → go u ≡ joined (Ok u) (ended p)) → elim r [ Err k ↦ Err k | Ok u ↦ elim (go u) [ Err k ↦ Err k | Ok rest ↦ Ok (t ++ 32 ∷ rest) ] ] ≡ joined (Ok t) (ended (spaced_by r p))
after_step t (Err k) go p h = refl
after_step t (Ok u) go (Err k) h = ap (λ (x : Result Text Kind). elim x [ Err k ↦ Err k | Ok rest ↦ Ok (t ++ 32 ∷ rest) ]) (h u)
after_step t (Ok u) go (Ok s) h =
    ap (λ (x : Result Text Kind). elim x [ Err k ↦ Err k | Ok rest ↦ Ok (t ++ 32 ∷ rest) ]) (h u)
    ∙ ap (λ x. Ok (t ++ 32 ∷ x)) (sym (append_assoc u s (10 ∷ [])))

after_is : (store : List Object) (t : Text) (vs : List Value) → line_after store t vs ≡ joined (Ok t) (ended (spaced_in store vs))
after_is store t [] = refl
after_is store t (v ∷ vs) = after_step t (str_in store v) (λ u. line_after store u vs) (spaced_in store vs) (λ u. after_is store u vs)

begun : (r : Result Text Kind) (go : Text → Result Text Kind) (q : Result Text Kind) → ((t : Text) → go t ≡ joined (Ok t) q) → elim r [ Err k ↦ Err k | Ok t ↦ go t ] ≡ joined r q
begun (Err k) go q h = refl
begun (Ok t) go q h = h t

line_is : (store : List Object) (v : Value) (vs : List Value) → line_of store (v ∷ vs) ≡ joined (str_in store v) (ended (spaced_in store vs))
line_is store v vs = begun (str_in store v) (λ t. line_after store t vs) (ended (spaced_in store vs)) (λ t. after_is store t vs)

first_fails : (p q : Result Text Kind) (k : Kind) → p ≡ Err k → joined p q ≡ Err k
first_fails p q k e = ap (λ r. joined r q) e

-- the first value can't be written
pub first_refused : {Z : Type 0} (U : Type 0) (m : Memory) (rs : List Ref) (r : Ref) (others : List Ref) (old new : String Z) (f : Fault) → rs ≡ r ∷ others → Writes {U = U} (str_in m.store (value_of m r)) (spelled (str_of max_nested m.store (value_of m r))) old new (Err f) → Writes {U = U} (line_of m.store (all_of m rs)) (line_bytes m.store (all_of m rs)) old new (Err f)
first_refused U m rs r others old new f e w = subst (λ xs. Writes {U = U} (line_of m.store (all_of m xs)) (line_bytes m.store (all_of m xs)) old new (Err f)) (sym e) (by f w)
  where
    v : Value
    v = value_of m r

    by : (f : Fault) → Writes {U = U} (str_in m.store (value_of m r)) (spelled (str_of max_nested m.store (value_of m r))) old new (Err f) → Writes {U = U} (line_of m.store (all_of m (r ∷ others))) (line_bytes m.store (all_of m (r ∷ others))) old new (Err f)
    by (Raises cause) w = (carried (str_in m.store (value_of m r)) (line_of m.store (all_of m (r ∷ others))) cause (λ k g. line_is m.store (value_of m r) (all_of m others) ∙ first_fails (str_in m.store (value_of m r)) (ended (spaced_in m.store (all_of m others))) k g) w.0, w.1)
    by NoMemory w = lacks_first (spaced_bytes m.store (all_of m others) ++ 10 ∷ []) w

-- one of the others can't be written
pub others_refused : {Z : Type 0} (U : Type 0) (m : Memory) (rs : List Ref) (r : Ref) (others : List Ref) (old mid new : String Z) (f : Fault) → rs ≡ r ∷ others → Went (str_in m.store (value_of m r)) old mid → Writes {U = U} (spaced_in m.store (all_of m others)) (spaced_bytes m.store (all_of m others)) mid new (Err f) → Writes {U = U} (line_of m.store (all_of m rs)) (line_bytes m.store (all_of m rs)) old new (Err f)
others_refused U m rs r others old mid new f e h w = subst (λ xs. Writes {U = U} (line_of m.store (all_of m xs)) (line_bytes m.store (all_of m xs)) old new (Err f)) (sym e) (by f w)
  where
    by : (f : Fault) → Writes {U = U} (spaced_in m.store (all_of m others)) (spaced_bytes m.store (all_of m others)) mid new (Err f) → Writes {U = U} (line_of m.store (all_of m (r ∷ others))) (line_bytes m.store (all_of m (r ∷ others))) old new (Err f)
    by (Raises cause) w = (
      carried (spaced_in m.store (all_of m others)) (line_of m.store (all_of m (r ∷ others))) cause
          (λ k g. line_is m.store (value_of m r) (all_of m others) ∙ second_fails (str_in m.store (value_of m r)) (ended (spaced_in m.store (all_of m others))) k h.text h.is (first_fails (spaced_in m.store (all_of m others)) (Ok (10 ∷ [])) k g)) w.0,
      begins_next new h.added w.1,
    )
    by NoMemory w = lacks_next (adds_as (written_bytes (str_of max_nested m.store (value_of m r)) h.text h.is) h.added) (lacks_first (10 ∷ []) w)

-- there is no room for the newline
pub end_lacks : {Z : Type 0} (m : Memory) (rs : List Ref) (r : Ref) (others : List Ref) (s t u w : String Z) → rs ≡ r ∷ others → Went (str_in m.store (value_of m r)) s t → Went (spaced_in m.store (all_of m others)) t u → Lacks (10 ∷ []) u w → Lacks (line_bytes m.store (all_of m rs)) s w
end_lacks m rs r others s t u w e h g p =
    subst (λ xs. Lacks (line_bytes m.store (all_of m xs)) s w) (sym e)
    (lacks_next (adds_as (written_bytes (str_of max_nested m.store (value_of m r)) h.text h.is) h.added) (lacks_next (adds_as (spaced_texts m.store (all_of m others) g.text g.is) g.added) p))

-- all are written, and a newline
pub all_go : {Z : Type 0} (U : Type 0) (m : Memory) (rs : List Ref) (r : Ref) (others : List Ref) (s t u w : String Z) (x : U) → rs ≡ r ∷ others → Went (str_in m.store (value_of m r)) s t → Went (spaced_in m.store (all_of m others)) t u → Adds (10 ∷ []) u w → Writes {U = U} (line_of m.store (all_of m rs)) (line_bytes m.store (all_of m rs)) s w (Ok x)
all_go U m rs r others s t u w x e h g p =
    let end : Went (Ok (10 ∷ [])) u w = record { text = 10 ∷ []; is = refl; added = adds_as (sym newline_bytes) p } in
    let all = went_both h (went_both g end) in
    (all.text, ap (λ xs. line_of m.store (all_of m xs)) e ∙ line_is m.store (value_of m r) (all_of m others) ∙ all.is, all.added)

-- there is none, and a newline
pub none_goes : {Z : Type 0} (m : Memory) (rs : List Ref) (s t : String Z) → length rs ≡ 0 → Adds (10 ∷ []) s t → Writes {U = Unit {0}} (line_of m.store (all_of m rs)) (line_bytes m.store (all_of m rs)) s t (Ok tt)
none_goes m [] s t e p = (10 ∷ [], refl, adds_as (sym newline_bytes) p)
none_goes m (r ∷ rs) s t e p = absurd (omega arith)
