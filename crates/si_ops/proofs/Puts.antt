-- What is written of values, one after the other, at the end of a String.
use Rattle.std.proofs.Common.{◌≡◌, ℕ, ◌+◌, ◌*◌, ◌<◌, ◌≤◌, List, [], ◌∷◌, ◌++◌, length, drop, cond, Bool, true, false, nat_lt, lt-ltb, ltb-true, encode_utf8, encode_utf8_all, Result, Ok, Err, refl, sym, ap, subst, ◌∙◌, arith, append_assoc, append-nil, length-append}
use Rattle.std.proofs.lemmas.Str.{encodes-append, length-encode, len_utf8_bounds}
use Rattle.std.specs.String.{string_bytes}
use Rattle.std.specs.declared.string.String.{String}
use Rattle.si_plain.specs.Characters.{characters_of}
use Rattle.si_plain.specs.declared.kind.Kind.TheVariants.{OverflowError, RecursionError}
use Rattle.si_semantics.specs.Value.{Text}
use Rattle.si_semantics.specs.Text.{Written, Whole, Broken, after, followed, between, written, max_length}
use Rattle.si_arena.specs.declared.cause.Cause.TheVariants.{Arithmetic, TooLong, WrongType, NotCallable, WrongArguments, TooDeep, NoneActive, Outside, SizeChanged, NotDefined, NotBound, NoAttribute, Refused}
use Rattle.si_arena.specs.declared.cause.Fault.{Fault}
use Rattle.si_arena.specs.declared.cause.Fault.TheVariants.{Raises, NoMemory}
use Rattle.si_ops.specs.Writing.{Adds, Lacks, Begins, Overruns, Puts, Writes, text_written, spelled, judged_by, max_bytes}
use Rattle.si_ops.proofs.Adding.{adds_none, adds_more, adds_as, lacks_as, lacks_first, lacks_next}
use Rattle.si_ops.proofs.Ends.{begins_adds, text_at}

-- ---- texts one after the other

text_after : (t : Text) (w : Written) → text_written (after t w) ≡ t ++ text_written w
text_after t (Whole u) = refl
text_after t (Broken u) = refl

spelled_after : (t : Text) (w : Written) → spelled (after t w) ≡ encode_utf8_all t ++ spelled w
spelled_after t w = ap encode_utf8_all (text_after t w) ∙ encodes-append t (text_written w)

-- whatever follows, a text stands in front
in_front : (a b : Written) → (rest : List ℕ) × (spelled (followed a b) ≡ spelled a ++ rest)
in_front (Whole t) b = (spelled b, spelled_after t b)
in_front (Broken t) b = ([], sym (append-nil (encode_utf8_all t)))

pub followed_none : (w : Written) → followed w (Whole []) ≡ w
followed_none (Whole t) = ap Whole (append-nil t)
followed_none (Broken t) = refl

-- ---- what goes too far

overruns_first : {Z : Type 0} {a : List ℕ} {start : ℕ} {s t : String Z} (b : List ℕ) → Overruns a start s t → Overruns (a ++ b) start s t
overruns_first b p = record {
  part = p.part;
  rest = p.rest ++ b;
  is = ap (λ x. x ++ b) p.is ∙ append_assoc p.part p.rest b;
  added = p.added;
  past = p.past;
}

overruns_next : {Z : Type 0} {a b : List ℕ} {start : ℕ} {s t u : String Z} → Adds a s t → Overruns b start t u → Overruns (a ++ b) start s u
overruns_next {a = a} p q = record {
  part = a ++ q.part;
  rest = q.rest;
  is = ap (λ x. a ++ x) q.is ∙ sym (append_assoc a q.part q.rest);
  added = adds_more p q.added;
  past = q.past;
}

overruns_as : {Z : Type 0} {a b : List ℕ} {start : ℕ} {s t : String Z} → a ≡ b → Overruns a start s t → Overruns b start s t
overruns_as {start = start} {s = s} {t = t} e p = subst (λ x. Overruns x start s t) e p

-- ---- one after the other

-- a text was added, and then what stands after it
pub puts_after : {Z : Type 0} (V : Type 0) (t : Text) (b : Written) (start : ℕ) (x y z : String Z) (r : Result V Fault) → Adds (encode_utf8_all t) x y → Puts {U = V} b start y z r → Puts {U = V} (after t b) start x z r
puts_after V t b start x y z (Ok v) p q = (t ++ q.0, ap (after t) q.1, adds_as (sym (encodes-append t q.0)) (adds_more p q.2))
puts_after V t b start x y z (Err NoMemory) p q = lacks_as (sym (spelled_after t b)) (lacks_next p q)
puts_after V t b start x y z (Err (Raises TooDeep)) p q = (t ++ q.0, ap (after t) q.1, adds_as (sym (encodes-append t q.0)) (adds_more p q.2))
puts_after V t b start x y z (Err (Raises TooLong)) p q = overruns_as (sym (spelled_after t b)) (overruns_next p q)
puts_after V t b start x y z (Err (Raises (Arithmetic k))) p q = q
puts_after V t b start x y z (Err (Raises WrongType)) p q = q
puts_after V t b start x y z (Err (Raises NotCallable)) p q = q
puts_after V t b start x y z (Err (Raises WrongArguments)) p q = q
puts_after V t b start x y z (Err (Raises NoneActive)) p q = q
puts_after V t b start x y z (Err (Raises Outside)) p q = q
puts_after V t b start x y z (Err (Raises SizeChanged)) p q = q
puts_after V t b start x y z (Err (Raises (NotDefined n))) p q = q
puts_after V t b start x y z (Err (Raises (NotBound n))) p q = q
puts_after V t b start x y z (Err (Raises (NoAttribute n))) p q = q
puts_after V t b start x y z (Err (Raises (Refused n))) p q = q

-- it was written whole, and then what follows
pub puts_next : {Z : Type 0} (U V : Type 0) (a b : Written) (start : ℕ) (x y z : String Z) (u : U) (r : Result V Fault) → Puts {U = U} a start x y (Ok u) → Puts {U = V} b start y z r → Puts {U = V} (followed a b) start x z r
puts_next U V a b start x y z u r p q = subst (λ w. Puts {U = V} (followed w b) start x z r) (sym p.1) (puts_after V p.0 b start x y z r p.2 q)

-- it was not written whole, whatever follows
pub puts_ends : {Z : Type 0} (U V : Type 0) (a b : Written) (start : ℕ) (x y : String Z) (f : Fault) → Puts {U = U} a start x y (Err f) → Puts {U = V} (followed a b) start x y (Err f)
puts_ends U V a b start x y NoMemory p = let f = in_front a b in lacks_as (sym f.1) (lacks_first f.0 p)
puts_ends U V a b start x y (Raises TooDeep) p = (p.0, ap (λ w. followed w b) p.1, p.2)
puts_ends U V a b start x y (Raises TooLong) p = let f = in_front a b in overruns_as (sym f.1) (overruns_first f.0 p)
puts_ends U V a b start x y (Raises (Arithmetic k)) p = p
puts_ends U V a b start x y (Raises WrongType) p = p
puts_ends U V a b start x y (Raises NotCallable) p = p
puts_ends U V a b start x y (Raises WrongArguments) p = p
puts_ends U V a b start x y (Raises NoneActive) p = p
puts_ends U V a b start x y (Raises Outside) p = p
puts_ends U V a b start x y (Raises SizeChanged) p = p
puts_ends U V a b start x y (Raises (NotDefined n)) p = p
puts_ends U V a b start x y (Raises (NotBound n)) p = p
puts_ends U V a b start x y (Raises (NoAttribute n)) p = p
puts_ends U V a b start x y (Raises (Refused n)) p = p

-- ---- its length

length_encodes : (cs : List ℕ) → length (encode_utf8_all cs) ≤ 4 * length cs
length_encodes [] = omega arith
length_encodes (c ∷ cs) = omega (arith, length_encodes cs, length-append (encode_utf8 c) (encode_utf8_all cs), length-encode c, (len_utf8_bounds c).1)

written_long : (w : Written) → nat_lt max_length (length (text_written w)) ≡ true → written w ≡ Err OverflowError
written_long (Whole t) e = ap (λ b. cond b (Err OverflowError) (Ok t)) e
written_long (Broken t) e = ap (λ b. cond b (Err OverflowError) (Err RecursionError)) e

-- what goes past all strs is too long
over_all : {Z : Type 0} (w : Written) (start : ℕ) (s t : String Z) → start ≡ length (string_bytes s) → Overruns (spelled w) start s t → written w ≡ Err OverflowError
over_all w start s t e p =
    let all = ap length p.is in
    let parts = length-append p.part p.rest in
    let now = ap length p.added.bytes in
    let more = length-append (string_bytes s) p.part in
    let long : max_length < length (text_written w) = omega (arith, e, all, parts, now, more, p.past, length_encodes (text_written w)) in
    written_long w (lt-ltb _ _ long)

-- by its length it is too long, or written whole, or too deep
pub judged : {Z : Type 0} (w : Written) (start : ℕ) (s t : String Z) (long : Bool) (r q : Result (Unit {0}) Fault) → start ≡ length (string_bytes s) → Puts {U = Unit {0}} w start s t r → long ≡ nat_lt max_length (length (characters_of (drop start (string_bytes t)))) → q ≡ judged_by long r → Writes {U = Unit {0}} (written w) (spelled w) s t q
judged {Z = Z} w start s t long r q e p h is = subst (λ x. Writes {U = Unit {0}} (written w) (spelled w) s t x) (sym is) (by r long p h)
  where
    counted : (u : Text) (long : Bool) → Adds (encode_utf8_all u) s t → long ≡ nat_lt max_length (length (characters_of (drop start (string_bytes t)))) → nat_lt max_length (length u) ≡ long
    counted u long a h = ap (λ x. nat_lt max_length (length x)) (sym (text_at s t u start e a.bytes)) ∙ sym h

    by : (r : Result (Unit {0}) Fault) (long : Bool) → Puts {U = Unit {0}} w start s t r → long ≡ nat_lt max_length (length (characters_of (drop start (string_bytes t)))) → Writes {U = Unit {0}} (written w) (spelled w) s t (judged_by long r)
    by (Err NoMemory) long p h = p
    by (Ok u) true p h = (ap written p.1 ∙ ap (λ b. cond b (Err OverflowError) (Ok p.0)) (counted p.0 true p.2 h), begins_adds p.2)
    by (Ok u) false p h = (p.0, ap written p.1 ∙ ap (λ b. cond b (Err OverflowError) (Ok p.0)) (counted p.0 false p.2 h), p.2)
    by (Err (Raises TooDeep)) true p h = (ap written p.1 ∙ ap (λ b. cond b (Err OverflowError) (Err RecursionError)) (counted p.0 true p.2 h), begins_adds p.2)
    by (Err (Raises TooDeep)) false p h = (ap written p.1 ∙ ap (λ b. cond b (Err OverflowError) (Err RecursionError)) (counted p.0 false p.2 h), begins_adds p.2)
    by (Err (Raises TooLong)) true p h = (over_all w start s t e p, begins_adds p.added)
    by (Err (Raises TooLong)) false p h = (over_all w start s t e p, begins_adds p.added)
    by (Err (Raises (Arithmetic k))) long p h = absurd p
    by (Err (Raises WrongType)) long p h = absurd p
    by (Err (Raises NotCallable)) long p h = absurd p
    by (Err (Raises WrongArguments)) long p h = absurd p
    by (Err (Raises NoneActive)) long p h = absurd p
    by (Err (Raises Outside)) long p h = absurd p
    by (Err (Raises SizeChanged)) long p h = absurd p
    by (Err (Raises (NotDefined n))) long p h = absurd p
    by (Err (Raises (NotBound n))) long p h = absurd p
    by (Err (Raises (NoAttribute n))) long p h = absurd p
    by (Err (Raises (Refused n))) long p h = absurd p

-- what was put stands after what was there
pub begins_puts : {Z : Type 0} (U : Type 0) (w : Written) (start : ℕ) (s t : String Z) (r : Result U Fault) → Puts {U = U} w start s t r → Begins s t
begins_puts U w start s t (Ok u) p = begins_adds p.2
begins_puts U w start s t (Err NoMemory) p = p.part
begins_puts U w start s t (Err (Raises TooDeep)) p = begins_adds p.2
begins_puts U w start s t (Err (Raises TooLong)) p = begins_adds p.added
begins_puts U w start s t (Err (Raises (Arithmetic k))) p = absurd p
begins_puts U w start s t (Err (Raises WrongType)) p = absurd p
begins_puts U w start s t (Err (Raises NotCallable)) p = absurd p
begins_puts U w start s t (Err (Raises WrongArguments)) p = absurd p
begins_puts U w start s t (Err (Raises NoneActive)) p = absurd p
begins_puts U w start s t (Err (Raises Outside)) p = absurd p
begins_puts U w start s t (Err (Raises SizeChanged)) p = absurd p
begins_puts U w start s t (Err (Raises (NotDefined n))) p = absurd p
begins_puts U w start s t (Err (Raises (NotBound n))) p = absurd p
begins_puts U w start s t (Err (Raises (NoAttribute n))) p = absurd p
begins_puts U w start s t (Err (Raises (Refused n))) p = absurd p

-- ---- pieces and rows

pub whole_put : {Z : Type 0} (t : Text) {bs : List ℕ} (start : ℕ) (x y : String Z) → bs ≡ encode_utf8_all t → Adds bs x y → Puts {U = Unit {0}} (Whole t) start x y (Ok tt)
whole_put t start x y e p = (t, refl, adds_as e p)

pub whole_lacks : {Z : Type 0} (t : Text) {bs : List ℕ} (start : ℕ) (x y : String Z) → bs ≡ encode_utf8_all t → Lacks bs x y → Puts {U = Unit {0}} (Whole t) start x y (Err NoMemory)
whole_lacks t start x y e p = lacks_as e p

-- there is no room for what opens a row
pub row_lacks : {Z : Type 0} (opening : Text) (w : Written) (closing : Text) {bs : List ℕ} (start : ℕ) (x y : String Z) → bs ≡ encode_utf8_all opening → Lacks bs x y → Puts {U = Unit {0}} (between opening w closing) start x y (Err NoMemory)
row_lacks opening w closing start x y e p = puts_ends (Unit {0}) (Unit {0}) (Whole opening) (followed w (Whole closing)) start x y NoMemory (whole_lacks opening start x y e p)

-- the row is not written whole
pub row_breaks : {Z : Type 0} (opening : Text) (w : Written) (closing : Text) {bs : List ℕ} (start : ℕ) (x y z : String Z) (f : Fault) → bs ≡ encode_utf8_all opening → Adds bs x y → Puts {U = Unit {0}} w start y z (Err f) → Puts {U = Unit {0}} (between opening w closing) start x z (Err f)
row_breaks opening w closing start x y z f e p q = puts_after (Unit {0}) opening (followed w (Whole closing)) start x y z (Err f) (adds_as e p) (puts_ends (Unit {0}) (Unit {0}) w (Whole closing) start y z f q)

-- it is, and what closes it is put after it, or there is no room for that
pub row_closes : {Z : Type 0} (opening : Text) (w : Written) (closing : Text) {bs : List ℕ} (start : ℕ) (x y z s : String Z) (u : Unit {0}) (r : Result (Unit {0}) Fault) → bs ≡ encode_utf8_all opening → Adds bs x y → Puts {U = Unit {0}} w start y z (Ok u) → Puts {U = Unit {0}} (Whole closing) start z s r → Puts {U = Unit {0}} (between opening w closing) start x s r
row_closes opening w closing start x y z s u r e p q h = puts_after (Unit {0}) opening (followed w (Whole closing)) start x y s r (adds_as e p) (puts_next (Unit {0}) (Unit {0}) w (Whole closing) start y z s u r q h)

-- what is put after the rest, is after all
abbrev pub Leads : {Z : Type 0} → Written → Written → ℕ → String Z → String Z → Type 0
Leads {Z = Z} rest all start now first = (s : String Z) (r : Result (Unit {0}) Fault) → Puts {U = Unit {0}} rest start now s r → Puts {U = Unit {0}} all start first s r

-- more bytes than any str has stand there
pub past_all : {Z : Type 0} (w : Written) (start : ℕ) (s : String Z) (past : Bool) → past ≡ nat_lt (start + max_bytes) (length (string_bytes s)) → past ≡ true → Puts {U = Unit {0}} w start s s (Err (Raises TooLong))
past_all w start s past e h = record { part = []; rest = spelled w; is = refl; added = adds_none s; past = ltb-true _ _ (sym e ∙ h) }
