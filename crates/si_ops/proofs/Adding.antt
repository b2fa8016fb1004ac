-- One piece and then another at the end of a String.
use Rattle.std.proofs.Common.{◌≡◌, ℕ, suc, ◌+◌, ◌<◌, ◌≤◌, List, [], ◌∷◌, ◌++◌, length, take, drop, get_or, flat_map, encode_utf8, encode_utf8_all, refl, sym, ap, subst, ◌∙◌, arith, append_assoc, append-nil, length-append, drop-cons, Result, Ok, Err, OnOk, OnErr}
use Rattle.std.proofs.lemmas.List.{take_more, take_all, take-append-drop}
use Rattle.std.proofs.lemmas.List.Concat.{flat_map-append}
use Rattle.std.proofs.lemmas.Str.{encodes-append}
use Rattle.std.specs.String.{string_bytes}
use Rattle.std.specs.declared.string.String.{String}
use Rattle.si_ops.specs.Writing.{Adds, Lacks}

pub adds_none : {Z : Type 0} (s : String Z) → Adds [] s s
adds_none s = record { bytes = sym (append-nil (string_bytes s)); len = omega arith; room = omega arith }

pub adds_more : {Z : Type 0} {a b : List ℕ} {s t u : String Z} → Adds a s t → Adds b t u → Adds (a ++ b) s u
adds_more {a = a} {b = b} {s = s} p q = record {
  bytes = q.bytes ∙ ap (λ x. x ++ b) p.bytes ∙ append_assoc (string_bytes s) a b;
  len = omega (arith, p.len, q.len, length-append a b);
  room = omega (arith, p.room, q.room);
}

pub lacks_first : {Z : Type 0} {a : List ℕ} {s t : String Z} (b : List ℕ) → Lacks a s t → Lacks (a ++ b) s t
lacks_first {a = a} b p = record { part = p.part; room = omega (arith, p.room, length-append a b) }

pub lacks_next : {Z : Type 0} {a b : List ℕ} {s t u : String Z} → Adds a s t → Lacks b t u → Lacks (a ++ b) s u
lacks_next {a = a} {b = b} {s = s} p q = record {
  part = (a ++ q.part.0, q.part.1 ∙ ap (λ x. x ++ q.part.0) p.bytes ∙ append_assoc (string_bytes s) a q.part.0);
  room = omega (arith, p.len, p.room, q.room, length-append a b);
}

pub adds_as : {Z : Type 0} {a b : List ℕ} {s t : String Z} → a ≡ b → Adds a s t → Adds b s t
adds_as {s = s} {t = t} e p = subst (λ x. Adds x s t) e p

pub lacks_as : {Z : Type 0} {a b : List ℕ} {s t : String Z} → a ≡ b → Lacks a s t → Lacks b s t
lacks_as {s = s} {t = t} e p = subst (λ x. Lacks x s t) e p

-- ---- pieces of characters, one after another

-- a text by its characters: what is written of two texts is what is written of one and then of the other
pub record Piecewise (g : List ℕ → List ℕ) : Type 0 where
  pub none : g [] ≡ []
  pub both : (xs ys : List ℕ) → g (xs ++ ys) ≡ g xs ++ g ys

pub encoded : Piecewise encode_utf8_all
encoded = record { none = refl; both = encodes-append }

pub escaped_in : (f : ℕ → List ℕ) → Piecewise (λ xs. encode_utf8_all (flat_map f xs))
escaped_in f = record { none = refl; both = λ xs ys. ap encode_utf8_all (flat_map-append f xs ys) ∙ encodes-append (flat_map f xs) (flat_map f ys) }

-- the characters so far, and the next
pub next_adds : {Z : Type 0} (g : List ℕ → List ℕ) (h : Piecewise g) (xs : List ℕ) (i d : ℕ) (piece : List ℕ) {s t u : String Z} → i < length xs → piece ≡ g (get_or xs i d ∷ []) → Adds (g (take i xs)) s t → Adds piece t u → Adds (g (take (i + 1) xs)) s u
next_adds g h xs i d piece l e p q =
    adds_as (ap (λ x. g (take i xs) ++ x) e ∙ sym (h.both (take i xs) (get_or xs i d ∷ [])) ∙ ap g (sym (take_more xs i d l))) (adds_more p q)

-- the next has no room
pub next_lacks : {Z : Type 0} (g : List ℕ → List ℕ) (h : Piecewise g) (xs : List ℕ) (i d : ℕ) (piece : List ℕ) {s t u : String Z} → i < length xs → piece ≡ g (get_or xs i d ∷ []) → Adds (g (take i xs)) s t → Lacks piece t u → Lacks (g xs) s u
next_lacks g h xs i d piece l e p q =
    let c = get_or xs i d in
    let rest = drop (suc i) xs in
    let whole : xs ≡ (take i xs ++ c ∷ []) ++ rest = sym (take-append-drop i xs) ∙ ap (λ x. take i xs ++ x) (drop-cons xs i d l) ∙ sym (append_assoc (take i xs) (c ∷ []) rest) in
    let parts : (g (take i xs) ++ piece) ++ g rest ≡ g xs =
    ap (λ x. (g (take i xs) ++ x) ++ g rest) e ∙ ap (λ x. x ++ g rest) (sym (h.both (take i xs) (c ∷ []))) ∙ sym (h.both (take i xs ++ c ∷ []) rest) ∙ ap g (sym whole) in
    lacks_as parts (lacks_first (g rest) (lacks_next p q))

-- all of them
pub all_added : {Z : Type 0} (g : List ℕ → List ℕ) (xs : List ℕ) (i : ℕ) {s t : String Z} → length xs ≤ i → Adds (g (take i xs)) s t → Adds (g xs) s t
all_added g xs i l p = adds_as (ap g (take_all i xs l)) p

pub encode_one : (c : ℕ) → encode_utf8 c ≡ encode_utf8_all (c ∷ [])
encode_one c = sym (append-nil (encode_utf8 c))

pub escape_one : (f : ℕ → List ℕ) (c : ℕ) → encode_utf8_all (f c) ≡ encode_utf8_all (flat_map f (c ∷ []))
escape_one f c = ap encode_utf8_all (sym (append-nil (f c)))

-- one more of a text whose characters come one by one
pub more_adds : {Z : Type 0} (g : List ℕ → List ℕ) (h : Piecewise g) (xs : List ℕ) (c : ℕ) (piece : List ℕ) {s t u : String Z} → piece ≡ g (c ∷ []) → Adds (g xs) s t → Adds piece t u → Adds (g (xs ++ c ∷ [])) s u
more_adds g h xs c piece e p q = adds_as (ap (λ x. g xs ++ x) e ∙ sym (h.both xs (c ∷ []))) (adds_more p q)

-- ---- clauses

pub on_ok : {T E : Type 0} (r : Result T E) (P : Type 0) → P → OnOk r P
on_ok (Ok x) P p = p
on_ok (Err e) P p = tt

pub on_err : {T E : Type 0} (r : Result T E) (P : Type 0) → P → OnErr r P
on_err (Ok x) P p = tt
on_err (Err e) P p = p

-- what is added, spelled otherwise
pub ok_as : {T E Z : Type 0} (r : Result T E) {a b : List ℕ} (s t : String Z) → a ≡ b → OnOk r (Adds a s t) → OnOk r (Adds b s t)
ok_as r s t e p = subst (λ x. OnOk r (Adds x s t)) e p

pub err_as : {T E Z : Type 0} (r : Result T E) {a b : List ℕ} (s t : String Z) → a ≡ b → OnErr r (Lacks a s t) → OnErr r (Lacks b s t)
err_as r s t e p = subst (λ x. OnErr r (Lacks x s t)) e p
