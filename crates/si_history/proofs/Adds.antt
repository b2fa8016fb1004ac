-- Texts that are written one after another.
use Rattle.std.proofs.Common.{◌≡◌, ℕ, zero, suc, ◌+◌, ◌<◌, Bool, true, false, ◌&&◌, List, [], ◌∷◌, ◌++◌, length, take, get_or, flat_map, nat_lt, encode_utf8_all, sym, ap, ap₂, subst, ◌∙◌, refl, append_assoc, append-nil, arith}
use Rattle.std.proofs.lemmas.Bool.{ltb-true}
use Rattle.std.proofs.lemmas.List.{take_more}
use Rattle.std.proofs.lemmas.List.Concat.{flat_map-append}
use Rattle.std.proofs.lemmas.Str.{encode_ascii, encodes-append}
use Rattle.si_semantics.specs.Value.{Text}
use Rattle.si_history.specs.inner.Adding.{Adds, is_ascii}

-- a text, and then another
pub adds_both : (a b c x y : List ℕ) → Adds a b x → Adds b c y → Adds a c (x ++ y)
adds_both a b c x y e f =
    f ∙ ap (λ l. l ++ encode_utf8_all y) e ∙ append_assoc a (encode_utf8_all x) (encode_utf8_all y) ∙ ap (λ l. a ++ l) (sym (encodes-append x y))

both : (a b : Bool) → (a && b) ≡ true → (a ≡ true) × (b ≡ true)
both true b e = (refl, e)
both false b e = absurd cc

-- ASCII is its own bytes
pub own_bytes : (cs : List ℕ) → is_ascii cs ≡ true → encode_utf8_all cs ≡ cs
own_bytes [] e = refl
own_bytes (c ∷ cs) e =
    let h = both (nat_lt c 128) (is_ascii cs) e in
    ap₂ (λ x y. x ++ y) (encode_ascii c (ltb-true c 128 h.0)) (own_bytes cs h.1)

get_same : (xs : List ℕ) (i x y : ℕ) → i < length xs → get_or xs i x ≡ get_or xs i y
get_same [] i x y h = absurd (omega arith)
get_same (t ∷ ts) zero x y h = refl
get_same (t ∷ ts) (suc i) x y h = get_same ts i x y (omega arith)

-- the piece of one more item
pub adds_piece :
    {X : Type 0} (f : X → Text) (xs : List X) (i : ℕ) (x : X) (a b c : List ℕ) → i < length xs → x ≡ get_or xs i x
    → Adds a b (flat_map f (take i xs)) → Adds b c (f x) → Adds a c (flat_map f (take (i + 1) xs))
adds_piece f xs i x a b c l e g h =
    let last : List ℕ = f (get_or xs i x) in
    let all : flat_map f (take (i + 1) xs) ≡ flat_map f (take i xs) ++ last =
    ap (flat_map f) (take_more xs i x l) ∙ flat_map-append f (take i xs) (get_or xs i x ∷ []) ∙ ap (λ y. flat_map f (take i xs) ++ y) (append-nil last) in
    subst (Adds a c) (sym all) (adds_both a b c (flat_map f (take i xs)) last g (subst (Adds b c) (ap f e) h))

-- the same for numbers
pub adds_number :
    (f : ℕ → Text) (xs : List ℕ) (i x : ℕ) (a b c : List ℕ) → i < length xs → x ≡ get_or xs i 0
    → Adds a b (flat_map f (take i xs)) → Adds b c (f x) → Adds a c (flat_map f (take (i + 1) xs))
adds_number f xs i x a b c l e g h = adds_piece f xs i x a b c l (e ∙ get_same xs i 0 x l) g h
