-- What is written of each value, by what is shown of it.
use Rattle.std.proofs.Common.{◌≡◌, ◌≢◌, ℕ, zero, suc, ◌+◌, ◌-◌, ◌<◌, ◌≤◌, List, [], ◌∷◌, ◌++◌, length, drop, get_or, Bool, true, false, cond, Option, Some, None, encode_utf8_all, slice_get, refl, sym, ap, subst, ◌∙◌, arith, append_assoc, drop-cons}
use Rattle.std.specs.Prelude.{codes}
use Rattle.std.proofs.lemmas.List.{drop_all}
use Rattle.std.proofs.lemmas.Str.{encodes-append}
use Rattle.si_plain.specs.declared.kind.Kind.{Kind}
use Rattle.si_plain.specs.declared.kind.Kind.TheVariants as kind
use Rattle.si_plain.specs.Kinds.{name_of}
use Rattle.si_semantics.specs.Value as pure
use Rattle.si_semantics.specs.Opened.{Atom, opened, opened_at}
use Rattle.si_semantics.specs.Text.{Written, Whole, Broken, after, followed, between, rest_by, items_by, tuple_end, is_inside, unless_inside, repr_of, str_opened, str_exception, str_of, repr_atom, repr_text}
use Rattle.si_arena.specs.declared.value.Ref.{Ref}
use Rattle.si_arena.specs.declared.view.View.{View}
use Rattle.si_arena.specs.declared.view.View.TheVariants as view
use Rattle.si_arena.specs.declared.cause.Cause.{Cause}
use Rattle.si_arena.specs.declared.object.Object.{Object}
use Rattle.si_arena.specs.declared.object.Object.TheVariants.{Bare, Made, Caused, Thread, Started}
use Rattle.si_arena.specs.Causes.{kind_of, message_of, CauseLies}
use Rattle.si_arena.specs.Memory.{Memory, value_of, all_of, object_of, Lies, ObjectLies}
use Rattle.si_arena.specs.Views.{value_in}
use Rattle.si_ops.specs.Writing.{caused_str}
use Rattle.si_ops.specs.inner.Written.{repr_within, str_within}
use Rattle.si_ops.proofs.Puts.{followed_none}
use Rattle.si_ops.proofs.Spelling.{name_is}

-- ---- what lies

pub argument_lies : (m : Memory) (o : Object) (k : Kind) (u : Ref) → o ≡ Made k u → ObjectLies m o → Lies m u
argument_lies m o k u e h = subst (ObjectLies m) e h

pub cause_lies : (m : Memory) (o : Object) (c : Cause) → o ≡ Caused c → ObjectLies m o → CauseLies m.names c
cause_lies m o c e h = subst (ObjectLies m) e h

-- ---- by what is opened

-- one equation for both cases of the levels
pub repr_split : (n : ℕ) (store : List pure.Object) (inside : List ℕ) (v : pure.Value) → repr_of n store inside v ≡ repr_within n store inside (opened store v)
repr_split zero store inside v = refl
repr_split (suc n) store inside v = refl

-- of an object, by what is at its address
pub repr_at : (n : ℕ) (store : List pure.Object) (inside : List ℕ) (x : ℕ) (o : pure.Object) → slice_get store x ≡ Some o → repr_of n store inside (pure.Address x) ≡ repr_within n store inside (opened_at x (Some o))
repr_at n store inside x o at = repr_split n store inside (pure.Address x) ∙ ap (λ p. repr_within n store inside (opened_at x p)) at

pub str_at : (n : ℕ) (store : List pure.Object) (x : ℕ) (o : pure.Object) → slice_get store x ≡ Some o → str_of (suc n) store (pure.Address x) ≡ str_within n store (opened_at x (Some o))
str_at n store x o at = ap (λ p. str_within n store (opened_at x p)) at

-- ---- values that hold none

-- the repr of an atom, at any depth
repr_atomic : (n : ℕ) (store : List pure.Object) (inside : List ℕ) (v : pure.Value) → opened store v ≡ Atom v → repr_of n store inside v ≡ Whole (repr_atom v)
repr_atomic n store inside v e = repr_split n store inside v ∙ ap (repr_within n store inside) e

repr_own : (n : ℕ) (store : List pure.Object) (inside : List ℕ) (s : pure.Text) → repr_of n store inside (pure.Str s) ≡ Whole (repr_text s)
repr_own n store inside s = repr_atomic n store inside (pure.Str s) refl

pub str_own : (n : ℕ) (store : List pure.Object) (s : pure.Text) → str_of n store (pure.Str s) ≡ Whole s
str_own zero store s = refl
str_own (suc n) store s = refl

-- ---- tuples

items_back : (vs : List pure.Value) → pure.items_of (pure.values_of vs) ≡ vs
items_back [] = refl
items_back (v ∷ vs) = ap (λ ws. v ∷ ws) (items_back vs)

pub repr_tuple : (n : ℕ) (store : List pure.Object) (inside : List ℕ) (vs : List pure.Value) → repr_of (suc n) store inside (pure.tuple_of vs) ≡ between (codes "(") (items_by (repr_of n store inside) vs) (tuple_end vs)
repr_tuple n store inside vs = ap (λ ws. between (codes "(") (items_by (repr_of n store inside) ws) (tuple_end ws)) (items_back vs)

-- a tuple where nothing may be within it
pub tuple_bottom : (n : ℕ) (store : List pure.Object) (inside : List ℕ) (vs : List pure.Value) (v : pure.Value) → n ≡ 0 → pure.tuple_of vs ≡ v → repr_of n store inside v ≡ Broken []
tuple_bottom n store inside vs v e h = ap (λ k. repr_of k store inside v) e ∙ ap (repr_of 0 store inside) (sym h)

-- ---- views

-- what is shown holds no values
atomic : (m : Memory) (v : View) → ((xs : _) → v ≢ view.Tuple xs) → ((x : ℕ) → v ≢ view.Object x) → opened m.store (value_in m v) ≡ Atom (value_in m v)
atomic m (view.Tuple xs) p q = absurd (p xs refl)
atomic m (view.Object x) p q = absurd (q x refl)
atomic m _ p q = refl

pub repr_shown : (n : ℕ) (m : Memory) (inside : List ℕ) (v : View) (r : Ref) → ((xs : _) → v ≢ view.Tuple xs) → ((x : ℕ) → v ≢ view.Object x) → value_in m v ≡ value_of m r → repr_of n m.store inside (value_of m r) ≡ Whole (repr_atom (value_in m v))
repr_shown n m inside v r p q e = ap (repr_of n m.store inside) (sym e) ∙ repr_atomic n m.store inside (value_in m v) (atomic m v p q)

less : (n : ℕ) → n ≢ 0 → suc (n - 1) ≡ n
less n h = omega arith

-- a level further down
pub repr_deeper : (n : ℕ) (store : List pure.Object) (inside : List ℕ) (u v : pure.Value) → n ≢ 0 → u ≡ v → repr_of (suc (n - 1)) store inside u ≡ repr_of n store inside v
repr_deeper n store inside u v h e = ap (λ k. repr_of k store inside u) (less n h) ∙ ap (repr_of n store inside) e

pub str_deeper : (n : ℕ) (store : List pure.Object) (u v : pure.Value) → n ≢ 0 → u ≡ v → str_of (suc (n - 1)) store u ≡ str_of n store v
str_deeper n store u v h e = ap (λ k. str_of k store u) (less n h) ∙ ap (str_of n store) e

-- ---- pieces

pub comma_is : codes ", " ≡ encode_utf8_all (codes ", ")
unfolding lib.Utf8.encode
comma_is = refl

pub opening_is : codes "(" ≡ encode_utf8_all (codes "(")
unfolding lib.Utf8.encode
opening_is = refl

pub closing_is : codes ")" ≡ encode_utf8_all (codes ")")
unfolding lib.Utf8.encode
closing_is = refl

pub bracket_is : codes "[" ≡ encode_utf8_all (codes "[")
unfolding lib.Utf8.encode
bracket_is = refl

pub end_bracket_is : codes "]" ≡ encode_utf8_all (codes "]")
unfolding lib.Utf8.encode
end_bracket_is = refl

pub list_again_is : codes "[...]" ≡ encode_utf8_all (codes "[...]")
unfolding lib.Utf8.encode
list_again_is = refl

pub brace_is : codes "{" ≡ encode_utf8_all (codes "{")
unfolding lib.Utf8.encode
brace_is = refl

pub end_brace_is : codes "}" ≡ encode_utf8_all (codes "}")
unfolding lib.Utf8.encode
end_brace_is = refl

pub dict_again_is : codes "{...}" ≡ encode_utf8_all (codes "{...}")
unfolding lib.Utf8.encode
dict_again_is = refl

pub colon_is : codes ": " ≡ encode_utf8_all (codes ": ")
unfolding lib.Utf8.encode
colon_is = refl

pub thread_is : codes "<Thread>" ≡ encode_utf8_all (codes "<Thread>")
unfolding lib.Utf8.encode
thread_is = refl

-- what stands after the items of a tuple
pub end_is : (vs : List pure.Value) → tuple_end vs ≡ encode_utf8_all (tuple_end vs)
unfolding lib.Utf8.encode
end_is [] = refl
end_is (v ∷ []) = refl
end_is (v ∷ w ∷ vs) = refl

-- a kind and an opening bracket
pub kind_opens : (k : Kind) → name_of k ++ codes "(" ≡ encode_utf8_all (name_of k ++ codes "(")
unfolding lib.Utf8.encode
kind_opens k = ap (λ x. x ++ codes "(") (name_is k) ∙ sym (encodes-append (name_of k) (codes "("))

-- ---- values in a row

-- those from one on
all_left : (m : Memory) (rs : List Ref) (i : ℕ) (r : Ref) → i < length rs → r ≡ get_or rs i r → all_of m (drop i rs) ≡ value_of m r ∷ all_of m (drop (i + 1) rs)
all_left m rs i r l e =
    let next : suc i ≡ i + 1 = omega arith in
    ap (all_of m) (drop-cons rs i r l) ∙ ap (λ x. value_of m x ∷ all_of m (drop (suc i) rs)) (sym e) ∙ ap (λ k. value_of m r ∷ all_of m (drop k rs)) next

pub rest_left : (f : pure.Value → Written) (m : Memory) (rs : List Ref) (i : ℕ) (r : Ref) → i < length rs → r ≡ get_or rs i r → rest_by f (all_of m (drop i rs)) ≡ after (codes ", ") (followed (f (value_of m r)) (rest_by f (all_of m (drop (i + 1) rs))))
rest_left f m rs i r l e = ap (rest_by f) (all_left m rs i r l e)

-- none are left
pub none_left : (f : pure.Value → Written) (m : Memory) (rs : List Ref) (i : ℕ) → length rs ≤ i → Whole [] ≡ rest_by f (all_of m (drop i rs))
none_left f m rs i l = ap (λ x. rest_by f (all_of m x)) (sym (drop_all i rs l))

-- ---- exceptions, by what they are made of

pub bare_made : (n : ℕ) (m : Memory) (inside : List ℕ) (k : Kind) (x : ℕ) → repr_within (suc n) m.store inside (opened_at x (Some (object_of m (Bare k)))) ≡ Whole ((name_of k ++ codes "(") ++ codes ")")
bare_made n m inside k x = refl

pub argument_made : (n : ℕ) (m : Memory) (inside : List ℕ) (k : Kind) (u : Ref) (x : ℕ) → repr_within (suc n) m.store inside (opened_at x (Some (object_of m (Made k u)))) ≡ between (name_of k ++ codes "(") (repr_of n m.store inside (value_of m u)) (codes ")")
argument_made n m inside k u x = ap (λ w. between (name_of k ++ codes "(") w (codes ")")) (followed_none (repr_of n m.store inside (value_of m u)))

pub caused_made : (n : ℕ) (m : Memory) (inside : List ℕ) (c : Cause) (x : ℕ) → repr_within (suc n) m.store inside (opened_at x (Some (object_of m (Caused c)))) ≡ Whole ((name_of (kind_of c) ++ codes "(") ++ (repr_text (message_of m.names c) ++ codes ")"))
caused_made n m inside c x =
    let k = kind_of c in
    let s = message_of m.names c in
    ap (λ w. between (name_of k ++ codes "(") w (codes ")")) (followed_none (repr_of n m.store inside (pure.Str s)) ∙ repr_own n m.store inside s)

pub bare_is : (k : Kind) → name_of k ++ codes "()" ≡ encode_utf8_all ((name_of k ++ codes "(") ++ codes ")")
unfolding lib.Utf8.encode
bare_is k = ap (λ x. x ++ codes "()") (name_is k) ∙ sym (encodes-append (name_of k) (codes "()")) ∙ ap encode_utf8_all (sym (append_assoc (name_of k) (codes "(") (codes ")")))

pub caused_is : (k : Kind) (t : pure.Text) → name_of k ++ (codes "(" ++ (encode_utf8_all t ++ codes ")")) ≡ encode_utf8_all ((name_of k ++ codes "(") ++ (t ++ codes ")"))
unfolding lib.Utf8.encode
caused_is k t =
    ap (λ x. x ++ (codes "(" ++ (encode_utf8_all t ++ codes ")"))) (name_is k)
    ∙ ap (λ x. encode_utf8_all (name_of k) ++ (codes "(" ++ x)) (sym (encodes-append t (codes ")")))
    ∙ sym (encodes-append (name_of k) (codes "(" ++ (t ++ codes ")")))
    ∙ ap encode_utf8_all (sym (append_assoc (name_of k) (codes "(") (t ++ codes ")")))

-- ---- what is inside itself

pub short_inside : (x : ℕ) (inside : List ℕ) (t : pure.Text) (w : Written) (b : Bool) → b ≡ is_inside x inside → b ≡ true → unless_inside x inside t w ≡ Whole t
short_inside x inside t w b e h = ap (λ c. cond c (Whole t) w) (sym e ∙ h)

pub not_inside : (x : ℕ) (inside : List ℕ) (t : pure.Text) (w : Written) (b : Bool) → b ≡ is_inside x inside → b ≡ false → unless_inside x inside t w ≡ w
not_inside x inside t w b e h = ap (λ c. cond c (Whole t) w) (sym e ∙ h)

-- ---- the str

unlike : (m : Memory) (v : View) (exception : Kind → Option pure.Value → Written) (w : Written) → ((s : _) → v ≢ view.Str s) → ((x : ℕ) → v ≢ view.Object x) → str_opened exception w (opened m.store (value_in m v)) ≡ w
unlike m (view.Str s) f w p q = absurd (p s refl)
unlike m (view.Object x) f w p q = absurd (q x refl)
unlike m _ f w p q = refl

-- of what is shown and is neither a str nor an object it is the repr
str_is_repr : (n : ℕ) (m : Memory) (v : View) → ((s : _) → v ≢ view.Str s) → ((x : ℕ) → v ≢ view.Object x) → repr_of n m.store [] (value_in m v) ≡ str_of n m.store (value_in m v)
str_is_repr zero m v p q = sym (unlike m v (λ k a. Broken []) (repr_of zero m.store [] (value_in m v)) p q)
str_is_repr (suc n) m v p q = sym (unlike m v (str_exception (repr_of n m.store []) (str_of n m.store)) (repr_of (suc n) m.store [] (value_in m v)) p q)

pub str_shown : (n : ℕ) (m : Memory) (v : View) (r : Ref) → ((s : _) → v ≢ view.Str s) → ((x : ℕ) → v ≢ view.Object x) → value_in m v ≡ value_of m r → repr_of n m.store [] (value_of m r) ≡ str_of n m.store (value_of m r)
str_shown n m v r p q e = ap (repr_of n m.store []) (sym e) ∙ str_is_repr n m v p q ∙ ap (str_of n m.store) e

-- where nothing may be within an object, its str is its repr
none_at : (x : ℕ) (o : Option pure.Object) (store : List pure.Object) → str_opened (λ k a. Broken []) (repr_within 0 store [] (opened_at x o)) (opened_at x o) ≡ repr_within 0 store [] (opened_at x o)
none_at x None store = refl
none_at x (Some (pure.Items vs)) store = refl
none_at x (Some (pure.Pairs ps)) store = refl
none_at x (Some (pure.Exception k a)) store = refl
none_at x (Some (pure.Thread i t)) store = refl
none_at x (Some (pure.Started r)) store = refl

pub repr_bottom : (n : ℕ) (store : List pure.Object) (inside : List ℕ) (x : ℕ) (v : pure.Value) → n ≡ 0 → pure.Address x ≡ v → repr_of 0 store inside (pure.Address x) ≡ repr_of n store inside v
repr_bottom n store inside x v e h = ap (repr_of 0 store inside) h ∙ ap (λ k. repr_of k store inside v) (sym e)

pub str_bottom : (n : ℕ) (store : List pure.Object) (x : ℕ) (v : pure.Value) → n ≡ 0 → pure.Address x ≡ v → repr_of 0 store [] (pure.Address x) ≡ str_of n store v
str_bottom n store x v e h = sym (none_at x (slice_get store x) store) ∙ ap (str_of 0 store) h ∙ ap (λ k. str_of k store v) (sym e)

-- what is no thread can't be written where nothing may be within it
pub too_deep_at : (m : Memory) (store : List pure.Object) (inside : List ℕ) (x : ℕ) (o : Object) → ((i : ℕ) (r : Ref) → o ≢ Thread i r) → ((r : ℕ) → o ≢ Started r) → repr_within 0 store inside (opened_at x (Some (object_of m o))) ≡ Broken []
too_deep_at m store inside x (Thread i r) p q = absurd (p i r refl)
too_deep_at m store inside x (Started r) p q = absurd (q r refl)
too_deep_at m store inside x _ p q = refl

-- the str of an exception that an operation raised
caused_by : (repr str : pure.Value → Written) (k : Kind) (s : pure.Text) → repr (pure.Str s) ≡ Whole (repr_text s) → str (pure.Str s) ≡ Whole s → str_exception repr str k (Some (pure.Str s)) ≡ Whole (caused_str k s)
caused_by repr str kind.BaseException s e h = h
caused_by repr str kind.Exception s e h = h
caused_by repr str kind.ArithmeticError s e h = h
caused_by repr str kind.OverflowError s e h = h
caused_by repr str kind.ZeroDivisionError s e h = h
caused_by repr str kind.AttributeError s e h = h
caused_by repr str kind.LookupError s e h = h
caused_by repr str kind.IndexError s e h = h
caused_by repr str kind.KeyError s e h = e
caused_by repr str kind.NameError s e h = h
caused_by repr str kind.UnboundLocalError s e h = h
caused_by repr str kind.RuntimeError s e h = h
caused_by repr str kind.RecursionError s e h = h
caused_by repr str kind.SyntaxError s e h = h
caused_by repr str kind.TypeError s e h = h
caused_by repr str kind.NotShareableError s e h = h
caused_by repr str kind.ValueError s e h = h
caused_by repr str kind.InterpreterError s e h = h
caused_by repr str kind.InterpreterNotFoundError s e h = h
caused_by repr str kind.ExecutionFailed s e h = h
caused_by repr str kind.QueueEmpty s e h = h
caused_by repr str kind.QueueFull s e h = h

pub str_caused : (n : ℕ) (m : Memory) (c : Cause) (x : ℕ) → str_within n m.store (opened_at x (Some (object_of m (Caused c)))) ≡ Whole (caused_str (kind_of c) (message_of m.names c))
str_caused n m c x =
    let s = message_of m.names c in
    caused_by (repr_of n m.store []) (str_of n m.store) (kind_of c) s (repr_own n m.store [] s) (str_own n m.store s)

-- the str of an exception with an argument: of a KeyError the repr of that
pub str_of_other : (n : ℕ) (m : Memory) (k : Kind) (u : Ref) (x : ℕ) → k ≢ kind.KeyError → str_within n m.store (opened_at x (Some (object_of m (Made k u)))) ≡ str_of n m.store (value_of m u)
str_of_other n m kind.KeyError u x h = absurd (h refl)
str_of_other n m _ u x h = refl

-- ---- pairs

-- the first of a dict, and those after it
pub pairs_first : (f : pure.Key × pure.Value → Written) (ps : List (pure.Key × pure.Value)) (p : pure.Key × pure.Value) → slice_get ps 0 ≡ Some p → items_by f ps ≡ followed (f p) (rest_by f (drop 1 ps))
pairs_first f [] p e = absurd (cc)
pairs_first f (q ∷ qs) p e = let same : q ≡ p = cc in ap (λ z. followed (f z) (rest_by f qs)) same

pub pair_left : (f : pure.Key × pure.Value → Written) (ps : List (pure.Key × pure.Value)) (i : ℕ) (p : pure.Key × pure.Value) → slice_get ps i ≡ Some p → rest_by f (drop i ps) ≡ after (codes ", ") (followed (f p) (rest_by f (drop (i + 1) ps)))
pair_left f [] i p e = absurd (cc)
pair_left f (q ∷ qs) zero p e = let same : q ≡ p = cc in ap (λ z. after (codes ", ") (followed (f z) (rest_by f qs))) same
pair_left f (q ∷ qs) (suc i) p e =
    let next : suc (i + 1) ≡ suc i + 1 = omega arith in
    pair_left f qs i p e ∙ ap (λ k. after (codes ", ") (followed (f p) (rest_by f (drop k (q ∷ qs))))) next

pub no_pair_left : (f : pure.Key × pure.Value → Written) (ps : List (pure.Key × pure.Value)) (i : ℕ) → length ps ≤ i → Whole [] ≡ rest_by f (drop i ps)
no_pair_left f ps i l = ap (rest_by f) (sym (drop_all i ps l))
