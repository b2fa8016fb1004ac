-- Which values are sent, and as which parcels.
use Rattle.std.proofs.Common.{◌≡◌, ℕ, zero, suc, ◌+◌, ◌<◌, ◌≤◌, Bool, true, false, cond, List, [], ◌∷◌, ◌++◌, length, drop, take, get_or, Option, Some, None, Result, Ok, Err, refl, sym, ap, ap₂, subst, ◌∙◌, arith, add-one}
use Rattle.std.specs.Prelude.{slice_get, IfOk, IfErr, IsErrAnd}
use Rattle.std.specs.declared.alloc.AllocError.{AllocError}
use Rattle.std.proofs.lemmas.List.{take_all}
use Rattle.si_plain.specs.declared.kind.Kind.{Kind}
use Rattle.si_plain.specs.declared.kind.Kind.TheVariants as kinds
use Rattle.si_semantics.specs.Value as pure
use Rattle.si_semantics.specs.Value.{Text, Value, Key}
use Rattle.si_semantics.specs.Parcels as tree
use Rattle.si_semantics.specs.Parcels.{Tree, Leaf, Group, IsParcel, is_parcel}
use Rattle.si_semantics.specs.Shareable.{parcel_of, within_limits, sent_as}
use Rattle.si_semantics.specs.Attributes.{parcels_by_name, as_pairs, paired}
use Rattle.si_arena.specs.declared.value.Ref.{Ref}
use Rattle.si_arena.specs.declared.cause.Fault.{Fault}
use Rattle.si_arena.specs.declared.cause.Fault.TheVariants.{Raises, NoMemory}
use Rattle.si_arena.specs.Memory.{Memory, value_of, all_of, key_meant, IsKey}
use Rattle.si_ops.proofs.Ends.{passed}
use Rattle.si_share.specs.declared.fault.ShareFault.{ShareFault}
use Rattle.si_share.specs.declared.fault.ShareFault.TheVariants as share
use Rattle.si_share.specs.Copies.{CopiesOut, TakesMemory}
use Rattle.si_methods.specs.Shown.{IsNoStr}
use Rattle.si_methods.specs.Needing.{IsBare, IsRaised}
use Rattle.si_methods.specs.Passing.{unsent_of, alone_of, paired_of, granted_of, IsSent, IsUnsent, AreSent}
use Rattle.si_methods.proofs.Kept.{is_within, within_is}

pub is_sent : (v : pure.Value) (p : Tree) → CopiesOut v (Ok p) → sent_as v ≡ Some p
is_sent v p h = ap within_limits h.0 ∙ ap (λ b. cond b (Some p) None) (within_is p h.1)

not_within : (p : Tree) (b : Bool) → is_parcel p ≡ b → (IsParcel p → ⊥) → is_parcel p ≡ false
not_within p true e h = absurd (h (is_within p e))
not_within p false e h = e

pub not_sent : (v : pure.Value) (f : ShareFault) → CopiesOut v (Err f) → IsSent v (Err (unsent_of f))
not_sent v share.NotShareable h = (ap within_limits h, refl)
not_sent v share.TooLarge h = (ap within_limits h.1 ∙ ap (λ b. cond b (Some h.0) None) (not_within h.0 (is_parcel h.0) refl h.2), refl)
not_sent v share.NoMemory h = (h.0, is_sent v h.0 (h.1, h.2), h.3)

-- ---- what is bare takes no memory

bare_parcel : (v : pure.Value) (p : Tree) → parcel_of v ≡ Some p → IsBare v → TakesMemory p → ⊥
bare_parcel v (Leaf tree.Nothing) e b t = t
bare_parcel v (Leaf (tree.Truth x)) e b t = t
bare_parcel v (Leaf (tree.Int n)) e b t = t
bare_parcel v (Leaf (tree.Queue q m)) e b t = t
bare_parcel (pure.Str s) p e b t = b
bare_parcel (pure.Bytes bs) p e b t = b
bare_parcel (pure.Tuple vs) p e b t = b
bare_parcel pure.Nothing (Leaf (tree.Str s)) e b t = absurd cc
bare_parcel pure.Nothing (Leaf (tree.Bytes s)) e b t = absurd cc
bare_parcel pure.Nothing (Group s ts) e b t = absurd cc
bare_parcel (pure.Truth x) (Leaf (tree.Str s)) e b t = absurd cc
bare_parcel (pure.Truth x) (Leaf (tree.Bytes s)) e b t = absurd cc
bare_parcel (pure.Truth x) (Group s ts) e b t = absurd cc
bare_parcel (pure.Int n) (Leaf (tree.Str s)) e b t = absurd cc
bare_parcel (pure.Int n) (Leaf (tree.Bytes s)) e b t = absurd cc
bare_parcel (pure.Int n) (Group s ts) e b t = absurd cc
bare_parcel (pure.Queue q m) (Leaf (tree.Str s)) e b t = absurd cc
bare_parcel (pure.Queue q m) (Leaf (tree.Bytes s)) e b t = absurd cc
bare_parcel (pure.Queue q m) (Group s ts) e b t = absurd cc
bare_parcel (pure.Provided x) p e b t = absurd cc
bare_parcel (pure.Function x n) p e b t = absurd cc
bare_parcel (pure.Range x y z) p e b t = absurd cc
bare_parcel (pure.Class k) p e b t = absurd cc
bare_parcel (pure.Module m) p e b t = absurd cc
bare_parcel (pure.Interpreter i) p e b t = absurd cc
bare_parcel (pure.Exec i) p e b t = absurd cc
bare_parcel (pure.Address x) p e b t = absurd cc

within_some : (o : Option Tree) (p : Tree) → within_limits o ≡ Some p → o ≡ Some p
within_some None p e = absurd cc
within_some (Some q) p e = by (is_parcel q) refl
  where
    by : (b : Bool) → is_parcel q ≡ b → Some q ≡ Some p
    by true f = sym (ap (λ c. cond c (Some q) None) f) ∙ e
    by false f = absurd (none_some (sym (ap (λ c. cond c (Some q) None) f) ∙ e))
      where
        none_some : ◌≡◌ {A = Option Tree} None (Some p) → ⊥
        none_some g = cc

-- for a bare value memory is never refused
pub bare_told : (v : pure.Value) → IsSent v (Err NoMemory) → IsBare v → ⊥
bare_told v h b = bare_parcel v h.0 (within_some (parcel_of v) h.0 h.1) b h.2

pub sent_told : (v : pure.Value) (f : Fault) → IsSent v (Err f) → IsBare v → IsRaised f
sent_told v (Raises cause) h b = tt
sent_told v NoMemory h b = absurd (bare_told v h b)

-- ---- pairs, one after the other

-- what comes first and what comes after it
abbrev pub chained : Result (List (Text × Tree)) Kind → Result (List (Text × Tree)) Kind → Result (List (Text × Tree)) Kind
chained (Ok cs) (Ok bs) = Ok (cs ++ bs)
chained (Ok cs) (Err k) = Err k
chained (Err k) r = Err k

none_first : (r : Result (List (Text × Tree)) Kind) → r ≡ chained (Ok []) r
none_first (Ok bs) = refl
none_first (Err k) = refl

-- the first pair, and those after it
abbrev after : Text → Option Tree → Result (List (Text × Tree)) Kind → Result (List (Text × Tree)) Kind
after x o r = elim o as (λ _. Result (List (Text × Tree)) Kind) [ None ↦ Err kinds.NotShareableError | Some p ↦ elim r as (λ _. Result (List (Text × Tree)) Kind) [ Ok ps ↦ Ok ((x, p) ∷ ps) | Err k ↦ Err k ] ]

after_both : (x : Text) (o : Option Tree) (r s : Result (List (Text × Tree)) Kind) → after x o (chained r s) ≡ chained (after x o r) s
after_both x None r s = refl
after_both x (Some p) (Ok cs) (Ok bs) = refl
after_both x (Some p) (Ok cs) (Err k) = refl
after_both x (Some p) (Err k) s = refl

pub both_sent : (ps qs : List (Key × Value)) → parcels_by_name (ps ++ qs) ≡ chained (parcels_by_name ps) (parcels_by_name qs)
both_sent [] qs = none_first (parcels_by_name qs)
both_sent ((pure.Word x, v) ∷ ps) qs = ap (after x (sent_as v)) (both_sent ps qs) ∙ after_both x (sent_as v) (parcels_by_name ps) (parcels_by_name qs)
both_sent ((pure.Number n, v) ∷ ps) qs = refl

-- a name is sent with a parcel, or it is not
pub one_sent : (x : Text) (v : Value) (p : Tree) → sent_as v ≡ Some p → parcels_by_name ((pure.Word x, v) ∷ []) ≡ Ok ((x, p) ∷ [])
one_sent x v p e = ap (λ o. after x o (Ok [])) e

pub one_unsent : (x : Text) (v : Value) → sent_as v ≡ None → parcels_by_name ((pure.Word x, v) ∷ []) ≡ Err kinds.NotShareableError
one_unsent x v e = ap (λ o. after x o (Ok [])) e

-- all are sent
pub sent_both : (ps qs : List (Key × Value)) (cs bs : List (Text × Tree)) → parcels_by_name ps ≡ Ok cs → parcels_by_name qs ≡ Ok bs → parcels_by_name (ps ++ qs) ≡ Ok (cs ++ bs)
sent_both ps qs cs bs e f = both_sent ps qs ∙ ap₂ chained e f

-- the first are not
pub unsent_first : (ps qs : List (Key × Value)) (k : Kind) → parcels_by_name ps ≡ Err k → parcels_by_name (ps ++ qs) ≡ Err k
unsent_first ps qs k e = both_sent ps qs ∙ ap (λ r. chained r (parcels_by_name qs)) e

-- the last are not
pub unsent_last : (ps qs : List (Key × Value)) (cs : List (Text × Tree)) (k : Kind) → parcels_by_name ps ≡ Ok cs → parcels_by_name qs ≡ Err k → parcels_by_name (ps ++ qs) ≡ Err k
unsent_last ps qs cs k e f = both_sent ps qs ∙ ap₂ chained e f

-- so many and one more
pub one_more : {A : Type 0} (xs : List A) (i : ℕ) (x : A) → slice_get xs i ≡ Some x → take (i + 1) xs ≡ take i xs ++ x ∷ []
one_more xs i x e = ap (λ j. take j xs) (add-one i) ∙ go xs i x e
  where
    go : {A : Type 0} (xs : List A) (i : ℕ) (x : A) → slice_get xs i ≡ Some x → take (suc i) xs ≡ take i xs ++ x ∷ []
    go [] i x e = absurd cc
    go (y ∷ xs) zero x e = let same : y ≡ x = cc in ap (λ z. z ∷ []) same
    go (y ∷ xs) (suc i) x e = ap (λ zs. y ∷ zs) (go xs i x e)

-- all are so many, one more and the others
pub in_parts : {A : Type 0} (xs : List A) (i : ℕ) (x : A) → slice_get xs i ≡ Some x → xs ≡ (take i xs ++ x ∷ []) ++ drop (suc i) xs
in_parts [] i x e = absurd cc
in_parts (y ∷ xs) zero x e = let same : y ≡ x = cc in ap (λ z. z ∷ xs) same
in_parts (y ∷ xs) (suc i) x e = ap (λ zs. y ∷ zs) (in_parts xs i x e)

-- a name with its value
pub pair_there : (names : List Text) (vs : List Value) (i : ℕ) (x : Text) (v : Value) → slice_get names i ≡ Some x → slice_get vs i ≡ Some v → slice_get (as_pairs (paired names vs)) i ≡ Some (pure.Word x, v)
pair_there [] vs i x v e f = absurd cc
pair_there (y ∷ names) [] i x v e f = absurd cc
pair_there (y ∷ names) (u ∷ vs) zero x v e f =
    let one : y ≡ x = cc in
    let other : u ≡ v = cc in
    ap₂ (λ a b. Some (pure.Word a, b)) one other
pair_there (y ∷ names) (u ∷ vs) (suc i) x v e f = pair_there names vs i x v e f

-- as many pairs as values
pub pairs_count : (names : List Text) (vs : List Value) → length vs ≤ length names → length (as_pairs (paired names vs)) ≡ length vs
pairs_count [] [] l = refl
pairs_count (x ∷ names) [] l = refl
pairs_count [] (v ∷ vs) l = absurd (omega (arith, l))
pairs_count (x ∷ names) (v ∷ vs) l = ap suc (pairs_count names vs (omega (arith, l)))

-- ---- that they are not sent

pub unsent_with_first : (ps qs : List (Key × Value)) (f : Fault) → IsUnsent ps f → IsUnsent (ps ++ qs) f
unsent_with_first ps qs (Raises cause) h = (h.0, unsent_first ps qs h.0 h.1, h.2)
unsent_with_first ps qs NoMemory h = tt

pub unsent_with_last : (ps qs : List (Key × Value)) (cs : List (Text × Tree)) (f : Fault) → parcels_by_name ps ≡ Ok cs → IsUnsent qs f → IsUnsent (ps ++ qs) f
unsent_with_last ps qs cs (Raises cause) e h = (h.0, unsent_last ps qs cs h.0 e h.1, h.2)
unsent_with_last ps qs cs NoMemory e h = tt

-- a value that is not sent
pub name_unsent : (x : Text) (v : Value) (f : Fault) → IsSent v (Err f) → IsUnsent ((pure.Word x, v) ∷ []) f
name_unsent x v (Raises cause) h = (kinds.NotShareableError, one_unsent x v h.0, h.1)
name_unsent x v NoMemory h = tt

-- a value that is sent, with its name, unless memory is refused for that
pub name_sent : (x : Text) (v : Value) (p : Tree) (r : Result Text AllocError) → IfOk r (λ t. t ≡ x) → sent_as v ≡ Some p → AreSent ((pure.Word x, v) ∷ []) (alone_of (paired_of r p))
name_sent x v p (Ok t) e h = one_sent x v p h ∙ ap (λ y. Ok ((y, p) ∷ [])) (sym e)
name_sent x v p (Err refused) e h = tt

-- pairs that are sent, and then others, unless memory is refused for them
pub sent_together : (ps qs : List (Key × Value)) (cs bs : List (Text × Tree)) (r : Result (List (Text × Tree)) AllocError) → IfOk r (λ ds. ds ≡ cs ++ bs) → parcels_by_name ps ≡ Ok cs → parcels_by_name qs ≡ Ok bs → AreSent (ps ++ qs) (granted_of r)
sent_together ps qs cs bs (Ok ds) h e f = sent_both ps qs cs bs e f ∙ ap (λ xs. Ok xs) (sym h)
sent_together ps qs cs bs (Err refused) h e f = tt

-- a key that is no str
pub key_unsent : (u v : Value) → IsKey u → IsNoStr u → parcels_by_name ((key_meant u, v) ∷ []) ≡ Err kinds.TypeError
key_unsent (pure.Int n) v k h = refl
key_unsent (pure.Str s) v k h = absurd h
key_unsent pure.Nothing v k h = absurd cc
key_unsent (pure.Truth b) v k h = absurd cc
key_unsent (pure.Bytes bs) v k h = absurd cc
key_unsent (pure.Provided f) v k h = absurd cc
key_unsent (pure.Function x n) v k h = absurd cc
key_unsent (pure.Range a b c) v k h = absurd cc
key_unsent (pure.Tuple vs) v k h = absurd cc
key_unsent (pure.Class x) v k h = absurd cc
key_unsent (pure.Module m) v k h = absurd cc
key_unsent (pure.Queue q m) v k h = absurd cc
key_unsent (pure.Interpreter i) v k h = absurd cc
key_unsent (pure.Exec i) v k h = absurd cc
key_unsent (pure.Address x) v k h = absurd cc

-- the pair at an index is sent, after those before it
pub next_sent : (ps : List (Key × Value)) (i : ℕ) (p : Key × Value) (cs : List (Text × Tree)) (b : Text × Tree) → slice_get ps i ≡ Some p → parcels_by_name (take i ps) ≡ Ok cs → parcels_by_name (p ∷ []) ≡ Ok (b ∷ []) → parcels_by_name (take (i + 1) ps) ≡ Ok (cs ++ b ∷ [])
next_sent ps i p cs b e f g = ap parcels_by_name (one_more ps i p e) ∙ sent_both (take i ps) (p ∷ []) cs (b ∷ []) f g

-- or it is not, and so they are not
pub next_unsent : (ps : List (Key × Value)) (i : ℕ) (p : Key × Value) (cs : List (Text × Tree)) (f : Fault) → slice_get ps i ≡ Some p → parcels_by_name (take i ps) ≡ Ok cs → IsUnsent (p ∷ []) f → IsUnsent ps f
next_unsent ps i p cs f e g h =
    subst (λ qs. IsUnsent qs f) (sym (in_parts ps i p e))
    (unsent_with_first (take i ps ++ p ∷ []) (drop (suc i) ps) f (unsent_with_last (take i ps) (p ∷ []) cs f g h))

-- all are sent
pub all_sent : (ps : List (Key × Value)) (i : ℕ) (cs : List (Text × Tree)) → length ps ≤ i → parcels_by_name (take i ps) ≡ Ok cs → parcels_by_name ps ≡ Ok cs
all_sent ps i cs l e = ap parcels_by_name (sym (take_all i ps l)) ∙ e

-- a fault that is handed on
pub handed_on : {U : Type 0} (r : Result U Fault) (f : Fault) (pairs : List (Key × Value)) → IsErrAnd r (λ g. g ≡ f) → IsUnsent pairs f → IfErr r (λ g. IsUnsent pairs g)
handed_on {U} r f pairs e h = passed r (λ s. IfErr s (λ g. IsUnsent pairs g)) f e h

-- the value at an index
pub value_there : (m : Memory) (xs : List Ref) (i : ℕ) (r d : Ref) → r ≡ get_or xs i d → i < length xs → slice_get (all_of m xs) i ≡ Some (value_of m r)
value_there m [] i r d e h = absurd (omega arith)
value_there m (x ∷ xs) zero r d e h = ap (λ y. Some (value_of m y)) (sym e)
value_there m (x ∷ xs) (suc i) r d e h = value_there m xs i r d e (omega arith)

-- the name at an index
pub name_there : (names : List Text) (i : ℕ) (x y d : Text) → y ≡ x → x ≡ get_or names i d → i < length names → slice_get names i ≡ Some y
name_there [] i x y d e f l = absurd (omega arith)
name_there (z ∷ names) zero x y d e f l = ap (λ t. Some t) (sym (e ∙ f))
name_there (z ∷ names) (suc i) x y d e f l = name_there names i x y d e f (omega arith)
