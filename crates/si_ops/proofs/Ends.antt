-- What stands after a text in a String, and where that may be cut.
use Rattle.std.proofs.Common.{◌≡◌, ℕ, ◌≤◌, Bool, true, false, List, [], ◌∷◌, ◌++◌, length, take, drop, encode_utf8, encode_utf8_all, Result, Err, refl, sym, ap, subst, ◌∙◌, arith, append_assoc, length-drop, le-ltb, ◌-◌}
use Rattle.std.specs.Prelude.{◌&&◌, nat_lt, IsErrAnd}
use Rattle.std.specs.Str.{IsUtf8, IsCharBoundary}
use Rattle.std.specs.String.{string_bytes}
use Rattle.std.specs.String.Boundary.{IsSplitPoint}
use Rattle.std.specs.declared.string.String.{String}
use Rattle.std.proofs.Math.Utf8.{scalars}
use Rattle.std.proofs.Math.Seq.{drop-append_seam}
use Rattle.std.proofs.lemmas.List.{take_at}
use Rattle.std.proofs.lemmas.Result.{err_from_is_err_and}
use Rattle.std.proofs.lemmas.Str.{encodes_same, cons_from_encodes, IsUtf8-string_bytes, IsCharBoundary-at_seam, IsUtf8-drop, chars-encodes, length-le-encodes}
use Rattle.si_plain.specs.Characters.{characters_of}
use Rattle.si_plain.specs.declared.kind.Kind.{Kind}
use Rattle.si_semantics.specs.Value.{Text}
use Rattle.si_arena.specs.declared.cause.Fault.{Fault}
use Rattle.si_arena.specs.declared.cause.Fault.TheVariants.{Raises, NoMemory}
use Rattle.si_ops.specs.Writing.{Adds, Begins, Writes, Appends}

-- ---- characters after characters

-- what stands after characters in UTF-8 is characters too
front_of : (fs ws more : List ℕ) → encode_utf8_all ws ≡ encode_utf8_all fs ++ more → (rest : List ℕ) × (ws ≡ fs ++ rest) × (encode_utf8_all rest ≡ more)
front_of [] ws more e = (ws, refl, e)
front_of (f ∷ fs) ws more e =
    let q = cons_from_encodes ws (encode_utf8_all fs ++ more) f (e ∙ append_assoc (encode_utf8 f) (encode_utf8_all fs) more) in
    let r = front_of fs q.0 more (q.2) in
    (r.0, q.1 ∙ ap (λ x. f ∷ x) r.1, r.2)

and_right : (a b : Bool) → (a && b) ≡ true → b ≡ true
and_right true b e = e
and_right false b e = cc

scalars_after : (fs rest : List ℕ) → scalars (fs ++ rest) ≡ true → scalars rest ≡ true
scalars_after [] rest e = e
scalars_after (f ∷ fs) rest e = scalars_after fs rest (and_right _ (scalars (fs ++ rest)) e)

more_is : {Z : Type 0} (old new : String Z) (more : List ℕ) → string_bytes new ≡ string_bytes old ++ more → IsUtf8 more
more_is old new more e =
    let u = IsUtf8-string_bytes old in
    let v = IsUtf8-string_bytes new in
    let f = front_of u.0 v.0 more (v.1.1 ∙ e ∙ ap (λ x. x ++ more) (sym u.1.1)) in
    (f.0, (scalars_after u.0 f.0 (sym (ap scalars f.1) ∙ v.1.0), f.2))

-- where what was added begins
pub seam : {Z : Type 0} (old new : String Z) (start : ℕ) → start ≡ length (string_bytes old) → Begins old new → IsCharBoundary (string_bytes new) start
seam old new start e b =
    subst (IsCharBoundary (string_bytes new)) (sym e) (IsCharBoundary-at_seam (string_bytes new) (string_bytes old) b.0 b.1 (more_is old new b.0 b.1))

pub split : {Z : Type 0} (old new : String Z) (start : ℕ) → start ≡ length (string_bytes old) → Begins old new → IsSplitPoint (string_bytes new) start
split old new start e b = let s = seam old new start e b in (s.0, λ _. s.1)

-- what was added is taken back
pub cut_back : {Z : Type 0} (old new end : String Z) (start : ℕ) → start ≡ length (string_bytes old) → Begins old new → string_bytes end ≡ take start (string_bytes new) → string_bytes end ≡ string_bytes old
cut_back old new end start e b h = h ∙ ap (take start) b.1 ∙ take_at (string_bytes old) b.0 start (sym e)

pub begins_adds : {Z : Type 0} {bs : List ℕ} {old new : String Z} → Adds bs old new → Begins old new
begins_adds {bs = bs} p = (bs, p.bytes)

-- what was added, by its characters
pub text_at : {Z : Type 0} (old new : String Z) (t : List ℕ) (start : ℕ) → start ≡ length (string_bytes old) → string_bytes new ≡ string_bytes old ++ encode_utf8_all t → characters_of (drop start (string_bytes new)) ≡ t
text_at old new t start e p =
    let u = more_is old new (encode_utf8_all t) p in
    let same : u.0 ≡ t = encodes_same u.0 t u.1.1 in
    ap (λ k. characters_of (drop k (string_bytes new))) e
    ∙ ap (λ x. characters_of (drop (length (string_bytes old)) x)) p
    ∙ ap characters_of (drop-append_seam (string_bytes old) (encode_utf8_all t))
    ∙ ap characters_of (sym u.1.1) ∙ chars-encodes u.0 u.1.0 ∙ same

-- what a `?` hands on
pub passed : {U F : Type 0} (r : Result U F) (P : Result U F → Type 0) (e : F) → IsErrAnd r (λ f. f ≡ e) → P (Err e) → P r
passed r P e h p = let q = err_from_is_err_and r h in subst P (sym (q.1 ∙ ap Err q.2)) p

-- ---- what can't be added is taken back

pub undone : {Z : Type 0} (U : Type 0) (p : Result Text Kind) (longest : List ℕ) (old new end : String Z) (start : ℕ) (f : Fault) → start ≡ length (string_bytes old) → string_bytes end ≡ take start (string_bytes new) → Writes {U = U} p longest old new (Err f) → Appends {U = U} p longest old end (Err f)
undone U p longest old new end start (Raises cause) e h w = (w.0, cut_back old new end start e w.1 h)
undone U p longest old new end start NoMemory e h w = (w.room, cut_back old new end start e w.part h)

pub begins_err : {Z : Type 0} (U : Type 0) (p : Result Text Kind) (longest : List ℕ) (old new : String Z) (f : Fault) → Writes {U = U} p longest old new (Err f) → Begins old new
begins_err U p longest old new (Raises cause) w = w.1
begins_err U p longest old new NoMemory w = w.part

-- few bytes are few characters
pub few : (bs : List ℕ) (start : ℕ) → IsUtf8 bs → IsCharBoundary bs start → length bs - start ≤ 1048576 → false ≡ nat_lt 1048576 (length (characters_of (drop start bs)))
few bs start u b h =
    let v = IsUtf8-drop bs start u b in
    let same : characters_of (drop start bs) ≡ v.0 = ap characters_of (sym v.1.1) ∙ chars-encodes v.0 v.1.0 in
    sym (le-ltb 1048576 (length (characters_of (drop start bs))) (omega (arith, ap length same, length-le-encodes v.0, ap length v.1.1, length-drop start bs)))
