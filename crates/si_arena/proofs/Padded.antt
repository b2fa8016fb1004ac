-- Texts in the value itself, by their bytes.
use Rattle.std.proofs.Common.{◌≡◌, ◌≤◌, ℕ, List, [], ◌∷◌, ◌++◌, length, take, drop, ap, sym, ◌∙◌, arith, length-append, length-drop, length-take-le}
use Rattle.std.proofs.lemmas.List.{take-append-drop}
use Rattle.std.proofs.lemmas.Bool.Decides.{same_from_decides, Decides-like}
use Rattle.std.proofs.Math.Seq.{take-append_seam, drop-append_seam}
use Rattle.std.specs.Cmp.{unsigned_Decides}
use Rattle.std.specs.Cmp.Lexicographic.{bytes_decides}
use Rattle.std.specs.Int.{w32, from_le_bytes, to_le_bytes}
use Rattle.std.specs.Prelude.{nat_eq, bytes_eq}
use Rattle.si_arena.specs.declared.short.Short.{Short}
use Rattle.si_arena.specs.Short.{short_text}
use Rattle.si_arena.specs.inner.Padding.{padded}

-- one more item at the end of each of two lists that are as long
same_ends : (xs ys : List ℕ) (n m : ℕ) → length xs ≡ length ys → xs ++ n ∷ [] ≡ ys ++ m ∷ [] → (xs ≡ ys) × (n ≡ m)
same_ends xs ys n m l e =
    let p = sym (take-append_seam xs (n ∷ [])) ∙ (λ i. take (l i) (e i)) ∙ take-append_seam ys (m ∷ []) in
    let q = sym (drop-append_seam xs (n ∷ [])) ∙ (λ i. drop (l i) (e i)) ∙ drop-append_seam ys (m ∷ []) in
    let r : n ≡ m = cc in
    (p, r)

-- a number is the last three of a text's bytes and its length
pub record Ends (s : Short) (x : ℕ) : Type 0 where
  pub value : x ≡ from_le_bytes w32 (drop 8 s.characters ++ s.length ∷ [])
  pub bytes : to_le_bytes w32 x ≡ drop 8 s.characters ++ s.length ∷ []

eleven : (s : Short) (x : ℕ) → Ends s x → length s.characters ≡ 11
eleven s x h = let e = simp (length-append, length-drop) at (ap length h.bytes) in omega (arith, e)

-- texts whose first 8 bytes are equal are equal where the other bytes and the lengths are
pub same_ends-text : (s t : Short) (x y : ℕ) → take 8 s.characters ≡ take 8 t.characters → Ends s x → Ends t y → nat_eq x y ≡ bytes_eq (short_text s) (short_text t)
same_ends-text s t x y e f g =
    let m = eleven s x f in
    let n = eleven t y g in
    let forth : x ≡ y → short_text s ≡ short_text t =
    λ h.
    let ends = same_ends (drop 8 s.characters) (drop 8 t.characters) s.length t.length (simp length-drop (omega arith)) (sym f.bytes ∙ ap (to_le_bytes w32) h ∙ g.bytes) in
    let all : s.characters ≡ t.characters = sym (take-append-drop 8 s.characters) ∙ (λ i. e i ++ ends.0 i) ∙ take-append-drop 8 t.characters in
    λ i. take (ends.1 i) (all i) in
    let back : short_text s ≡ short_text t → x ≡ y =
    λ h.
    let all : s.characters ≡ t.characters = s.zeros ∙ ap padded h ∙ sym t.zeros in
    let i : s.length ≤ length s.characters = omega (arith, s.within) in
    let j : t.length ≤ length t.characters = omega (arith, t.within) in
    let long : s.length ≡ t.length = sym (length-take-le s.length s.characters i) ∙ ap length h ∙ length-take-le t.length t.characters j in
    f.value ∙ (λ k. from_le_bytes w32 (drop 8 (all k) ++ long k ∷ [])) ∙ sym g.value in
    same_from_decides (nat_eq x y) (bytes_eq (short_text s) (short_text t)) (Decides-like (nat_eq x y) forth back (unsigned_Decides x y)) (bytes_decides (short_text s) (short_text t))
