-- A loop that writes the items of a tuple.
use Rattle.std.proofs.Common.{◌≡◌, ℕ, suc, ◌+◌, ◌<◌, ◌≤◌, List, [], ◌∷◌, ◌++◌, codes, length, drop, get_or, encode_utf8_all, sym, ap, ◌∙◌, refl, append-nil, add-one, lit<}
use Rattle.std.proofs.lemmas.List.{at_drop_more, at_drop_all, append_assoc}
use Rattle.std.proofs.lemmas.Str.{encode_ascii}
use Rattle.si_semantics.specs.Parcels.{Tree, trees_of, tuple_of, count_of, shown, shown_items, separator, closing}
use Rattle.si_parcel.proofs.Texts.{three}

shown_more : (i : ℕ) (t : Tree) (ts : List Tree) → shown_items i (trees_of (t ∷ ts)) ≡ separator i ++ shown t ++ shown_items (i + 1) (trees_of ts)
shown_more i t ts = rw add-one refl

-- one item more is written
pub item_written :
    (xs : List Tree) (i : ℕ) (x : Tree) (o n k : List ℕ) → i < length xs → x ≡ get_or xs i x
    → o ++ encode_utf8_all (shown_items i (trees_of (drop i xs))) ≡ k
    → n ≡ (o ++ encode_utf8_all (separator i)) ++ encode_utf8_all (shown x)
    → n ++ encode_utf8_all (shown_items (i + 1) (trees_of (drop (i + 1) xs))) ≡ k
item_written xs i x o n k l e h w =
    let rest : List ℕ = shown_items (i + 1) (trees_of (drop (i + 1) xs)) in
    let a = at_drop_more (λ ys. shown_items i (trees_of ys)) xs i x l in
    let b = shown_more i (get_or xs i x) (drop (i + 1) xs) in
    let c : shown_items i (trees_of (drop i xs)) ≡ separator i ++ shown x ++ rest = a ∙ b ∙ ap (λ y. separator i ++ shown y ++ rest) (sym e) in
    let d : o ++ encode_utf8_all (separator i ++ shown x ++ rest) ≡ k = ap (λ y. o ++ encode_utf8_all y) (sym c) ∙ h in
    let f : o ++ ((encode_utf8_all (separator i) ++ encode_utf8_all (shown x)) ++ encode_utf8_all rest) ≡ k = ap (λ y. o ++ y) (sym (three (separator i) (shown x) rest)) ∙ d in
    ap (λ y. y ++ encode_utf8_all rest) w ∙ simp append_assoc (simp append_assoc at f)

-- all items are written
pub items_written : (xs : List Tree) (i : ℕ) (o k : List ℕ) → length xs ≤ i → o ++ encode_utf8_all (shown_items i (trees_of (drop i xs))) ≡ k → o ≡ k
items_written xs i o k l h =
    sym (append-nil o) ∙ ap (λ y. o ++ encode_utf8_all y) (sym (at_drop_all (λ ys. shown_items i (trees_of ys)) xs i l)) ∙ h

count_of_trees : (xs : List Tree) → count_of (trees_of xs) ≡ length xs
count_of_trees [] = refl
count_of_trees (x ∷ xs) = ap suc (count_of_trees xs)

-- and the end
pub tuple_written :
    (xs : List Tree) (o a b n : List ℕ) (count : ℕ) → count ≡ length xs → a ≡ o ++ codes "(" → b ≡ a ++ encode_utf8_all (shown_items 0 (trees_of xs))
    → n ≡ b ++ encode_utf8_all (closing count) → n ≡ o ++ encode_utf8_all (shown (tuple_of xs))
tuple_written xs o a b n count c e f g =
    let items : List ℕ = shown_items 0 (trees_of xs) in
    let end : List ℕ = closing (count_of (trees_of xs)) in
    let e' : a ≡ o ++ encode_utf8_all (codes "(") = e ∙ ap (λ y. o ++ (y ++ [])) (sym (encode_ascii 40 (lit< tt))) in
    let h : n ≡ ((o ++ encode_utf8_all (codes "(")) ++ encode_utf8_all items) ++ encode_utf8_all end =
    g ∙ ap (λ y. b ++ encode_utf8_all (closing y)) (c ∙ sym (count_of_trees xs)) ∙ ap (λ y. y ++ encode_utf8_all end) (f ∙ ap (λ y. y ++ encode_utf8_all items) e') in
    let e2 : ((o ++ encode_utf8_all (codes "(")) ++ encode_utf8_all items) ++ encode_utf8_all end ≡ o ++ ((encode_utf8_all (codes "(") ++ encode_utf8_all items) ++ encode_utf8_all end) = simp append_assoc in
    h ∙ e2 ∙ ap (λ y. o ++ y) (sym (three (codes "(") items end))
