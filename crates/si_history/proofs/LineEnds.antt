-- The lines of calls, one after another.
use Rattle.std.proofs.Common.{◌≡◌, codes, ℕ, ◌+◌, ◌<◌, List, ◌∷◌, ◌++◌, length, drop, get_or, encode_utf8_all, sym, ap, ◌∙◌, refl, append_assoc, add-one}
use Rattle.std.proofs.lemmas.List.{at_drop_more}
use Rattle.std.proofs.lemmas.Str.{encodes-append}
use Rattle.si_semantics.specs.History.{Call}
use Rattle.si_history.specs.History.{call_line, lines_from}
use Rattle.si_history.specs.inner.Adding.{Adds}
use Rattle.si_history.proofs.Adds.{adds_both}

lines_more : (n : ℕ) (x : Call) (xs : List Call) → lines_from n (x ∷ xs) ≡ call_line n x ++ lines_from (n + 1) xs
lines_more n x xs = rw add-one refl

-- one line more
pub line_added :
    (xs : List Call) (i : ℕ) (x : Call) (o n k : List ℕ) → i < length xs → x ≡ get_or xs i x
    → o ++ encode_utf8_all (lines_from (i + 1) (drop i xs)) ≡ k
    → Adds o n (call_line (i + 1) x)
    → n ++ encode_utf8_all (lines_from (i + 1 + 1) (drop (i + 1) xs)) ≡ k
line_added xs i x o n k l e h w =
    let line : List ℕ = encode_utf8_all (call_line (i + 1) x) in
    let rest : List ℕ = lines_from (i + 1 + 1) (drop (i + 1) xs) in
    let a = at_drop_more (lines_from (i + 1)) xs i x l in
    let b = lines_more (i + 1) (get_or xs i x) (drop (i + 1) xs) in
    let c : lines_from (i + 1) (drop i xs) ≡ call_line (i + 1) x ++ rest = a ∙ b ∙ ap (λ y. call_line (i + 1) y ++ rest) (sym e) in
    let d : encode_utf8_all (lines_from (i + 1) (drop i xs)) ≡ line ++ encode_utf8_all rest = ap encode_utf8_all c ∙ encodes-append (call_line (i + 1) x) rest in
    ap (λ y. y ++ encode_utf8_all rest) w ∙ append_assoc o line (encode_utf8_all rest) ∙ ap (λ y. o ++ y) (sym d) ∙ h

-- the parts of a line
pub line_parts :
    (o a b c d e numbers action answer : List ℕ) → Adds o a numbers → Adds a b action → Adds b c (codes " = ") → Adds c d answer → Adds d e (codes "\n")
    → Adds o e (numbers ++ action ++ codes " = " ++ answer ++ codes "\n")
line_parts o a b c d e numbers action answer f g h i j =
    let asked : Adds o c (numbers ++ action ++ codes " = ") = adds_both o b c (numbers ++ action) (codes " = ") (adds_both o a b numbers action f g) h in
    adds_both o d e (numbers ++ action ++ codes " = " ++ answer) (codes "\n") (adds_both o c d (numbers ++ action ++ codes " = ") answer asked i) j
