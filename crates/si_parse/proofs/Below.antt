-- What a bytes literal writes are bytes: its characters are ASCII, and its escapes write numbers below 256.
use Rattle.std.proofs.Common.{◌≡◌, ℕ, zero, suc, ◌+◌, ◌-◌, ◌*◌, ◌<◌, ◌≤◌, List, [], ◌∷◌, ◌++◌, length, drop, Bool, true, false, Option, Some, None, refl, sym, ◌∙◌, subst, arith}
use Rattle.std.specs.Prelude.{All, ◌==◌, ◌&&◌, ◌||◌, option_map, option_and_then, nat_lt, nat_le, if◌then◌else◌}
use Rattle.std.specs.Char.{digit_value}
use Rattle.std.specs.Str.{chars}
use Rattle.std.specs.List.{list_all}
use Rattle.std.proofs.lemmas.Bool.Decides.{nat_tests}
use Rattle.std.proofs.lemmas.List.Elements.{All-nil, All-cons, All-head, All-tail, All-append, All-take, All-drop}
use Rattle.std.proofs.lemmas.Str.{chars-IsAscii}
use Rattle.std.proofs.lemmas.Str.Ascii.{IsAscii-from_all}
use Rattle.si_semantics.specs.Value.{Text}
use Rattle.si_semantics.specs.Literals.{Written, with_one_more, digits_within, is_character, numbered, after_letter, letter_escape, escape_by, is_of_texts, escape, unescaped, begins_raw, peeled, quotes_at, between_quotes, begins_line_feed, with_line_feeds, prefix_at, unprefixed, value_of_body, value_of_literal}
use Rattle.si_token.proofs.Texts.{and_both}

abbrev Small : Text → Type 0
Small cs = All (λ c. c < 256) cs

one : (c : ℕ) → c < 256 → Small (c ∷ [])
one c h = All-cons (λ c. c < 256) c [] h (All-nil (λ c. c < 256))

none : Small []
none = All-nil (λ c. c < 256)

-- by both cases of a test
either : {A : Type 0} (P : A → Type 0) (b : Bool) (x y : A) → (b ≡ true → P x) → (b ≡ false → P y) → P (if b then x else y)
either P true x y f g = f refl
either P false x y f g = g refl

less : (a b : ℕ) → nat_lt a b ≡ true → a < b
less a b h = grind (arith, nat_tests)

at_most : (a b : ℕ) → nat_le a b ≡ true → a ≤ b
at_most a b h = grind (arith, nat_tests)

-- ---- escapes

abbrev Fits : Option Written → Type 0
Fits None = Unit {0}
Fits (Some r) = Small r.0

abbrev Below : Option (ℕ × ℕ) → Type 0
Below None = Unit {0}
Below (Some r) = r.0 < 256

numbered_small : (limit : ℕ) (o : Option (ℕ × ℕ)) → Below o → Fits (numbered limit o)
numbered_small limit None h = tt
numbered_small limit (Some (n, count)) h = either Fits (nat_le n limit && is_character n) (Some (n ∷ [], count)) None (λ e. one n h) (λ e. tt)

numbered_octal : (o : Option (ℕ × ℕ)) → Fits (numbered 255 o)
numbered_octal None = tt
numbered_octal (Some (n, count)) =
    either Fits (nat_le n 255 && is_character n) (Some (n ∷ [], count)) None
    (λ e. let l = at_most n 255 (and_both (nat_le n 255) (is_character n) e).0 in one n (omega (arith, l))) (λ e. tt)

letter_small : (o : Option Written) → Fits o → Fits (after_letter o)
letter_small None h = tt
letter_small (Some (c, count)) h = h

last_digit : (n : ℕ) (cs : Text) → n < 16 → Below (with_one_more (digits_within 16 1 1 n cs))
last_digit n [] h = tt
last_digit n (d ∷ cs) h =
    either (λ o. Below (with_one_more o)) (nat_lt (digit_value d) 16) (with_one_more (digits_within 16 0 0 (n * 16 + digit_value d) cs)) None
    (λ e. let l = less (digit_value d) 16 e in omega (arith, l, h)) (λ e. tt)

two_digits : (cs : Text) → Below (digits_within 16 2 2 0 cs)
two_digits [] = tt
two_digits (d ∷ cs) =
    either Below (nat_lt (digit_value d) 16) (with_one_more (digits_within 16 1 1 (0 * 16 + digit_value d) cs)) None
    (λ e. let l = less (digit_value d) 16 e in last_digit (0 * 16 + digit_value d) cs (omega (arith, l))) (λ e. tt)

abbrev Character : Option ℕ → Type 0
Character None = Unit {0}
Character (Some d) = d < 256

letter_character : (c : ℕ) → c < 256 → Character (letter_escape c)
letter_character c h =
    either Character ((c == 92) || ((c == 39) || (c == 34))) (Some c) _ (λ e. h)
    (λ e. either Character (c == 97) (Some 7) _ (λ e. omega arith)
    (λ e. either Character (c == 98) (Some 8) _ (λ e. omega arith)
    (λ e. either Character (c == 102) (Some 12) _ (λ e. omega arith)
    (λ e. either Character (c == 110) (Some 10) _ (λ e. omega arith)
    (λ e. either Character (c == 114) (Some 13) _ (λ e. omega arith)
    (λ e. either Character (c == 116) (Some 9) _ (λ e. omega arith)
    (λ e. either Character (c == 118) (Some 11) None (λ e. omega arith) (λ e. tt))))))))

-- no escape of texts alone
no_text : (c : ℕ) → is_of_texts c ≡ false → (c == 117) ≡ true → ⊥
no_text c h e = let f : is_of_texts c ≡ true = grind (arith, nat_tests) in let bad : false ≡ true = sym h ∙ f in cc

no_long_text : (c : ℕ) → is_of_texts c ≡ false → (c == 85) ≡ true → ⊥
no_long_text c h e = let f : is_of_texts c ≡ true = grind (arith, nat_tests) in let bad : false ≡ true = sym h ∙ f in cc

by_small : (o : Option ℕ) (c : ℕ) (cs : Text) → Character o → is_of_texts c ≡ false → Fits (escape_by o c cs)
by_small (Some d) c cs h t = one d h
by_small None c cs h t =
    either Fits (c == 10) (Some ([], 1)) _ (λ e. none)
    (λ e. either Fits (nat_le 48 c && nat_le c 55) (numbered 255 (digits_within 8 1 3 0 (c ∷ cs))) _ (λ e. numbered_octal (digits_within 8 1 3 0 (c ∷ cs)))
    (λ e. either Fits (c == 120) (after_letter (numbered 1114111 (digits_within 16 2 2 0 cs))) _
    (λ e. letter_small (numbered 1114111 (digits_within 16 2 2 0 cs)) (numbered_small 1114111 (digits_within 16 2 2 0 cs) (two_digits cs)))
    (λ e. either Fits (c == 117) (after_letter (numbered 1114111 (digits_within 16 4 4 0 cs))) _ (λ e. absurd (no_text c t e))
    (λ e. either Fits (c == 85) (after_letter (numbered 1114111 (digits_within 16 8 8 0 cs))) _ (λ e. absurd (no_long_text c t e))
    (λ e. either Fits (c == 78) None (Some (92 ∷ [], 0)) (λ e. tt) (λ e. one 92 (omega arith)))))))

escape_small : (cs : Text) → Small cs → Fits (escape true cs)
escape_small [] h = one 92 (omega arith)
escape_small (c ∷ cs) h =
    either Fits (is_of_texts c) (Some (92 ∷ [], 0)) (escape_by (letter_escape c) c cs) (λ e. one 92 (omega arith))
    (λ e. by_small (letter_escape c) c cs (letter_character c (All-head (λ c. c < 256) c cs h)) e)

-- ---- the body

abbrev Holds : Option Text → Type 0
Holds None = Unit {0}
Holds (Some v) = Small v

joined : (w : Text) (o : Option Text) → Small w → Holds o → Holds (option_map (λ text. w ++ text) o)
joined w None h k = tt
joined w (Some v) h k = All-append (λ c. c < 256) w v h k

preceded : (c : ℕ) (o : Option Text) → c < 256 → Holds o → Holds (option_map (λ text. c ∷ text) o)
preceded c None h k = tt
preceded c (Some v) h k = All-cons (λ c. c < 256) c v h k

after_escape : (o : Option Written) (cs : Text) → Fits o → ((k : ℕ) → Holds (unescaped true k cs)) → Holds (option_and_then (λ (e : Written). option_map (λ text. e.0 ++ text) (unescaped true e.1 cs)) o)
after_escape None cs h go = tt
after_escape (Some r) cs h go = joined r.0 (unescaped true r.1 cs) h (go r.1)

unescaped_small : (cs : Text) (skipped : ℕ) → Small cs → Holds (unescaped true skipped cs)
unescaped_small [] skipped h = none
unescaped_small (c ∷ cs) zero h =
    let tail = All-tail (λ c. c < 256) c cs h in
    either Holds (c == 92) (option_and_then (λ (e : Written). option_map (λ text. e.0 ++ text) (unescaped true e.1 cs)) (escape true cs)) (option_map (λ text. c ∷ text) (unescaped true 0 cs))
    (λ e. after_escape (escape true cs) cs (escape_small cs tail) (λ k. unescaped_small cs k tail))
    (λ e. preceded c (unescaped true 0 cs) (All-head (λ c. c < 256) c cs h) (unescaped_small cs 0 tail))
unescaped_small (c ∷ cs) (suc skipped) h = unescaped_small cs skipped (All-tail (λ c. c < 256) c cs h)

body_small : (raw : Bool) (cs : Text) → Small cs → Holds (value_of_body true raw cs)
body_small true cs h = h
body_small false cs h = unescaped_small cs 0 h

-- ---- the literal

peeled_small : (cs : Text) → Small cs → Small (peeled cs)
peeled_small cs h = All-take (λ c. c < 256) (length cs - 2) (drop 1 cs) (All-drop (λ c. c < 256) 1 cs h)

inside_small : (cs : Text) → Small cs → Small (between_quotes cs)
inside_small cs h =
    either Small (quotes_at cs == 3) (peeled (peeled (peeled cs))) (peeled cs)
    (λ e. peeled_small (peeled (peeled cs)) (peeled_small (peeled cs) (peeled_small cs h))) (λ e. peeled_small cs h)

feeds_small : (cs : Text) → Small cs → Small (with_line_feeds cs)
feeds_small [] h = none
feeds_small (c ∷ cs) h =
    let tail = feeds_small cs (All-tail (λ c. c < 256) c cs h) in
    let first : (if c == 13 then 10 else c) < 256 = either (λ c. c < 256) (c == 13) 10 c (λ e. omega arith) (λ e. All-head (λ c. c < 256) c cs h) in
    either Small ((c == 13) && begins_line_feed cs) (with_line_feeds cs) ((if c == 13 then 10 else c) ∷ with_line_feeds cs)
    (λ e. tail) (λ e. All-cons (λ c. c < 256) (if c == 13 then 10 else c) (with_line_feeds cs) first tail)

literal_small : (cs : Text) → Small cs → Holds (value_of_literal true cs)
literal_small cs h = body_small (begins_raw cs) (with_line_feeds (between_quotes (unprefixed cs))) (feeds_small (between_quotes (unprefixed cs)) (inside_small (unprefixed cs) (All-drop (λ c. c < 256) (prefix_at cs) cs h)))

wider : (cs : List ℕ) → All (λ c. c < 128) cs → Small cs
wider [] h = none
wider (c ∷ cs) h =
    let l = All-head (λ c. c < 128) c cs h in
    All-cons (λ c. c < 256) c cs (omega (arith, l)) (wider cs (All-tail (λ c. c < 128) c cs h))

small_bytes : (bs : List ℕ) → list_all (λ b. nat_lt b 128) bs ≡ true → All (λ b. b < 128) bs
small_bytes [] h = All-nil (λ b. b < 128)
small_bytes (b ∷ bs) h =
    let t = and_both (nat_lt b 128) (list_all (λ b. nat_lt b 128) bs) h in
    All-cons (λ b. b < 128) b bs (less b 128 t.0) (small_bytes bs t.1)

-- what an ASCII literal of bytes writes
pub all_bytes : (literal : List ℕ) (v : Text) → list_all (λ b. nat_lt b 128) literal ≡ true → value_of_literal true (chars literal) ≡ Some v → All (λ c. c < 256) v
all_bytes literal v h is =
    let ascii = small_bytes literal h in
    subst Holds is (literal_small (chars literal) (subst Small (sym (chars-IsAscii literal (IsAscii-from_all literal ascii))) (wider literal ascii)))
