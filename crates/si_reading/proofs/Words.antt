-- The words that are found are those into which bytes are cut, and the tokens of these are those of the bytes.
use Rattle.std.proofs.Common.{◌≡◌, ℕ, zero, suc, ◌<◌, ◌≤◌, List, [], ◌∷◌, ◌++◌, length, drop, Option, Some, None, refl, ap, ◌∙◌, subst, arith, length-drop, length-append}
use Rattle.std.specs.Prelude.{option_map}
use Rattle.si_semantics.specs.Tokens.{Token}
use Rattle.si_semantics.specs.Words.{Sort, Word, IsCut}
use Rattle.si_semantics.specs.Layout.{HasTokens}
use Rattle.si_token.specs.inner.Reading.{then_read, word_at}
use Rattle.si_token.specs.inner.Laying.{line_start, laid_all}
use Rattle.si_token.proofs.Texts.{some_inj}
use Rattle.si_token.proofs.Runs.{nonempty, then_some, take_append, drop_append, split_at, word_found, word_only}
use Rattle.si_token.proofs.Lines.{has_tokens, reads}
use Rattle.si_reading.specs.inner.Trees.{word_of, words_by, tokens_in}

-- what a list with one more in front comes from
with_front : {A : Type 0} (x : A) (o : Option (List A)) (ys : List A) → option_map (λ xs. x ∷ xs) o ≡ Some ys → (xs : List A) × (o ≡ Some xs) × (x ∷ xs ≡ ys)
with_front x None ys h = cc
with_front x (Some xs) ys h = (xs, refl, some_inj (x ∷ xs) ys h)

-- what is found is a cut
words_cut : (n : ℕ) (bytes : List ℕ) (ws : List Word) → words_by n bytes ≡ Some ws → IsCut ws bytes
unfolding words_by
words_cut zero [] ws h = subst (λ ws. IsCut ws []) (some_inj [] ws h) refl
words_cut zero (b ∷ bs) ws h = cc
words_cut (suc n) [] ws h = subst (λ ws. IsCut ws []) (some_inj [] ws h) refl
words_cut (suc n) (b ∷ bs) ws h =
    let first = then_some (word_at (b ∷ bs)) (λ (w : Sort × ℕ). option_map (λ ws. word_of (b ∷ bs) w ∷ ws) (words_by n (drop w.1 (b ∷ bs)))) ws h in
    let w = first.0 in
    let more = with_front (word_of (b ∷ bs) w) (words_by n (drop w.1 (b ∷ bs))) ws first.2 in
    let found = word_found (b ∷ bs) w.0 w.1 first.1 in
    subst (λ ws. IsCut ws (b ∷ bs)) more.2
    (drop w.1 (b ∷ bs), split_at w.1 (b ∷ bs), found.word, found.longest, found.allowed, words_cut n (drop w.1 (b ∷ bs)) more.0 more.1)

none_left : (n : ℕ) → words_by n [] ≡ Some []
unfolding words_by
none_left zero = refl
none_left (suc n) = refl

-- a word in front of others
first_word : (n : ℕ) (bytes : List ℕ) (w : Sort × ℕ) (ws : List Word) → length bytes ≤ n → 0 < length bytes → 0 < w.1 → word_at bytes ≡ Some w
    → ((m : ℕ) → length (drop w.1 bytes) ≤ m → words_by m (drop w.1 bytes) ≡ Some ws) → words_by n bytes ≡ Some (word_of bytes w ∷ ws)
unfolding words_by
first_word n [] w ws le some long is go = absurd (omega (arith, some))
first_word zero (b ∷ bs) w ws le some long is go = absurd (omega (arith, le))
first_word (suc n) (b ∷ bs) w ws le some long is go =
    ap (λ o. then_read o (λ (w : Sort × ℕ). option_map (λ ws. word_of (b ∷ bs) w ∷ ws) (words_by n (drop w.1 (b ∷ bs))))) is
    ∙ ap (option_map (λ ws. word_of (b ∷ bs) w ∷ ws)) (go n (omega (arith, le, long, length-drop w.1 (b ∷ bs))))

-- a cut is found
cut_words : (ws : List Word) (n : ℕ) (bytes : List ℕ) → length bytes ≤ n → IsCut ws bytes → words_by n bytes ≡ Some ws
cut_words [] n bytes le h = ap (words_by n) h ∙ none_left n
cut_words (w ∷ ws) n bytes le (rest, whole, word, longest, allowed, cut) =
    let long = nonempty w.sort w.text word in
    let lengths = length-append w.text rest in
    let same = ap length whole in
    ap (words_by n) whole
    ∙ first_word n (w.text ++ rest) (w.sort, length w.text) ws (omega (arith, le, same)) (omega (arith, long, lengths)) long (word_only w.text rest w.sort word longest allowed)
    (λ m few. ap (words_by m) (drop_append w.text rest) ∙ cut_words ws m rest (omega (arith, few, ap length (drop_append w.text rest))) cut)
    ∙ ap (λ text. Some (record { sort = w.sort; text = text } ∷ ws)) (take_append w.text rest)

-- the tokens that are found are those of the bytes
pub tokens_right : (bytes : List ℕ) (ts : List Token) → tokens_in bytes ≡ Some ts → HasTokens ts bytes
tokens_right bytes ts h =
    let t = then_some (words_by (length bytes) bytes) (laid_all (line_start 0) []) ts h in
    has_tokens ts bytes (t.0, words_cut (length bytes) bytes t.0 t.1, t.2)

-- the tokens of the bytes are found
pub tokens_found : (bytes : List ℕ) (ts : List Token) → HasTokens ts bytes → tokens_in bytes ≡ Some ts
tokens_found bytes ts h =
    let r = reads ts bytes h in
    let le : length bytes ≤ length bytes = omega arith in
    ap (λ o. then_read o (laid_all (line_start 0) [])) (cut_words r.0 (length bytes) bytes le r.1) ∙ r.2
