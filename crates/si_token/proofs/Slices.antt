-- Tokens lie one after the other, each a slice of the source.
use Rattle.std.proofs.Common.{◌≡◌, ℕ, zero, suc, ◌+◌, ◌-◌, ◌≤◌, List, [], ◌∷◌, ◌++◌, length, take, drop, refl, sym, ap, ◌∙◌, subst, arith, Option, Some, None, add_assoc}
use Rattle.std.specs.Prelude.{All, slice_range, IfSome, if◌then◌else◌}
use Rattle.std.specs.Option.{option_to_list}
use Rattle.std.proofs.lemmas.List.Elements.{All-push}
use Rattle.si_token.specs.declared.token.TokenKind.{TokenKind}
use Rattle.si_token.specs.declared.token.Token.{Token}
use Rattle.si_plain.specs.LineEnds.{ends_line, ends_before}
use Rattle.si_semantics.specs.Layout.{line_at}
use Rattle.si_token.specs.Spans.{IsPart, IsSliceOf, IsOnLine, LieBetween, EndsIn}
use Rattle.si_token.proofs.Runs.{take_append, drop_append}

-- what was made so far
pub record AreParts (source : List ℕ) (items : List Token) (at : ℕ) : Type 0 where
  pub slices : All (IsSliceOf source) items
  pub order : LieBetween 0 items at
  pub lines : All (IsOnLine source) items

drop_more : (at n : ℕ) (s : List ℕ) → drop (at + n) s ≡ drop n (drop at s)
drop_more zero n s = (λ i. drop (sum i) s) ∙ none s
  where
    sum : 0 + n ≡ n
    sum = omega arith

    none : (s : List ℕ) → drop n s ≡ drop n (drop 0 s)
    none [] = refl
    none (b ∷ s) = refl
drop_more (suc at) n [] = (λ i. drop (sum i) []) ∙ none n
  where
    sum : suc at + n ≡ suc (at + n)
    sum = omega arith

    none : (n : ℕ) → ◌≡◌ {A = List ℕ} [] (drop n (drop (suc at) []))
    none zero = refl
    none (suc n) = refl
drop_more (suc at) n (b ∷ s) = (λ i. drop (sum i) (b ∷ s)) ∙ drop_more at n s
  where
    sum : suc at + n ≡ suc (at + n)
    sum = omega arith

-- after a word is what follows it
pub word_dropped : (source word after : List ℕ) (at : ℕ) → drop at source ≡ word ++ after → drop (at + length word) source ≡ after
word_dropped source word after at h = drop_more at (length word) source ∙ ap (drop (length word)) h ∙ drop_append word after

pub part_slice : (source word after : List ℕ) (at line : ℕ) (t : Token) → drop at source ≡ word ++ after → IsPart at line word t → IsSliceOf source t
part_slice source word after at line t h p =
    let long : at + length word - at ≡ length word = omega arith in
    p.text ∙ sym (take_append word after) ∙ sym (λ i. take (long i) (h i)) ∙ sym (λ i. slice_range source (p.start i) (p.end i))

-- the token begins in its line
part_line : (source word : List ℕ) (at line : ℕ) (t : Token) → line ≡ line_at source at → IsPart at line word t → IsOnLine source t
part_line source word at line t h p = p.in_line ∙ h ∙ ap (line_at source) (sym p.start)

further : (low : ℕ) (ts : List Token) (high more : ℕ) → high ≤ more → LieBetween low ts high → LieBetween low ts more
further low [] high more le h = omega (arith, le, h)
further low (t ∷ ts) high more le h = (h.0, h.1, further t.span.end ts high more le h.2)

one_more : (low : ℕ) (ts : List Token) (high : ℕ) (t : Token) (more : ℕ) → LieBetween low ts high → t.span.start ≡ high → t.span.end ≡ more → high ≤ more → LieBetween low (ts ++ t ∷ []) more
one_more low [] high t more h start end le = (omega (arith, h, start), omega (arith, start, end, le), omega (arith, end))
one_more low (u ∷ ts) high t more h start end le = (h.0, h.1, one_more u.span.end ts high t more h.2 start end le)

pub parts_push : (source word after : List ℕ) (items : List Token) (at line : ℕ) (t : Token) → drop at source ≡ word ++ after → line ≡ line_at source at → IsPart at line word t → AreParts source items at → AreParts source (items ++ t ∷ []) (at + length word)
parts_push source word after items at line t h l p before = record {
  slices = All-push (IsSliceOf source) items t before.slices (part_slice source word after at line t h p);
  order = one_more 0 items at t (at + length word) before.order p.start p.end (omega arith);
  lines = All-push (IsOnLine source) items t before.lines (part_line source word at line t l p);
}

parts_with : (source word after : List ℕ) (items : List Token) (at line : ℕ) (made : Option Token) → drop at source ≡ word ++ after → line ≡ line_at source at → IfSome made (IsPart at line word) → AreParts source items at → AreParts source (items ++ option_to_list made) (at + length word)
parts_with source word after items at line (Some t) h l p before = parts_push source word after items at line t h l p before
parts_with source word after items at line None h l p before = record { lines = subst (All (IsOnLine source)) (sym (no_more items)) before.lines; slices = subst (All (IsSliceOf source)) (sym (no_more items)) before.slices; order = subst (λ l. LieBetween 0 l (at + length word)) (sym (no_more items)) (further 0 items at (at + length word) (omega arith) before.order) }
  where
    no_more : (l : List Token) → l ++ [] ≡ l
    no_more [] = refl
    no_more (t ∷ l) = ap (λ l. t ∷ l) (no_more l)

-- a turn: perhaps one token more
pub parts_kept : (source word after : List ℕ) (items new : List Token) (at line : ℕ) (made : Option Token) → drop at source ≡ word ++ after → line ≡ line_at source at → IfSome made (IsPart at line word) → new ≡ items ++ option_to_list made → AreParts source items at → AreParts source new (at + length word)
parts_kept source word after items new at line made h l p e before = subst (λ l. AreParts source l (at + length word)) (sym e) (parts_with source word after items at line made h l p before)

pub ends_in : (k : TokenKind) (ts : List Token) (t : Token) → t.kind ≡ k → EndsIn k (ts ++ t ∷ [])
ends_in k [] t h = h
ends_in k (u ∷ []) t h = h
ends_in k (u ∷ (v ∷ ts)) t h = ends_in k (v ∷ ts) t h

pub parts_first : (source : List ℕ) → AreParts source [] 0
parts_first source = record { slices = λ k d h. absurd (omega (arith, h)); order = omega arith; lines = λ k d h. absurd (omega (arith, h)) }

pub at_first : (source : List ℕ) → drop 0 source ≡ source
at_first [] = refl
at_first (b ∷ source) = refl

-- ---- lines

none_left : (n : ℕ) → ends_before n [] ≡ 0
none_left zero = refl
none_left (suc n) = refl

ends_further : (m n : ℕ) (source : List ℕ) → ends_before (m + n) source ≡ ends_before m source + ends_before n (drop m source)
ends_further zero n source =
    let same : 0 + n ≡ n = omega arith in
    let sum : ends_before n source ≡ 0 + ends_before n source = omega arith in
    ap (λ n. ends_before n source) same ∙ sum ∙ ap (λ l. 0 + ends_before n l) (sym (at_first source))
ends_further (suc m) n [] =
    let sum : suc m + n ≡ suc (m + n) = omega arith in ap (λ n. ends_before n []) sum ∙ sym (ap (λ k. 0 + k) (none_left n))
ends_further (suc m) n (b ∷ source) =
    let sum : suc m + n ≡ suc (m + n) = omega arith in
    ap (λ n. ends_before n (b ∷ source)) sum ∙ ap (λ k. (if ends_line b source then 1 else 0) + k) (ends_further m n source)
    ∙ sym (add_assoc (if ends_line b source then 1 else 0) (ends_before m source) (ends_before n (drop m source)))

-- the line after a word is as many lines further as the word has line ends
pub line_after : (source rest : List ℕ) (at count line ends : ℕ) → drop at source ≡ rest → line ≡ line_at source at → ends ≡ ends_before count rest → line + ends ≡ line_at source (at + count)
line_after source rest at count line ends h l e =
    (λ i. l i + e i) ∙ ap (λ r. line_at source at + ends_before count r) (sym h)
    ∙ add_assoc 1 (ends_before at source) (ends_before count (drop at source)) ∙ ap (λ k. 1 + k) (sym (ends_further at count source))
