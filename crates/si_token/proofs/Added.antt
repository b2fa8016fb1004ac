-- Tokens that were put after others: INDENT and DEDENTs.
use Rattle.std.proofs.Common.{◌≡◌, ℕ, ◌+◌, List, [], ◌∷◌, ◌++◌, length, map, replicate, reverse, drop, refl, sym, ap, ◌∙◌, subst, arith, append_assoc, Option}
use Rattle.std.specs.Prelude.{IfSome}
use Rattle.std.specs.List.{AllByRecursion}
use Rattle.std.specs.Option.{option_to_list}
use Rattle.std.proofs.lemmas.List.{map-append, length-reverse}
use Rattle.si_semantics.specs.Tokens as tokens
use Rattle.si_semantics.specs.Layout.{empty_tokens, line_at}
use Rattle.si_token.specs.declared.token.Token.{Token}
use Rattle.si_token.specs.Views.{token_of}
use Rattle.si_token.specs.Spans.{IsPart}
use Rattle.si_token.specs.inner.Laying.{Adds}
use Rattle.si_token.proofs.Slices.{AreParts, parts_push, parts_kept}

append_none : {A : Type 0} (xs : List A) → xs ++ [] ≡ xs
append_none [] = refl
append_none (x ∷ xs) = ap (λ l. x ∷ l) (append_none xs)

-- the tokens of all
pub adds_tokens : (at line : ℕ) (kinds : List tokens.TokenKind) (old new : List Token) → Adds at line kinds old new → map token_of new ≡ map token_of old ++ empty_tokens at kinds
adds_tokens at line kinds old new a = ap (map token_of) a.whole ∙ map-append token_of old a.made ∙ ap (λ l. map token_of old ++ l) a.tokens

-- they are slices of the source
pub adds_parts : (source rest : List ℕ) (at line : ℕ) (kinds : List tokens.TokenKind) (old new : List Token) → drop at source ≡ rest → line ≡ line_at source at → Adds at line kinds old new → AreParts source old at → AreParts source new at
adds_parts source rest at line kinds old new h here a before = subst (λ l. AreParts source l at) (sym a.whole) (by a.made old a.parts before)
  where
    by : (made old : List Token) → AllByRecursion (IsPart at line []) made → AreParts source old at → AreParts source (old ++ made) at
    by [] old p before = subst (λ l. AreParts source l at) (sym (append_none old)) before
    by (t ∷ made) old p before =
        let zero : at + length {A = ℕ} [] ≡ at = omega arith in
        let one : AreParts source (old ++ t ∷ []) at = subst (AreParts source (old ++ t ∷ [])) zero (parts_push source [] rest old at line t h here p.0 before) in
        subst (λ l. AreParts source l at) (append_assoc old (t ∷ []) made) (by made (old ++ t ∷ []) p.1 one)

-- the end: perhaps one token, those of the blocks, and the last, all of them empty
pub parts_ended : (source : List ℕ) (items new between last : List Token) (at line : ℕ) (missing : Option Token) (kinds : List tokens.TokenKind) (t : Token) → drop at source ≡ [] → at ≡ length source → line ≡ line_at source at → IfSome missing (IsPart at line []) → IsPart at line [] t
    → new ≡ items ++ option_to_list missing → Adds at line kinds new between → last ≡ between ++ t ∷ [] → AreParts source items at → AreParts source last (length source)
parts_ended source items new between last at line missing kinds t h whole here m e n adds l before =
    let zero : at + length {A = ℕ} [] ≡ at = omega arith in
    let first : AreParts source new at = subst (AreParts source new) zero (parts_kept source [] [] items new at line missing h here m n before) in
    let second : AreParts source between at = adds_parts source [] at line kinds new between h here adds first in
    let third : AreParts source (between ++ t ∷ []) at = subst (AreParts source (between ++ t ∷ [])) zero (parts_push source [] [] between at line t h here e second) in
    subst (AreParts source last) whole (subst (λ x. AreParts source x at) (sym l) third)

-- a DEDENT for each block
pub dedents_of : (at : ℕ) (blocks : List ℕ) → empty_tokens at (replicate (length blocks) tokens.Dedent) ≡ empty_tokens at (map (λ c. tokens.Dedent) (reverse blocks))
dedents_of at blocks = ap (λ n. empty_tokens at (replicate n tokens.Dedent)) (sym (length-reverse blocks)) ∙ ap (empty_tokens at) (by (reverse blocks))
  where
    by : (l : List ℕ) → replicate (length l) tokens.Dedent ≡ map (λ c. tokens.Dedent) l
    by [] = refl
    by (x ∷ l) = ap (λ k. tokens.Dedent ∷ k) (by l)
