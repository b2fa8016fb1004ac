-- One turn of the loop over a text.
use Rattle.std.proofs.Common.{◌≡◌, ℕ, ◌+◌, ◌<◌, List, [], ◌∷◌, ◌++◌, length, map, replicate, reverse, refl, sym, ap, ◌∙◌, arith, append_assoc, Option, Some, None, Bool, true, false}
use Rattle.std.specs.Prelude.{◌==◌, nat_lt}
use Rattle.std.specs.Option.{option_map, option_to_list}
use Rattle.std.proofs.lemmas.List.{map-append}
use Rattle.std.proofs.lemmas.Bool.Decides.{nat_tests}
use Rattle.std.proofs.lemmas.Bool.{eqb-true}
use Rattle.si_semantics.specs.Tokens as tokens
use Rattle.si_semantics.specs.Tokens.{TokenKind}
use Rattle.si_semantics.specs.Words.{Sort, Name, Int, Text, Operator, Spaces, Tabs, Comment, LineEnd}
use Rattle.si_semantics.specs.Layout.{token, empty_tokens}
use Rattle.si_semantics.specs.Layout.{kind_of as word_kind}
use Rattle.si_token.specs.declared.token.Token.{Token}
use Rattle.si_token.specs.declared.token.TokenKind.TheVariants as kind
use Rattle.si_token.specs.Views.{Place, token_of, kind_of}
use Rattle.si_token.specs.inner.Laying.{laid, before_word, stepped, with_line_end, missing_newline, Adds}
use Rattle.si_token.proofs.Lines.{end_laid, with_before}
use Rattle.si_token.proofs.Steps.{all_ending}
use Rattle.si_token.proofs.Added.{adds_tokens, dedents_of}
use Rattle.si_token.specs.Spans.{IsPart}

pub some_rest : (rest : List ℕ) → (length rest == 0) ≡ false → 0 < length rest
some_rest rest h = grind (arith, nat_tests)

pub no_rest : (rest : List ℕ) → (length rest == 0) ≡ true → rest ≡ []
no_rest [] h = refl
no_rest (b ∷ rest) h = let e : length (b ∷ rest) ≡ 0 = eqb-true (length (b ∷ rest)) 0 h in absurd (omega (arith, e))

list_of : (made : Option Token) → map token_of (option_to_list made) ≡ option_to_list (option_map token_of made)
list_of None = refl
list_of (Some t) = refl

-- the tokens with one more
pub kept : (items new : List Token) (made : Option Token) → new ≡ items ++ option_to_list made → map token_of items ++ option_to_list (option_map token_of made) ≡ map token_of new
kept items new made e = sym (ap (map token_of) e ∙ map-append token_of items (option_to_list made) ∙ ap (λ l. map token_of items ++ l) (list_of made))

-- ---- where the bytes of a word end

end_goes : (p : Place) (w : List ℕ) → (with_line_end p w).1.at ≡ p.at + length w
end_goes p w = by (nat_lt 0 p.brackets)
  where
    by : (t : Bool) → (end_laid p w t).1.at ≡ p.at + length w
    by true = refl
    by false = refl

-- after a word stand its bytes
pub laid_at : (p : Place) (k : Option TokenKind) (s : Sort) (w : List ℕ) → (laid p k s w).1.at ≡ p.at + length w
laid_at p (Some k) s w = refl
laid_at p None Spaces w = refl
laid_at p None Tabs w = refl
laid_at p None LineEnd w = end_goes p w
laid_at p None Comment w = refl
laid_at p None Name w = refl
laid_at p None Int w = refl
laid_at p None Text w = refl
laid_at p None Operator w = refl

-- ---- a turn

-- a step, by the token that the word may be
abbrev step_by : Place → List ℕ → Sort → List ℕ → Option TokenKind → Option (List tokens.Token × Place × List ℕ)
step_by p blocks s w k = with_before p.at (laid p k s w) (before_word p blocks k)

-- what stands before a word, and the token that it makes
pub turned : (items between new : List Token) (made : Option Token) (line : ℕ) (p q : Place) (k : Option TokenKind) (s : Sort) (w : List ℕ) (blocks open_blocks : List ℕ) (kinds : List TokenKind) → k ≡ word_kind s w
    → before_word p blocks k ≡ Some (kinds, open_blocks) → (option_to_list (option_map token_of made), q) ≡ laid p k s w → Adds p.at line kinds items between → new ≡ between ++ option_to_list made
    → (stepped p blocks s w ≡ Some (empty_tokens p.at kinds ++ option_to_list (option_map token_of made), q, open_blocks))
    × (map token_of items ++ (empty_tokens p.at kinds ++ option_to_list (option_map token_of made)) ≡ map token_of new)
turned items between new made line p q k s w blocks open_blocks kinds is before l adds n = (
  ap (step_by p blocks s w) (sym is) ∙ ap (with_before p.at (laid p k s w)) before ∙ ap (λ (r : List tokens.Token × Place). Some (empty_tokens p.at kinds ++ r.0, r.1, open_blocks)) (sym l),
  sym (append_assoc (map token_of items) (empty_tokens p.at kinds) (option_to_list (option_map token_of made)))
      ∙ ap (λ l. l ++ option_to_list (option_map token_of made)) (sym (adds_tokens p.at line kinds items between adds))
      ∙ kept between new made n,
)

pub not_turned : (p : Place) (k : Option TokenKind) (s : Sort) (w : List ℕ) (blocks : List ℕ) → k ≡ word_kind s w → before_word p blocks k ≡ None → stepped p blocks s w ≡ None
not_turned p k s w blocks is before = ap (step_by p blocks s w) (sym is) ∙ ap (with_before p.at (laid p k s w)) before

-- ---- the end

pub end_is : (t : Token) (at line : ℕ) → t.kind ≡ kind.End → IsPart at line [] t → token_of t ≡ token at [] tokens.End
end_is t at line k part = λ i. record { kind = kind_of (k i); text = part.text i; start = part.start i }

-- the tokens with those at the end
pub ended : (items new between last : List Token) (missing : Option Token) (t : Token) (line : ℕ) (p : Place) (blocks : List ℕ) → option_to_list (option_map token_of missing) ≡ missing_newline p → token_of t ≡ token p.at [] tokens.End
    → new ≡ items ++ option_to_list missing → Adds p.at line (replicate (length blocks) tokens.Dedent) new between → last ≡ between ++ t ∷ []
    → map token_of last ≡ map token_of items ++ all_ending p (reverse blocks)
ended items new between last missing t line p blocks m e n adds l =
    ap (map token_of) l ∙ map-append token_of between (t ∷ [])
    ∙ (λ i. all_new i ++ e i ∷ [])
    ∙ append_assoc (map token_of items ++ missing_newline p) closes (token p.at [] tokens.End ∷ [])
    ∙ append_assoc (map token_of items) (missing_newline p) (closes ++ token p.at [] tokens.End ∷ [])
  where
    closes : List tokens.Token
    closes = empty_tokens p.at (map (λ c. tokens.Dedent) (reverse blocks))

    all_new : map token_of between ≡ (map token_of items ++ missing_newline p) ++ closes
    all_new =
        adds_tokens p.at line (replicate (length blocks) tokens.Dedent) new between adds
        ∙ (λ i. (sym (kept items new missing n) ∙ ap (λ l. map token_of items ++ l) m) i ++ dedents_of p.at blocks i)
