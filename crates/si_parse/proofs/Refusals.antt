-- Where a text is refused for its syntax, it has no tree; and what is read of its tokens is read of the text.
use Rattle.std.proofs.Common.{◌≡◌, ℕ, ◌≤◌, ◌<◌, List, length, arith, map, Result, Ok, Err, sym, ap, ◌∙◌, subst}
use Rattle.std.specs.Prelude.{option_map, IfOk, IfErr}
use Rattle.std.proofs.lemmas.Simd.{map-map}
use Rattle.si_semantics.specs.Tree.{Stmts}
use Rattle.si_semantics.specs.Tokens as tokens
use Rattle.si_semantics.specs.Layout.{HasTokens}
use Rattle.si_semantics.specs.Grammar.{Terminal, terminal_of, Derives}
use Rattle.si_token.specs.Rows.{Row}
use Rattle.si_token.specs.declared.scan.TokenFault.{TokenFault}
use Rattle.si_token.specs.declared.scan.TokenFault.TheVariants as fault
use Rattle.si_token.specs.Views.{token_of}
use Rattle.si_token.specs.Faults.{IsBadText, IsTooLong}
use Rattle.si_parse.specs.declared.fault.ParseFault.{ParseFault}
use Rattle.si_parse.specs.declared.fault.ParseFault.TheVariants.{Syntax, NoMemory}
use Rattle.si_syntax.specs.declared.modules.Module.{Module}
use Rattle.si_syntax.specs.Modules.{tree_of}
use Rattle.si_parse.specs.Modules.{IsRead, max_bytes}
use Rattle.si_parse.specs.inner.Lines.{module_by}
use Rattle.si_parse.specs.inner.Gives.{Fails, IsSyntax, fault_of, from}
use Rattle.si_parse.proofs.Modules.{none_derived}

pub refused : (ts : List Terminal) (e : ParseFault) → Fails e (option_map (λ r. r.0) (module_by ts)) → IsSyntax e → (body : Stmts) → Derives body ts → ⊥
refused ts NoMemory h is body d = absurd is
refused ts (Syntax line) h is body d = none_derived ts h body d

-- a text without tokens has no tree
pub no_tokens : (text : List ℕ) (f : TokenFault) → (IsBadText f → (ts : List tokens.Token) → HasTokens ts text → ⊥) → (IsTooLong f → max_bytes < length text) → IsSyntax (fault_of f) → (body : Stmts) → IsRead text body → ⊥
no_tokens text (fault.BadText line) h long is body d = h tt d.1 d.2
no_tokens text fault.TooLong h long is body d =
    let past = long tt in
    let short = d.0 in
    absurd (omega (arith, past, short))
no_tokens text fault.NoMemory h long is body d = absurd is

module _ (text : List ℕ) (all : Row) (has : HasTokens (map token_of all.items) text) (only : (ts : List tokens.Token) → HasTokens ts text → ts ≡ map token_of all.items) where
  terminals_are : map terminal_of (map token_of all.items) ≡ from all 0
  terminals_are = map-map terminal_of token_of all.items

  of_tokens : (body : Stmts) → IsRead text body → Derives body (from all 0)
  of_tokens body d = subst (Derives body) (ap (map terminal_of) (only d.1 d.2) ∙ terminals_are) d.3

  pub text_found : length text ≤ max_bytes → (r : Result Module ParseFault) → IfOk r (λ m. Derives (tree_of m) (from all 0)) → IfOk r (λ m. IsRead text (tree_of m))
  text_found short (Ok m) d = (short, map token_of all.items, has, subst (Derives (tree_of m)) (sym terminals_are) d)
  text_found short (Err e) d = tt

  pub text_refused : (r : Result Module ParseFault) → IfErr r (λ e. IsSyntax e → (body : Stmts) → Derives body (from all 0) → ⊥) → IfErr r (λ e. IsSyntax e → (body : Stmts) → IsRead text body → ⊥)
  text_refused (Ok m) h = tt
  text_refused (Err e) h = λ is body d. h is body (of_tokens body d)

  pub text_only : (r : Result Module ParseFault) → IfOk r (λ m. (body : Stmts) → Derives body (from all 0) → tree_of m ≡ body) → IfOk r (λ m. (body : Stmts) → IsRead text body → tree_of m ≡ body)
  text_only (Ok m) h = λ body d. h body (of_tokens body d)
  text_only (Err e) h = tt
