-- The tokens of a text, as they are kept.
use Rattle.std.specs.Prelude.{ℕ, List}
use Rattle.std.specs.Borrow.{Bor}
use Rattle.si_token.specs.declared.token.Token.{Token}

-- a reference that reads as this, wherever it lies
abbrev pub reads_as : {A : Type 0} → A → Bor A
reads_as x = record { ref_ptr = (0, 0); now = x }

-- a token by its kind, its text and its span, wherever its text lies in memory
abbrev pub plain : Token → Token
plain t = record { text = reads_as t.text.now; span = t.span; kind = t.kind }

-- the source, and the tokens, each of them plain
pub record Row : Type 0 where
  pub source : List ℕ
  pub items : List Token
