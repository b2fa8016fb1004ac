-- A quote, the characters as they stand between quotes, and the quote again.
use Rattle.std.proofs.Common.{◌≡◌, ℕ, List, [], ◌∷◌, ◌++◌, flat_map, encode_utf8, encode_utf8_all, refl, sym, ap, ◌∙◌, append-nil}
use Rattle.std.specs.Prelude.{codes}
use Rattle.std.specs.Str.{IsUtf8}
use Rattle.std.proofs.lemmas.Str.{encodes-append, chars-encodes}
use Rattle.si_plain.specs.Characters.{characters_of}
use Rattle.si_plain.specs.Repr.{quote_of, escaped, escaped_byte, repr_of, bytes_repr_of}
use Rattle.si_ops.specs.Writing.{bytes_between}

between : (q : ℕ) (t : List ℕ) → (encode_utf8 q ++ encode_utf8_all t) ++ encode_utf8 q ≡ encode_utf8_all ((q ∷ t) ++ q ∷ [])
between q t = ap (λ x. (encode_utf8 q ++ encode_utf8_all t) ++ x) (sym (append-nil (encode_utf8 q))) ∙ sym (encodes-append (q ∷ t) (q ∷ []))

pub quoted : (cs : List ℕ) (q : ℕ) → q ≡ quote_of cs → (encode_utf8 q ++ encode_utf8_all (flat_map (escaped q) cs)) ++ encode_utf8 q ≡ encode_utf8_all (repr_of cs)
unfolding repr_of
quoted cs q e = between q (flat_map (escaped q) cs) ∙ ap (λ p. encode_utf8_all ((p ∷ flat_map (escaped p) cs) ++ p ∷ [])) e

-- the same of bytes
pub bytes_quoted : (bs : List ℕ) (q : ℕ) → q ≡ quote_of bs → (encode_utf8 q ++ encode_utf8_all (flat_map (escaped_byte q) bs)) ++ encode_utf8 q ≡ encode_utf8_all (bytes_between (quote_of bs) bs)
bytes_quoted bs q e = between q (flat_map (escaped_byte q) bs) ∙ ap (λ p. encode_utf8_all ((p ∷ flat_map (escaped_byte p) bs) ++ p ∷ [])) e

-- `b` and what stands between quotes
pub bytes_shown : (bs : List ℕ) → codes "b" ++ encode_utf8_all (bytes_between (quote_of bs) bs) ≡ encode_utf8_all (bytes_repr_of bs)
unfolding bytes_repr_of lib.Utf8.encode
bytes_shown bs = refl

-- a text by its characters, in UTF-8
pub encoded_characters : (bs : List ℕ) → IsUtf8 bs → encode_utf8_all (characters_of bs) ≡ bs
encoded_characters bs u = ap encode_utf8_all (ap characters_of (sym u.1.1) ∙ chars-encodes u.0 u.1.0) ∙ u.1.1
