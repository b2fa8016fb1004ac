-- The bytes of a report, part by part.
use Rattle.std.proofs.Common.{◌≡◌, ◌∙◌, ◌++◌, ◌+◌, ◌<◌, ◌&&◌, Bool, true, false, nat_lt, List, ℕ, Option, None, Some, [], ◌∷◌, ap, ap₂, append_assoc, append-nil, codes, flat_map, get_or, length, slice_get, take, IsUtf8, encode_utf8_all, refl, subst, sym}
use Rattle.std.proofs.lemmas.Bool.{ltb-true}
use Rattle.std.proofs.lemmas.List.{take_more}
use Rattle.std.proofs.lemmas.List.Concat.{flat_map-append}
use Rattle.std.proofs.lemmas.Option.{get_or_from_slice_get, slice_get_within}
use Rattle.std.proofs.lemmas.Str.{IsUtf8-from_ascii, chars-IsAscii, encode_ascii, encodes-append, encodes-chars}
use Rattle.std.specs.Fmt.{decimal}
use Rattle.std.specs.Str.{IsAscii}
use Rattle.std.specs.Io.KnownBytes.{Appends, Keeps}
use Rattle.si_plain.specs.declared.kind.Kind.{Kind}
use Rattle.si_plain.specs.Kinds.{name_of}
use Rattle.si_plain.specs.declared.kind.Kind.TheVariants.{BaseException, Exception, ArithmeticError, OverflowError, ZeroDivisionError, AttributeError, LookupError, IndexError, KeyError, NameError, UnboundLocalError, RuntimeError, RecursionError, SyntaxError, TypeError, NotShareableError, ValueError, InterpreterError, InterpreterNotFoundError, ExecutionFailed, QueueEmpty, QueueFull}
use Rattle.si_semantics.specs.Life as life
use Rattle.si_semantics.specs.Report.{heading, kind_and_message, outcome_line}
use Rattle.si_semantics.specs.Value.{Text}
use Rattle.si_plain.specs.Characters.{characters_of}
use Rattle.si_interp.specs.Meaning.{InterpView, Logged}
use Rattle.si_cli.specs.Report.{part_by, part_of, raised_lines}
use Rattle.si_cli.specs.inner.Parts.{after_kind}

-- what is appended in two steps
pub appended : (x y z : Option (List ℕ)) (a b : List ℕ) → Appends x y a → Appends y z b → Appends x z (a ++ b)
appended None y z a b f s = tt
appended (Some x) None z a b f s = absurd f
appended (Some x) (Some y) None a b f s = absurd s
appended (Some x) (Some y) (Some z) a b f s = s ∙ ap (λ l. l ++ b) f ∙ append_assoc x a b

-- each character is ASCII
abbrev all_ascii : List ℕ → Bool
all_ascii [] = true
all_ascii (c ∷ cs) = nat_lt c 128 && all_ascii cs

both : (a b : Bool) → (a && b) ≡ true → (a ≡ true) × (b ≡ true)
both true b e = (refl, e)
both false b e = absurd cc

-- such characters are their own bytes
pub ascii : (cs : List ℕ) → all_ascii cs ≡ true → encode_utf8_all cs ≡ cs
ascii [] e = refl
ascii (c ∷ cs) e =
    let h = both (nat_lt c 128) (all_ascii cs) e in
    ap₂ (λ x y. x ++ y) (encode_ascii c (ltb-true c 128 h.0)) (ascii cs h.1)

-- a kind and its message, in two parts
pub kind_and_after : (k : Kind) (message : List ℕ) → kind_and_message k message ≡ name_of k ++ after_kind message
kind_and_after k [] = sym (append-nil (name_of k))
kind_and_after k (c ∷ cs) = refl

-- the name of a kind is ASCII
pub name_bytes : (k : Kind) → encode_utf8_all (name_of k) ≡ name_of k
unfolding name_of
name_bytes BaseException = ascii (name_of BaseException) refl
name_bytes Exception = ascii (name_of Exception) refl
name_bytes ArithmeticError = ascii (name_of ArithmeticError) refl
name_bytes OverflowError = ascii (name_of OverflowError) refl
name_bytes ZeroDivisionError = ascii (name_of ZeroDivisionError) refl
name_bytes AttributeError = ascii (name_of AttributeError) refl
name_bytes LookupError = ascii (name_of LookupError) refl
name_bytes IndexError = ascii (name_of IndexError) refl
name_bytes KeyError = ascii (name_of KeyError) refl
name_bytes NameError = ascii (name_of NameError) refl
name_bytes UnboundLocalError = ascii (name_of UnboundLocalError) refl
name_bytes RuntimeError = ascii (name_of RuntimeError) refl
name_bytes RecursionError = ascii (name_of RecursionError) refl
name_bytes SyntaxError = ascii (name_of SyntaxError) refl
name_bytes TypeError = ascii (name_of TypeError) refl
name_bytes NotShareableError = ascii (name_of NotShareableError) refl
name_bytes ValueError = ascii (name_of ValueError) refl
name_bytes InterpreterError = ascii (name_of InterpreterError) refl
name_bytes InterpreterNotFoundError = ascii (name_of InterpreterNotFoundError) refl
name_bytes ExecutionFailed = ascii (name_of ExecutionFailed) refl
name_bytes QueueEmpty = ascii (name_of QueueEmpty) refl
name_bytes QueueFull = ascii (name_of QueueFull) refl

-- the bytes of the line of an exception, in the parts in which they are written
pub raised_bytes : (k : Kind) (message : List ℕ) → codes "raised " ++ (name_of k ++ (encode_utf8_all (after_kind message) ++ codes "\n")) ≡ encode_utf8_all (outcome_line (life.Raised k message))
raised_bytes k message =
    let after = encode_utf8_all (after_kind message) in
    let inner : encode_utf8_all (kind_and_message k message) ≡ name_of k ++ after =
    ap encode_utf8_all (kind_and_after k message) ∙ encodes-append (name_of k) (after_kind message) ∙ ap (λ l. l ++ after) (name_bytes k) in
    sym (encodes-append (codes "raised " ++ kind_and_message k message) (codes "\n")
    ∙ ap₂ (λ x y. x ++ y) (encodes-append (codes "raised ") (kind_and_message k message) ∙ ap₂ (λ x y. x ++ y) (ascii (codes "raised ") refl) inner) (ascii (codes "\n") refl)
    ∙ append_assoc (codes "raised ") (name_of k ++ after) (codes "\n")
    ∙ ap (λ l. codes "raised " ++ l) (append_assoc (name_of k) after (codes "\n")))

-- decimal digits are their own bytes
pub own_bytes : (bs : List ℕ) → IsAscii bs → encode_utf8_all bs ≡ bs
own_bytes bs h = ap encode_utf8_all (sym (chars-IsAscii bs h)) ∙ encodes-chars bs (IsUtf8-from_ascii bs h)

-- the bytes of a heading, in the parts in which they are written
pub heading_bytes : (id : ℕ) → IsAscii (decimal id) → codes "== interpreter " ++ (decimal id ++ codes " ==\n") ≡ encode_utf8_all (heading id)
heading_bytes id h =
    let digits : List ℕ = decimal id in
    let ending : encode_utf8_all (codes " ==" ++ codes "\n") ≡ codes " ==\n" = ascii (codes " ==\n") refl in
    sym (ap encode_utf8_all (append_assoc (codes "== interpreter ") (digits ++ codes " ==") (codes "\n") ∙ ap (λ l. codes "== interpreter " ++ l) (append_assoc digits (codes " ==") (codes "\n")))
    ∙ encodes-append (codes "== interpreter ") (digits ++ (codes " ==" ++ codes "\n"))
    ∙ ap₂ (λ x y. x ++ y) (ascii (codes "== interpreter ") refl)
    (encodes-append digits (codes " ==" ++ codes "\n") ∙ ap₂ (λ x y. x ++ y) (own_bytes digits h) ending))

-- the bytes of an interpreter's part, in the parts in which they are written
pub part_bytes : (id : ℕ) (printed : List ℕ) (log : List Logged) → IsUtf8 printed → encode_utf8_all (heading id) ++ (printed ++ encode_utf8_all (raised_lines log)) ≡ encode_utf8_all (part_by id (characters_of printed) log)
part_bytes id printed log text =
    let seen = characters_of printed in
    sym (encodes-append (heading id) (seen ++ raised_lines log)
    ∙ ap (λ l. encode_utf8_all (heading id) ++ l)
    (encodes-append seen (raised_lines log)
    ∙ ap (λ l. l ++ encode_utf8_all (raised_lines log)) (encodes-chars printed text)))

-- the part of this number, text and log was appended, which are those of an interpreter
pub part_appended :
    (x y : Option (List ℕ)) (v : InterpView) (id : ℕ) (printed : Text) (log : List Logged) → id ≡ v.id → printed ≡ v.printed → log ≡ v.log
    → Appends x y (encode_utf8_all (part_by id printed log)) → Appends x y (encode_utf8_all (part_of v))
part_appended x y v id printed log a b c h =
    let same : part_by id printed log ≡ part_of v = rw (a, b, c) refl in
    subst (λ (text : Text). Appends x y (encode_utf8_all text)) same h

-- the bytes of one item more
piece_bytes :
    {X : Type 0} (f : X → Text) (xs : List X) (i : ℕ) (x : X) → slice_get xs i ≡ Some x
    → encode_utf8_all (flat_map f (take i xs)) ++ encode_utf8_all (f x) ≡ encode_utf8_all (flat_map f (take (i + 1) xs))
piece_bytes f xs i x is =
    let within : i < length xs = slice_get_within xs i x is in
    let last : get_or xs i x ≡ x = get_or_from_slice_get xs i x x is in
    sym (ap (λ l. encode_utf8_all (flat_map f l)) (take_more xs i x within ∙ ap (λ y. take i xs ++ y ∷ []) last)
    ∙ ap encode_utf8_all (flat_map-append f (take i xs) (x ∷ []) ∙ ap (λ l. flat_map f (take i xs) ++ l) (append-nil (f x)))
    ∙ encodes-append (flat_map f (take i xs)) (f x))

-- one item more is appended
pub appended_piece :
    {X : Type 0} (f : X → Text) (xs : List X) (i : ℕ) (x : X) (a b c : Option (List ℕ)) → slice_get xs i ≡ Some x
    → Appends a b (encode_utf8_all (flat_map f (take i xs))) → Appends b c (encode_utf8_all (f x)) → Appends a c (encode_utf8_all (flat_map f (take (i + 1) xs)))
appended_piece f xs i x a b c is g h = subst (Appends a c) (piece_bytes f xs i x is) (appended a b c _ _ g h)

-- what was appended stays
pub appended_kept : (x y z : Option (List ℕ)) (a : List ℕ) → Appends x y a → Keeps y z → Appends x z a
appended_kept None y z a f k = tt
appended_kept (Some x) None z a f k = absurd f
appended_kept (Some x) (Some y) None a f k = absurd k
appended_kept (Some x) (Some y) (Some z) a f k = k ∙ f
