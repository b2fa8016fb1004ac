-- What pieces are together, in UTF-8.
use Rattle.std.proofs.Common.{◌≡◌, ℕ, ℤ, pos, Bool, true, false, cond, List, ◌++◌, flat_map, encode_utf8, encode_utf8_all, refl, sym, ap, ap₂, ◌∙◌, append_assoc, append-nil}
use Rattle.std.specs.Prelude.{codes}
use Rattle.std.proofs.lemmas.Str.{encodes-append}
use Rattle.std.proofs.lemmas.List.Concat.{flat_map-append}
use Rattle.si_plain.specs.declared.kind.Kind.{Kind}
use Rattle.si_plain.specs.declared.kind.Kind.TheVariants as kind
use Rattle.si_plain.specs.Kinds.{name_of}
use Rattle.si_plain.specs.Repr.{quote_of, escaped, repr_of}
use Rattle.std.specs.Str.{IsUtf8}
use Rattle.std.proofs.lemmas.Str.{encodes_same}
use Rattle.si_plain.specs.Characters.{characters_of}
use Rattle.si_semantics.specs.Value.{BuiltIn, Print, MakeRange, MakeStr, Repr, Len, MakeBool, Abs, MakeInt, Ord, Chr, Min, Max, MakeBytes, MakeTuple, MakeList}
use Rattle.si_plain.specs.declared.modules.ModuleName.{ModuleName}
use Rattle.si_plain.specs.declared.modules.ModuleName.TheVariants.{Threading, Interpreters}
use Rattle.si_semantics.specs.Text.{decimal, repr_range, same_int, built_in_name, full_name}
use Rattle.si_arena.specs.declared.refusal.Refusal.{Refusal}
use Rattle.si_arena.specs.declared.refusal.Refusal.TheVariants as refusal
use Rattle.si_arena.specs.Causes.{not_defined, not_bound, no_attribute, refusal_message}
use Rattle.si_ops.specs.Writing.{range_end, step_bytes}
use Rattle.si_ops.proofs.Quoting.{quoted, encoded_characters}

pub ap₃ : {A B C D : Type 0} (f : A → B → C → D) {a b : A} {c d : B} {e g : C} → a ≡ b → c ≡ d → e ≡ g → f a c e ≡ f b d g
ap₃ f {b = b} {c = c} {d = d} {e = e} p q r = ap (λ x. f x c e) p ∙ ap (λ y. f b y e) q ∙ ap (f b d) r

-- the name of a kind is ASCII
pub name_is : (k : Kind) → name_of k ≡ encode_utf8_all (name_of k)
unfolding name_of lib.Utf8.encode
name_is kind.BaseException = refl
name_is kind.Exception = refl
name_is kind.ArithmeticError = refl
name_is kind.OverflowError = refl
name_is kind.ZeroDivisionError = refl
name_is kind.AttributeError = refl
name_is kind.LookupError = refl
name_is kind.IndexError = refl
name_is kind.KeyError = refl
name_is kind.NameError = refl
name_is kind.UnboundLocalError = refl
name_is kind.RuntimeError = refl
name_is kind.RecursionError = refl
name_is kind.SyntaxError = refl
name_is kind.TypeError = refl
name_is kind.NotShareableError = refl
name_is kind.ValueError = refl
name_is kind.InterpreterError = refl
name_is kind.InterpreterNotFoundError = refl
name_is kind.ExecutionFailed = refl
name_is kind.QueueEmpty = refl
name_is kind.QueueFull = refl

-- three texts, one after another
three : (a b c : List ℕ) → encode_utf8_all a ++ (encode_utf8_all b ++ encode_utf8_all c) ≡ encode_utf8_all (a ++ (b ++ c))
three a b c = ap (λ x. encode_utf8_all a ++ x) (sym (encodes-append b c)) ∙ sym (encodes-append a (b ++ c))

pub function_is : (x s : List ℕ) → s ≡ encode_utf8_all x → codes "<function " ++ (s ++ codes ">") ≡ encode_utf8_all (codes "<function " ++ x ++ codes ">")
unfolding lib.Utf8.encode
function_is x s e =
    ap (λ y. codes "<function " ++ (y ++ codes ">")) e ∙ three (codes "<function ") x (codes ">")
    ∙ ap encode_utf8_all (sym (append_assoc (codes "<function ") x (codes ">")))

pub class_is : (k : Kind) (s : List ℕ) → s ≡ name_of k → codes "<class '" ++ (s ++ codes "'>") ≡ encode_utf8_all (codes "<class '" ++ name_of k ++ codes "'>")
unfolding lib.Utf8.encode
class_is k s e =
    ap (λ y. codes "<class '" ++ (y ++ codes "'>")) (e ∙ name_is k) ∙ three (codes "<class '") (name_of k) (codes "'>")
    ∙ ap encode_utf8_all (sym (append_assoc (codes "<class '") (name_of k) (codes "'>")))

-- the name of a module is ASCII
full_name_is : (m : ModuleName) → full_name m ≡ encode_utf8_all (full_name m)
unfolding lib.Utf8.encode
full_name_is Threading = refl
full_name_is Interpreters = refl

pub module_is : (m : ModuleName) (s : List ℕ) → s ≡ full_name m → codes "<module '" ++ (s ++ codes "'>") ≡ encode_utf8_all (codes "<module '" ++ full_name m ++ codes "'>")
unfolding lib.Utf8.encode
module_is m s e =
    ap (λ y. codes "<module '" ++ (y ++ codes "'>")) (e ∙ full_name_is m) ∙ three (codes "<module '") (full_name m) (codes "'>")
    ∙ ap encode_utf8_all (sym (append_assoc (codes "<module '") (full_name m) (codes "'>")))

-- numbers between two texts
pub queue_is : (n : ℤ) → codes "Queue(" ++ (encode_utf8_all (decimal n) ++ codes ")") ≡ encode_utf8_all (codes "Queue(" ++ decimal n ++ codes ")")
unfolding lib.Utf8.encode
queue_is n = three (codes "Queue(") (decimal n) (codes ")") ∙ ap encode_utf8_all (sym (append_assoc (codes "Queue(") (decimal n) (codes ")")))

pub interpreter_is : (n : ℤ) → codes "Interpreter(" ++ (encode_utf8_all (decimal n) ++ codes ")") ≡ encode_utf8_all (codes "Interpreter(" ++ decimal n ++ codes ")")
unfolding lib.Utf8.encode
interpreter_is n = three (codes "Interpreter(") (decimal n) (codes ")") ∙ ap encode_utf8_all (sym (append_assoc (codes "Interpreter(") (decimal n) (codes ")")))

pub exec_is : (n : ℤ) → codes "<exec of Interpreter(" ++ (encode_utf8_all (decimal n) ++ codes ")>") ≡ encode_utf8_all (codes "<exec of Interpreter(" ++ decimal n ++ codes ")>")
unfolding lib.Utf8.encode
exec_is n = three (codes "<exec of Interpreter(") (decimal n) (codes ")>") ∙ ap encode_utf8_all (sym (append_assoc (codes "<exec of Interpreter(") (decimal n) (codes ")>")))

-- the end of a range
end_is : (c : ℤ) → step_bytes c ≡ encode_utf8_all (range_end c)
unfolding lib.Utf8.encode
end_is c = by (same_int c (pos 1))
  where
    by : (b : Bool) → cond b (codes ")") (codes ", " ++ (encode_utf8_all (decimal c) ++ codes ")")) ≡ encode_utf8_all (cond b (codes ")") (codes ", " ++ decimal c ++ codes ")"))
    by true = refl
    by false = three (codes ", ") (decimal c) (codes ")") ∙ ap encode_utf8_all (sym (append_assoc (codes ", ") (decimal c) (codes ")")))

-- the integers of a range
pub range_is : (a b c : ℤ) → (codes "range(" ++ encode_utf8_all (decimal a)) ++ ((codes ", " ++ encode_utf8_all (decimal b)) ++ step_bytes c) ≡ encode_utf8_all (repr_range a b c)
unfolding lib.Utf8.encode
range_is a b c =
    let x = codes "range(" ++ decimal a in
    let y = codes ", " ++ decimal b in
    let z = range_end c in
    let flat : x ++ (y ++ z) ≡ ((codes "range(" ++ decimal a ++ codes ", ") ++ decimal b) ++ z =
    sym (append_assoc x y z) ∙ ap (λ t. t ++ z) (sym (append_assoc x (codes ", ") (decimal b))) in
    ap (λ t. (codes "range(" ++ encode_utf8_all (decimal a)) ++ ((codes ", " ++ encode_utf8_all (decimal b)) ++ t)) (end_is c)
    ∙ ap₂ (λ t u. t ++ (u ++ encode_utf8_all z)) (sym (encodes-append (codes "range(") (decimal a))) (sym (encodes-append (codes ", ") (decimal b)))
    ∙ three x y z ∙ ap encode_utf8_all flat

-- the name of a built-in is ASCII
built_in_is : (b : BuiltIn) → built_in_name b ≡ encode_utf8_all (built_in_name b)
unfolding lib.Utf8.encode
built_in_is Print = refl
built_in_is MakeRange = refl
built_in_is MakeStr = refl
built_in_is Repr = refl
built_in_is Len = refl
built_in_is MakeBool = refl
built_in_is Abs = refl
built_in_is MakeInt = refl
built_in_is Ord = refl
built_in_is Chr = refl
built_in_is Min = refl
built_in_is Max = refl
built_in_is MakeBytes = refl
built_in_is MakeTuple = refl
built_in_is MakeList = refl

pub provided_is : (b : BuiltIn) (s : List ℕ) → s ≡ built_in_name b → codes "<built-in " ++ (s ++ codes ">") ≡ encode_utf8_all (codes "<built-in " ++ built_in_name b ++ codes ">")
unfolding lib.Utf8.encode
provided_is b s e =
    ap (λ y. codes "<built-in " ++ (y ++ codes ">")) (e ∙ built_in_is b) ∙ three (codes "<built-in ") (built_in_name b) (codes ">")
    ∙ ap encode_utf8_all (sym (append_assoc (codes "<built-in ") (built_in_name b) (codes ">")))

-- a quote, three texts as they stand between quotes, and the quote
pub between_are : (q : ℕ) (a b c t : List ℕ) → q ≡ quote_of (a ++ (b ++ c)) → a ++ (b ++ c) ≡ t → encode_utf8 q ++ (encode_utf8_all (flat_map (escaped q) a) ++ (encode_utf8_all (flat_map (escaped q) b) ++ (encode_utf8_all (flat_map (escaped q) c) ++ encode_utf8 q))) ≡ encode_utf8_all (repr_of t)
between_are q a b c t h e =
    let g = λ (xs : List ℕ). encode_utf8_all (flat_map (escaped q) xs) in
    let both : (xs ys : List ℕ) → g xs ++ g ys ≡ g (xs ++ ys) = λ xs ys. sym (ap encode_utf8_all (flat_map-append (escaped q) xs ys) ∙ encodes-append (flat_map (escaped q) xs) (flat_map (escaped q) ys)) in
    let inner : g a ++ (g b ++ (g c ++ encode_utf8 q)) ≡ g (a ++ (b ++ c)) ++ encode_utf8 q =
    ap (λ x. g a ++ x) (sym (append_assoc (g b) (g c) (encode_utf8 q)) ∙ ap (λ x. x ++ encode_utf8 q) (both b c))
    ∙ sym (append_assoc (g a) (g (b ++ c)) (encode_utf8 q)) ∙ ap (λ x. x ++ encode_utf8 q) (both a (b ++ c)) in
    ap (λ x. encode_utf8 q ++ x) inner ∙ sym (append_assoc (encode_utf8 q) (g (a ++ (b ++ c))) (encode_utf8 q)) ∙ quoted (a ++ (b ++ c)) q h ∙ ap (λ x. encode_utf8_all (repr_of x)) e

pub named_is : (a x b s : List ℕ) → encode_utf8_all a ≡ a → encode_utf8_all b ≡ b → s ≡ encode_utf8_all x → a ++ (s ++ b) ≡ encode_utf8_all (a ++ (x ++ b))
named_is a x b s e f g = ap (λ y. y ++ (s ++ b)) (sym e) ∙ ap₂ (λ y z. encode_utf8_all a ++ (y ++ z)) g (sym f) ∙ three a x b

-- the characters of three texts
pub characters_are : (a b c t : List ℕ) → IsUtf8 a → IsUtf8 b → IsUtf8 c → a ++ (b ++ c) ≡ encode_utf8_all t → characters_of a ++ (characters_of b ++ characters_of c) ≡ t
characters_are a b c t u v w e =
    encodes_same (characters_of a ++ (characters_of b ++ characters_of c)) t
    (sym (three (characters_of a) (characters_of b) (characters_of c))
    ∙ ap₂ (λ x y. x ++ y) (encoded_characters a u) (ap₂ (λ x y. x ++ y) (encoded_characters b v) (encoded_characters c w))
    ∙ e)

pub not_defined_is : (x s : List ℕ) → s ≡ encode_utf8_all x → codes "name " ++ (s ++ codes " is not defined") ≡ encode_utf8_all (not_defined x)
unfolding lib.Utf8.encode
not_defined_is x s e = named_is (codes "name ") x (codes " is not defined") s refl refl e

pub not_bound_is : (x s : List ℕ) → s ≡ encode_utf8_all x → codes "local " ++ (s ++ codes " is not bound") ≡ encode_utf8_all (not_bound x)
unfolding lib.Utf8.encode
not_bound_is x s e = named_is (codes "local ") x (codes " is not bound") s refl refl e

pub no_attribute_is : (x s : List ℕ) → s ≡ encode_utf8_all x → codes "no attribute " ++ (s ++ codes "") ≡ encode_utf8_all (no_attribute x)
unfolding lib.Utf8.encode
no_attribute_is x s e = ap (λ y. codes "no attribute " ++ y) (append-nil s ∙ e) ∙ sym (encodes-append (codes "no attribute ") x)

-- the message of a refusal is ASCII
pub refusal_is : (r : Refusal) → refusal_message r ≡ encode_utf8_all (refusal_message r)
unfolding lib.Utf8.encode
refusal_is refusal.NotShareable = refl
refusal_is refusal.AlreadyStarted = refl
refusal_is refusal.NotStarted = refl
refusal_is refusal.TooManyInterpreters = refl
refusal_is refusal.TooManyQueues = refl
refusal_is refusal.QueueIsFull = refl
refusal_is refusal.QueueIsEmpty = refl
refusal_is refusal.Current = refl
refusal_is refusal.Main = refl
