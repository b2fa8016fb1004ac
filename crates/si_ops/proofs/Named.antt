-- Names by their characters.
use Rattle.std.proofs.Common.{◌≡◌, ℕ, zero, suc, ◌+◌, ◌<◌, Bool, true, false, cond, List, [], ◌∷◌, length, drop, get_or, Option, Some, None, option_map, map, encode_utf8_all, refl, sym, ap, ap₂, ◌∙◌, arith, add-one}
use Rattle.std.specs.Prelude.{codes, nat_eq, ◌&&◌, bytes_eq}
use Rattle.std.specs.Str.{IsUtf8, chars}
use Rattle.si_plain.specs.Characters.{characters_of}
use Rattle.si_plain.specs.declared.kind.Kind.{Kind}
use Rattle.si_plain.specs.declared.kind.Kind.TheVariants as kind
use Rattle.si_plain.specs.Kinds.{name_of}
use Rattle.si_semantics.specs.Value as pure
use Rattle.si_semantics.specs.Value.{Text, Value, Str, Provided, Class}
use Rattle.si_semantics.specs.Text.{same_text, built_in_name}
use Rattle.si_semantics.specs.Operations.{kind_named, built_in, built_in_kinds, built_in_named, built_ins, or_else}
use Rattle.si_semantics.specs.World.{first_world}
use Rattle.si_arena.specs.declared.value.BuiltIn.{BuiltIn}
use Rattle.si_arena.specs.Memory.{built_in_of}
use Rattle.si_semantics.proofs.Names.{same_is, same_self, other_is}
use Rattle.si_ops.proofs.Quoting.{encoded_characters}

same_bytes : (s t : List ℕ) → bytes_eq s t ≡ same_text s t
same_bytes [] [] = refl
same_bytes [] (d ∷ ds) = refl
same_bytes (c ∷ cs) [] = refl
same_bytes (c ∷ cs) (d ∷ ds) = ap (λ b. nat_eq c d && b) (same_bytes cs ds)

-- two texts have the same characters just where they have the same bytes
pub same_characters : (s t : List ℕ) → IsUtf8 s → IsUtf8 t → bytes_eq s t ≡ same_text (characters_of s) (characters_of t)
same_characters s t u v = same_bytes s t ∙ by (same_text s t) refl
  where
    by : (b : Bool) → same_text s t ≡ b → b ≡ same_text (characters_of s) (characters_of t)
    by true e = sym (ap (λ x. same_text (characters_of s) (characters_of x)) (sym (same_is s t e)) ∙ same_self (characters_of s))
    by false e = sym (other_is (characters_of s) (characters_of t) (λ p. differ (sym (encoded_characters s u) ∙ ap encode_utf8_all p ∙ encoded_characters t v) e))
      where
        differ : s ≡ t → same_text s t ≡ false → ⊥
        differ p e = let two : true ≡ false = sym (same_self s) ∙ ap (same_text s) p ∙ e in cc

-- the name of a kind is ASCII
name_characters : (k : Kind) → characters_of (name_of k) ≡ name_of k
unfolding name_of chars
name_characters kind.BaseException = refl
name_characters kind.Exception = refl
name_characters kind.ArithmeticError = refl
name_characters kind.OverflowError = refl
name_characters kind.ZeroDivisionError = refl
name_characters kind.AttributeError = refl
name_characters kind.LookupError = refl
name_characters kind.IndexError = refl
name_characters kind.KeyError = refl
name_characters kind.NameError = refl
name_characters kind.UnboundLocalError = refl
name_characters kind.RuntimeError = refl
name_characters kind.RecursionError = refl
name_characters kind.SyntaxError = refl
name_characters kind.TypeError = refl
name_characters kind.NotShareableError = refl
name_characters kind.ValueError = refl
name_characters kind.InterpreterError = refl
name_characters kind.InterpreterNotFoundError = refl
name_characters kind.ExecutionFailed = refl
name_characters kind.QueueEmpty = refl
name_characters kind.QueueFull = refl

-- the name of a built-in is ASCII
built_in_characters : (b : pure.BuiltIn) → characters_of (built_in_name b) ≡ built_in_name b
unfolding chars
built_in_characters pure.Print = refl
built_in_characters pure.MakeRange = refl
built_in_characters pure.MakeStr = refl
built_in_characters pure.MakeList = refl
built_in_characters pure.Repr = refl
built_in_characters pure.Len = refl
built_in_characters pure.MakeBool = refl
built_in_characters pure.Abs = refl
built_in_characters pure.MakeInt = refl
built_in_characters pure.Ord = refl
built_in_characters pure.Chr = refl
built_in_characters pure.Min = refl
built_in_characters pure.Max = refl
built_in_characters pure.MakeBytes = refl
built_in_characters pure.MakeTuple = refl

-- ---- kinds by their names

turn : (x : Text) (kinds : List Kind) (d : Kind) (i : ℕ) → i < length kinds → kind_named x (drop i kinds) ≡ cond (same_text x (name_of (get_or kinds i d))) (Some (get_or kinds i d)) (kind_named x (drop (suc i) kinds))
turn x [] d i l = absurd (omega arith)
turn x (k ∷ kinds) d zero l = refl
turn x (k ∷ kinds) d (suc i) l = turn x kinds d i (omega arith)

-- by whether the next kind has the name
by_kind : (x name : List ℕ) (kinds : List Kind) (d : Kind) (i : ℕ) (r : Option Kind) (same b : Bool) → i < length kinds → r ≡ kind_named x (drop i kinds) → name ≡ name_of (get_or kinds i d) → same ≡ same_text x (characters_of name) → same ≡ b → r ≡ cond b (Some (get_or kinds i d)) (kind_named x (drop (suc i) kinds))
by_kind x name kinds d i r same b l h n e f =
    h ∙ turn x kinds d i l
    ∙ ap (λ t. cond t (Some (get_or kinds i d)) (kind_named x (drop (suc i) kinds)))
    (ap (same_text x) (sym (ap characters_of n ∙ name_characters (get_or kinds i d))) ∙ sym e ∙ f)

-- a kind of another name is passed over
pub passed_over : (x name : List ℕ) (kinds : List Kind) (d : Kind) (i : ℕ) (r : Option Kind) (same : Bool) → i < length kinds → r ≡ kind_named x (drop i kinds) → name ≡ name_of (get_or kinds i d) → same ≡ same_text x (characters_of name) → same ≡ false → r ≡ kind_named x (drop (i + 1) kinds)
passed_over x name kinds d i r same l h n e f = by_kind x name kinds d i r same false l h n e f ∙ ap (λ j. kind_named x (drop j kinds)) (sym (add-one i))

-- the kind of a name is found
pub found_kind : (x name : List ℕ) (kinds : List Kind) (d : Kind) (i : ℕ) (r : Option Kind) (same : Bool) → i < length kinds → r ≡ kind_named x (drop i kinds) → name ≡ name_of (get_or kinds i d) → same ≡ same_text x (characters_of name) → same ≡ true → Some (get_or kinds i d) ≡ r
found_kind x name kinds d i r same l h n e f = sym (by_kind x name kinds d i r same true l h n e f)

-- ---- built-ins by their names

built_in_turn : (x : Text) (bs : List BuiltIn) (d : BuiltIn) (i : ℕ) → i < length bs → built_in_named x (map built_in_of (drop i bs)) ≡ cond (same_text x (built_in_name (built_in_of (get_or bs i d)))) (Some (built_in_of (get_or bs i d))) (built_in_named x (map built_in_of (drop (suc i) bs)))
built_in_turn x [] d i l = absurd (omega arith)
built_in_turn x (b ∷ bs) d zero l = refl
built_in_turn x (b ∷ bs) d (suc i) l = built_in_turn x bs d i (omega arith)

-- by whether the next built-in has the name
by_built_in : (x name : List ℕ) (bs : List BuiltIn) (d : BuiltIn) (i : ℕ) (r : Option pure.BuiltIn) (same b : Bool) → i < length bs → r ≡ built_in_named x (map built_in_of (drop i bs)) → name ≡ built_in_name (built_in_of (get_or bs i d)) → same ≡ same_text x (characters_of name) → same ≡ b → r ≡ cond b (Some (built_in_of (get_or bs i d))) (built_in_named x (map built_in_of (drop (suc i) bs)))
by_built_in x name bs d i r same b l h n e f =
    h ∙ built_in_turn x bs d i l
    ∙ ap (λ t. cond t (Some (built_in_of (get_or bs i d))) (built_in_named x (map built_in_of (drop (suc i) bs))))
    (ap (same_text x) (sym (ap characters_of n ∙ built_in_characters (built_in_of (get_or bs i d)))) ∙ sym e ∙ f)

-- a built-in of another name is passed over
pub other_built_in : (x name : List ℕ) (bs : List BuiltIn) (d : BuiltIn) (i : ℕ) (r : Option pure.BuiltIn) (same : Bool) → i < length bs → r ≡ built_in_named x (map built_in_of (drop i bs)) → name ≡ built_in_name (built_in_of (get_or bs i d)) → same ≡ same_text x (characters_of name) → same ≡ false → r ≡ built_in_named x (map built_in_of (drop (i + 1) bs))
other_built_in x name bs d i r same l h n e f = by_built_in x name bs d i r same false l h n e f ∙ ap (λ j. built_in_named x (map built_in_of (drop j bs))) (sym (add-one i))

-- the built-in of a name is found
pub found_built_in : (x name : List ℕ) (bs : List BuiltIn) (d : BuiltIn) (i : ℕ) (r : Option pure.BuiltIn) (same : Bool) → i < length bs → r ≡ built_in_named x (map built_in_of (drop i bs)) → name ≡ built_in_name (built_in_of (get_or bs i d)) → same ≡ same_text x (characters_of name) → same ≡ true → Some (built_in_of (get_or bs i d)) ≡ r
found_built_in x name bs d i r same l h n e f = sym (by_built_in x name bs d i r same true l h n e f)

-- ---- what the names denote

module _ (x : Text) (o : Option BuiltIn) (bs : List pure.BuiltIn) (are : bs ≡ built_ins) (named : option_map built_in_of o ≡ built_in_named x bs) where
  by_both : (p : Option BuiltIn) (q : Option Kind) (ks : List Kind) (r : Option Kind) → o ≡ p → ks ≡ built_in_kinds → r ≡ kind_named x ks → r ≡ q → or_else (option_map Provided (option_map built_in_of p)) (option_map Class q) ≡ built_in x
  by_both p q ks r e f g h =
      ap₂ (λ a b. or_else (option_map Provided a) (option_map Class b))
      (ap (option_map built_in_of) (sym e) ∙ named ∙ ap (built_in_named x) are)
      (sym h ∙ g ∙ ap (kind_named x) f)

  pub is_built_in : (b : BuiltIn) → o ≡ Some b → Some (Provided (built_in_of b)) ≡ built_in x
  is_built_in b e = by_both (Some b) (kind_named x built_in_kinds) built_in_kinds (kind_named x built_in_kinds) e refl refl refl

  pub is_kind : (q : Option Kind) (ks : List Kind) (r : Option Kind) → o ≡ None → ks ≡ built_in_kinds → r ≡ kind_named x ks → r ≡ q → option_map Class q ≡ built_in x
  is_kind q ks r e f g h = by_both None q ks r e f g h

main_characters : characters_of (codes "__name__") ≡ codes "__name__"
unfolding chars
main_characters = refl

-- it is the same the other way round
flip : (x y : Text) (b : Bool) → same_text x y ≡ b → same_text y x ≡ b
flip x y true e = ap (same_text y) (same_is x y e) ∙ same_self y
flip x y false e = other_is y x (λ p. differ (sym (same_self x) ∙ ap (same_text x) (sym p) ∙ e))
  where
    differ : true ≡ false → ⊥
    differ h = cc

-- whether a name is `__name__`
pub told_main : (x : Text) (r b : Bool) → r ≡ same_text x (characters_of (codes "__name__")) → r ≡ b → same_text x (codes "__name__") ≡ b
told_main x r b f g = ap (same_text x) (sym main_characters) ∙ sym f ∙ g

pub is_main : (own : ℕ) (x : Text) (v : Option Value) → same_text x (codes "__name__") ≡ true → v ≡ Some (Str (codes "__main__")) → v ≡ (first_world own).globals x
is_main own x v e f = f ∙ ap (λ b. cond b (Some (Str (codes "__main__"))) None) (sym (flip x (codes "__name__") true e))

pub is_none : (own : ℕ) (x : Text) → same_text x (codes "__name__") ≡ false → None ≡ (first_world own).globals x
is_none own x e = ap (λ b. cond b (Some (Str (codes "__main__"))) None) (sym (flip x (codes "__name__") false e))
