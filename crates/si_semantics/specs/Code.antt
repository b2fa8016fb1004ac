-- A device for types that hold values: the code of a value, by its words, which give it back. The words of a tuple are those
-- of its items, with a mark after each and at the end; a Model whose Value speaks of values has the line
-- `ghost coded = { Prim.hlevel (codes, value_code) };`.
--
-- To add a form of value that holds none: a number of its own and a line in `words`, in `taken` and in `read-words`.
-- To add a built-in: a line in `named_again`.
use Rattle.std.specs.Prelude.{ℕ, zero, suc, ℤ, List, [], ◌∷◌, true, false, ◌≡◌, Option, Some, None}
use Rattle.std.specs.Coded.{Coded, code_by, coded×, coded_ℕ, coded_ℤ, coded_list}
use Rattle.si_plain.specs.declared.kind.Kind.{Kind}
use Rattle.si_plain.specs.contracts.kind.Kind as kind
use Rattle.si_plain.specs.declared.modules.ModuleName.TheVariants.{Threading, Interpreters}
use Rattle.si_semantics.specs.Value.{Text, BuiltIn, Print, MakeRange, MakeStr, Repr, Len, MakeBool, Abs, MakeInt, Ord, Chr, Min, Max, MakeBytes, MakeTuple, MakeList, Value, Values, Nothing, Truth, Int, Str, Bytes, Provided, Function, Range, Tuple, Class, Module, Queue, Interpreter, Exec, Address, NoValues, MoreValues}
use Rattle.si_semantics.specs.Text.{built_in_name}
use Rattle.si_semantics.specs.Operations.{built_ins, built_in_named}
use mathlib.Core.Path.{refl, ◌∙◌, ap}

-- a word: the number of a form of value or of a mark, and what it carries
abbrev pub Word : Type 0
Word = ℕ × (List ℕ × (List ℤ × List Kind))

-- a word that carries nothing
abbrev pub mark : ℕ → Word
mark n = (n, ([], ([], [])))

abbrev mutual
  -- the words of a value, and then others
  pub words : Value → List Word → List Word
  words (Tuple vs) k = all_words vs (mark 2 ∷ k)
  words Nothing k = mark 3 ∷ k
  words (Truth false) k = mark 4 ∷ k
  words (Truth true) k = mark 5 ∷ k
  words (Int n) k = (6, ([], (n ∷ [], []))) ∷ k
  words (Str s) k = (7, (s, ([], []))) ∷ k
  words (Provided b) k = (8, (built_in_name b, ([], []))) ∷ k
  words (Function f number) k = (9, (number ∷ f, ([], []))) ∷ k
  words (Range a b c) k = (10, ([], (a ∷ b ∷ c ∷ [], []))) ∷ k
  words (Class c) k = (11, ([], ([], c ∷ []))) ∷ k
  words (Address x) k = (12, (x ∷ [], ([], []))) ∷ k
  words (Bytes bs) k = (13, (bs, ([], []))) ∷ k
  words (Queue q m) k = (16, (q ∷ m ∷ [], ([], []))) ∷ k
  words (Interpreter i) k = (17, (i ∷ [], ([], []))) ∷ k
  words (Exec i) k = (18, (i ∷ [], ([], []))) ∷ k
  words (Module Threading) k = mark 14 ∷ k
  words (Module Interpreters) k = mark 15 ∷ k

  -- of values in a row: no values, and then each value with a mark that it is one more, from the last on
  pub all_words : Values → List Word → List Word
  all_words NoValues k = mark 0 ∷ k
  all_words (MoreValues v vs) k = words v (all_words vs (mark 1 ∷ k))

-- what was read so far, the last first
pub data Read : Type 0 where
  Bottom : Read
  One : Value → Read → Read
  Many : Values → Read → Read

-- a value that was read is the first of those in a row that were read after it
abbrev pub added : Read → Read
added (Many vs (One v s)) = Many (MoreValues v vs) s
added s = s

-- values in a row are a tuple
abbrev pub gathered : Read → Read
gathered (Many vs s) = One (Tuple vs) s
gathered s = s

-- the built-in that was found, if one was
abbrev pub or_print : Option BuiltIn → BuiltIn
or_print (Some b) = b
or_print None = Print

abbrev pub built_in_at : Text → BuiltIn
built_in_at name = or_print (built_in_named name built_ins)

-- a word is read, by its number
abbrev pub taken : Word → Read → Read
taken (zero, (_, (_, _))) s = Many NoValues s
taken (suc zero, (_, (_, _))) s = added s
taken (suc (suc zero), (_, (_, _))) s = gathered s
taken (suc (suc (suc (suc zero))), (_, (_, _))) s = One (Truth false) s
taken (suc (suc (suc (suc (suc zero)))), (_, (_, _))) s = One (Truth true) s
taken (suc (suc (suc (suc (suc (suc zero))))), (_, (n ∷ _, _))) s = One (Int n) s
taken (suc (suc (suc (suc (suc (suc (suc zero)))))), (t, (_, _))) s = One (Str t) s
taken (suc (suc (suc (suc (suc (suc (suc (suc zero))))))), (name, (_, _))) s = One (Provided (built_in_at name)) s
taken (suc (suc (suc (suc (suc (suc (suc (suc (suc zero)))))))), (number ∷ f, (_, _))) s = One (Function f number) s
taken (suc (suc (suc (suc (suc (suc (suc (suc (suc (suc zero))))))))), (_, (a ∷ b ∷ c ∷ _, _))) s = One (Range a b c) s
taken (suc (suc (suc (suc (suc (suc (suc (suc (suc (suc (suc zero)))))))))), (_, (_, c ∷ _))) s = One (Class c) s
taken (suc (suc (suc (suc (suc (suc (suc (suc (suc (suc (suc (suc zero))))))))))), (x ∷ _, (_, _))) s = One (Address x) s
taken (suc (suc (suc (suc (suc (suc (suc (suc (suc (suc (suc (suc (suc zero)))))))))))), (bs, (_, _))) s = One (Bytes bs) s
taken (suc (suc (suc (suc (suc (suc (suc (suc (suc (suc (suc (suc (suc (suc zero))))))))))))), (_, (_, _))) s = One (Module Threading) s
taken (suc (suc (suc (suc (suc (suc (suc (suc (suc (suc (suc (suc (suc (suc (suc zero)))))))))))))), (_, (_, _))) s = One (Module Interpreters) s
taken (suc (suc (suc (suc (suc (suc (suc (suc (suc (suc (suc (suc (suc (suc (suc (suc zero))))))))))))))), (q ∷ m ∷ _, (_, _))) s = One (Queue q m) s
taken (suc (suc (suc (suc (suc (suc (suc (suc (suc (suc (suc (suc (suc (suc (suc (suc (suc zero)))))))))))))))), (i ∷ _, (_, _))) s = One (Interpreter i) s
taken (suc (suc (suc (suc (suc (suc (suc (suc (suc (suc (suc (suc (suc (suc (suc (suc (suc (suc zero))))))))))))))))), (i ∷ _, (_, _))) s = One (Exec i) s
taken _ s = One Nothing s

abbrev pub read : List Word → Read → Read
read [] s = s
read (w ∷ k) s = read k (taken w s)

abbrev pub top : Read → Value
top (One v s) = v
top _ = Nothing

-- a built-in is found by its name
pub named_again : (b : BuiltIn) → built_in_at (built_in_name b) ≡ b
named_again Print = refl
named_again MakeRange = refl
named_again MakeStr = refl
named_again Repr = refl
named_again Len = refl
named_again MakeBool = refl
named_again Abs = refl
named_again MakeInt = refl
named_again Ord = refl
named_again Chr = refl
named_again Min = refl
named_again Max = refl
named_again MakeBytes = refl
named_again MakeTuple = refl
named_again MakeList = refl

-- to read the words of a value gives the value
mutual
  pub read-words : (v : Value) (k : List Word) (s : Read) → read (words v k) s ≡ read k (One v s)
  read-words (Tuple vs) k s = read-all_words vs (mark 2 ∷ k) s
  read-words Nothing k s = refl
  read-words (Truth false) k s = refl
  read-words (Truth true) k s = refl
  read-words (Int n) k s = refl
  read-words (Str t) k s = refl
  read-words (Provided b) k s = ap (λ a. read k (One (Provided a) s)) (named_again b)
  read-words (Function f number) k s = refl
  read-words (Range a b c) k s = refl
  read-words (Class c) k s = refl
  read-words (Address x) k s = refl
  read-words (Bytes bs) k s = refl
  read-words (Queue q m) k s = refl
  read-words (Interpreter i) k s = refl
  read-words (Exec i) k s = refl
  read-words (Module Threading) k s = refl
  read-words (Module Interpreters) k s = refl

  pub read-all_words : (vs : Values) (k : List Word) (s : Read) → read (all_words vs k) s ≡ read k (Many vs s)
  read-all_words NoValues k s = refl
  read-all_words (MoreValues v vs) k s = read-words v (all_words vs (mark 1 ∷ k)) s ∙ read-all_words vs (mark 1 ∷ k) (One v s)

-- the value of its words
abbrev pub value_in : List Word → Value
value_in k = top (read k Bottom)

pub value_in-words : (v : Value) → value_in (words v []) ≡ v
value_in-words v = ap top (read-words v [] Bottom)

abbrev pub value_code : Coded Value
value_code =
    code_by (List Word) (coded_list (coded× coded_ℕ (coded× (coded_list coded_ℕ) (coded× (coded_list coded_ℤ) (coded_list kind.the_row.coded))))) (λ v. words v []) value_in value_in-words
