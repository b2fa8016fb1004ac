-- Worked cases of the built-ins that give a value: what scripts print and how they end, computed from the definitions.
use Rattle.std.specs.Prelude.{◌≡◌, codes, List, [], ◌∷◌, true, Err}
use Rattle.si_plain.specs.declared.kind.Kind.TheVariants.{OverflowError, ValueError}
use Rattle.si_semantics.specs.Value.{Text, Nothing, Truth}
use Rattle.si_semantics.specs.Tree as tree
use Rattle.si_semantics.specs.Tree.{Expr}
use Rattle.si_semantics.specs.Numerals.{read_integer}
use Rattle.si_semantics.specs.Worked.Straight.{int, str, minus, compared}
use Rattle.si_semantics.specs.Worked.Functions.{called, prints}
use Rattle.si_semantics.specs.Worked.Scripts.{a_range, a_repr, ends}

-- ---- scripts

abbrev pub true_value : Expr
true_value = tree.Constant (Truth true)

-- `NAME(VALUE)`
abbrev pub of_one : Text → Expr → Expr
of_one f v = called f (v ∷ [])

-- `NAME(VALUE, VALUE)`
abbrev pub of_two : Text → Expr → Expr → Expr
of_two f u v = called f (u ∷ v ∷ [])

-- what `print` of values does
abbrev pub printed : List Expr → Text
printed vs = ends (prints vs ∷ [])

abbrev pub wrong_type : Text
wrong_type = codes "raised TypeError: wrong type\n"

abbrev pub wrong_value : Text
wrong_value = codes "raised ValueError: wrong value\n"

abbrev pub wrong_arguments : Text
wrong_arguments = codes "raised TypeError: wrong arguments\n"

abbrev pub out_of_range : Text
out_of_range = codes "raised OverflowError: integer out of range\n"

-- `-9223372036854775807 - 1`
abbrev pub least_integer : Expr
least_integer = tree.Binary tree.Subtract (minus (int 9223372036854775807)) (int 1)

-- ---- the cases

pub record BuiltInCases : Type 0 where
  -- ---- `len`
  --     print(len(''), len('café'), len(range(0)), len(range(10, 0, -3)))
  pub lengths :
      printed
      (of_one (codes "len") (str [])
      ∷ of_one (codes "len") (str (99 ∷ 97 ∷ 102 ∷ 233 ∷ []))
      ∷ of_one (codes "len") (a_range (int 0 ∷ []))
      ∷ of_one (codes "len") (a_range (int 10 ∷ int 0 ∷ minus (int 3) ∷ []))
      ∷ [])
      ≡ codes "0 4 0 4\n"
  --     len(range(-9223372036854775807 - 1, 9223372036854775807))
  pub length_past_the_integers : printed (of_one (codes "len") (a_range (least_integer ∷ int 9223372036854775807 ∷ [])) ∷ []) ≡ out_of_range
  --     print(len(7))
  pub length_of_an_integer : printed (of_one (codes "len") (int 7) ∷ []) ≡ wrong_type
  --     print(len('a', 'b'))
  pub length_of_two : printed (of_two (codes "len") (str (codes "a")) (str (codes "b")) ∷ []) ≡ wrong_arguments
  -- ---- `bool`
  --     print(bool(''), bool(range(0)), bool('a'), bool(None), bool(-1))
  pub truths :
      printed
      (of_one (codes "bool") (str [])
      ∷ of_one (codes "bool") (a_range (int 0 ∷ []))
      ∷ of_one (codes "bool") (str (codes "a"))
      ∷ of_one (codes "bool") (tree.Constant Nothing)
      ∷ of_one (codes "bool") (minus (int 1))
      ∷ [])
      ≡ codes "False False True False True\n"
  -- without an argument it is a wrong call (this project's own)
  --     print(bool())
  pub truth_of_nothing : printed (called (codes "bool") [] ∷ []) ≡ wrong_arguments
  -- ---- `abs`
  --     print(abs(-7), abs(7), abs(True))
  pub absolute_values : printed (of_one (codes "abs") (minus (int 7)) ∷ of_one (codes "abs") (int 7) ∷ of_one (codes "abs") true_value ∷ []) ≡ codes "7 7 1\n"
  -- past the integers (this project's own)
  --     print(abs(-9223372036854775807 - 1))
  pub absolute_least : printed (of_one (codes "abs") least_integer ∷ []) ≡ out_of_range
  --     print(abs('a'))
  pub absolute_text : printed (of_one (codes "abs") (str (codes "a")) ∷ []) ≡ wrong_type
  -- ---- `int`
  --     print(int(' -1_000 '), int('+7'), int('\t007\n'), int(True), int(7))
  pub integers :
      printed
      (of_one (codes "int") (str (codes " -1_000 "))
      ∷ of_one (codes "int") (str (codes "+7"))
      ∷ of_one (codes "int") (str (codes "\t007\n"))
      ∷ of_one (codes "int") true_value
      ∷ of_one (codes "int") (int 7)
      ∷ [])
      ≡ codes "-1000 7 7 1 7\n"
  --     print(int('-9223372036854775808'))
  pub least_integer_read : printed (of_one (codes "int") (str (codes "-9223372036854775808")) ∷ []) ≡ codes "-9223372036854775808\n"
  -- past the integers (this project's own)
  --     print(int('9223372036854775808'))
  pub read_past_the_integers : printed (of_one (codes "int") (str (codes "9223372036854775808")) ∷ []) ≡ out_of_range
  --     print(int(''))
  pub read_of_nothing : printed (of_one (codes "int") (str []) ∷ []) ≡ wrong_value
  -- `int('1__0')`, `int('_1')`, `int('1_')`, `int('- 1')`, `int('1 2')` and `int('0x1')`, which write no integer
  pub two_underscores : read_integer (codes "1__0") ≡ Err ValueError
  pub underscore_in_front : read_integer (codes "_1") ≡ Err ValueError
  pub underscore_after : read_integer (codes "1_") ≡ Err ValueError
  pub space_after_the_sign : read_integer (codes "- 1") ≡ Err ValueError
  pub space_between_digits : read_integer (codes "1 2") ≡ Err ValueError
  pub other_base : read_integer (codes "0x1") ≡ Err ValueError
  -- what writes no integer is past none
  pub long_and_wrong : read_integer (codes "99999999999999999999x") ≡ Err ValueError
  pub long : read_integer (codes "-99999999999999999999") ≡ Err OverflowError
  --     print(int(None))
  pub integer_of_none : printed (of_one (codes "int") (tree.Constant Nothing) ∷ []) ≡ wrong_type
  -- ---- `ord` and `chr`
  --     print(ord('a'), ord('€'), chr(97) == 'a', ord(chr(1114111)), repr(chr(True)))
  pub characters_and_numbers :
      printed
      (of_one (codes "ord") (str (codes "a"))
      ∷ of_one (codes "ord") (str (8364 ∷ []))
      ∷ compared tree.Equal (of_one (codes "chr") (int 97)) (str (codes "a"))
      ∷ of_one (codes "ord") (of_one (codes "chr") (int 1114111))
      ∷ a_repr (of_one (codes "chr") true_value)
      ∷ [])
      ≡ codes "97 8364 True 1114111 '\\x01'\n"
  --     print(ord(''))
  pub number_of_no_character : printed (of_one (codes "ord") (str []) ∷ []) ≡ wrong_type
  --     print(ord('ab'))
  pub number_of_two_characters : printed (of_one (codes "ord") (str (codes "ab")) ∷ []) ≡ wrong_type
  --     print(chr(55296))
  pub surrogate : printed (of_one (codes "chr") (int 55296) ∷ []) ≡ wrong_value
  --     print(chr(-1))
  pub character_below_zero : printed (of_one (codes "chr") (minus (int 1)) ∷ []) ≡ wrong_value
  --     print(chr(1114112))
  pub character_past_the_last : printed (of_one (codes "chr") (int 1114112) ∷ []) ≡ wrong_value
  --     print(chr('a'))
  pub character_of_a_text : printed (of_one (codes "chr") (str (codes "a")) ∷ []) ≡ wrong_type
  -- ---- `min` and `max`
  --     print(min(1, True), max(True, 1), min('b', 'a'), min(3, 1, 2), max('b', 'a', 'c'))
  pub least_and_greatest :
      printed
      (of_two (codes "min") (int 1) true_value
      ∷ of_two (codes "max") true_value (int 1)
      ∷ of_two (codes "min") (str (codes "b")) (str (codes "a"))
      ∷ called (codes "min") (int 3 ∷ int 1 ∷ int 2 ∷ [])
      ∷ called (codes "max") (str (codes "b") ∷ str (codes "a") ∷ str (codes "c") ∷ [])
      ∷ [])
      ≡ codes "1 True a 1 c\n"
  --     print(min(1, 'a'))
  pub least_of_no_order : printed (of_two (codes "min") (int 1) (str (codes "a")) ∷ []) ≡ wrong_type
  --     print(max(1, None))
  pub greatest_of_no_order : printed (of_two (codes "max") (int 1) (tree.Constant Nothing) ∷ []) ≡ wrong_type
  -- of one value there is none (this project's own)
  --     print(max('ab'))
  pub greatest_of_one : printed (of_one (codes "max") (str (codes "ab")) ∷ []) ≡ wrong_arguments
  -- ---- names
  -- (this project's own)
  --     print(len, bool, abs, int, ord, chr, min, max)
  pub names :
      printed
      (tree.Name (codes "len")
      ∷ tree.Name (codes "bool")
      ∷ tree.Name (codes "abs")
      ∷ tree.Name (codes "int")
      ∷ tree.Name (codes "ord")
      ∷ tree.Name (codes "chr")
      ∷ tree.Name (codes "min")
      ∷ tree.Name (codes "max")
      ∷ [])
      ≡ codes "<built-in len> <built-in bool> <built-in abs> <built-in int> <built-in ord> <built-in chr> <built-in min> <built-in max>\n"
