-- The worked cases of the built-ins that give a value compute.
use Rattle.std.specs.Prelude.{refl}
use Rattle.std.specs.Fmt.{digits}
use Rattle.si_plain.specs.Integers.{in_range, sum_of, difference_of, negative_of}
use Rattle.si_plain.specs.Kinds.{name_of}
use Rattle.si_plain.specs.Repr.{quote_of, escaped, repr_of}
use Rattle.si_semantics.specs.Worked.BuiltIns.{BuiltInCases}

pub worked : BuiltInCases
unfolding digits in_range sum_of difference_of negative_of name_of quote_of escaped repr_of
worked = record {
  lengths = refl;
  length_past_the_integers = refl;
  length_of_an_integer = refl;
  length_of_two = refl;
  truths = refl;
  truth_of_nothing = refl;
  absolute_values = refl;
  absolute_least = refl;
  absolute_text = refl;
  integers = refl;
  least_integer_read = refl;
  read_past_the_integers = refl;
  read_of_nothing = refl;
  two_underscores = refl;
  underscore_in_front = refl;
  underscore_after = refl;
  space_after_the_sign = refl;
  space_between_digits = refl;
  other_base = refl;
  long_and_wrong = refl;
  long = refl;
  integer_of_none = refl;
  characters_and_numbers = refl;
  number_of_no_character = refl;
  number_of_two_characters = refl;
  surrogate = refl;
  character_below_zero = refl;
  character_past_the_last = refl;
  character_of_a_text = refl;
  least_and_greatest = refl;
  least_of_no_order = refl;
  greatest_of_no_order = refl;
  greatest_of_one = refl;
  names = refl;
}
