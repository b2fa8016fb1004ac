-- The worked cases compute.
use Rattle.std.specs.Prelude.{refl}
use Rattle.std.specs.Fmt.{digits}
use Rattle.si_plain.specs.Integers.{in_range, sum_of, difference_of, product_of, negative_of, floor_over, floor_of, rest_of, floor_quotient, floor_remainder, power_of, power_result, shifted_left, shifted_right, inverted, bits_and, bits_or, bits_xor}
use Rattle.si_plain.specs.Kinds.{name_of}
use Rattle.si_plain.specs.Repr.{quote_of, escaped, repr_of}
use Rattle.si_semantics.specs.Worked.Straight.{Cases}

pub worked : Cases
unfolding digits in_range sum_of difference_of product_of negative_of floor_over floor_of rest_of floor_quotient floor_remainder power_of power_result shifted_left shifted_right inverted bits_and bits_or bits_xor name_of quote_of escaped repr_of
worked = record {
  floor_division = refl;
  sum_past_the_range = refl;
  least_integer = refl;
  power_past_the_range = refl;
  negative_power = refl;
  names_and_texts = refl;
  print_gives_none = refl;
  printed_before_an_exception = refl;
  empty_text = refl;
  print_of_nothing = refl;
  callee_first = refl;
  arguments_before_the_call = refl;
  left_operand_first = refl;
  right_side_first = refl;
  name_of_the_module = refl;
  global_before_built_in = refl;
  wrong_operands = refl;
  repeated_below_zero = refl;
  repeated_too_long = refl;
  repr_with_a_single_quote = refl;
  repr_with_both_quotes = refl;
  number_of_a_piece = refl;
  visits_of_a_run = refl;
  pieces_of_a_life = refl;
  end_of_a_life = refl;
  truths_as_integers = refl;
  bits = refl;
  shifted_by_less_than_nothing = refl;
  comparisons = refl;
  no_order = refl;
  chains = refl;
  operands_given = refl;
  one_of_two = refl;
  read_before_the_right_side = refl;
  broken_and_continued = refl;
  cut_before_the_break = refl;
  no_end_before_the_break = refl;
  endless_loop = refl;
  no_end = refl;
  number_after_a_loop = refl;
  visits_of_a_loop = refl;
  last_turn_counts = refl;
}
