-- The worked cases of `for`, ranges, kinds and `repr` compute.
use Rattle.std.specs.Prelude.{refl}
use Rattle.std.specs.Fmt.{digits}
use Rattle.si_plain.specs.Integers.{in_range, sum_of, difference_of, negative_of, floor_over, floor_of, rest_of, floor_quotient}
use Rattle.si_plain.specs.Kinds.{name_of}
use Rattle.si_plain.specs.Repr.{quote_of, escaped, repr_of}
use Rattle.si_semantics.specs.Worked.Items.{ItemCases}

pub worked : ItemCases
unfolding digits in_range sum_of difference_of negative_of floor_over floor_of rest_of floor_quotient name_of quote_of escaped repr_of
worked = record {
  over_a_range = refl;
  steps_of_three = refl;
  steps_down = refl;
  over_nothing = refl;
  end_of_the_integers = refl;
  start_of_the_integers = refl;
  over_a_text = refl;
  bound_after_the_loop = refl;
  not_bound_without_an_item = refl;
  local_target = refl;
  global_target = refl;
  bound_in_the_body = refl;
  evaluated_once = refl;
  over_an_integer = refl;
  over_a_kind = refl;
  over_an_exception = refl;
  in_another = refl;
  else_after_the_items = refl;
  no_else_after_break = refl;
  else_of_a_while = refl;
  no_else_of_a_while = refl;
  break_in_an_else_suite = refl;
  returned_from_a_for = refl;
  raised_in_a_for = refl;
  reprs_of_ranges = refl;
  step_of_nothing = refl;
  range_of_a_text = refl;
  range_of_nothing = refl;
  same_items = refl;
  other_steps = refl;
  empty_range_is_false = refl;
  no_order_of_ranges = refl;
  reprs_of_kinds = refl;
  reprs_of_exceptions = refl;
  strs_of_exceptions = refl;
  exceptions_compared = refl;
  exceptions_are_true = refl;
  exceptions_of_exceptions = refl;
  too_many_arguments = refl;
  kind_that_has_no_name = refl;
  another_value = refl;
  strs_and_reprs = refl;
  str_of_two = refl;
  shown_built_ins = refl;
  called_by_another_name = refl;
  visits_of_a_for = refl;
  cut_in_a_for = refl;
  no_end_of_a_for = refl;
  last_turn_counts = refl;
  end_of_three_turns = refl;
}
