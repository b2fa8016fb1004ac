-- The worked cases of `raise` and `try` compute.
use Rattle.std.specs.Prelude.{refl}
use Rattle.std.specs.Fmt.{digits}
use Rattle.si_plain.specs.Integers.{in_range, sum_of, difference_of, negative_of, floor_over, floor_of, rest_of, floor_quotient}
use Rattle.si_plain.specs.Kinds.{name_of}
use Rattle.si_plain.specs.Repr.{quote_of, escaped, repr_of}
use Rattle.si_semantics.specs.Worked.Exceptions.{ExceptionCases}

pub worked : ExceptionCases
unfolding digits in_range sum_of difference_of negative_of floor_over floor_of rest_of floor_quotient name_of quote_of escaped repr_of
worked = record {
  left_by_a_message = refl;
  left_by_a_kind = refl;
  left_by_a_key = refl;
  left_by_no_exception = refl;
  none_is_active = refl;
  expression_first = refl;
  left_from_a_call = refl;
  caught = refl;
  caught_from_a_call = refl;
  not_caught = refl;
  clauses_in_order = refl;
  no_clause_tested = refl;
  no_kind_before_a_match = refl;
  no_kind_after_a_match = refl;
  exception_is_no_kind = refl;
  base_kind_catches = refl;
  kind_above_not_caught = refl;
  kind_by_another_name = refl;
  bare_clause = refl;
  caught_unbound_local = refl;
  caught_too_deep = refl;
  raised_in_a_clause = refl;
  raised_in_a_test = refl;
  caught_outside = refl;
  unbound_after_a_clause = refl;
  unbound_after_a_break = refl;
  unbound_after_an_exception = refl;
  bound_in_the_clause = refl;
  local_name_unbound = refl;
  global_name_unbound = refl;
  not_caught_not_bound = refl;
  raised_again = refl;
  raised_again_in_a_call = refl;
  raised_again_in_a_test = refl;
  none_active_after = refl;
  none_active_in_an_else_suite = refl;
  active_again_after_a_clause = refl;
  inner_is_active = refl;
  active_in_an_inner_suite = refl;
  active_again_after_a_call = refl;
  pending_is_active = refl;
  pending_before_outer = refl;
  outer_in_a_finally_suite = refl;
  pending_is_active_in_a_call = refl;
  none_active_after_a_return = refl;
  outer_in_an_else_suite = refl;
  else_suite = refl;
  no_else_after_an_exception = refl;
  no_else_after_a_break = refl;
  no_else_after_a_return = refl;
  raised_in_an_else_suite = refl;
  visits_of_clauses = refl;
  visits_of_a_bare_clause = refl;
  visits_of_raise = refl;
  kind_and_message = refl;
  no_message = refl;
  message_too_long = refl;
  deepest = refl;
  too_deep = refl;
  print_too_deep = refl;
  second_text = refl;
  none_active_in_a_second_text = refl;
}
