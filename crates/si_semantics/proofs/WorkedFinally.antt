-- The worked cases of finally suites compute.
use Rattle.std.specs.Prelude.{refl}
use Rattle.std.specs.Fmt.{digits}
use Rattle.si_plain.specs.Integers.{in_range, sum_of, difference_of, negative_of, floor_over, floor_of, rest_of, floor_quotient}
use Rattle.si_plain.specs.Kinds.{name_of}
use Rattle.si_plain.specs.Repr.{quote_of, escaped, repr_of}
use Rattle.si_semantics.specs.Worked.Finally.{FinallyCases}

pub worked : FinallyCases
unfolding digits in_range sum_of difference_of negative_of floor_over floor_of rest_of floor_quotient name_of quote_of escaped repr_of
worked = record {
  finally_after_each = refl;
  finally_after_an_exception = refl;
  finally_after_a_return = refl;
  finally_in_a_loop = refl;
  finally_after_continue = refl;
  raised_in_a_finally_suite = refl;
  raised_before_a_return = refl;
  caught_in_a_finally_suite = refl;
  loop_in_a_finally_suite = refl;
  nested_finally_suites = refl;
  finally_after_a_clause = refl;
  finally_after_no_match = refl;
  returned_from_a_clause = refl;
  visits_of_suites = refl;
  cut_in_a_try = refl;
  no_end_in_a_try = refl;
  number_in_a_suite = refl;
  none_in_another_clause = refl;
  number_in_a_clause = refl;
  number_in_a_finally_suite = refl;
  number_after_a_try = refl;
  none_in_a_clause = refl;
  number_in_an_else_suite = refl;
}
