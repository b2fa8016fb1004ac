-- The worked cases of functions compute.
use Rattle.std.specs.Prelude.{refl}
use Rattle.std.specs.Fmt.{digits}
use Rattle.si_plain.specs.Integers.{in_range, sum_of, difference_of, floor_over, floor_of, rest_of, floor_quotient}
use Rattle.si_plain.specs.Kinds.{name_of}
use Rattle.si_semantics.specs.Worked.Functions.{FunctionCases}

pub worked_functions : FunctionCases
unfolding digits in_range sum_of difference_of floor_over floor_of rest_of floor_quotient name_of
worked_functions = record {
  none_is_given = refl;
  unbound_local = refl;
  local_is_apart = refl;
  global_is_changed = refl;
  looked_up_in_the_call = refl;
  calls_itself = refl;
  number_after_calls = refl;
  visits_of_calls = refl;
  locals_of_each_call = refl;
  deepest = refl;
  too_deep = refl;
  wrong_number_of_arguments = refl;
  argument_by_name = refl;
  print_by_name = refl;
  not_callable_by_name = refl;
  shown_by_name = refl;
  functions_compared = refl;
  parameter_before_built_in = refl;
  returned_from_a_loop = refl;
  raised_in_a_call = refl;
  second_function = refl;
  not_defined = refl;
  number_in_an_else_suite = refl;
  number_after_an_if = refl;
  second_text = refl;
  number_in_a_second_text = refl;
}
