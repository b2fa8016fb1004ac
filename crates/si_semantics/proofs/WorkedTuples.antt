-- The worked cases of tuples compute.
use Rattle.std.specs.Prelude.{refl}
use Rattle.std.specs.Fmt.{digits}
use Rattle.si_plain.specs.Kinds.{name_of}
use Rattle.si_plain.specs.Repr.{quote_of, escaped, repr_of}
use Rattle.si_semantics.specs.Worked.Tuples.{TupleCases}

pub worked : TupleCases
unfolding digits name_of quote_of escaped repr_of
worked = record {
  nothing_in_it = refl;
  comma_of_one = refl;
  commas = refl;
  items_by_repr = refl;
  str_is_repr = refl;
  exceptions_in_it = refl;
  in_an_exception = refl;
  deep_enough = refl;
  too_deep = refl;
  written_200_deep = refl;
  not_201_deep = refl;
  an_exception_201_deep = refl;
  same_items = refl;
  other_item = refl;
  other_length = refl;
  of_another_kind = refl;
  items_in_items = refl;
  functions_in_it = refl;
  unequal_before_functions = refl;
  lengths_before_functions = refl;
  compared_deep_enough = refl;
  compared_too_deep = refl;
  no_order = refl;
  empty_is_false = refl;
  else_true = refl;
  length = refl;
  joined = refl;
  not_with_a_str = refl;
  repeated = refl;
  repeated_from_the_left = refl;
  repeated_below_zero = refl;
  counted = refl;
  levels = refl;
  levels_of_none = refl;
  of_a_str = refl;
  of_a_range = refl;
  of_a_tuple = refl;
  of_an_integer = refl;
  of_nothing = refl;
  of_bytes = refl;
  bytes_of_items = refl;
  no_byte = refl;
  no_integer = refl;
  an_item = refl;
  no_item = refl;
  a_tuple_in_it = refl;
  found_before_functions = refl;
  functions_before_it = refl;
  a_part = refl;
  a_byte = refl;
  not_a_byte_of_it = refl;
  past_a_byte = refl;
  below_a_byte = refl;
  no_text_in_bytes = refl;
  first_item = refl;
  last_item = refl;
  no_such_item = refl;
  before_the_first = refl;
  a_byte_by_index = refl;
  no_such_byte = refl;
  displayed = refl;
  items_from_the_left = refl;
  gone_over = refl;
  next_one = refl;
  at_the_end = refl;
  caught_by_one = refl;
  caught_by_none = refl;
  caught_by_no_kind = refl;
  shared = refl;
  not_shared = refl;
  received = refl;
}
