-- The worked cases of lists compute.
use Rattle.std.specs.Prelude.{refl}
use Rattle.std.proofs.Common.{ap}
use Rattle.std.specs.Prelude.{[], ◌∷◌, ◌++◌, nat_lt, if◌then◌else◌}
use Rattle.std.specs.Fmt.{digits}
use Rattle.si_plain.specs.Integers.{in_range, sum_of, difference_of, negative_of}
use Rattle.si_semantics.specs.Value.{Address, Items}
use Rattle.si_semantics.specs.Text.{max_length}
use Rattle.si_semantics.specs.Operations.{gave, too_long}
use Rattle.si_semantics.specs.Containers.{did, changed}
use Rattle.si_plain.specs.Kinds.{name_of}
use Rattle.si_plain.specs.Repr.{quote_of, escaped, escaped_byte, repr_of, bytes_repr_of}
use Rattle.si_semantics.specs.Worked.Lists.{ListCases}

pub worked : ListCases
unfolding digits in_range sum_of difference_of negative_of name_of quote_of escaped escaped_byte repr_of bytes_repr_of lib.Utf8.encode
worked = record {
  displayed = refl;
  items_from_the_left = refl;
  within_itself = refl;
  within_a_tuple_in_itself = refl;
  tuple_in_itself = refl;
  within_an_exception_in_itself = refl;
  an_exception_in_its_list = refl;
  twice_is_not_within = refl;
  two_in_each_other = refl;
  str_and_repr = refl;
  changed_under_both_names = refl;
  changed_in_a_function = refl;
  set_without_global = refl;
  equal_by_items = refl;
  equal_to_itself = refl;
  compared_too_deep = refl;
  lengths_before_items = refl;
  functions_in_it = refl;
  items_found = refl;
  no_order = refl;
  truth_and_length = refl;
  is_not_none = refl;
  joined = refl;
  joined_with_a_tuple = refl;
  joined_with_an_exception = refl;
  repeated = refl;
  items_are_shared = refl;
  repeated_too_long = refl;
  repeated_by_a_list = refl;
  made_of_items = refl;
  a_new_list = refl;
  made_of_an_integer = refl;
  made_of_nothing = refl;
  tuples_and_bytes_of_it = refl;
  shown_built_in = refl;
  no_byte = refl;
  item_that_is_no_byte = refl;
  items_by_index = refl;
  no_such_item = refl;
  before_the_first = refl;
  index_of_a_wrong_type = refl;
  items_set = refl;
  no_item_to_set = refl;
  set_at_a_wrong_type = refl;
  item_of_a_tuple_set = refl;
  item_of_a_text_set = refl;
  items_deleted = refl;
  no_item_to_delete = refl;
  deleted_at_a_wrong_type = refl;
  item_of_a_tuple_deleted = refl;
  appended = refl;
  popped = refl;
  popped_of_none = refl;
  popped_past_the_last = refl;
  popped_at_a_wrong_type = refl;
  two_appended = refl;
  appended_by_name = refl;
  method_that_is_not_there = refl;
  arguments_before_the_call = refl;
  changed_by_its_argument = refl;
  texts_joined = refl;
  no_text_to_join = refl;
  joined_by_an_integer = refl;
  keys_joined = refl;
  encoded = refl;
  encoded_past_ascii = refl;
  encoded_as = refl;
  list_raised = refl;
  list_of_kinds = refl;
  list_as_the_argument = refl;
  written_200_deep = refl;
  not_201_deep = refl;
  compared_200_deep = refl;
  not_compared_201_deep = refl;
  full_list = λ x vs v w h. ap (λ n. if nat_lt n max_length then did x (Items (vs ++ v ∷ [])) w else too_long w) h;
  one_item_too_many = λ x vs us w h. ap (λ n. if nat_lt max_length n then too_long w else gave (Address x) (changed x (Items (vs ++ us)) w)) h;
}
