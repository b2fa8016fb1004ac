-- The worked cases of dicts compute.
use Rattle.std.specs.Prelude.{refl}
use Rattle.std.specs.Fmt.{digits}
use Rattle.si_plain.specs.Integers.{in_range, sum_of, difference_of, negative_of}
use Rattle.si_plain.specs.Kinds.{name_of}
use Rattle.si_plain.specs.Repr.{quote_of, escaped, escaped_byte, repr_of, bytes_repr_of}
use Rattle.si_semantics.specs.Worked.Dicts.{DictCases}

pub worked : DictCases
unfolding digits in_range sum_of difference_of negative_of name_of quote_of escaped escaped_byte repr_of bytes_repr_of
worked = record {
  displayed = refl;
  keys_before_values = refl;
  key_that_comes_again = refl;
  integers_and_texts_differ = refl;
  no_key_after_all_items = refl;
  within_itself = refl;
  within_a_list_in_itself = refl;
  truth_is_no_key = refl;
  none_is_no_key = refl;
  tuple_is_no_key = refl;
  list_is_no_key = refl;
  no_key_is_in_it = refl;
  truth_looked_up = refl;
  equal_by_pairs = refl;
  compared_too_deep = refl;
  keys_are_in_it = refl;
  truth_and_length = refl;
  not_joined = refl;
  not_united = refl;
  value_of_a_key = refl;
  key_that_is_not_there = refl;
  key_is_the_argument = refl;
  replaced_and_added = refl;
  four_changes = refl;
  no_key_to_delete = refl;
  augmented = refl;
  augmented_without_its_key = refl;
  values_got = refl;
  values_popped = refl;
  popped_without_its_key = refl;
  popped_with_another_value = refl;
  got_without_a_key = refl;
  no_key_got = refl;
  no_views = refl;
  not_appended_to = refl;
  over_keys = refl;
  over_a_dict_that_grows = refl;
  over_a_dict_that_shrinks = refl;
  values_changed_meanwhile = refl;
  left_before_the_next_turn = refl;
  as_many_keys_as_before = refl;
  keys_as_items = refl;
  no_bytes_of_it = refl;
}
