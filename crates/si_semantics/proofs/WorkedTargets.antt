-- The worked cases of assignment, of unpacking and of the targets of `for` compute.
use Rattle.std.specs.Prelude.{refl}
use Rattle.std.specs.Fmt.{digits}
use Rattle.si_plain.specs.Integers.{in_range, sum_of, difference_of, negative_of}
use Rattle.si_plain.specs.Kinds.{name_of}
use Rattle.si_plain.specs.Repr.{quote_of, escaped, escaped_byte, repr_of, bytes_repr_of}
use Rattle.si_semantics.specs.Worked.Targets.{TargetCases}

pub worked : TargetCases
unfolding digits in_range sum_of difference_of negative_of name_of quote_of escaped escaped_byte repr_of bytes_repr_of
worked = record {
  any_items_added = refl;
  added_to_itself = refl;
  an_integer_added = refl;
  repeated_in_a_new_list = refl;
  item_of_a_tuple_augmented = refl;
  items_augmented = refl;
  object_index_right_side = refl;
  read_before_the_right_side = refl;
  read_before_it_raises = refl;
  targets_after_the_right_side = refl;
  object_before_the_index = refl;
  each_target_after_the_other = refl;
  one_value_for_all = refl;
  all_bound_to_the_whole = refl;
  unpacked = refl;
  exchanged = refl;
  too_many_items = refl;
  too_few_items = refl;
  no_items = refl;
  bound_before_another_raises = refl;
  items_before_the_targets = refl;
  local_targets = refl;
  over_items = refl;
  over_a_list_that_grows = refl;
  over_a_list_that_shrinks = refl;
  over_a_list_that_changes = refl;
  bound_anew_in_the_body = refl;
  unpacked_in_a_for = refl;
  count_in_a_for = refl;
  item_as_the_target = refl;
  visits_of_two_targets = refl;
  visits_of_an_item = refl;
  visits_of_an_augmented_item = refl;
  visits_of_a_deletion = refl;
  visits_of_an_unpacking = refl;
}
