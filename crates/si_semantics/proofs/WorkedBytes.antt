-- The worked cases of bytes compute.
use Rattle.std.specs.Prelude.{refl}
use Rattle.std.specs.Fmt.{digits}
use Rattle.si_plain.specs.Integers.{in_range, sum_of, difference_of, negative_of}
use Rattle.si_plain.specs.Kinds.{name_of}
use Rattle.si_plain.specs.Repr.{quote_of, escaped, escaped_byte, repr_of, bytes_repr_of}
use Rattle.si_semantics.specs.Worked.Bytes.{BytesCases}

pub worked : BytesCases
unfolding digits in_range sum_of difference_of negative_of name_of quote_of escaped escaped_byte repr_of bytes_repr_of
worked = record {
  shown = refl;
  truths = refl;
  equal = refl;
  ordered = refl;
  no_order_with_a_text = refl;
  no_order_with_an_integer = refl;
  least_and_greatest = refl;
  least_of_two_kinds = refl;
  joined_and_repeated = refl;
  repeated_too_long = refl;
  joined_with_a_text = refl;
  a_text_joined_with_bytes = refl;
  repeated_by_bytes = refl;
  negated = refl;
  lengths = refl;
  items_are_integers = refl;
  made_of_ranges = refl;
  item_past_the_last = refl;
  item_below_zero = refl;
  made_of_an_integer = refl;
  made_of_a_text = refl;
  made_of_two = refl;
  integer_of_bytes = refl;
  number_of_bytes = refl;
  character_of_bytes = refl;
  absolute_bytes = refl;
  parcel_of_bytes = refl;
  bytes_of_a_parcel = refl;
}
