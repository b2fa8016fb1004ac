-- The worked cases of parcels compute.
use Rattle.std.specs.Prelude.{refl}
use Rattle.std.specs.Fmt.{digits}
use Rattle.si_plain.specs.Repr.{quote_of, escaped, escaped_byte, repr_of, bytes_repr_of}
use Rattle.si_semantics.specs.Worked.Parcels.{ParcelCases}

pub worked : ParcelCases
unfolding digits quote_of escaped escaped_byte repr_of bytes_repr_of
worked = record {
  shown_nothing = refl;
  shown_true = refl;
  shown_false = refl;
  shown_int = refl;
  shown_str = refl;
  shown_escapes = refl;
  shown_bytes = refl;
  shown_queue = refl;
  shown_empty = refl;
  shown_single = refl;
  shown_pair = refl;
  shown_nested = refl;
  shown_empties = refl;
  size_of_an_atom = refl;
  size_of_the_empty = refl;
  size_of_nested = refl;
  levels_of_an_atom = refl;
  levels_of_the_empty = refl;
  levels_of_nested = refl;
  levels_of_empties = refl;
  longest_in_nested = refl;
  size_is_counted = refl;
  put_is_never_full = refl;
  put_now_may_be_full = refl;
  start_is_not_done = refl;
  main_stays_open = refl;
  await_tells_the_end = refl;
  take_is_given_a_job = refl;
}
