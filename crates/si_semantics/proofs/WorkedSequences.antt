-- The worked cases of `in` and of subscriptions compute.
use Rattle.std.specs.Prelude.{refl}
use Rattle.std.specs.Fmt.{digits}
use Rattle.si_plain.specs.Integers.{in_range, sum_of, difference_of, negative_of}
use Rattle.si_plain.specs.Kinds.{name_of}
use Rattle.si_plain.specs.Repr.{quote_of, escaped, repr_of}
use Rattle.si_semantics.specs.Worked.Sequences.{SequenceCases}

pub worked : SequenceCases
unfolding digits in_range sum_of difference_of negative_of name_of quote_of escaped repr_of
worked = record {
  parts = refl;
  no_parts = refl;
  items_of_a_range = refl;
  items_downwards = refl;
  no_items = refl;
  no_part_of_a_text = refl;
  in_an_integer = refl;
  chain_of_parts = refl;
  characters = refl;
  after_the_last = refl;
  before_the_first = refl;
  of_nothing = refl;
  numbers = refl;
  after_the_stop = refl;
  past_the_integers = refl;
  index_of_a_text = refl;
  of_an_integer = refl;
  object_first = refl;
}
