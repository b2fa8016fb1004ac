-- The worked cases compute.
use Rattle.std.specs.Prelude.{refl}
use Rattle.std.specs.Fmt.{digits}
use Rattle.si_plain.specs.Kinds.{name_of}
use Rattle.si_plain.specs.Repr.{quote_of, escaped, repr_of}
use Rattle.si_history.specs.Worked.{HistoryCases}

pub worked : HistoryCases
unfolding digits name_of quote_of escaped repr_of
worked = record {
  no_calls = refl;
  eleven_calls = refl;
  made = refl;
  none_more = refl;
  put_at_once = refl;
  none_there = refl;
  one_there = refl;
  prepared = refl;
  prepared_with_nothing = refl;
  started = refl;
  not_started = refl;
  waited = refl;
  waited_for_an_exception = refl;
  runs = refl;
  does_not_run = refl;
  closed = refl;
  closes_itself = refl;
  closes_the_main_one = refl;
  listed = refl;
  none_listed = refl;
  given_names = refl;
  given_no_names = refl;
  given_the_end = refl;
  left = refl;
}
