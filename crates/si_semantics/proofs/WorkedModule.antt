-- The worked cases of the module `concurrent.interpreters` and of threads compute.
use Rattle.std.specs.Prelude.{refl}
use Rattle.std.specs.Fmt.{digits}
use Rattle.si_plain.specs.Integers.{in_range}
use Rattle.si_plain.specs.Kinds.{name_of}
use Rattle.si_plain.specs.Repr.{quote_of, escaped, repr_of}
use Rattle.si_semantics.specs.Worked.Module.{ModuleCases}

pub worked : ModuleCases
unfolding in_range digits name_of quote_of escaped repr_of
worked = record {
  queue_is_asked_for = refl;
  too_many_queues = refl;
  put_is_asked = refl;
  put_by_name = refl;
  full_queue = refl;
  empty_queue = refl;
  items_and_sizes = refl;
  no_parcel = refl;
  nothing_put = refl;
  no_number = refl;
  own_number = refl;
  interpreter_shown = refl;
  too_many_interpreters = refl;
  run_is_asked_for = refl;
  end_is_awaited = refl;
  run_left_by_an_exception = refl;
  closed_before = refl;
  runs_already = refl;
  closes_itself = refl;
  names_in_order = refl;
  one_name_refused = refl;
  names_of_a_dict = refl;
  one_name_twice = refl;
  no_names = refl;
  none_for_a_dict = refl;
  key_that_is_no_name = refl;
  value_before_the_next_key = refl;
  list_in_a_dict = refl;
  list_for_a_dict = refl;
  two_dicts = refl;
  list_put = refl;
  not_shareable = refl;
  all_listed = refl;
  list_is_asked_for = refl;
  list_of_some = refl;
  thread_is_started = refl;
  started_once = refl;
  joined = refl;
  exception_stays_in_its_run = refl;
  joined_before_its_start = refl;
  start_refused = refl;
  target_called = refl;
}
