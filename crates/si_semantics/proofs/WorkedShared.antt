-- The worked cases of the shared state compute.
use Rattle.std.specs.Prelude.{refl}
use Rattle.si_semantics.specs.Shared.{reply}
use Rattle.si_semantics.specs.History.{state_after, Told}
use Rattle.si_semantics.specs.Worked.Shared.{SharedCases}

pub worked_shared : SharedCases
unfolding reply state_after Told
worked_shared = record {
  fourteen_calls = refl;
  create_at_the_limit = refl;
  create_below_the_limit = refl;
  a_queue_is_made = refl;
  create_queue_at_the_limit = refl;
  create_queue_below_the_limit = refl;
  put_where_full = refl;
  put_where_not_full = refl;
  put_without_a_limit = refl;
  put_into_no_queue = refl;
  put_now_where_full = refl;
  put_now_where_not_full = refl;
  put_now_into_no_queue = refl;
  get_where_empty = refl;
  get_where_not_empty = refl;
  get_from_no_queue = refl;
  get_now_where_empty = refl;
  get_now_where_not_empty = refl;
  get_now_from_no_queue = refl;
  size_of_a_queue = refl;
  size_of_no_queue = refl;
  prepare_a_closed_one = refl;
  prepare_a_running_one = refl;
  prepare_an_idle_one = refl;
  prepare_none = refl;
  start_a_closed_one = refl;
  start_a_running_one = refl;
  start_oneself = refl;
  start_an_idle_one = refl;
  start_none = refl;
  await_before_the_outcome = refl;
  await_the_outcome = refl;
  await_no_run = refl;
  is_a_closed_one_running = refl;
  is_an_idle_one_running = refl;
  is_one_with_its_run_in_the_inbox_running = refl;
  is_a_running_one_running = refl;
  is_none_running = refl;
  close_a_closed_one = refl;
  close_oneself = refl;
  close_oneself_as_another = refl;
  close_the_main_one = refl;
  close_a_running_one = refl;
  close_one_with_its_run_in_the_inbox = refl;
  close_an_idle_one = refl;
  close_none = refl;
  those_not_closed = refl;
  take_from_an_empty_inbox = refl;
  take_a_job = refl;
  take_by_none = refl;
  a_run_ends = refl;
  idle_ones_do_nothing = refl;
  a_run_in_the_inbox_is_not_taken = refl;
  closed_ones_do_nothing = refl;
  none_does_nothing = refl;
  calls_of_a_queue = (refl, (refl, (refl, (refl, (refl, (refl, (refl, (refl, tt))))))));
  put_into_a_queue = refl;
  taken_from_a_queue = refl;
  held_by_a_queue = refl;
  a_number_is_given = refl;
  no_number_is_given = refl;
  a_closed_one_stands_so = refl;
  none_stands_so = refl;
}
