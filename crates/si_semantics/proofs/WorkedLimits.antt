-- The worked cases of limits compute.
use Rattle.std.specs.Prelude.{refl}
use Rattle.si_semantics.specs.Worked.Limits.{LimitCases}

pub worked_limits : LimitCases
worked_limits = record {
  deepest = refl;
  depth_in_suites = refl;
  longest = refl;
  longest_in_a_finally_suite = refl;
  parameters = refl;
  simple_statements = refl;
  ifs_in_each_other = refl;
  elifs_after_each_other = refl;
  if_in_an_else_suite = refl;
  loop_in_an_else_suite = refl;
  loop_after_an_elif = refl;
  if_in_a_loops_else_suite = refl;
  ifs_in_a_clause = refl;
  ifs_in_a_finally_suite = refl;
  depth_of_an_empty_list = refl;
  depth_of_an_empty_dict = refl;
  depth_of_a_list = refl;
  depth_of_a_dict = refl;
  depth_in_a_target = refl;
  longest_in_an_augmented_target = refl;
  longest_in_a_deletion = refl;
}
