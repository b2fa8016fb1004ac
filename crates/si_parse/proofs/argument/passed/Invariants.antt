use Rattle.std.proofs.Common.{◌≡◌, [], map, string_bytes}
use Rattle.si_syntax.specs.Trees.{expr_of}
use Rattle.si_parse.specs.inner.Expressions.{passed_from}
use Rattle.si_parse.specs.inner.Gives.{argument_of}
use Rattle.si_parse.proofs.argument.passed.Given as goal

-- the arguments that are left go after what is kept, and each name that is kept has a slot
abbrev pub invariant-loop-argument : goal.invariant-loop-argument
invariant-loop-argument l = record {
  passed : passed_from (map expr_of l.values.items, map string_bytes l.names.items) (map argument_of l.argument-iterator.rest.items) ≡ passed_from ([], []) (map argument_of l.fn.arguments.items);
  kept : l.seen ≡ map string_bytes l.names.items;
}
