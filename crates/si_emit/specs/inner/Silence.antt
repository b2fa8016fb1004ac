-- Statements without code. Devices of the proofs: si_slots/specs/Code.antt says what the code of a statement is.
use Rattle.std.specs.Prelude.{Bool, true, false, ◌&&◌}
use Rattle.si_semantics.specs.Tree as tree

abbrev mutual
  -- a statement that does nothing: `pass`, `global`, and a `try` without clauses of such suites
  pub silent : tree.Stmt → Bool
  silent tree.Pass = true
  silent (tree.Global xs) = true
  silent (tree.Try b tree.NoClauses c) = silent_suite b && silent_suite c
  silent s = false

  -- statements of which none has code
  pub silent_suite : tree.Stmts → Bool
  silent_suite tree.NoStmts = true
  silent_suite (tree.MoreStmts a b) = silent a && silent_suite b
