-- The tree that a resolved script stands for.
use Rattle.si_semantics.specs.Tree.{Stmts}
use Rattle.si_syntax.specs.Modules.{tree_of}
use Rattle.si_scope.specs.declared.scoped.Scoped.{Scoped}

abbrev pub script_of : Scoped → Stmts
script_of s = tree_of s.tree
