-- The tree that a module stands for.
use Rattle.si_semantics.specs.Tree.{Stmts}
use Rattle.si_syntax.specs.declared.modules.Module.{Module}
use Rattle.si_syntax.specs.Trees.{body_of}

abbrev pub tree_of : Module → Stmts
tree_of m = body_of m.body.items
