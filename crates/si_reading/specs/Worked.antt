-- Worked cases of the tree of a text.
use Rattle.std.specs.Prelude.{◌≡◌, List, [], ◌∷◌, ◌++◌, Option, Some, None, codes}
use Rattle.si_semantics.specs.Value.{Str}
use Rattle.si_plain.specs.declared.modules.ModuleName.TheVariants.{Threading, Interpreters}
use Rattle.si_semantics.specs.Tree.{Module, Stmt, Evaluate, Import, Constant, Name, only}
use Rattle.si_semantics.specs.Grammar.{exprs_of}
use Rattle.si_semantics.specs.Tree as tree
use Rattle.si_semantics.specs.Worked.Straight.{int, suite}
use Rattle.si_semantics.specs.Worked.Attributes.{method}
use Rattle.si_semantics.specs.Worked.Grammar.{an_if}
use Rattle.si_reading.specs.Texts.{tree_of_text}

-- a text that has these statements
abbrev pub statements : List Stmt → Option Module
statements body = Some (record { body = suite body })

pub record TreeCases : Type 0 where
  pub empty : tree_of_text [] ≡ statements []
  -- a suite in a line of its own, without a line end at the end of the text
  pub an_if : tree_of_text (codes "if x:\n  f(x)") ≡ statements (an_if ∷ [])
  -- one character past ASCII, which is two bytes
  pub character : tree_of_text (codes "'" ++ 233 ∷ codes "'") ≡ statements (Evaluate (Constant (Str (233 ∷ []))) ∷ [])
  -- the object of an attribute that is called is the callee, in brackets too
  pub a_method : tree_of_text (codes "a.b(1)") ≡ statements (Evaluate (method (Name (codes "a")) (codes "b") (int 1 ∷ [])) ∷ [])
  pub in_brackets : tree_of_text (codes "(a.b)(1)") ≡ statements (Evaluate (method (Name (codes "a")) (codes "b") (int 1 ∷ [])) ∷ [])
  -- an attribute that is not called
  pub an_attribute : tree_of_text (codes "a.b") ≡ statements (Evaluate (tree.Attribute (Name (codes "a")) (codes "b")) ∷ [])
  -- a list, and a dict, whose keys and values stand by turns
  pub a_list : tree_of_text (codes "[1, [],]") ≡ statements (Evaluate (tree.ListDisplay (exprs_of (int 1 ∷ tree.ListDisplay tree.NoExprs ∷ []))) ∷ [])
  pub a_dict : tree_of_text (codes "{1: a}") ≡ statements (Evaluate (tree.DictDisplay (exprs_of (int 1 ∷ Name (codes "a") ∷ []))) ∷ [])
  -- several targets: an item, and targets in a row, of which one is a row of its own
  pub targets : tree_of_text (codes "a[1] = b, [c] = d")
      ≡ statements (tree.Assign (tree.MoreTargets (tree.Item (Name (codes "a")) (int 1)) (only (tree.Unpack (tree.MoreTargets (tree.Named (codes "b")) (only (tree.Unpack (only (tree.Named (codes "c")))))))))
      (Name (codes "d")) ∷ [])
  -- an item is added to, and one is deleted
  pub item_added_to : tree_of_text (codes "a[1] += 2") ≡ statements (tree.AugmentItem (Name (codes "a")) (int 1) tree.Add (int 2) ∷ [])
  pub item_deleted : tree_of_text (codes "del a[1]") ≡ statements (tree.Delete (Name (codes "a")) (int 1) ∷ [])
  -- no targets are none, a row is not added to, and a name is not deleted
  pub no_targets : tree_of_text (codes "[] = a") ≡ None
  pub row_added_to : tree_of_text (codes "a, b += c") ≡ None
  pub name_deleted : tree_of_text (codes "del a") ≡ None
  -- the two modules
  pub threading : tree_of_text (codes "import threading") ≡ statements (Import Threading ∷ [])
  pub interpreters : tree_of_text (codes "from concurrent import interpreters") ≡ statements (Import Interpreters ∷ [])
  -- there is no other, and neither is imported in the form of the other
  pub no_module : tree_of_text (codes "import interpreters") ≡ None
  -- a word that is none
  pub no_word : tree_of_text (codes "1x") ≡ None
  -- a line that is deeper than the one before it, with no suite begun
  pub no_layout : tree_of_text (codes "f(x)\n  f(x)\n") ≡ None
  -- an open bracket
  pub no_tree : tree_of_text (codes "f(x\n") ≡ None
  -- it is read, but `break` stands in no loop
  pub not_scoped : tree_of_text (codes "if x:\n  break\n") ≡ None
