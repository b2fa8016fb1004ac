-- Worked cases of attributes, methods and imports: what scripts print and how they end, computed from the definitions.
use Rattle.std.specs.Prelude.{◌≡◌, codes, List, [], ◌∷◌, ◌++◌, Some}
use Rattle.si_plain.specs.declared.modules.ModuleName.TheVariants.{Threading, Interpreters}
use Rattle.si_semantics.specs.Value.{Text}
use Rattle.si_semantics.specs.Tree as tree
use Rattle.si_semantics.specs.Tree.{Expr, Stmt}
use Rattle.si_semantics.specs.Worked.Straight.{int, str, arguments, print, compared, a_text}
use Rattle.si_semantics.specs.Worked.Functions.{prints}
use Rattle.si_semantics.specs.Worked.Scripts.{a_repr, ends}
use Rattle.si_semantics.specs.Worked.BuiltIns.{printed, wrong_type, wrong_arguments}

-- `a.x(args)`
abbrev pub method : Expr → Text → List Expr → Expr
method a x args = tree.Call a (Some x) (arguments args) []

abbrev pub interpreters : Expr
interpreters = tree.Name (codes "interpreters")

-- `interpreters.QueueFull`
abbrev pub queue_full : Expr
queue_full = tree.Attribute interpreters (codes "QueueFull")

-- after `from concurrent import interpreters`
abbrev pub imported : List Stmt → Text
imported body = ends (tree.Import Interpreters ∷ body)

abbrev pub no_attribute : Text → Text
no_attribute x = codes "raised AttributeError: no attribute " ++ (x ++ codes "\n")

pub record AttributeCases : Type 0 where
  -- ---- modules
  --     import threading; from concurrent import interpreters; print(threading, interpreters)
  pub modules_shown :
      imported (tree.Import Threading ∷ prints (tree.Name (codes "threading") ∷ interpreters ∷ []) ∷ []) ≡ codes "<module 'threading'> <module 'concurrent.interpreters'>\n"
  --     print(interpreters == interpreters, interpreters == 1)
  pub modules_compared : imported (prints (compared tree.Equal interpreters interpreters ∷ compared tree.Equal interpreters (int 1) ∷ []) ∷ []) ≡ codes "True False\n"
  --     print(interpreters): no name before the import
  pub not_imported : printed (interpreters ∷ []) ≡ codes "raised NameError: name interpreters is not defined\n"
  -- ---- attributes
  --     print(interpreters.QueueFull, repr(interpreters.QueueFull('a')))
  pub kinds_of_the_module :
      imported (prints (queue_full ∷ a_repr (method interpreters (codes "QueueFull") (a_text ∷ [])) ∷ []) ∷ []) ≡ codes "<class 'QueueFull'> QueueFull('a')\n"
  --     interpreters.ValueError: the built-in kinds are no attributes
  pub another_kind : imported (tree.Evaluate (tree.Attribute interpreters (codes "ValueError")) ∷ []) ≡ no_attribute (codes "ValueError")
  --     'a'.startswith: a method is no value
  pub method_alone : printed (tree.Attribute a_text (codes "startswith") ∷ []) ≡ no_attribute (codes "startswith")
  -- ---- methods
  --     print('ab'.startswith('a'), 'ab'.startswith('b'), 'ab'.startswith(''), 'a'.startswith('ab'))
  pub beginnings :
      printed
      (method (str (codes "ab")) (codes "startswith") (a_text ∷ [])
      ∷ method (str (codes "ab")) (codes "startswith") (str (codes "b") ∷ [])
      ∷ method (str (codes "ab")) (codes "startswith") (str [] ∷ [])
      ∷ method a_text (codes "startswith") (str (codes "ab") ∷ [])
      ∷ [])
      ≡ codes "True False True False\n"
  --     print('ab'.endswith('b'), 'ab'.endswith('a'), 'ab'.endswith('ab'), ''.endswith(''), 'ab'.endswith(''))
  pub ends_of_texts :
      printed
      (method (str (codes "ab")) (codes "endswith") (str (codes "b") ∷ [])
      ∷ method (str (codes "ab")) (codes "endswith") (a_text ∷ [])
      ∷ method (str (codes "ab")) (codes "endswith") (str (codes "ab") ∷ [])
      ∷ method (str []) (codes "endswith") (str [] ∷ [])
      ∷ method (str (codes "ab")) (codes "endswith") (str [] ∷ [])
      ∷ [])
      ≡ codes "True False True True True\n"
  --     'a'.startswith(7)
  pub part_of_another_kind : printed (method a_text (codes "startswith") (int 7 ∷ []) ∷ []) ≡ wrong_type
  --     'a'.endswith(), 'a'.endswith(x='a')
  pub no_part : printed (method a_text (codes "endswith") [] ∷ []) ≡ wrong_arguments
  pub part_by_name : printed (tree.Call a_text (Some (codes "endswith")) (arguments (a_text ∷ [])) (codes "x" ∷ []) ∷ []) ≡ wrong_arguments
  -- ---- the order
  --     'a'.missing(print('a')): the method is looked for before the arguments
  pub looked_for_first : printed (method a_text (codes "missing") (print (a_text ∷ []) ∷ []) ∷ []) ≡ no_attribute (codes "missing")
  --     'a'.startswith(print('a')): of what is printed the text stands before the error
  pub arguments_then_the_call : printed (method a_text (codes "startswith") (print (a_text ∷ []) ∷ []) ∷ []) ≡ codes "a\nraised TypeError: wrong type\n"
