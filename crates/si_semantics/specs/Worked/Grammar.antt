-- Worked cases of reading: which words of a text are the longest, and which tokens and which tree texts have.
use Rattle.std.specs.Prelude.{None, Some, ◌≡◌, codes, ℕ, List, [], ◌∷◌, map}
use Rattle.si_semantics.specs.Tree as tree
use Rattle.si_semantics.specs.Tree.{Expr, Stmt, Target}
use Rattle.si_semantics.specs.Tokens as tokens
use Rattle.si_semantics.specs.Tokens.{Token}
use Rattle.si_semantics.specs.Words.{IsLongest}
use Rattle.si_semantics.specs.Layout.{token, HasTokens}
use Rattle.si_semantics.specs.Grammar.{NAME, Sign, Word, terminal_of, target_of, IsTarget, Small, Derives}
use Rattle.si_semantics.specs.Worked.Straight.{int, arguments, suite}
use Rattle.si_semantics.specs.Worked.Functions.{f, x, called}
use Rattle.si_semantics.specs.Worked.Scripts.{a, b, c, list_of, dict_of, item, unpack, set, unpacks, set_all}

-- the bytes of a text have tokens from which these statements derive
abbrev pub IsReadAs : List ℕ → List Stmt → Type 0
IsReadAs text body = (ts : List Token) × HasTokens ts text × Derives (suite body) (map terminal_of ts)

-- `f(x)`
abbrev pub f_of_x : Stmt
f_of_x = tree.Evaluate (called f (tree.Name x ∷ []))

-- `if x:`, then `  f(x)`
abbrev pub an_if : Stmt
an_if = tree.If (tree.Name x) (suite (f_of_x ∷ [])) tree.NoStmts

abbrev pub tokens_of_an_if : List Token
tokens_of_an_if =
    token 0 (codes "if") (tokens.Word tokens.IfWord)
    ∷ token 3 (codes "x") tokens.Name
    ∷ token 4 (codes ":") (tokens.Sign tokens.Colon)
    ∷ token 5 (codes "\n") tokens.Newline
    ∷ token 8 [] tokens.Indent
    ∷ token 8 (codes "f") tokens.Name
    ∷ token 9 (codes "(") (tokens.Sign tokens.LeftParenthesis)
    ∷ token 10 (codes "x") tokens.Name
    ∷ token 11 (codes ")") (tokens.Sign tokens.RightParenthesis)
    ∷ token 12 (codes "\n") tokens.Newline
    ∷ token 13 [] tokens.Dedent
    ∷ token 13 [] tokens.End
    ∷ []

-- `if x: pass`, `elif f: f(x)`, `else: pass`
abbrev pub an_elif : Stmt
an_elif = tree.If (tree.Name x) (suite (tree.Pass ∷ [])) (suite (tree.If (tree.Name f) (suite (f_of_x ∷ [])) (suite (tree.Pass ∷ [])) ∷ []))

-- `f(x, y=1)`
abbrev pub a_call : Stmt
a_call = tree.Evaluate (tree.Call (tree.Name f) None (arguments (tree.Name x ∷ int 1 ∷ [])) (codes "y" ∷ []))

-- `while x:`, then `  if f:`, then `    break`
abbrev pub a_while : Stmt
a_while = tree.While (tree.Name x) (suite (tree.If (tree.Name f) (suite (tree.Break ∷ [])) tree.NoStmts ∷ [])) tree.NoStmts

-- `-3 ** 4`: the power is negated
abbrev pub negated_power : Expr
negated_power = tree.Unary tree.Minus (tree.Binary tree.Power (int 3) (int 4))

-- `1 - 2 - -3 ** 4 * 5`
abbrev pub difference : Expr
difference = tree.Binary tree.Subtract (tree.Binary tree.Subtract (int 1) (int 2)) (tree.Binary tree.Multiply negated_power (int 5))

-- `1 - (2 - 3)`
abbrev pub bracketed : Expr
bracketed = tree.Binary tree.Subtract (int 1) (tree.Binary tree.Subtract (int 2) (int 3))

-- `not 1 < 2 <= 3`: the whole chain is negated
abbrev pub negated_chain : Expr
negated_chain =
    tree.Unary tree.Not (tree.Compare (int 1) (tree.MoreComparisons tree.Less (int 2) (tree.MoreComparisons tree.LessEqual (int 3) tree.NoComparisons)))

-- `a, b[0] = c = x`
abbrev pub two_targets : Stmt
two_targets = set_all (unpack (tree.Named a ∷ tree.Item (tree.Name b) (int 0) ∷ []) ∷ tree.Named c ∷ []) (tree.Name x)

-- `[a, (b, c)] = x`
abbrev pub unpacked_twice : Stmt
unpacked_twice = unpacks (tree.Named a ∷ unpack (tree.Named b ∷ tree.Named c ∷ []) ∷ []) (tree.Name x)

-- `for a, b in x: pass`
abbrev pub a_for : Stmt
a_for = tree.For (unpack (tree.Named a ∷ tree.Named b ∷ [])) (tree.Name x) (suite (tree.Pass ∷ [])) tree.NoStmts

-- `x = [1, {2: x,}, []]`
abbrev pub displays : Stmt
displays = set x (list_of (int 1 ∷ dict_of (int 2 ∷ tree.Name x ∷ []) ∷ list_of [] ∷ []))

pub record GrammarCases : Type 0 where
  -- `if` is the longest word before a blank, but not before a letter
  pub word_before_a_blank : IsLongest (codes "if") (codes " x:")
  pub word_before_a_letter : IsLongest (codes "if") (codes "x:") → ⊥
  -- `==` is the longest before `=`, but not `=`
  pub two_signs : IsLongest (codes "==") (codes "= x")
  pub one_sign : IsLongest (codes "=") (codes "= x") → ⊥
  -- `1if` is one word, which has no value
  pub number_before_a_letter : IsLongest (codes "1") (codes "if x") → ⊥
  -- CR and LF are one line end
  pub cr_before_lf : IsLongest (codes "\r") (codes "\n") → ⊥
  -- `''` before a quote opens a text in three quotes, here `'''x'''`
  pub empty_text_before_a_quote : IsLongest (codes "''") (codes "'x'''") → ⊥
  -- a word is the longest at the end of the text
  pub last_word : IsLongest (codes "x") []
  -- an `if` with its suite in a block
  pub if_has_tokens : HasTokens tokens_of_an_if (codes "if x:\n  f(x)\n")
  pub if_derives : Derives (suite (an_if ∷ [])) (map terminal_of tokens_of_an_if)
  -- an `elif` is an `if` alone in the else suite
  pub elif_in_the_else_suite : IsReadAs (codes "if x: pass\nelif f: f(x)\nelse: pass\n") (an_elif ∷ [])
  -- a call goes over a line end in its brackets; the text ends with none
  pub call_over_two_lines : IsReadAs (codes "f(x,\n    y=1)") (a_call ∷ [])
  -- the last line closes two blocks
  pub two_blocks : IsReadAs (codes "while x:\n  if f:\n    break\nf(x)\n") (a_while ∷ f_of_x ∷ [])
  -- operators by their levels, and at one level from the left
  pub levels : IsReadAs (codes "x = 1 - 2 - -3 ** 4 * 5\n") (tree.Assign (tree.only (tree.Named x)) difference ∷ [])
  pub brackets : IsReadAs (codes "x = 1 - (2 - 3)\n") (tree.Assign (tree.only (tree.Named x)) bracketed ∷ [])
  -- `or` after `not`, and `not` before comparisons
  pub words_between_operands :
      IsReadAs (codes "not 1 < 2 <= 3 or x\n") (tree.Evaluate (tree.Boolean tree.Or negated_chain (arguments (tree.Name x ∷ []))) ∷ [])
  -- targets with a comma between them are unpacked, in brackets of either kind and without
  pub targets_of_an_assignment : IsReadAs (codes "a, b[0] = c = x\n") (two_targets ∷ [])
  pub targets_in_brackets : IsReadAs (codes "[a, (b, c)] = x\n") (unpacked_twice ∷ [])
  pub targets_of_a_for : IsReadAs (codes "for a, b in x: pass\n") (a_for ∷ [])
  pub one_target_in_brackets : IsReadAs (codes "(x) = 1\n") (set x (int 1) ∷ [])
  pub item_augmented : IsReadAs (codes "x[0] += 1\n") (tree.AugmentItem (tree.Name x) (int 0) tree.Add (int 1) ∷ [])
  pub item_deleted : IsReadAs (codes "del x[0]\n") (tree.Delete (tree.Name x) (int 0) ∷ [])
  pub displays_in_each_other : IsReadAs (codes "x = [1, {2: x,}, []]\n") (displays ∷ [])
  -- `()`, `[]`, `(x, 1)`, `[x, []]`, `f(x)`, `x.a`, `-x` and `1` are no targets
  pub empty_tuple_as_a_target : target_of (tree.Tuple tree.NoExprs) ≡ None
  pub empty_list_as_a_target : target_of (list_of []) ≡ None
  pub literal_among_targets : target_of (tree.Tuple (arguments (tree.Name x ∷ int 1 ∷ []))) ≡ None
  pub empty_list_among_targets : target_of (list_of (tree.Name x ∷ list_of [] ∷ [])) ≡ None
  pub call_as_a_target : target_of (called f (tree.Name x ∷ [])) ≡ None
  pub attribute_as_a_target : target_of (tree.Attribute (tree.Name x) a) ≡ None
  pub negation_as_a_target : target_of (tree.Unary tree.Minus (tree.Name x)) ≡ None
  pub literal_as_a_target : target_of (int 1) ≡ None
  -- an item of anything is one
  pub item_of_a_call_as_a_target : target_of (item (called f (tree.Name x ∷ [])) (int 0)) ≡ Some (tree.Item (called f (tree.Name x ∷ [])) (int 0))
  -- so `()` and `[]` spell no target, and no `del` stands in front of a name alone
  pub empty_brackets_before_an_equal_sign : (t : Target) → IsTarget t (Sign tokens.LeftParenthesis ∷ Sign tokens.RightParenthesis ∷ []) → ⊥
  pub empty_square_brackets_before_an_equal_sign : (t : Target) → IsTarget t (Sign tokens.LeftBracket ∷ Sign tokens.RightBracket ∷ []) → ⊥
  pub name_after_del : (object index : Expr) → Small (tree.Delete object index) (Word tokens.DelWord ∷ NAME x ∷ []) → ⊥
