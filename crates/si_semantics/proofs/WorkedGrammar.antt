-- The worked cases of reading hold: words and tokens compute, and the tree is derived production by production.
use Rattle.std.proofs.Common.{ℕ, List, [], ◌∷◌, ◌++◌, inl, refl, lit<, lit≤}
use Rattle.std.specs.Prelude.{codes}
use Rattle.si_semantics.specs.Tree as tree
use Rattle.si_semantics.specs.Tokens as tokens
use Rattle.si_semantics.specs.Words as words
use Rattle.si_semantics.specs.Words.{symbols, keywords}
use Rattle.si_semantics.specs.Layout.{Line}
use Rattle.si_semantics.specs.Grammar.{Terminal, NAME, NUMBER, Sign, Positional, ByName, max_depth, primary_level}
use Rattle.si_semantics.specs.Worked.Straight.{int, arguments, suite}
use Rattle.si_semantics.specs.Worked.Functions.{f, x}
use Rattle.si_semantics.specs.Worked.Scripts.{a, b, c, set}
use Rattle.si_semantics.specs.Worked.Grammar.{f_of_x, an_if, an_elif, a_call, a_while, difference, bracketed, negated_chain, two_targets, unpacked_twice, a_for, displays, GrammarCases}
use Rattle.si_semantics.proofs.Cutting.{word_is, longest, has_tokens}
use Rattle.si_semantics.proofs.NotTargets.{no_round_target, no_square_target, not_deleted}
use Rattle.si_semantics.proofs.Deriving.{name, number, in_brackets, unary, binary, subscripted, no_rest, more_rest, no_row, row, list_display, one_pair, two_in_brackets, aim, two_aims, one_aim, more_aims, Statement, assigned, assigned_to, augmented, deleted, evaluated, word, line, in_line, in_block, one_branch, Parsed, text, three_branches, loop, over_two, text_of_two, comparison, compares, no_more, either}

-- ---- words and lines

abbrev letters : List ℕ → words.Word
letters w = record { sort = words.Name; text = w }

abbrev digits : List ℕ → words.Word
digits w = record { sort = words.Int; text = w }

abbrev sign : List ℕ → words.Word
sign w = record { sort = words.Operator; text = w }

abbrev blanks : List ℕ → words.Word
blanks w = record { sort = words.Spaces; text = w }

abbrev blank : words.Word
blank = blanks (codes " ")

abbrev lf : words.Word
lf = record { sort = words.LineEnd; text = codes "\n" }

-- a line with its line end, and the last one
abbrev full_line : List words.Word → Line
full_line ws = record { words = ws; end = codes "\n" }

abbrev last_line : List words.Word → Line
last_line ws = record { words = ws; end = [] }

abbrev f_of_x_words : List words.Word
f_of_x_words = letters (codes "f") ∷ sign (codes "(") ∷ letters (codes "x") ∷ sign (codes ")") ∷ []

abbrev if_lines : List Line
if_lines =
    full_line (letters (codes "if") ∷ blank ∷ letters (codes "x") ∷ sign (codes ":") ∷ [])
    ∷ full_line (blanks (codes "  ") ∷ f_of_x_words)
    ∷ last_line []
    ∷ []

abbrev elif_lines : List Line
elif_lines =
    full_line (letters (codes "if") ∷ blank ∷ letters (codes "x") ∷ sign (codes ":") ∷ blank ∷ letters (codes "pass") ∷ [])
    ∷ full_line (letters (codes "elif") ∷ blank ∷ letters (codes "f") ∷ sign (codes ":") ∷ blank ∷ f_of_x_words)
    ∷ full_line (letters (codes "else") ∷ sign (codes ":") ∷ blank ∷ letters (codes "pass") ∷ [])
    ∷ last_line []
    ∷ []

abbrev call_lines : List Line
call_lines =
    last_line
    (letters (codes "f") ∷ sign (codes "(") ∷ letters (codes "x") ∷ sign (codes ",") ∷ lf
    ∷ blanks (codes "    ") ∷ letters (codes "y") ∷ sign (codes "=") ∷ digits (codes "1") ∷ sign (codes ")") ∷ [])
    ∷ []

abbrev block_lines : List Line
block_lines =
    full_line (letters (codes "while") ∷ blank ∷ letters (codes "x") ∷ sign (codes ":") ∷ [])
    ∷ full_line (blanks (codes "  ") ∷ letters (codes "if") ∷ blank ∷ letters (codes "f") ∷ sign (codes ":") ∷ [])
    ∷ full_line (blanks (codes "    ") ∷ letters (codes "break") ∷ [])
    ∷ full_line f_of_x_words
    ∷ last_line []
    ∷ []

abbrev level_lines : List Line
level_lines =
    full_line
    (letters (codes "x") ∷ blank ∷ sign (codes "=") ∷ blank ∷ digits (codes "1") ∷ blank ∷ sign (codes "-") ∷ blank
    ∷ digits (codes "2") ∷ blank ∷ sign (codes "-") ∷ blank ∷ sign (codes "-") ∷ digits (codes "3") ∷ blank
    ∷ sign (codes "**") ∷ blank ∷ digits (codes "4") ∷ blank ∷ sign (codes "*") ∷ blank ∷ digits (codes "5") ∷ [])
    ∷ last_line []
    ∷ []

abbrev bracket_lines : List Line
bracket_lines =
    full_line
    (letters (codes "x") ∷ blank ∷ sign (codes "=") ∷ blank ∷ digits (codes "1") ∷ blank ∷ sign (codes "-") ∷ blank
    ∷ sign (codes "(") ∷ digits (codes "2") ∷ blank ∷ sign (codes "-") ∷ blank ∷ digits (codes "3") ∷ sign (codes ")") ∷ [])
    ∷ last_line []
    ∷ []

abbrev chain_lines : List Line
chain_lines =
    full_line
    (letters (codes "not") ∷ blank ∷ digits (codes "1") ∷ blank ∷ sign (codes "<") ∷ blank ∷ digits (codes "2") ∷ blank
    ∷ sign (codes "<=") ∷ blank ∷ digits (codes "3") ∷ blank ∷ letters (codes "or") ∷ blank ∷ letters (codes "x") ∷ [])
    ∷ last_line []
    ∷ []

-- `a, b[0] = c = x`
abbrev two_targets_lines : List Line
two_targets_lines =
    full_line
    (letters (codes "a") ∷ sign (codes ",") ∷ blank ∷ letters (codes "b") ∷ sign (codes "[") ∷ digits (codes "0") ∷ sign (codes "]") ∷ blank
    ∷ sign (codes "=") ∷ blank ∷ letters (codes "c") ∷ blank ∷ sign (codes "=") ∷ blank ∷ letters (codes "x") ∷ [])
    ∷ last_line []
    ∷ []

-- `[a, (b, c)] = x`
abbrev brackets_lines : List Line
brackets_lines =
    full_line
    (sign (codes "[") ∷ letters (codes "a") ∷ sign (codes ",") ∷ blank ∷ sign (codes "(") ∷ letters (codes "b") ∷ sign (codes ",") ∷ blank
    ∷ letters (codes "c") ∷ sign (codes ")") ∷ sign (codes "]") ∷ blank ∷ sign (codes "=") ∷ blank ∷ letters (codes "x") ∷ [])
    ∷ last_line []
    ∷ []

-- `for a, b in x: pass`
abbrev for_lines : List Line
for_lines =
    full_line
    (letters (codes "for") ∷ blank ∷ letters (codes "a") ∷ sign (codes ",") ∷ blank ∷ letters (codes "b") ∷ blank ∷ letters (codes "in") ∷ blank
    ∷ letters (codes "x") ∷ sign (codes ":") ∷ blank ∷ letters (codes "pass") ∷ [])
    ∷ last_line []
    ∷ []

-- `(x) = 1`
abbrev one_target_lines : List Line
one_target_lines =
    full_line (sign (codes "(") ∷ letters (codes "x") ∷ sign (codes ")") ∷ blank ∷ sign (codes "=") ∷ blank ∷ digits (codes "1") ∷ [])
    ∷ last_line []
    ∷ []

-- `x[0]`, and a line of it with `+= 1` after it, or with `del` in front of it
abbrev item_words : List words.Word
item_words = letters (codes "x") ∷ sign (codes "[") ∷ digits (codes "0") ∷ sign (codes "]") ∷ []

abbrev augmented_lines : List Line
augmented_lines = full_line (item_words ++ (blank ∷ sign (codes "+=") ∷ blank ∷ digits (codes "1") ∷ [])) ∷ last_line [] ∷ []

abbrev deleted_lines : List Line
deleted_lines = full_line (letters (codes "del") ∷ blank ∷ item_words) ∷ last_line [] ∷ []

-- `x = [1, {2: x,}, []]`
abbrev display_lines : List Line
display_lines =
    full_line
    (letters (codes "x") ∷ blank ∷ sign (codes "=") ∷ blank ∷ sign (codes "[") ∷ digits (codes "1") ∷ sign (codes ",") ∷ blank ∷ sign (codes "{")
    ∷ digits (codes "2") ∷ sign (codes ":") ∷ blank ∷ letters (codes "x") ∷ sign (codes ",") ∷ sign (codes "}") ∷ sign (codes ",") ∷ blank
    ∷ sign (codes "[") ∷ sign (codes "]") ∷ sign (codes "]") ∷ [])
    ∷ last_line []
    ∷ []

-- ---- trees

-- `f(x)`
abbrev f_is_called : Statement f_of_x
f_is_called =
    record {
      terminals = NAME f ∷ Sign tokens.LeftParenthesis ∷ NAME x ∷ Sign tokens.RightParenthesis ∷ [];
      spelled =
          inl (inl (
            NAME f ∷ [],
            NAME x ∷ [],
            tree.Name f,
            Positional (tree.Name x) ∷ [],
            refl,
            lit≤ tt,
            inl refl,
            refl,
            record { positional = tree.Name x ∷ []; named = []; in_order = refl; values_are = refl; names_are = refl; once = refl },
            (NAME x ∷ [], [], refl, inl refl, inl refl),
          ));
    }

abbrev if_spelled : Parsed (suite (an_if ∷ []))
if_spelled = text (one_branch (name x) (in_block (line f_is_called) (lit< tt)))

-- `pass` and `break`
abbrev passes : Statement tree.Pass
passes = word tree.Pass tokens.PassWord refl

abbrev breaks : Statement tree.Break
breaks = word tree.Break tokens.BreakWord refl

abbrev elif_spelled : Parsed (suite (an_elif ∷ []))
elif_spelled = text (three_branches (name x) (in_line passes) (name f) (in_line f_is_called) (in_line passes))

-- `f(x, y=1)`
abbrev by_name : List Terminal
by_name = NAME (codes "y") ∷ Sign tokens.Equal ∷ NUMBER (codes "1") ∷ []

abbrev between : List Terminal
between = NAME x ∷ Sign tokens.Comma ∷ by_name

abbrev f_is_called_by_name : Statement a_call
f_is_called_by_name =
    record {
      terminals = NAME f ∷ Sign tokens.LeftParenthesis ∷ (between ++ Sign tokens.RightParenthesis ∷ []);
      spelled =
          inl (inl (
            NAME f ∷ [],
            between,
            tree.Name f,
            Positional (tree.Name x) ∷ ByName (codes "y") (int 1) ∷ [],
            refl,
            lit≤ tt,
            inl refl,
            refl,
            record { positional = tree.Name x ∷ []; named = (codes "y", int 1) ∷ []; in_order = refl; values_are = refl; names_are = refl; once = refl },
            (
              NAME x ∷ [],
              Sign tokens.Comma ∷ by_name,
              refl,
              inl refl,
              (by_name, [], refl, (NUMBER (codes "1") ∷ [], refl, inl (codes "1", refl, refl)), inl refl),
            ),
          ));
    }

abbrev call_spelled : Parsed (suite (a_call ∷ []))
call_spelled = text (line f_is_called_by_name)

abbrev blocks_spelled : Parsed (suite (a_while ∷ f_of_x ∷ []))
blocks_spelled =
    text_of_two
    (loop (name x) (in_block (one_branch (name f) (in_block (line breaks) (lit< tt))) (lit< tt)))
    (line f_is_called)

abbrev levels_spelled : Parsed (suite (tree.Assign (tree.only (tree.Named x)) difference ∷ []))
levels_spelled =
    text (line (assigned x
    (binary tree.Subtract (lit≤ tt)
    (binary tree.Subtract (lit≤ tt) (number (codes "1") 1 refl) (number (codes "2") 2 refl))
    (binary tree.Multiply (lit≤ tt)
    (unary tree.Minus (lit≤ tt) (binary tree.Power (lit≤ tt) (number (codes "3") 3 refl) (number (codes "4") 4 refl)))
    (number (codes "5") 5 refl)))))

abbrev brackets_spelled : Parsed (suite (tree.Assign (tree.only (tree.Named x)) bracketed ∷ []))
brackets_spelled =
    text (line (assigned x
    (binary tree.Subtract (lit≤ tt)
    (number (codes "1") 1 refl)
    (in_brackets (binary tree.Subtract (lit≤ tt) (number (codes "2") 2 refl) (number (codes "3") 3 refl))))))

abbrev words_spelled : Parsed (suite (tree.Evaluate (tree.Boolean tree.Or negated_chain (arguments (tree.Name x ∷ []))) ∷ []))
words_spelled =
    text (line (evaluated
    (either (lit≤ tt)
    (unary tree.Not (lit≤ tt)
    (comparison (lit≤ tt) (lit< tt) (number (codes "1") 1 refl)
    (compares tree.Less refl (number (codes "2") 2 refl) (compares tree.LessEqual refl (number (codes "3") 3 refl) no_more))))
    (name x))))

abbrev two_targets_spelled : Parsed (suite (two_targets ∷ []))
two_targets_spelled =
    text (line (assigned_to
    (more_aims (two_aims refl (name a) (subscripted (lit≤ tt) (name b) (number (codes "0") 0 refl))) (one_aim (aim refl (name c))))
    (name x)))

abbrev unpacked_twice_spelled : Parsed (suite (unpacked_twice ∷ []))
unpacked_twice_spelled =
    text (line (assigned_to
    (one_aim (aim refl (list_display {items = arguments (tree.Name a ∷ tree.Tuple (arguments (tree.Name b ∷ tree.Name c ∷ [])) ∷ [])} (row (name a) (more_rest (two_in_brackets (name b) (name c)) no_rest)))))
    (name x)))

abbrev for_spelled : Parsed (suite (a_for ∷ []))
for_spelled = text (over_two refl (name a) (name b) (name x) (in_line passes))

abbrev one_target_spelled : Parsed (suite (set x (int 1) ∷ []))
one_target_spelled = text (line (assigned_to (one_aim (aim refl (in_brackets (name x)))) (number (codes "1") 1 refl)))

abbrev augmented_spelled : Parsed (suite (tree.AugmentItem (tree.Name x) (int 0) tree.Add (int 1) ∷ []))
augmented_spelled =
    text (line (augmented tree.Add (aim refl (subscripted (lit≤ tt) (name x) (number (codes "0") 0 refl))) (number (codes "1") 1 refl)))

abbrev deleted_spelled : Parsed (suite (tree.Delete (tree.Name x) (int 0) ∷ []))
deleted_spelled = text (line (deleted (subscripted (lit≤ tt) (name x) (number (codes "0") 0 refl))))

abbrev displays_spelled : Parsed (suite (displays ∷ []))
displays_spelled =
    text (line (assigned x
    (list_display (row (number (codes "1") 1 refl)
    (more_rest (one_pair (number (codes "2") 2 refl) (name x)) (more_rest (list_display no_row) no_rest))))))

-- ---- the cases

pub worked_grammar : GrammarCases
unfolding symbols keywords
worked_grammar = record {
  word_before_a_blank = longest (codes "if") (codes " x:") refl;
  word_before_a_letter = λ l. l (codes "x") (codes ":") words.Name (lit< tt) refl (word_is words.Name (codes "ifx") refl);
  two_signs = longest (codes "==") (codes "= x") refl;
  one_sign = λ l. l (codes "=") (codes " x") words.Operator (lit< tt) refl (word_is words.Operator (codes "==") refl);
  number_before_a_letter = λ l. l (codes "if") (codes " x") words.Int (lit< tt) refl (word_is words.Int (codes "1if") refl);
  cr_before_lf = λ l. l (codes "\n") [] words.LineEnd (lit< tt) refl (word_is words.LineEnd (codes "\r\n") refl);
  empty_text_before_a_quote = λ l. l (codes "'x'''") [] words.Text (lit< tt) refl (word_is words.Text (codes "'''x'''") refl);
  last_word = longest (codes "x") [] refl;
  if_has_tokens = has_tokens if_lines _ refl;
  if_derives = if_spelled.spelled;
  elif_in_the_else_suite = (_, has_tokens elif_lines _ refl, elif_spelled.spelled);
  call_over_two_lines = (_, has_tokens call_lines _ refl, call_spelled.spelled);
  two_blocks = (_, has_tokens block_lines _ refl, blocks_spelled.spelled);
  levels = (_, has_tokens level_lines _ refl, levels_spelled.spelled);
  brackets = (_, has_tokens bracket_lines _ refl, brackets_spelled.spelled);
  words_between_operands = (_, has_tokens chain_lines _ refl, words_spelled.spelled);
  targets_of_an_assignment = (_, has_tokens two_targets_lines _ refl, two_targets_spelled.spelled);
  targets_in_brackets = (_, has_tokens brackets_lines _ refl, unpacked_twice_spelled.spelled);
  targets_of_a_for = (_, has_tokens for_lines _ refl, for_spelled.spelled);
  one_target_in_brackets = (_, has_tokens one_target_lines _ refl, one_target_spelled.spelled);
  item_augmented = (_, has_tokens augmented_lines _ refl, augmented_spelled.spelled);
  item_deleted = (_, has_tokens deleted_lines _ refl, deleted_spelled.spelled);
  displays_in_each_other = (_, has_tokens display_lines _ refl, displays_spelled.spelled);
  empty_tuple_as_a_target = refl;
  empty_list_as_a_target = refl;
  literal_among_targets = refl;
  empty_list_among_targets = refl;
  call_as_a_target = refl;
  attribute_as_a_target = refl;
  negation_as_a_target = refl;
  literal_as_a_target = refl;
  item_of_a_call_as_a_target = refl;
  empty_brackets_before_an_equal_sign = no_round_target;
  empty_square_brackets_before_an_equal_sign = no_square_target;
  name_after_del = λ a b h. not_deleted max_depth primary_level x a b _ h.0 h.1 h.2;
}
