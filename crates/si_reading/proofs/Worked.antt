-- The worked cases hold: the tree of a text computes.
use Rattle.std.proofs.Common.{refl}
use Rattle.std.specs.Str.{chars}
use Rattle.si_semantics.specs.Words.{symbols, keywords}
use Rattle.si_parse.specs.inner.Lists.{separated_by, chain_by, many_by}
use Rattle.si_parse.specs.inner.Expressions.{continued_by, expression_at}
use Rattle.si_parse.specs.inner.Lines.{block_at}
use Rattle.si_reading.specs.Texts.{tree_of_text}
use Rattle.si_reading.specs.inner.Trees.{words_by, tree_in}
use Rattle.si_reading.specs.Worked.{TreeCases}

pub worked_trees : TreeCases
unfolding symbols keywords separated_by chain_by many_by continued_by expression_at block_at words_by tree_in tree_of_text lib.Utf8.encode chars
worked_trees = record { empty = refl; an_if = refl; character = refl; a_method = refl; in_brackets = refl; an_attribute = refl; a_list = refl; a_dict = refl; targets = refl; item_added_to = refl; item_deleted = refl; no_targets = refl; row_added_to = refl; name_deleted = refl; threading = refl; interpreters = refl; no_module = refl; no_word = refl; no_layout = refl; no_tree = refl; not_scoped = refl }
