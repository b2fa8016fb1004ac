use Rattle.std.proofs.Common.{sym, ◌∙◌, arith}
use Rattle.std.proofs.lemmas.Bool.Decides.{nat_tests}
use Rattle.si_semantics.specs.Words.{keywords}
use Rattle.si_token.proofs.Spellings.{spelled_of_length, keywords_none}
use Rattle.si_token.proofs.keywords.keyword.Goals as goal

pub returns-in-2 : goal.returns-in-2
unfolding keywords
returns-in-2 c = c.among.ensures ∙ sym (spelled_of_length keywords c.args.word.now 2 c.in-2.is)

pub returns-in-3 : goal.returns-in-3
unfolding keywords
returns-in-3 c = c.among-in-3.ensures ∙ sym (spelled_of_length keywords c.args.word.now 3 c.in-3.is)

pub returns-in-4 : goal.returns-in-4
unfolding keywords
returns-in-4 c = c.among-in-4.ensures ∙ sym (spelled_of_length keywords c.args.word.now 4 c.in-4.is)

pub returns-in-5 : goal.returns-in-5
unfolding keywords
returns-in-5 c = c.among-in-5.ensures ∙ sym (spelled_of_length keywords c.args.word.now 5 c.in-5.is)

pub returns-in-6 : goal.returns-in-6
unfolding keywords
returns-in-6 c = c.among-in-6.ensures ∙ sym (spelled_of_length keywords c.args.word.now 6 c.in-6.is)

pub returns-in-7 : goal.returns-in-7
unfolding keywords
returns-in-7 c = c.among-in-7.ensures ∙ sym (spelled_of_length keywords c.args.word.now 7 c.in-7.is)

pub returns-in-8 : goal.returns-in-8
unfolding keywords
returns-in-8 c = c.among-in-8.ensures ∙ sym (spelled_of_length keywords c.args.word.now 8 c.in-8.is)

pub returns-in_default : goal.returns-in_default
returns-in_default c = keywords_none c.args.word.now (grind (arith, nat_tests))
