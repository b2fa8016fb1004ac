use Rattle.si_plain.specs.Characters.{characters_of}
use Rattle.si_methods.proofs.Naming.{other_name, this_name}
use Rattle.si_methods.proofs.method.spelled_so.Goals as goal

pub loop-name-preserved : goal.loop-name-preserved
loop-name-preserved c = λ rest. other_name (characters_of c.args.word.now) _ _ _ _ _ c.loop-name-test.true c.loop-name.invariant c.spelling.ensures c.same_word.ensures c.if-same_word.false rest

pub returns-then-same_word : goal.returns-then-same_word
returns-then-same_word c = this_name (characters_of c.args.word.now) _ _ _ c.spelling.ensures c.same_word.ensures c.if-same_word.true
