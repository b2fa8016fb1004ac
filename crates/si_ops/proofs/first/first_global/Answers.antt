use Rattle.si_plain.specs.Characters.{characters_of}
use Rattle.si_ops.proofs.Named.{told_main, is_main, is_none}
use Rattle.si_ops.proofs.first.first_global.Goals as goal

pub returns-then-is_spelled-clause-value : goal.returns-then-is_spelled-clause-value
returns-then-is_spelled-clause-value c = λ m own. is_main own (characters_of c.args.name.now) _ (told_main _ _ _ c.is_spelled.ensures c.if-is_spelled.true) (c.main_name.ensures.value m)

pub returns-else-is_spelled-clause-value : goal.returns-else-is_spelled-clause-value
returns-else-is_spelled-clause-value c = λ m own. is_none own (characters_of c.args.name.now) (told_main _ _ _ c.is_spelled.ensures c.if-is_spelled.false)
