use Rattle.si_plain.specs.Characters.{characters_of}
use Rattle.si_methods.proofs.Naming.{is_method_name}
use Rattle.si_methods.proofs.method.MethodName.of.Goals as goal

pub returns : goal.returns
returns c = is_method_name (characters_of c.args.word.now) c.spelled_so.result c.spelled_so.ensures
