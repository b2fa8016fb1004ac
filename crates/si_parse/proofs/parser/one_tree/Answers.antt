use Rattle.si_parse.proofs.Modules.{one_module}
use Rattle.si_parse.proofs.parser.one_tree.Goals as goal

pub returns : goal.returns
returns c = one_module
