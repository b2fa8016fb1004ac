use Rattle.si_slots.specs.Views.{operand_of, target_of}
use Rattle.si_emit.proofs.UpdateCode.{plain_instr}
use Rattle.si_emit.proofs.updating.augmented.Goals as goal

pub returns-in_default-clause-is : goal.returns-in_default-clause-is
returns-in_default-clause-is c = λ w. plain_instr c.args.operator (target_of c.args.target) (operand_of w c.args.a) (operand_of w c.args.b) c.in_default.not-Add
