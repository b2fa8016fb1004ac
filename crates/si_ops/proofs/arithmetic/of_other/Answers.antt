use Rattle.std.proofs.Common.{◌≡◌, ◌≢◌, sym, ◌∙◌}
use Rattle.si_plain.specs.declared.operators.UnaryOperator.{UnaryOperator}
use Rattle.si_plain.specs.declared.operators.UnaryOperator.TheVariants as unary
use Rattle.si_arena.specs.Memory.{value_of}
use Rattle.si_ops.proofs.Running.{wrong_tells}
use Rattle.si_ops.proofs.arithmetic.of_other.Goals as goal

no_plus : unary.Plus ≢ unary.Not
no_plus e = cc

no_minus : unary.Minus ≢ unary.Not
no_minus e = cc

no_invert : unary.Invert ≢ unary.Not
no_invert e = cc

other : (o p : UnaryOperator) → o ≡ p → p ≢ unary.Not → o ≢ unary.Not
other o p e h k = h (sym e ∙ k)

pub returns-in-Plus : goal.returns-in-Plus
returns-in-Plus c = wrong_tells c.args.operator (value_of c.args.arena.now c.args.value) c.args.arena.now (other c.args.operator unary.Plus c.in-Plus.is no_plus) c.requires.other

pub returns-in-Minus : goal.returns-in-Minus
returns-in-Minus c = wrong_tells c.args.operator (value_of c.args.arena.now c.args.value) c.args.arena.now (other c.args.operator unary.Minus c.in-Minus.is no_minus) c.requires.other

pub returns-in-Invert : goal.returns-in-Invert
returns-in-Invert c = wrong_tells c.args.operator (value_of c.args.arena.now c.args.value) c.args.arena.now (other c.args.operator unary.Invert c.in-Invert.is no_invert) c.requires.other
