use Rattle.si_scope.proofs.Declared.{bound_locally, bound_globally}
use Rattle.si_scope.proofs.seen.Seen.bind.Goals as goal

pub returns-in_ok-slot_of-2 : goal.returns-in_ok-slot_of-2
returns-in_ok-slot_of-2 c = bound_locally c.args.self.now c.args.name.now c.position.result c.slot_of.new.self c.slot_of-then-is_none.new.self c.position.ensures c.if-is_none.ensures c.in_ok-slot_of.ensures.names c.in_ok-slot_of-2.ensures.names

pub returns-else-is_none : goal.returns-else-is_none
returns-else-is_none c = bound_globally c.args.self.now c.args.name.now c.position.result c.slot_of.new.self c.position.ensures c.if-is_none.ensures c.in_ok-slot_of.ensures.names
