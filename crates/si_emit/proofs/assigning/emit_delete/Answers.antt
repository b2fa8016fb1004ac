use Rattle.std.proofs.lemmas.Result.{on_ok_weaker}
use Rattle.si_slots.specs.Machine as machine
use Rattle.si_emit.proofs.assigning.emit_delete.Goals as goal

pub returns-clause-ok : goal.returns-clause-ok
returns-clause-ok c = on_ok_weaker c.put_named.result (λ h. c.in_ok-object.ensures.ok (λ s t. machine.DeleteItem s t) c.put_named.new.self h) c.put_named.ensures.ok
