use Rattle.si_arena.specs.Memory.{value_of, contents_of}
use Rattle.si_ops.proofs.Gathered.{caught, caught_by}
use Rattle.si_ops.proofs.exceptions.catches.Goals as goal

pub returns-in-Kind : goal.returns-in-Kind
returns-in-Kind c = λ w e.
    caught_by c.args.arena.now (value_of c.args.arena.now c.args.clause) c.in-Kind.top c.args.address (contents_of c.args.arena.now c.object.result) _ w c.in-Kind.ensures.value c.object.ensures.object (c.is_of.ensures c.args.arena.now) e

pub returns-in-Some : goal.returns-in-Some
returns-in-Some c = λ w e.
    caught c.args.arena.now (value_of c.args.arena.now c.args.clause) c.in-Tuple.kinds.now c.args.address (contents_of c.args.arena.now c.object-in-Tuple.result) _ w c.in-Tuple.ensures.value c.object-in-Tuple.ensures.object c.in-Some.ensures e

pub returns-in-None : goal.returns-in-None
returns-in-None c =
    ((λ w e. caught c.args.arena.now (value_of c.args.arena.now c.args.clause) c.in-Tuple.kinds.now c.args.address (contents_of c.args.arena.now c.object-in-Tuple.result) _ w c.in-Tuple.ensures.value c.object-in-Tuple.ensures.object c.in-None.ensures e), tt)
