use Rattle.std.proofs.Common.{◌+◌, arith}
use Rattle.si_world.proofs.Serving.{gives_none, gives_more, gives_wider, round_moved, round_ended, serves}
use Rattle.si_world.proofs.world.World.serial.Goals as goal

pub loop-given-init : goal.loop-given-init
loop-given-init c = record { gives = gives_wider 0 c.args.self.now c.args.self.now 0 0 64 (gives_none 0 c.args.self.now (omega arith)) (omega arith); within = omega arith }

pub loop-given-preserved : goal.loop-given-preserved
loop-given-preserved c = record {
  gives = gives_more 0 c.args.self.now c.loop-given.self c.round-more.new.self c.loop-given.given c.round-more.result.0 64 64 c.loop-given.invariant.gives (λ t h. round_moved t c.round-more.result.1 c.loop-given.self c.round-more.new.self c.round-more.result.0 c.if-not-moved.false (c.round-more.ensures.gives t h));
  within = let a = c.round-more.ensures.within in let b = c.loop-given-test.true in omega arith;
}

pub returns-then-not-moved-clause-serves : goal.returns-then-not-moved-clause-serves
returns-then-not-moved-clause-serves c =
    serves c.args.self.now c.round-more.new.self (c.loop-given.given + c.round-more.result.0) 128
    (gives_more 0 c.args.self.now c.loop-given.self c.round-more.new.self c.loop-given.given c.round-more.result.0 64 128 c.loop-given.invariant.gives (λ t h. round_ended t c.round-more.result.1 c.loop-given.self c.round-more.new.self c.round-more.result.0 h (c.round-more.ensures.gives t h)))
