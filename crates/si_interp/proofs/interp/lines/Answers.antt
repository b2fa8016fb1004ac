use Rattle.std.proofs.Common.{arith, refl}
use Rattle.si_interp.proofs.Lines.{gone_none, gone_more, led, led_all}
use Rattle.si_interp.proofs.interp.lines.Goals as goal

pub loop-given-init : goal.loop-given-init
loop-given-init c = record {
  gone = gone_none c.args.id c.args.locals c.args.log.now.items c.args.machine.now c.requires;
  within = omega arith;
  local = refl;
}

pub line-came-requires : goal.line-came-requires
line-came-requires c = c.loop-given.invariant.gone.going.under

pub loop-given-preserved : goal.loop-given-preserved
loop-given-preserved c = let lt = c.loop-given-test.true in record {
  gone = gone_more c.args.id c.args.locals c.loop-given.given c.args.log.now.items c.args.machine.now c.loop-given.machine c.line-came.new.machine c.loop-given.invariant.gone c.in-Local.ensures;
  within = omega arith;
  local = c.in-Local.is;
}

pub returns-in_default-clause-led : goal.returns-in_default-clause-led
returns-in_default-clause-led c =
    led c.args.id c.args.locals c.args.most c.loop-given.given c.args.log.now.items c.args.machine.now c.loop-given.machine c.line-came.new.machine c.line-came.result
    c.loop-given.invariant.gone c.loop-given-test.true c.in_default.not-Local c.line-came.ensures

pub returns-after-loop-given-clause-led : goal.returns-after-loop-given-clause-led
returns-after-loop-given-clause-led c =
    let h = c.loop-given.invariant in
    let over = c.loop-given-test.false in
    led_all c.args.id c.args.locals c.args.most c.loop-given.given c.args.log.now.items c.args.machine.now c.loop-given.machine c.loop-given.came
    h.local (let few = h.within in omega arith) h.gone
