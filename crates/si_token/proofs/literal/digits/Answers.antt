use Rattle.std.proofs.Common.{◌≡◌, ◌<◌, ◌+◌, ◌*◌, ◌-◌, sym, ap, ◌∙◌, arith}
use Rattle.si_semantics.specs.Literals.{digits_within}
use Rattle.si_token.specs.inner.Literals.{characters, up_to}
use Rattle.si_token.proofs.Literals.{after, too_few, enough, with_one, passed}
use Rattle.si_token.proofs.literal.digits.Goals as goal

pub returns-then-count-least-clause-gives : goal.returns-then-count-least-clause-gives
returns-then-count-least-clause-gives c =
    sym (too_few c.args.base c.args.least c.args.most c.args.limit c.loop-count.count c.loop-count.number (characters c.loop-count.rest.now) c.loop-count-test.true c.in_default.ensures.gives c.if-count-least.true)
    ∙ c.loop-count.invariant.reads

pub returns-else-count-least-clause-gives : goal.returns-else-count-least-clause-gives
returns-else-count-least-clause-gives c =
    sym
    (enough c.args.base c.args.least c.args.most c.args.limit c.loop-count.count c.loop-count.number (characters c.loop-count.rest.now) c.loop-count-test.true c.in_default.ensures.gives c.if-count-least.false
    c.loop-count.invariant.small)
    ∙ c.loop-count.invariant.reads

pub returns-in_err-number-clause-gives : goal.returns-in_err-number-clause-gives
returns-in_err-number-clause-gives c =
    let large : c.args.limit < c.loop-count.number * c.args.base + c.in-Some.digit = omega (arith, c.in_err-number.ensures) in
    c.from_residual.ensures
    ∙ sym
    (passed c.args.base c.args.least c.args.most c.args.limit c.loop-count.count c.loop-count.number (characters c.loop-count.rest.now) c.loop-count-test.true c.in-Some.digit (characters c.in-Some.after.now)
    c.in-Some.ensures.gives c.requires.some large)
    ∙ c.loop-count.invariant.reads

pub loop-count-preserved : goal.loop-count-preserved
loop-count-preserved c =
    let number : c.in_ok-number.number ≡ c.loop-count.number * c.args.base + c.in-Some.digit = c.in_ok-number.ensures.1 in
    record {
      utf8 = c.in-Some.ensures.utf8;
      small = (let l = c.in_ok-number.ensures.0 in omega (arith, l, number));
      reads = ap (λ n. up_to c.args.limit (after (c.loop-count.count + 1) (digits_within c.args.base (c.args.least - (c.loop-count.count + 1)) (c.args.most - (c.loop-count.count + 1)) n (characters c.in-Some.after.now))))
          number
          ∙ sym
          (with_one c.args.base c.args.least c.args.most c.args.limit c.loop-count.count c.loop-count.number (characters c.loop-count.rest.now) c.loop-count-test.true c.in-Some.digit (characters c.in-Some.after.now)
          c.in-Some.ensures.gives)
          ∙ c.loop-count.invariant.reads;
    }
